-- A content and a field have one answer each.
use Prim.Native.Nat.{ℕ}
use mathlib.Core.Path.{◌≡◌, refl, sym, ap, ◌∙◌}
use mathlib.Core.List.{List}
use Rattle.csv_text.proofs.rfc4180.Unique.{content_unique}
use Rattle.kinds.specs.letters.Form.{KindIs, KindAt}
use Rattle.std.specs.Prelude.{Option, Some, None}
use Rattle.kinds.specs.declared.Kind.{Kind}
use Rattle.kinds.proofs.letters.Letters.{letters_one}

pub kind_one : (raw : List ℕ) (a b : Option Kind) → KindAt raw a → KindAt raw b → a ≡ b
kind_one raw (Some j) (Some k) p q = ap Some (letters_one j k (content_unique p q))
kind_one raw (Some j) None p q = absurd (q j p)
kind_one raw None (Some k) p q = absurd (p k q)
kind_one raw None None p q = refl

pub kind_of_one : (c : List ℕ) (a b : Option Kind) → KindIs c a → KindIs c b → a ≡ b
kind_of_one c (Some j) (Some k) p q = ap Some (letters_one j k (sym p ∙ q))
kind_of_one c (Some j) None p q = absurd (q j p)
kind_of_one c None (Some k) p q = absurd (p k q)
kind_of_one c None None p q = refl
