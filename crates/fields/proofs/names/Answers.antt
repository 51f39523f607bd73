-- What `name_of` and `name_at` promise is met by one answer only.
use Prim.Native.Nat.{ℕ}
use mathlib.Core.Path.{◌≡◌, refl, sym, ap, ◌∙◌}
use mathlib.Core.List.{List}
use Rattle.csv_text.proofs.rfc4180.Unique.{content_unique}
use Rattle.fields.specs.names.Names.{name}
use Rattle.fields.specs.names.NameAt.{NameIn, ContentNamed, NameAt}
use Rattle.fields.specs.declared.names.Name.{Name}
use Rattle.std.specs.Prelude.{Option, Some, None}

pub name_one : {raw : List ℕ} {m n : Name} → NameIn raw m → NameIn raw n → m ≡ n
name_one p q = p.named.held ∙ ap name (content_unique p.field q.field) ∙ sym q.named.held

pub name_at_one : (raw : List ℕ) (a b : Option Name) → NameAt raw a → NameAt raw b → a ≡ b
name_at_one raw (Some m) (Some n) p q = ap Some (name_one p q)
name_at_one raw (Some m) None p q = absurd (q m p)
name_at_one raw None (Some n) p q = absurd (p n q)
name_at_one raw None None p q = refl

pub name_of_one : (c : List ℕ) (a b : Option Name) → ContentNamed c a → ContentNamed c b → a ≡ b
name_of_one c (Some m) (Some n) p q = ap Some (p.held ∙ sym q.held)
name_of_one c (Some m) None p q = absurd (q p.is)
name_of_one c None (Some n) p q = absurd (p q.is)
name_of_one c None None p q = refl
