-- What `number_at` and `empty_at` promise is met by one answer only.
use Prim.Native.Nat.{ℕ}
use mathlib.Core.Path.{◌≡◌, refl, sym, ap, subst, ◌∙◌}
use mathlib.Core.List.{List}
use Rattle.csv_text.proofs.rfc4180.Unique.{content_unique}
use Rattle.fields.specs.Numbers.{IsNumber, IsEmpty}
use Rattle.fields.specs.Entries.{EntryIn, EntryAt}
use Rattle.fields.specs.declared.Entry.{Entry}
use Rattle.std.specs.Prelude.{Option, Some, None}
use Rattle.fields.proofs.Numerals.{number_unique}

-- a form that gives a content one entry gives a stretch one answer
module _ (F : List ℕ → Entry → Type 0) (one : (c : List ℕ) (a b : Entry) → F c a → F c b → a ≡ b) where
  pub entry_one : {raw : List ℕ} {a b : Entry} → EntryIn F raw a → EntryIn F raw b → a ≡ b
  entry_one {a = a} {b} p q = one q.content a b (subst (λ (c : List ℕ). F c a) (content_unique p.field q.field) p.is) q.is

  pub entry_at_one : (raw : List ℕ) (a b : Option Entry) → EntryAt F raw a → EntryAt F raw b → a ≡ b
  entry_at_one raw (Some a) (Some b) p q = ap Some (entry_one p q)
  entry_at_one raw (Some a) None p q = absurd (q a p)
  entry_at_one raw None (Some b) p q = absurd (p b q)
  entry_at_one raw None None p q = refl

pub number_at_one : (raw : List ℕ) (a b : Option Entry) → EntryAt IsNumber raw a → EntryAt IsNumber raw b → a ≡ b
number_at_one = entry_at_one IsNumber (λ c a b p q. number_unique p q)

pub empty_at_one : (raw : List ℕ) (a b : Option Entry) → EntryAt IsEmpty raw a → EntryAt IsEmpty raw b → a ≡ b
empty_at_one = entry_at_one IsEmpty (λ c a b p q. p.1 ∙ sym q.1)
