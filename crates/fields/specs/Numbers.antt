-- Document 01, the job book: "A number: optional minus, 1 to 9 digits, no leading zero save 0 itself, no "-0"."
use Rattle.std.specs.Prelude.{ℕ, ◌≤◌, ◌≡◌, true, false, List, [], ◌∷◌}
use Rattle.fields.specs.digits.Numerals.{Digited}
use Rattle.fields.specs.declared.Entry.{Entry}

-- a field left empty, a number from 0 up, and a number below 0
abbrev pub absent : Entry
absent = record { filled = false; minus = false; size = 0 }

abbrev pub positive : ℕ → Entry
positive n = record { filled = true; minus = false; size = n }

abbrev pub negative : ℕ → Entry
negative n = record { filled = true; minus = true; size = n }

-- the content is a number, and this is it
pub data IsNumber (c : List ℕ) (e : Entry) : Type 0 where
  is_positive : {n : ℕ} → Digited c n → e ≡ positive n → IsNumber c e
  is_negative : {s : List ℕ} {n : ℕ} → c ≡ 0x2D ∷ s → Digited s n → 1 ≤ n → e ≡ negative n → IsNumber c e

-- the content is empty
abbrev pub IsEmpty : List ℕ → Entry → Type 0
IsEmpty c e = (c ≡ []) × (e ≡ absent)
