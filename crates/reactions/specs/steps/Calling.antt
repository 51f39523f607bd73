-- What `asked_kind`, `entry_of` and `numbers_of` answer.
use Rattle.std.specs.Prelude.{ℕ, ◌^◌, ◌≤◌, ◌≡◌, ◌⊎◌, List, ℤ, nat_abs, Float, Result, Ok, Err}
use Rattle.doubles.specs.Doubles.{Nearest}
use Rattle.fields.specs.Numbers.{absent}
use Rattle.fields.specs.declared.Entry.{Entry}
use Rattle.kinds.specs.ranges.Range.{Ranged}
use Rattle.kinds.specs.declared.Kind.{Kind}
use Rattle.std.specs.Prelude.{Option, Some, None}
use Rattle.rows.specs.declared.keys.Key.{Key}
use Rattle.reactions.specs.declared.xdr.Reaction.{Reaction}
use Rattle.kinds.specs.declared.Numbers.{Numbers}
use Rattle.reactions.specs.declared.RowRefusal.{RowRefusal}
use Rattle.reactions.specs.declared.RowRefusal.TheVariants.{NoRow, NoRecord, NotFinite, OutOfRange, TooShort}
use Rattle.reactions.specs.xdr.Record.{IsRecord}
use Rattle.reactions.specs.Force.{AllFinite}
use Rattle.reactions.specs.row.Text.{Rounded, entry, row_numbers}
use Rattle.reactions.specs.Asked.{Asked}
use Rattle.reactions.specs.Reacts.{Rounds}

-- the kind that is asked for, with some key; or that nothing is that a load row can have
abbrev pub AskedIs : List ℕ → List ℕ → List ℕ → ℕ → Option Kind → Type 0
AskedIs member job kind phase (Some of) = (key : Key) × Asked member job kind phase key of
AskedIs member job kind phase None = (key : Key) (of : Kind) → Asked member job kind phase key of → ⊥

-- the nearest whole number as a field holds it; or nothing, and every nearest whole number is beyond every range
abbrev pub EntryIs : Float → Entry → Type 0
EntryIs x e = ((z : ℤ) × Nearest x z × (e ≡ entry z)) ⊎ ((e ≡ absent) × ((z : ℤ) → Nearest x z → 2 ^ 32 ≤ nat_abs z))

-- the numbers of a row in its ranges, or the first of 21, 22 and 23 that holds
abbrev pub NumbersIs : List ℕ → Kind → ℕ → Result Numbers RowRefusal → Type 0
NumbersIs sent kind phase (Ok n) =
    (r : Reaction) × (q : Rounded) × IsRecord sent r × AllFinite r × Rounds r q × Ranged kind (row_numbers q phase) × (n ≡ row_numbers q phase)
NumbersIs sent kind phase (Err NoRow) = ⊥
NumbersIs sent kind phase (Err NoRecord) = (r : Reaction) → IsRecord sent r → ⊥
NumbersIs sent kind phase (Err NotFinite) = (r : Reaction) × IsRecord sent r × (AllFinite r → ⊥)
NumbersIs sent kind phase (Err OutOfRange) =
    (r : Reaction) × (q : Rounded) × IsRecord sent r × AllFinite r × Rounds r q × (Ranged kind (row_numbers q phase) → ⊥)
NumbersIs sent kind phase (Err TooShort) = ⊥
