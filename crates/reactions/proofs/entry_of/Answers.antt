-- A field holds an amount as it is, and one of at most 32 bits has room in it.
use Prim.Native.Nat.{◌^◌, ◌<◌}
use mathlib.Core.Path.{◌≡◌, refl, ap, ◌∙◌}
use mathlib.Core.Bool.{true}
use mathlib.Core.Logic.{inl}
use native.Mathlib.Omega.{arith}
use borrow.Author.Rules.{rules}
use lib.IntN.{ℤ, pos, negsuc, nat_abs}
use Rattle.arithmetic.specs.signed.Whole.{amount}
use Rattle.arithmetic.specs.declared.signed.Amount.{Amount}
use Rattle.fields.specs.declared.Entry.{Entry}
use Rattle.reactions.specs.row.Text.{entry}
use Rattle.reactions.proofs.entry_of.Goals as goal

abbrev held : Amount → Entry
held a = record { filled = true; minus = a.minus; size = a.size }

held_entry : (z : ℤ) → held (amount z) ≡ entry z
unfolding amount
held_entry (pos n) = refl
held_entry (negsuc n) = refl

amount_size : (z : ℤ) → (amount z).size ≡ nat_abs z
unfolding amount
amount_size (pos n) = refl
amount_size (negsuc n) = refl

pub overflow_cast-result : goal.overflow_cast-result
overflow_cast-result c =
    let t = c.in-Some.ensures in
    let e : c.in-Some.field-0.amount.size ≡ nat_abs t.0 = ap (λ (a : Amount). a.size) t.2 ∙ amount_size t.0 in
    let fits : c.in-Some.field-0.amount.size < 2 ^ 32 = omega (arith, t.3) in
    search rules

pub returns-in-Some : goal.returns-in-Some
returns-in-Some c = let t = c.in-Some.ensures in inl (t.0, t.1.rounded, ap held t.2 ∙ held_entry t.0)
