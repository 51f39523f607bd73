-- No two answers of a call are told alike: what is told says which answer it was.
use Prim.Native.Nat.{ℕ}
use native.Mathlib.Omega.{arith}
use mathlib.Core.Path.{◌≡◌, refl, sym, ap}
use Rattle.arithmetic.proofs.Cases.{impossible}
use Rattle.rows.proofs.refusals.Numbers.{number_low, number_one}
use Rattle.debtarush.specs.CallTold.{written, refused, call_told}
use Rattle.std.specs.Prelude.{Result, Ok, Err}
use Rattle.debtarush.specs.declared.CallRefusal.{CallRefusal}
use Rattle.debtarush.specs.declared.CallRefusal.TheVariants.{BookRefused, FillsRefused, NoPlace, TooShort}

same_length : {m n : ℕ} → written m ≡ written n → m ≡ n
same_length e = cc

same_number : {m n r s : ℕ} → refused m r ≡ refused n s → m ≡ n
same_number e = cc

same_row : {m n r s : ℕ} → refused m r ≡ refused n s → r ≡ s
same_row e = cc

length_or_refusal : {m n r : ℕ} → written m ≡ refused n r → ⊥
length_or_refusal e = impossible cc

pub call_told_one : (a b : Result ℕ CallRefusal) → call_told a ≡ call_told b → a ≡ b
call_told_one (Ok m) (Ok n) e = ap Ok (same_length e)
call_told_one (Ok m) (Err (BookRefused why row)) e = absurd (length_or_refusal e)
call_told_one (Ok m) (Err FillsRefused) e = absurd (length_or_refusal e)
call_told_one (Ok m) (Err NoPlace) e = absurd (length_or_refusal e)
call_told_one (Ok m) (Err TooShort) e = absurd (length_or_refusal e)
call_told_one (Err (BookRefused why row)) (Ok n) e = absurd (length_or_refusal (sym e))
call_told_one (Err (BookRefused why row)) (Err (BookRefused other place)) e = λ i. Err (BookRefused (number_one why other (same_number e) i) (same_row e i))
call_told_one (Err (BookRefused why row)) (Err FillsRefused) e = absurd (omega (arith, number_low why, same_number e))
call_told_one (Err (BookRefused why row)) (Err NoPlace) e = absurd (omega (arith, number_low why, same_number e))
call_told_one (Err (BookRefused why row)) (Err TooShort) e = absurd (omega (arith, number_low why, same_number e))
call_told_one (Err FillsRefused) (Ok n) e = absurd (length_or_refusal (sym e))
call_told_one (Err FillsRefused) (Err (BookRefused why row)) e = absurd (omega (arith, number_low why, same_number e))
call_told_one (Err FillsRefused) (Err FillsRefused) e = refl
call_told_one (Err FillsRefused) (Err NoPlace) e = absurd (omega (arith, same_number e))
call_told_one (Err FillsRefused) (Err TooShort) e = absurd (omega (arith, same_number e))
call_told_one (Err NoPlace) (Ok n) e = absurd (length_or_refusal (sym e))
call_told_one (Err NoPlace) (Err (BookRefused why row)) e = absurd (omega (arith, number_low why, same_number e))
call_told_one (Err NoPlace) (Err FillsRefused) e = absurd (omega (arith, same_number e))
call_told_one (Err NoPlace) (Err NoPlace) e = refl
call_told_one (Err NoPlace) (Err TooShort) e = absurd (omega (arith, same_number e))
call_told_one (Err TooShort) (Ok n) e = absurd (length_or_refusal (sym e))
call_told_one (Err TooShort) (Err (BookRefused why row)) e = absurd (omega (arith, number_low why, same_number e))
call_told_one (Err TooShort) (Err FillsRefused) e = absurd (omega (arith, same_number e))
call_told_one (Err TooShort) (Err NoPlace) e = absurd (omega (arith, same_number e))
call_told_one (Err TooShort) (Err TooShort) e = refl
