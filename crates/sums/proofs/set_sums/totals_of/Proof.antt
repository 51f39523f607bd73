-- N, the sum of H and M are whole numbers, and each is the difference of its two natural sums; the balances are natural sums as they are.
use Rattle.std.proofs.Common.{◌≡◌, pos, ◌-ℤ◌, sym, ap, ◌∙◌, rules}
use Rattle.arithmetic.specs.signed.Whole.{amount}
use Rattle.sums.specs.declared.Totals.{Totals}
use Rattle.sums.specs.TotalsOf.{totals_from}
use Rattle.sums.proofs.Adding.{n_is, h_is, m_is, plus_is, minus_is}
use Rattle.sums.proofs.set_sums.totals_of.Statement.{statement}
use Rattle.sums.proofs.set_sums.totals_of.Tie as tie

same_totals : {a b : Totals} → a.n ≡ b.n → a.h ≡ b.h → a.m ≡ b.m → a.plus ≡ b.plus → a.minus ≡ b.minus → a ≡ b
same_totals p q r s t = λ i. record { n = p i; h = q i; m = r i; plus = s i; minus = t i }

sums-of-requires : tie.Need-sums_of-sums-requires
sums-of-requires c κs = search rules

difference-requires : tie.Need-difference-n-requires
difference-requires c κs = search rules

difference-requires-2 : tie.Need-difference-h-requires
difference-requires-2 c κs = search rules

difference-requires-3 : tie.Need-difference-m-requires
difference-requires-3 c κs = search rules

returns : tie.Need-returns
unfolding totals_from
returns c =
    let e = c.args in
    let sums = c.sums_of-sums.ensures in
    same_totals
    (c.difference-n.ensures ∙ ap amount ((λ i. pos (sums i).v.above -ℤ pos (sums i).v.below) ∙ sym (n_is e.width e.loads e.set)))
    (c.difference-h.ensures ∙ ap amount ((λ i. pos (sums i).h.above -ℤ pos (sums i).h.below) ∙ sym (h_is e.width e.loads e.set)))
    (c.difference-m.ensures ∙ ap amount ((λ i. pos (sums i).m.above -ℤ pos (sums i).m.below) ∙ sym (m_is e.width e.loads e.set)))
    ((λ i. (sums i).plus) ∙ plus_is e.width e.loads e.set)
    ((λ i. (sums i).minus) ∙ minus_is e.width e.loads e.set)

pub totals_of_spec : {M : Type 1} → statement M
totals_of_spec = tie.close (tie.spec sums-of-requires difference-requires difference-requires-2 difference-requires-3 returns)
