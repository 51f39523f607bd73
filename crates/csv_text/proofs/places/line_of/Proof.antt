-- The loop keeps the line breaks of the bytes passed, to which a byte adds one exactly if it is LF. It stops at the place, or at the text's end.
use Prim.Native.Nat.{ℕ, ◌+◌, ◌-◌, ◌≤◌}
use native.Mathlib.Omega.{arith}
use mathlib.Core.Path.{◌≡◌, sym, ap, subst, ◌∙◌}
use mathlib.Core.List.{List}
use lib.ListN.{length, take}
use lib.Seq.{take_all}
use borrow.Author.Rules.{rules}
use borrow.Author.Tests.{ltb-true, ltb-false}
use Rattle.csv_text.specs.places.Places.{breaks}
use Rattle.csv_text.proofs.places.Breaks.{Counted, counted_none, counted_break, counted_other}
use Rattle.csv_text.proofs.places.line_of.Statement.{statement}
use Rattle.csv_text.proofs.places.line_of.Tie as tie
use Rattle.csv_text.proofs.places.line_of.Lts.{then-s-i-eq10, else-s-i-eq10}

abbrev invariant-loop : tie.invariant-loop-i
invariant-loop s at line₀ i₀ line i = (i ≤ at) × Counted s line i

abbrev decreases-loop : tie.decreases-loop-i
decreases-loop s at line₀ i₀ line i = length s - i

loop-holds : tie.Need-loop-i-init invariant-loop decreases-loop
loop-holds c = (search rules, counted_none _ (omega arith))

shared-slice-read-if2 : tie.Need-bounds-s-i invariant-loop decreases-loop
shared-slice-read-if2 c = search rules

add-line : tie.Need-overflow_add-line invariant-loop decreases-loop
add-line c = search rules

add-i : tie.Need-overflow_add-i invariant-loop decreases-loop
add-i c = search rules

loop-less : tie.Need-loop-i-smaller invariant-loop decreases-loop
loop-less c = search rules

loop-again : tie.Need-loop-i-preserved invariant-loop decreases-loop
loop-again c =
    let s = c.args.s.now in
    let i = c.loop-i.i in
    let counted = c.loop-i.invariant.1 in
    let more = c.loop-i-test.true in
    let before = c.if-i-at.true in (
      omega (arith, ltb-true),
      elim c.if-s-i-eq10.branch [
        | then-s-i-eq10 w ↦ subst (λ (l : ℕ). Counted s l (i + 1)) (sym w.line-is) (counted_break counted more (omega (arith, w.if-s-i-eq10.true)))
        | else-s-i-eq10 w ↦ subst (λ (l : ℕ). Counted s l (i + 1)) (sym w.line-is) (counted_other counted more (λ e. w.if-s-i-eq10.false (omega (arith, e))))
      ],
    )

returns : tie.Need-returns-else-i-at invariant-loop decreases-loop
returns c =
    let s = c.args.s.now in
    let within = c.loop-i.invariant.0 in
    let past = c.if-i-at.false in
    let e : c.loop-i.i ≡ c.args.at = omega (arith, ltb-false) in
    c.loop-i.invariant.1.is ∙ ap (λ (k : ℕ). breaks (take k s) + 1) e

returns-2 : tie.Need-returns-after-loop-i invariant-loop decreases-loop
returns-2 c =
    let s = c.args.s.now in
    let within = c.loop-i.invariant.0 in
    let past = c.loop-i-test.false in
    let e : take c.loop-i.i s ≡ take c.args.at s = take_all c.loop-i.i s past ∙ sym (take_all c.args.at s (omega arith)) in
    c.loop-i.invariant.1.is ∙ ap (λ (l : List ℕ). breaks l + 1) e

pub line_of_spec : {M : Type 1} → statement M
line_of_spec = tie.close (tie.spec invariant-loop decreases-loop loop-holds shared-slice-read-if2 add-line add-i loop-less loop-again returns returns-2)
