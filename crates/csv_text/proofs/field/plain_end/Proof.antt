-- The bytes passed are all TEXTDATA. The loop stops at the first that is not, or at the text's end, so no longer stretch is plain.
use Prim.Native.Nat.{◌≤◌, ◌-◌}
use mathlib.Core.Path.{sym, subst}
use Rattle.csv_text.proofs.field.Scan.{plain_more}
use borrow.Author.Rules.{rules}
use lib.ListN.{length}
use Rattle.csv_text.specs.rfc4180.Rfc4180.{Plain, none, Textdata}
use Rattle.csv_text.specs.Part.{part}
use Rattle.arithmetic.proofs.Deciding.{decided, refuted}
use Rattle.csv_text.proofs.rfc4180.Parts.{part_none, first_byte_is, past_first_byte}
use Rattle.csv_text.proofs.field.plain_end.Statement.{statement}
use Rattle.csv_text.proofs.field.plain_end.Tie as tie

abbrev invariant-loop : tie.invariant-loop-i
invariant-loop s at i₀ i = (at ≤ i) × (i ≤ length s) × Plain (part at i s)

abbrev decreases-loop : tie.decreases-loop-i
decreases-loop s at i₀ i = length s - i

loop-holds : tie.Need-loop-i-init invariant-loop decreases-loop
loop-holds c = (search rules, search rules, rw part_none none)

shared-slice-read-is-text : tie.Need-bounds-s-i invariant-loop decreases-loop
shared-slice-read-is-text c = search rules

is-text-requires : tie.Need-is_text-requires invariant-loop decreases-loop
is-text-requires c κs = search rules

add-i : tie.Need-overflow_add-i invariant-loop decreases-loop
add-i c = search rules

loop-less : tie.Need-loop-i-smaller invariant-loop decreases-loop
loop-less c = search rules

loop-again : tie.Need-loop-i-preserved invariant-loop decreases-loop
loop-again c =
    let s = c.args.s.now in
    let inv = c.loop-i.invariant in
    (search rules, search rules, plain_more s _ _ inv.0 c.loop-i-test.true (decided c.is_text.result c.if-is_text.true c.is_text.ensures) inv.2)

returns : tie.Need-returns-else-is_text invariant-loop decreases-loop
returns c =
    let s = c.args.s.now in
    let i = c.loop-i.i in
    let inv = c.loop-i.invariant in
    record {
      from = inv.0;
      within = inv.1;
      all = inv.2;
      halts = λ b t g. refuted c.is_text.result c.if-is_text.false c.is_text.ensures (subst Textdata (sym (first_byte_is s i b g.behind g.begins)) t);
    }

returns-2 : tie.Need-returns-after-loop-i invariant-loop decreases-loop
returns-2 c =
    let inv = c.loop-i.invariant in
    record {
      from = inv.0;
      within = inv.1;
      all = inv.2;
      halts = λ b t g. past_first_byte c.args.s.now c.loop-i.i b g.behind c.loop-i-test.false g.begins;
    }

pub plain_end_spec : {M : Type 1} → statement M
plain_end_spec = tie.close (tie.spec invariant-loop decreases-loop loop-holds shared-slice-read-is-text is-text-requires add-i loop-less loop-again returns returns-2)
