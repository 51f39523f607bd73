-- Only a stretch of two bytes or more with a quote at each end stands between quotes; any other is its own answer.
use Rattle.fields.proofs.content.Contents.{bare_between, bare_open, bare_short}
use borrow.Author.Rules.{rules}
use Rattle.fields.proofs.content.bare.Statement.{statement}
use Rattle.fields.proofs.content.bare.Tie as tie

sub-e : tie.Need-overflow_sub-e
sub-e c = search rules

shared-slice-read-if2 : tie.Need-bounds-raw-0
shared-slice-read-if2 c = search rules

shared-slice-read-if2-2 : tie.Need-bounds-raw-e
shared-slice-read-if2-2 c = search rules

sub-result : tie.Need-slice_bounds-result-count
sub-result c = search rules

part-result-start : tie.Need-slice_bounds-result-start
part-result-start c = search rules

part-result-end : tie.Need-slice_bounds-result-end
part-result-end c = search rules

returns : tie.Need-returns-then-raw-e
returns c = bare_between c.args.raw.now c.if-n-ge2.true c.if-raw-e.true

returns-2 : tie.Need-returns-else-raw-e
returns-2 c = bare_open c.args.raw.now c.if-raw-e.false

returns-3 : tie.Need-returns-else-n-ge2
returns-3 c = bare_short _ c.if-n-ge2.false

pub bare_spec : {M : Type 1} → statement M
bare_spec = tie.close (tie.spec sub-e shared-slice-read-if2 shared-slice-read-if2-2 sub-result part-result-start part-result-end returns returns-2 returns-3)
