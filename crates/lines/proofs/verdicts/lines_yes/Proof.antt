-- Five answers joined: a combination says Y exactly if OP, OM, SL, PR and RK do, each where it has a line.
use Rattle.lines.proofs.verdicts.Marking.{lines_decided}
use borrow.Author.Rules.{rules}
use Rattle.lines.proofs.verdicts.lines_yes.Statement.{statement}
use Rattle.lines.proofs.verdicts.lines_yes.Tie as tie

line-yes-requires : tie.Need-line_yes-op_yes-requires
line-yes-requires c κs = search rules

line-yes-requires-2 : tie.Need-line_yes-om_yes-requires
line-yes-requires-2 c κs = search rules

line-yes-requires-3 : tie.Need-line_yes-sl_yes-requires
line-yes-requires-3 c κs = search rules

line-yes-requires-4 : tie.Need-line_yes-pr_yes-requires
line-yes-requires-4 c κs = search rules

line-yes-requires-5 : tie.Need-line_yes-rk_yes-requires
line-yes-requires-5 c κs = search rules

returns : tie.Need-returns
returns c = lines_decided _ c.line_yes-op_yes.result c.line_yes-om_yes.result c.line_yes-sl_yes.result c.line_yes-pr_yes.result c.line_yes-rk_yes.result c.line_yes-op_yes.ensures c.line_yes-om_yes.ensures c.line_yes-sl_yes.ensures c.line_yes-pr_yes.ensures c.line_yes-rk_yes.ensures

pub lines_yes_spec : {M : Type 1} → statement M
lines_yes_spec = tie.close (tie.spec line-yes-requires line-yes-requires-2 line-yes-requires-3 line-yes-requires-4 line-yes-requires-5 returns)
