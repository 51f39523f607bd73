-- What `put_line`, `put_lines` and `put_later` put at most, in bytes. VERDICT, which is not counted here, takes 43.
use Rattle.std.specs.Prelude.{ℕ, ◌+◌, length}
use Rattle.lines.specs.declared.Line.{Line}
use Rattle.lines.specs.declared.Line.TheVariants.{Missing, Shown}
use Rattle.block.specs.Decimal.{decimal}
use Rattle.lines.specs.declared.Lines.{Lines}
use Rattle.lines.specs.declared.Answer.{Answer}

-- the line of a check: 20 digits each for its value and its limit, those of its set, and 41 for the rest: 26 of the key, 6 of its name, 5 commas, Y or N,
-- E or R, and CRLF
unfoldable pub line_room : Line → ℕ
line_room Missing = 0
line_room (Shown figure limit set passes exact) = 81 + length (decimal set)

-- of a combination
unfoldable pub lines_room : Lines → ℕ
lines_room lines = line_room lines.op + (line_room lines.om + (line_room lines.sl + (line_room lines.pr + line_room lines.rk)))

-- of all lines behind VERDICT, with SC and CL, 78 each
unfoldable pub answer_room : Answer → ℕ
answer_room answer = lines_room answer.one + (lines_room answer.two + (lines_room answer.three + (lines_room answer.four + 156)))
