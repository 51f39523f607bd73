-- A job's lines fit: 20 lines of at most 86 bytes, SC and CL in 156 and VERDICT in 43 make 1,919.
use Prim.Native.Nat.{◌+◌, ◌≤◌}
use native.Mathlib.Omega.{arith}
use Rattle.lines.specs.declared.Line.{Line}
use Rattle.lines.specs.declared.Line.TheVariants.{Missing, Shown}
use Rattle.lines.specs.declared.Lines.{Lines}
use Rattle.lines.specs.declared.Answer.{Answer}
use Rattle.lines.specs.Numbered.{SetFits, SetsFit, Numbered}
use Rattle.printing.specs.steps.Room.{line_room, lines_room, answer_room}
use Rattle.block.proofs.Numbers.{decimal_length}

line_fits : (l : Line) → SetFits l → line_room l ≤ 86
unfolding line_room SetFits
line_fits Missing h = omega arith
line_fits (Shown figure limit set passes exact) h = omega (arith, decimal_length 4 set (omega arith))

lines_fit : (l : Lines) → SetsFit l → lines_room l ≤ 430
unfolding lines_room
lines_fit l h = omega (arith, line_fits _ h.op, line_fits _ h.om, line_fits _ h.sl, line_fits _ h.pr, line_fits _ h.rk)

pub room_fits : (answer : Answer) → Numbered answer → 43 + answer_room answer ≤ 2048
unfolding answer_room
room_fits answer h = omega (arith, lines_fit _ h.one, lines_fit _ h.two, lines_fit _ h.three, lines_fit _ h.four)
