-- Each arm stands on one side of ten, and a law says what the digit is there.
use mathlib.Core.Path.{sym}
use Rattle.std.proofs.Common.{arith}
use Rattle.hex_text.proofs.Digits.{digit_number, digit_letter}
use Rattle.hex_text.proofs.digit_of.Goals as goal

pub returns-in-0-to-9 : goal.returns-in-0-to-9
returns-in-0-to-9 c = sym (digit_number _ (omega arith))

pub returns-in_default : goal.returns-in_default
returns-in_default c = sym (digit_letter _ (omega arith))
