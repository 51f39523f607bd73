-- Each arm is one stretch of bytes, and a law says what a byte of it is worth.
use mathlib.Core.Path.{sym}
use Rattle.std.proofs.Common.{arith}
use Rattle.hex_text.proofs.Digits.{worth_number, worth_letter, worth_below, worth_between, worth_above}
use Rattle.hex_text.proofs.worth.Goals as goal

pub returns-in-48-to-57-clause-value : goal.returns-in-48-to-57-clause-value
returns-in-48-to-57-clause-value c = sym (worth_number _ (omega arith) (omega arith))

pub returns-in-97-to-102-clause-value : goal.returns-in-97-to-102-clause-value
returns-in-97-to-102-clause-value c = sym (worth_letter _ (omega arith) (omega arith))

pub returns-in_default-clause-value : goal.returns-in_default-clause-value
returns-in_default-clause-value c = sym (worth_below _ (omega arith))

pub returns-in_default-2-clause-value : goal.returns-in_default-2-clause-value
returns-in_default-2-clause-value c = sym (worth_between _ (omega arith) (omega arith))

pub returns-in_default-3-clause-value : goal.returns-in_default-3-clause-value
returns-in_default-3-clause-value c = sym (worth_above _ (omega arith))
