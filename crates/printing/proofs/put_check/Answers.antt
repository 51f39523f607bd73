-- The letters put are those of the check, behind the hyphen.
use mathlib.Core.Path.{ap}
use mathlib.Core.List.{List, ◌∷◌}
use Prim.Native.Nat.{ℕ}
use Rattle.checks.specs.declared.Check.{Check}
use Rattle.printing.specs.line_fields.Text.{HYPHEN, check_text}
use Rattle.block.proofs.Pages.{spelled}
use Rattle.printing.proofs.put_check.Goals as goal

abbrev said : Check → List ℕ
said check = HYPHEN ∷ check_text check

pub returns-in-OP : goal.returns-in-OP
unfolding check_text
returns-in-OP c = spelled _ _ _ _ _ (ap said c.in-OP.is) c.put.ensures tt

pub returns-in-OM : goal.returns-in-OM
unfolding check_text
returns-in-OM c = spelled _ _ _ _ _ (ap said c.in-OM.is) c.put-in-OM.ensures tt

pub returns-in-SL : goal.returns-in-SL
unfolding check_text
returns-in-SL c = spelled _ _ _ _ _ (ap said c.in-SL.is) c.put-in-SL.ensures tt

pub returns-in-PR : goal.returns-in-PR
unfolding check_text
returns-in-PR c = spelled _ _ _ _ _ (ap said c.in-PR.is) c.put-in-PR.ensures tt

pub returns-in-RK : goal.returns-in-RK
unfolding check_text
returns-in-RK c = spelled _ _ _ _ _ (ap said c.in-RK.is) c.put-in-RK.ensures tt
