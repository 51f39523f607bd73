-- A job's lines fit their block: a set of at most 16 load rows has a number below 65,536.
use Prim.Native.Nat.{ℕ, ◌≤◌}
use mathlib.Core.Path.{sym, subst}
use Rattle.jobs.specs.declared.Job.{Job}
use Rattle.earth.specs.coefficients.Coefficients.{Coefficient}
use Rattle.sets.specs.declared.Combination.TheVariants.{I, II, III, IV}
use Rattle.worst.proofs.Sets.{sets_fit}
use Rattle.loads.proofs.Loaded.{loads_few}
use Rattle.lines.specs.declared.Answer.{Answer}
use Rattle.lines.specs.Lines.{no_lines}
use Rattle.lines.specs.Numbered.{SetFits, SetsFit, Numbered}
use Rattle.answer.specs.Answer.{AnswerIs, refused, answered}

none_fit : SetsFit no_lines
unfolding SetFits
none_fit = record { op = tt; om = tt; sl = tt; pr = tt; rk = tt }

pub numbered : {fill : ℕ → ℕ → Coefficient} {job : Job} {a : Answer} → AnswerIs fill job a → Numbered a
numbered (refused {n} p e) = subst Numbered (sym e) (record { one = none_fit; two = none_fit; three = none_fit; four = none_fit })
numbered {a = a} (answered p) =
    let few : p.loads.count ≤ 16 = loads_few _ _ p.loads p.are in
    record {
      one = sets_fit I _ p.loads few a.one p.one;
      two = sets_fit II _ p.loads few a.two p.two;
      three = sets_fit III _ p.loads few a.three p.three;
      four = sets_fit IV _ p.loads few a.four p.four;
    }
