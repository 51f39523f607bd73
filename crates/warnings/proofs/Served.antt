-- No line of OP stands in a combination exactly if the combination has no set, since I, II and III have a limit for OP; so `unserved` tells of a job that is not
-- refused exactly that none of its service combinations has a set.
use mathlib.Core.Path.{◌≡◌, refl, subst, subst⁻¹}
use mathlib.Core.Bool.{Bool}
use Prim.Native.Nat.{ℕ}
use Rattle.arithmetic.specs.decides.Decides.{Decides}
use Rattle.arithmetic.proofs.Cases.{impossible}
use Rattle.arithmetic.proofs.Deciding.{decides_same}
use Rattle.sets.specs.declared.Combination.{Combination}
use Rattle.sets.specs.declared.Combination.TheVariants.{I, II, III}
use Rattle.sets.specs.declared.Loads.{Loads}
use Rattle.checks.specs.declared.Base.{Base}
use Rattle.checks.specs.declared.Check.TheVariants.{OP}
use Rattle.checks.specs.limits.Limits.{Limit, TippingLimit}
use Rattle.lines.specs.declared.Line.{Line}
use Rattle.lines.specs.declared.Line.TheVariants.{Missing, Shown}
use Rattle.lines.specs.declared.Answer.{Answer}
use Rattle.worst.specs.Lines.{LineSays, line}
use Rattle.jobs.specs.declared.Job.{Job}
use Rattle.earth.specs.coefficients.Coefficients.{Coefficient}
use Rattle.loads.specs.LoadRows.{AreLoads}
use Rattle.loads.proofs.Loaded.{loads_one}
use Rattle.answer.specs.Columns.{base_of}
use Rattle.answer.specs.Rules.{load_rows_of, Unrefused}
use Rattle.answer.specs.Answer.{LinesGiven, AnswerIs, refused, answered}
use Rattle.warnings.specs.Warnings.{Unserved}
use Rattle.warnings.specs.Served.{NoSet, NoServiceSet}

-- ---- a combination with a limit for OP
module _ (combination : Combination) (base : Base) (loads : Loads) (limit : ℕ) (has : TippingLimit combination limit) where
  -- a line that is missing says that there is no set, and one that stands names a set
  no_set : (op : Line) → LineSays combination OP base loads op → op ≡ Missing → NoSet combination loads
  unfolding LineSays Limit
  no_set Missing says e = says limit has
  no_set (Shown figure limit set passes exact) says e = impossible cc

  no_line : (op : Line) → LineSays combination OP base loads op → NoSet combination loads → op ≡ Missing
  unfolding LineSays
  no_line Missing says none = refl
  no_line (Shown figure limit set passes exact) says none = absurd (none set says.named.permitted)

-- ---- the lines of a job that is not refused
module _ (fill : ℕ → ℕ → Coefficient) (job : Job) (a : Answer) (given : LinesGiven fill job a) where
  abbrev base : Base
  base = base_of job.base

  unserved_none : Unserved a → NoServiceSet given.loads
  unfolding TippingLimit line
  unserved_none u =
      record {
        one = no_set I base given.loads 200 refl a.one.op (given.one OP) u.one;
        two = no_set II base given.loads 150 refl a.two.op (given.two OP) u.two;
        three = no_set III base given.loads 150 refl a.three.op (given.three OP) u.three;
      }

  none_unserved : NoServiceSet given.loads → Unserved a
  unfolding TippingLimit line
  none_unserved n =
      record {
        one = no_line I base given.loads 200 refl a.one.op (given.one OP) n.one;
        two = no_line II base given.loads 150 refl a.two.op (given.two OP) n.two;
        three = no_line III base given.loads 150 refl a.three.op (given.three OP) n.three;
      }

-- ---- unserved exactly if no set of the job's loads is permitted in I, in II or in III
module _ (fill : ℕ → ℕ → Coefficient) (job : Job) (a : Answer) (is : AnswerIs fill job a) (unrefused : Unrefused fill job) (loads : Loads) (are : AreLoads fill (load_rows_of job) loads) where
  lines_given : AnswerIs fill job a → LinesGiven fill job a
  lines_given (refused {n} p e) = absurd (unrefused n p.holds)
  lines_given (answered g) = g

  loads_given : (g : LinesGiven fill job a) → g.loads ≡ loads
  loads_given g = loads_one fill (load_rows_of job) g.loads loads g.are are

  pub unserved_exactly : (Unserved a → NoServiceSet loads) × (NoServiceSet loads → Unserved a)
  unserved_exactly =
      let g = lines_given is in
      ((λ u. subst NoServiceSet (loads_given g) (unserved_none fill job a g u)), (λ n. none_unserved fill job a g (subst⁻¹ NoServiceSet (loads_given g) n)))

  -- what `unserved` answers is so: whether no service combination has a set
  pub unserved_sets : (r : Bool) → Decides r (Unserved a) → Decides r (NoServiceSet loads)
  unserved_sets r d = decides_same r unserved_exactly.0 unserved_exactly.1 d
