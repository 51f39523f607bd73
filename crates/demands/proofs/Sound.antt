-- A job's answer says A exactly if the job is sound: every line says Y, and the worst figure passes exactly if every permitted set's does.
use Prim.Native.Nat.{ℕ}
use mathlib.Core.Path.{◌≡◌, refl, sym, ap, subst, ◌∙◌}
use mathlib.Core.Bool.{true, false}
use Rattle.arithmetic.proofs.Cases.{impossible}
use Rattle.arithmetic.proofs.Deciding.{decided}
use Rattle.jobs.specs.declared.Job.{Job}
use Rattle.earth.specs.coefficients.Coefficients.{Coefficient}
use Rattle.sets.specs.declared.Combination.{Combination}
use Rattle.sets.specs.declared.Combination.TheVariants.{I, II, III, IV}
use Rattle.sets.specs.declared.Loads.{Loads}
use Rattle.sets.specs.Sets.{Permitted}
use Rattle.checks.specs.declared.Base.{Base}
use Rattle.checks.specs.declared.Check.{Check}
use Rattle.checks.specs.declared.Check.TheVariants.{OP, OM, SL, PR, RK}
use Rattle.checks.specs.declared.Figure.{Figure}
use Rattle.checks.specs.set_figures.Figures.{Shows}
use Rattle.checks.specs.Order.{side}
use Rattle.checks.specs.limits.Limits.{Limit}
use Rattle.lines.specs.declared.Line.{Line}
use Rattle.lines.specs.declared.Line.TheVariants.{Missing, Shown}
use Rattle.lines.specs.declared.Lines.{Lines}
use Rattle.checks.specs.passing.Passing.{Passes}
use Rattle.checks.proofs.limits.Limiting.{limit_one}
use Rattle.worst.specs.Lines as worst
use Rattle.worst.proofs.Naming.{worst_decides}
use Rattle.loads.proofs.Loaded.{loads_one}
use Rattle.lines.specs.declared.Verdict.{Verdict}
use Rattle.lines.specs.declared.Verdict.TheVariants.{Accepted, NotAccepted, Refused}
use Rattle.lines.specs.declared.Answer.{Answer}
use Rattle.answer.specs.Rules.{load_rows_of}
use Rattle.answer.proofs.river.Answers.{depth_one, clear_one}
use Rattle.lines.specs.verdicts.Verdict.{LineYes, LinesYes, RiverYes, AllYes, VerdictIs}
use Rattle.answer.specs.Columns.{base_of}
use Rattle.answer.specs.Answer.{LinesAre, LinesGiven, AnswerIs, refused, answered}
use Rattle.demands.specs.Sound.{Bears, Sound}

-- every permitted set of one combination passes one check
AllPass : Combination → Check → Base → Loads → Type 0
AllPass combination check base loads =
    (limit : ℕ) → Limit combination check base limit → (set : ℕ) (figure : Figure) → Permitted combination loads set → Shows check base loads set figure → Passes (side check) limit figure

module _ (combination : Combination) (base : Base) (loads : Loads) where
  line_holds : (check : Check) (l : Line) → worst.LineSays combination check base loads l → LineYes l → AllPass combination check base loads
  unfolding worst.LineSays AllPass
  line_holds check Missing p y limit h set figure a b = absurd (p limit h set a)
  line_holds check (Shown v n s passes exact) p y limit h set figure a b =
      let d = decided passes y (worst_decides combination check base loads v n s passes exact p) set figure a b in
      subst (λ (m : ℕ). Passes (side check) m figure) (limit_one combination check base n limit p.limited h) d

  line_yes : (check : Check) (l : Line) → worst.LineSays combination check base loads l → AllPass combination check base loads → LineYes l
  unfolding worst.LineSays AllPass
  line_yes check Missing p h = tt
  line_yes check (Shown v n s true exact) p h = refl
  line_yes check (Shown v n s false exact) p h = absurd (p.marked (h n p.limited s v p.named.permitted p.named.reaches))

  lines_hold : (l : Lines) → LinesAre combination base loads l → LinesYes l → (check : Check) → AllPass combination check base loads
  unfolding worst.line
  lines_hold l p y OP = line_holds OP l.op (p OP) y.op
  lines_hold l p y OM = line_holds OM l.om (p OM) y.om
  lines_hold l p y SL = line_holds SL l.sl (p SL) y.sl
  lines_hold l p y PR = line_holds PR l.pr (p PR) y.pr
  lines_hold l p y RK = line_holds RK l.rk (p RK) y.rk

  lines_yes : (l : Lines) → LinesAre combination base loads l → ((check : Check) → AllPass combination check base loads) → LinesYes l
  unfolding worst.line
  lines_yes l p h = record {
    op = line_yes OP l.op (p OP) (h OP);
    om = line_yes OM l.om (p OM) (h OM);
    sl = line_yes SL l.sl (p SL) (h SL);
    pr = line_yes PR l.pr (p PR) (h PR);
    rk = line_yes RK l.rk (p RK) (h RK);
  }

module _ (fill : ℕ → ℕ → Coefficient) (job : Job) (a : Answer) where
  given_bears : (g : LinesGiven fill job a) → AllYes a → Bears (base_of job.base) g.loads
  unfolding AllPass
  given_bears g y I check = lines_hold I _ g.loads a.one g.one y.one check
  given_bears g y II check = lines_hold II _ g.loads a.two g.two y.two check
  given_bears g y III check = lines_hold III _ g.loads a.three g.three y.three check
  given_bears g y IV check = lines_hold IV _ g.loads a.four g.four y.four check

  yes_sound : LinesGiven fill job a → AllYes a → Sound fill job
  yes_sound g y = record {
    unrefused = g.unrefused;
    loads = g.loads;
    are = g.are;
    bears = given_bears g y;
    depth = record { line = a.depth; is = g.depth; yes = y.depth };
    clear = record { line = a.clear; is = g.clear; yes = y.clear };
  }

  sound_yes : LinesGiven fill job a → Sound fill job → AllYes a
  unfolding AllPass
  sound_yes g s =
      let e = loads_one fill (load_rows_of job) s.loads g.loads s.are g.are in
      let h = subst (Bears (base_of job.base)) e s.bears in
      record {
        one = lines_yes I _ g.loads a.one g.one (h I);
        two = lines_yes II _ g.loads a.two g.two (h II);
        three = lines_yes III _ g.loads a.three g.three (h III);
        four = lines_yes IV _ g.loads a.four g.four (h IV);
        depth = subst RiverYes (depth_one job s.depth.line a.depth s.depth.is g.depth) s.depth.yes;
        clear = subst RiverYes (clear_one job s.clear.line a.clear s.clear.is g.clear) s.clear.yes;
      }

  verdict_accepted : (v : Verdict) → LinesGiven fill job a → Sound fill job → VerdictIs v a → v ≡ Accepted
  verdict_accepted Accepted g s p = refl
  verdict_accepted NotAccepted g s p = absurd (p (sound_yes g s))
  verdict_accepted (Refused n) g s p = absurd p

  pub sound_accepted : AnswerIs fill job a → Sound fill job → a.verdict ≡ Accepted
  sound_accepted (refused {n} p e) s = absurd (s.unrefused n p.holds)
  sound_accepted (answered g) s = verdict_accepted a.verdict g s g.verdict

  pub accepted_sound : AnswerIs fill job a → a.verdict ≡ Accepted → Sound fill job
  accepted_sound (refused {n} p e) v =
      let w : Refused n ≡ Accepted = sym (ap (λ (x : Answer). x.verdict) e) ∙ v in
      impossible cc
  accepted_sound (answered g) v = yes_sound g (subst (λ (x : Verdict). VerdictIs x a) v g.verdict)
