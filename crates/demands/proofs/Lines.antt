-- Each line of a job's answer is told as its name says: that of a check names a permitted set that reaches its figure, and none is worse; and no check
-- that applies is left out.
use Prim.Native.Nat.{ℕ}
use mathlib.Core.Path.{◌≡◌, refl, sym, subst}
use mathlib.Core.List.{List}
use Rattle.jobs.specs.declared.Job.{Job}
use Rattle.earth.specs.coefficients.Coefficients.{Coefficient}
use Rattle.sets.specs.declared.Combination.{Combination}
use Rattle.sets.specs.declared.Combination.TheVariants.{I, II, III, IV}
use Rattle.sets.specs.declared.Loads.{Loads}
use Rattle.sets.specs.Sets.{Permitted}
use Rattle.checks.specs.declared.Check.{Check}
use Rattle.checks.specs.declared.Check.TheVariants.{OP, OM, SL, PR, RK}
use Rattle.lines.specs.declared.Line.{Line}
use Rattle.lines.specs.declared.Line.TheVariants.{Missing, Shown}
use Rattle.lines.specs.declared.Lines.{Lines}
use Rattle.checks.specs.limits.Limits.{Limit}
use Rattle.worst.specs.Lines as worst
use Rattle.loads.specs.LoadRows.{AreLoads}
use Rattle.loads.proofs.Loaded.{loads_one}
use Rattle.lines.specs.declared.Verdict.{Verdict}
use Rattle.lines.specs.declared.Verdict.TheVariants.{Accepted, NotAccepted, Refused}
use Rattle.lines.specs.declared.RiverLine.{RiverLine}
use Rattle.lines.specs.declared.RiverLine.TheVariants as river
use Rattle.lines.specs.declared.Answer.{Answer}
use Rattle.lines.specs.Lines.{PrintedLine, check, SC, CL, verdict_line, shown_line, check_line, combination_lines, river_shown, river_line, later_lines, unless_refused, lines_of}
use Rattle.answer.specs.Rules.{load_rows_of, Unrefused}
use Rattle.lines.specs.verdicts.Verdict.{VerdictIs}
use Rattle.answer.specs.Columns.{base_of}
use Rattle.answer.specs.river.River.{DepthIs, ClearIs}
use Rattle.answer.specs.Answer.{LinesAre, LinesGiven, refusal, AnswerIs, refused, answered}
use Rattle.csv_text.specs.Nth.{Nth}
use Rattle.demands.specs.EachLine.{LineTold}
use Rattle.demands.proofs.All as all

module _ (fill : ℕ → ℕ → Coefficient) (job : Job) where
  Told : PrintedLine → Type 0
  Told l = LineTold fill job l l.name

  module _ (unrefused : Unrefused fill job) (loads : Loads) (are : AreLoads fill (load_rows_of job) loads) where
    check_told : (c : Combination) (k : Check) (l : Line) → worst.LineSays c k (base_of job.base) loads l → all.All Told (check_line c k l)
    unfolding Told shown_line check_line worst.LineSays
    check_told c k Missing p = all.none
    check_told c k (Shown figure limit set passes exact) p =
        all.more {x = shown_line c k figure limit set passes exact}
        (record { unrefused = unrefused; loads = loads; are = are; figure = figure; limit = limit; set = set; passes = passes; exact = exact; shown = p; is = refl })
        all.none

    lines_told : (c : Combination) (l : Lines) → LinesAre c (base_of job.base) loads l → all.All Told (combination_lines c l)
    unfolding combination_lines worst.line
    lines_told c l p =
        all.all_append (check_told c OP l.op (p OP))
        (all.all_append (check_told c OM l.om (p OM))
        (all.all_append (check_told c SL l.sl (p SL)) (all.all_append (check_told c PR l.pr (p PR)) (check_told c RK l.rk (p RK)))))

  depth_told : (l : RiverLine) → DepthIs job l → all.All Told (river_line SC l)
  unfolding Told river_line river_shown
  depth_told river.Missing p = all.none
  depth_told (river.Shown depth found passes exact) p =
      all.more {x = river_shown SC depth found passes exact} (record { depth = depth; found = found; passes = passes; exact = exact; shown = p; is = refl }) all.none

  clear_told : (l : RiverLine) → ClearIs job l → all.All Told (river_line CL l)
  unfolding Told river_line river_shown
  clear_told river.Missing p = all.none
  clear_told (river.Shown clearance needed passes exact) p =
      all.more {x = river_shown CL clearance needed passes exact} (record { clearance = clearance; needed = needed; passes = passes; exact = exact; shown = p; is = refl }) all.none

  verdict_told : (v : Verdict) → Told (verdict_line v)
  unfolding Told verdict_line
  verdict_told v = refl

  unless_told : (v : Verdict) {later : List PrintedLine} → all.All Told later → all.All Told (unless_refused v later)
  unfolding unless_refused
  unless_told Accepted p = p
  unless_told NotAccepted p = p
  unless_told (Refused n) p = all.none

  given_told : (a : Answer) → LinesGiven fill job a → all.All Told (lines_of a)
  unfolding lines_of later_lines
  given_told a g =
      all.more (verdict_told a.verdict)
      (unless_told a.verdict
      (all.all_append (lines_told g.unrefused g.loads g.are I a.one g.one)
      (all.all_append (lines_told g.unrefused g.loads g.are II a.two g.two)
      (all.all_append (lines_told g.unrefused g.loads g.are III a.three g.three)
      (all.all_append (lines_told g.unrefused g.loads g.are IV a.four g.four) (all.all_append (depth_told a.depth g.depth) (clear_told a.clear g.clear)))))))

  refusal_told : (n : ℕ) → all.All Told (lines_of (refusal n))
  unfolding lines_of unless_refused
  refusal_told n = all.more (verdict_told (Refused n)) all.none

  answer_told : {a : Answer} → AnswerIs fill job a → all.All Told (lines_of a)
  answer_told (refused {n} p e) = subst (λ (x : Answer). all.All Told (lines_of x)) (sym e) (refusal_told n)
  answer_told {a} (answered g) = given_told a g

  pub line_told : {a : Answer} {n : ℕ} {l : PrintedLine} → AnswerIs fill job a → Nth (lines_of a) n l → LineTold fill job l l.name
  unfolding Told
  line_told p r = all.all_at (answer_told p) r

-- a line of this check in this combination
IsOf : Combination → Check → PrintedLine → Type 0
IsOf combination of l = l.name ≡ check combination of

module _ (fill : ℕ → ℕ → Coefficient) (job : Job) (loads : Loads) (are : AreLoads fill (load_rows_of job) loads) where
  module _ (c : Combination) (set limit : ℕ) (permitted : Permitted c loads set) where
    check_shown : (k : Check) (l : Line) → worst.LineSays c k (base_of job.base) loads l → Limit c k (base_of job.base) limit → all.Some (IsOf c k) (check_line c k l)
    unfolding IsOf shown_line check_line worst.LineSays
    check_shown k Missing p h = absurd (p limit h set permitted)
    check_shown k (Shown figure limit s passes exact) p h = all.here refl

    lines_shown : (k : Check) (l : Lines) → LinesAre c (base_of job.base) loads l → Limit c k (base_of job.base) limit → all.Some (IsOf c k) (combination_lines c l)
    unfolding combination_lines worst.line
    lines_shown OP l p h = all.some_front _ (check_shown OP l.op (p OP) h)
    lines_shown OM l p h = all.some_behind (check_line c OP l.op) (all.some_front _ (check_shown OM l.om (p OM) h))
    lines_shown SL l p h = all.some_behind (check_line c OP l.op) (all.some_behind (check_line c OM l.om) (all.some_front _ (check_shown SL l.sl (p SL) h)))
    lines_shown PR l p h =
        all.some_behind (check_line c OP l.op)
        (all.some_behind (check_line c OM l.om) (all.some_behind (check_line c SL l.sl) (all.some_front _ (check_shown PR l.pr (p PR) h))))
    lines_shown RK l p h =
        all.some_behind (check_line c OP l.op)
        (all.some_behind (check_line c OM l.om)
        (all.some_behind (check_line c SL l.sl) (all.some_behind (check_line c PR l.pr) (check_shown RK l.rk (p RK) h))))

  later_shown : (c : Combination) (k : Check) (set limit : ℕ) → Permitted c loads set → Limit c k (base_of job.base) limit → (a : Answer) (g : LinesGiven fill job a) → g.loads ≡ loads → all.Some (IsOf c k) (later_lines a)
  unfolding later_lines
  later_shown I k set limit p h a g e = all.some_front _ (lines_shown I set limit p k a.one (subst (λ (l : Loads). LinesAre I (base_of job.base) l a.one) e g.one) h)
  later_shown II k set limit p h a g e =
      all.some_behind (combination_lines I a.one) (all.some_front _ (lines_shown II set limit p k a.two (subst (λ (l : Loads). LinesAre II (base_of job.base) l a.two) e g.two) h))
  later_shown III k set limit p h a g e =
      all.some_behind (combination_lines I a.one)
      (all.some_behind (combination_lines II a.two) (all.some_front _ (lines_shown III set limit p k a.three (subst (λ (l : Loads). LinesAre III (base_of job.base) l a.three) e g.three) h)))
  later_shown IV k set limit p h a g e =
      all.some_behind (combination_lines I a.one)
      (all.some_behind (combination_lines II a.two)
      (all.some_behind (combination_lines III a.three)
      (all.some_front _ (lines_shown IV set limit p k a.four (subst (λ (l : Loads). LinesAre IV (base_of job.base) l a.four) e g.four) h))))

  unless_shown : (v : Verdict) (a : Answer) (c : Combination) (k : Check) {later : List PrintedLine} → VerdictIs v a → all.Some (IsOf c k) later → all.Some (IsOf c k) (unless_refused v later)
  unfolding unless_refused
  unless_shown Accepted a c k p s = s
  unless_shown NotAccepted a c k p s = s
  unless_shown (Refused n) a c k p s = absurd p

  pub line_shown : (a : Answer) (c : Combination) (k : Check) (set : ℕ) → AnswerIs fill job a → Unrefused fill job → (limit : ℕ) → Limit c k (base_of job.base) limit → Permitted c loads set
      → (n : ℕ) × (l : PrintedLine) × Nth (lines_of a) n l × (l.name ≡ check c k)
  unfolding lines_of IsOf
  line_shown a c k set (refused {n} p e) u limit h s = absurd (u n p.holds)
  line_shown a c k set (answered g) u limit h s =
      let e = loads_one fill (load_rows_of job) g.loads loads g.are are in
      all.some_at (all.later (unless_shown a.verdict a c k g.verdict (later_shown c k set limit s h a g e)))
