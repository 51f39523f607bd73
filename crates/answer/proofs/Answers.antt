-- A job has one answer.
use Prim.Native.Nat.{ℕ}
use mathlib.Core.Path.{◌≡◌, sym, ap, subst, ◌∙◌}
use Rattle.arithmetic.proofs.rounding.Laws.{least_one}
use Rattle.jobs.specs.declared.Job.{Job}
use Rattle.earth.specs.coefficients.Coefficients.{Coefficient}
use Rattle.sets.specs.declared.Combination.{Combination}
use Rattle.sets.specs.declared.Combination.TheVariants.{I, II, III, IV}
use Rattle.sets.specs.declared.Loads.{Loads}
use Rattle.lines.specs.declared.Lines.{Lines}
use Rattle.worst.proofs.Naming.{lines_one}
use Rattle.loads.proofs.Loaded.{loads_one}
use Rattle.lines.specs.declared.Answer.{Answer}
use Rattle.lines.proofs.verdicts.Answers.{Alike, alike_one}
use Rattle.answer.proofs.river.Answers.{depth_one, clear_one}
use Rattle.answer.specs.Rules.{load_rows_of}
use Rattle.answer.specs.Columns.{base_of}
use Rattle.answer.specs.Answer.{LinesAre, LinesGiven, refusal, AnswerIs, refused, answered}

module _ (fill : ℕ → ℕ → Coefficient) (job : Job) where
  lines_same : (c : Combination) {s t : Loads} (l m : Lines) → s ≡ t → LinesAre c (base_of job.base) s l → LinesAre c (base_of job.base) t m → l ≡ m
  lines_same c {t = t} l m e x y = lines_one c (base_of job.base) t l m (subst (λ (s : Loads). LinesAre c (base_of job.base) s l) e x) y

  given_one : (a b : Answer) → LinesGiven fill job a → LinesGiven fill job b → a ≡ b
  given_one a b p q =
      let e = loads_one fill (load_rows_of job) p.loads q.loads p.are q.are in
      let k : Alike a b = record {
        one = lines_same I a.one b.one e p.one q.one;
        two = lines_same II a.two b.two e p.two q.two;
        three = lines_same III a.three b.three e p.three q.three;
        four = lines_same IV a.four b.four e p.four q.four;
        depth = depth_one job a.depth b.depth p.depth q.depth;
        clear = clear_one job a.clear b.clear p.clear q.clear;
      } in
      alike_one a b k p.verdict q.verdict

  pub answer_one : (a b : Answer) → AnswerIs fill job a → AnswerIs fill job b → a ≡ b
  answer_one a b (refused p e) (refused q f) = let n = least_one p q in e ∙ ap refusal n ∙ sym f
  answer_one a b (refused {n} p e) (answered q) = absurd (q.unrefused n p.holds)
  answer_one a b (answered p) (refused {n} q f) = absurd (p.unrefused n q.holds)
  answer_one a b (answered p) (answered q) = given_one a b p q
