-- The refusal of a job lies in one place, with one set of figures, and its number is the one that the job is refused with.
use mathlib.Core.Path.{◌≡◌, refl, sym, ap, subst, ◌∙◌}
use mathlib.Core.Logic.{◌⊎◌, inl, inr}
use Prim.Native.Nat.{ℕ, ◌+◌}
use Rattle.arithmetic.proofs.rounding.Laws.{least_one}
use Rattle.kinds.specs.declared.Row.{Row}
use Rattle.kinds.specs.Table.{train}
use Rattle.jobs.specs.declared.Job.{Job}
use Rattle.earth.specs.coefficients.Coefficients.{Coefficient}
use Rattle.earth.specs.Earth.{backfill_in}
use Rattle.current.specs.Current.{shaft_in}
use Rattle.surcharge.specs.Surcharge.{abutment_in, B}
use Rattle.scour.specs.Scour.{waterway_in, Constricted}
use Rattle.scour.proofs.Scours.{intensity_one}
use Rattle.clearance.specs.Clear.{opening_of}
use Rattle.lines.specs.declared.Answer.{Answer}
use Rattle.loads.specs.LoadRows.{optionals}
use Rattle.answer.specs.Rules.{load_rows_of, Refuses, Unrefused}
use Rattle.answer.specs.Answer.{AnswerIs, refused, answered, refusal, LinesGiven}
use Rattle.job_faults.specs.declared.Out.{Out}
use Rattle.job_faults.specs.declared.figures.Filling.{Filling}
use Rattle.job_faults.specs.declared.JobFault.{JobFault}
use Rattle.job_faults.specs.declared.JobFault.TheVariants.{Sound, OutOfRange, LargeCatchment, TooIntense, OverObstructed, NoFill, TooManyOptional, UpperBelowLower, NoTrain, NotAbove, TypeE}
use Rattle.job_faults.specs.declared.rules.Rule.{Rule}
use Rattle.job_faults.specs.declared.rules.Rule.TheVariants as rules
use Rattle.job_faults.specs.First.{First}
use Rattle.job_faults.specs.JobRows.{rows_in}
use Rattle.job_faults.specs.Out.{OutOf}
use Rattle.job_faults.specs.Faults.{ShownAt, Lies, JobLies, number_of}
use Rattle.job_faults.specs.rules.Shows.{rule_number}
use Rattle.job_faults.proofs.Standing.{first_one}
use Rattle.job_faults.proofs.Ordering.{number_one}

-- ---- the fault of a refusal, by the row that shows it
abbrev FaultOf : Job → Rule → ℕ → Row → JobFault → Type 0
FaultOf job rules.OutOfRange p row f = (out : Out) × (out.row ≡ p) × OutOf row out × (f ≡ OutOfRange out)
FaultOf job rules.LargeCatchment p row f = f ≡ LargeCatchment p (waterway_in job.scour).catchment
FaultOf job rules.TooIntense p row f = (q : ℕ) × Constricted (waterway_in job.scour) q × (f ≡ TooIntense p q)
FaultOf job rules.OverObstructed p row f = f ≡ OverObstructed p (opening_of job.clearance).obstructed (opening_of job.clearance).area
FaultOf job rules.NoFill p row f = f ≡ NoFill p (backfill_in row.numbers).soil (backfill_in row.numbers).slope
FaultOf job rules.TooManyOptional p row f = f ≡ TooManyOptional p (optionals (load_rows_of job))
FaultOf job rules.UpperBelowLower p row f = f ≡ UpperBelowLower p (shaft_in row.numbers).upper (shaft_in row.numbers).lower
FaultOf job rules.NoTrain p row f = f ≡ NoTrain p (train row.kind row.numbers)
FaultOf job rules.NotAbove p row f = f ≡ NotAbove p (abutment_in row.numbers).length (B (abutment_in row.numbers))
FaultOf job rules.TypeE p row f = f ≡ TypeE p

out_one : (row : Row) (a b : Out) → a.row ≡ b.row → OutOf row a → OutOf row b → a ≡ b
out_one row a b p x y =
    let e = first_one x.first y.first in
    let kind : a.kind ≡ b.kind = x.same ∙ sym y.same in
    let column : a.column ≡ b.column = x.counted ∙ ap (λ (n : ℕ). n + 3) e.0 ∙ sym y.counted in
    let entry : a.entry ≡ b.entry = ap (λ (f : Filling). f.entry) e.1 in
    let range : a.range ≡ b.range = ap (λ (f : Filling). f.range) e.1 in
    λ i. record { row = p i; kind = kind i; column = column i; entry = entry i; range = range i }

fault_one : (job : Job) (rule : Rule) (p : ℕ) (row : Row) {a b : JobFault} → FaultOf job rule p row a → FaultOf job rule p row b → a ≡ b
fault_one job rules.OutOfRange p row x y = x.3 ∙ ap OutOfRange (out_one row x.0 y.0 (x.1 ∙ sym y.1) x.2 y.2) ∙ sym y.3
fault_one job rules.LargeCatchment p row x y = x ∙ sym y
fault_one job rules.TooIntense p row x y = x.2 ∙ ap (TooIntense p) (intensity_one x.1 y.1) ∙ sym y.2
fault_one job rules.OverObstructed p row x y = x ∙ sym y
fault_one job rules.NoFill p row x y = x ∙ sym y
fault_one job rules.TooManyOptional p row x y = x ∙ sym y
fault_one job rules.UpperBelowLower p row x y = x ∙ sym y
fault_one job rules.NoTrain p row x y = x ∙ sym y
fault_one job rules.NotAbove p row x y = x ∙ sym y
fault_one job rules.TypeE p row x y = x ∙ sym y

module _ (fill : ℕ → ℕ → Coefficient) (job : Job) where
  record Shown (f : JobFault) : Type 0 where
    rule : Rule
    refuses : Refuses fill job (rule_number rule)
    position : ℕ
    row : Row
    first : First (ShownAt fill job rule) (rows_in job) position row
    fault : FaultOf job rule position row f

  shown : {f : JobFault} (rule : Rule) (p : ℕ) {F : Row → Type 0} → (l : Lies fill job rule p F) → FaultOf job rule p l.row f → Shown f
  shown rule p l x = record { rule = rule; refuses = l.refuses; position = p; row = l.row; first = l.first; fault = x }

  -- a fault is none, or that of a refusal
  lies_shown : (f : JobFault) → JobLies fill job f → (Unrefused fill job × (f ≡ Sound)) ⊎ Shown f
  lies_shown Sound l = inl (l, refl)
  lies_shown (OutOfRange out) l = inr (shown rules.OutOfRange _ l (out, refl, l.figures, refl))
  lies_shown (LargeCatchment p c) l = inr (shown rules.LargeCatchment p l (ap (LargeCatchment p) l.figures))
  lies_shown (TooIntense p q) l = inr (shown rules.TooIntense p l (q, l.figures, refl))
  lies_shown (OverObstructed p o a) l = inr (shown rules.OverObstructed p l (let d = l.figures.0 in let e = l.figures.1 in cc))
  lies_shown (NoFill p o a) l = inr (shown rules.NoFill p l (let d = l.figures.0 in let e = l.figures.1 in cc))
  lies_shown (TooManyOptional p n) l = inr (shown rules.TooManyOptional p l (ap (TooManyOptional p) l.figures))
  lies_shown (UpperBelowLower p u w) l = inr (shown rules.UpperBelowLower p l (let d = l.figures.0 in let e = l.figures.1 in cc))
  lies_shown (NoTrain p n) l = inr (shown rules.NoTrain p l (ap (NoTrain p) l.figures))
  lies_shown (NotAbove p n w) l = inr (shown rules.NotAbove p l (let d = l.figures.0 in let e = l.figures.1 in cc))
  lies_shown (TypeE p) l = inr (shown rules.TypeE p l refl)

  shown_one : {a b : JobFault} → Shown a → Shown b → a ≡ b
  shown_one {a} {b} x y =
      let e = number_one x.rule y.rule (least_one x.refuses y.refuses) in
      let f = first_one (subst (λ (r : Rule). First (ShownAt fill job r) (rows_in job) x.position x.row) e x.first) y.first in
      let g = subst (λ (r : Rule). FaultOf job r x.position x.row a) e x.fault in
      let h = subst (λ (p : ℕ). FaultOf job y.rule p x.row a) f.0 g in
      fault_one job y.rule y.position y.row (subst (λ (r : Row). FaultOf job y.rule y.position r a) f.1 h) y.fault

  either_one : {a b : JobFault} → (Unrefused fill job × (a ≡ Sound)) ⊎ Shown a → (Unrefused fill job × (b ≡ Sound)) ⊎ Shown b → a ≡ b
  either_one (inl x) (inl y) = x.1 ∙ sym y.1
  either_one (inl x) (inr y) = absurd (x.0 _ y.refuses.holds)
  either_one (inr x) (inl y) = absurd (y.0 _ x.refuses.holds)
  either_one (inr x) (inr y) = shown_one x y

  -- no second answer meets the promise of `job_fault`
  pub job_lies_one : (a b : JobFault) → JobLies fill job a → JobLies fill job b → a ≡ b
  job_lies_one a b l m = either_one (lies_shown a l) (lies_shown b m)

  -- "The number .. that `job_lines` tells": a fault's number is the one that the job is refused with
  pub lies_refuses : (f : JobFault) → JobLies fill job f → (f ≡ Sound → ⊥) → Refuses fill job (number_of f)
  lies_refuses Sound l n = absurd (n refl)
  lies_refuses (OutOfRange out) l n = l.refuses
  lies_refuses (LargeCatchment p c) l n = l.refuses
  lies_refuses (TooIntense p q) l n = l.refuses
  lies_refuses (OverObstructed p o a) l n = l.refuses
  lies_refuses (NoFill p o a) l n = l.refuses
  lies_refuses (TooManyOptional p o) l n = l.refuses
  lies_refuses (UpperBelowLower p u w) l n = l.refuses
  lies_refuses (NoTrain p t) l n = l.refuses
  lies_refuses (NotAbove p o w) l n = l.refuses
  lies_refuses (TypeE p) l n = l.refuses

  -- so that it stands in the job's VERDICT; and a job with no fault has its lines
  pub lies_verdict : (f : JobFault) (a : Answer) → JobLies fill job f → (f ≡ Sound → ⊥) → AnswerIs fill job a → a ≡ refusal (number_of f)
  lies_verdict f a l n (refused r e) = e ∙ ap refusal (least_one r (lies_refuses f l n))
  lies_verdict f a l n (answered g) = absurd (g.unrefused _ (lies_refuses f l n).holds)

  pub sound_answered : (a : Answer) → JobLies fill job Sound → AnswerIs fill job a → LinesGiven fill job a
  sound_answered a l (refused r e) = absurd (l _ r.holds)
  sound_answered a l (answered g) = g
