-- Demand 2 holds.
use Prim.Native.Nat.{ℕ}
use mathlib.Core.Path.{◌≡◌, refl, sym, ap, subst, ◌∙◌}
use mathlib.Core.List.{List, ◌++◌}
use Rattle.arithmetic.proofs.Cases.{impossible}
use Rattle.rows.specs.declared.keys.Key.{Key}
use Rattle.jobs.specs.declared.Job.{Job}
use Rattle.earth.specs.coefficients.Coefficients.{Coefficient}
use Rattle.csv_text.specs.Nth.{Nth}
use Rattle.sets.specs.declared.Combination.{Combination}
use Rattle.checks.specs.declared.Check.{Check}
use Rattle.lines.specs.declared.Verdict.{Verdict}
use Rattle.lines.specs.declared.Verdict.TheVariants.{Accepted, NotAccepted, Refused}
use Rattle.lines.specs.Lines.{PrintedLine, accepted, not_accepted, number, verdict_value, verdict_line, unless_refused, later_lines, lines_of}
use Rattle.answer.specs.Rules.{Unrefused}
use Rattle.printing.specs.Text.{line_text, texts}
use Rattle.printing.proofs.Injective.{line_injective, texts_injective}
use Rattle.printing.specs.Keys.{IsKey}
use Rattle.debtarush.specs.Lines.{LinesOf}
use Rattle.demands.specs.CheckLine.{Checked, HasLine}
use Rattle.demands.specs.EachLine.{LineTold}
use Rattle.demands.specs.Sound.{Sound}
use Rattle.demands.specs.Bytes.{CallWrote, StartsWith, Tells}
use Rattle.demands.specs.Demand2.{Demand2}
use Rattle.demands.proofs.Keys.{job_key}
use Rattle.demands.proofs.Sound.{sound_accepted, accepted_sound}
use Rattle.demands.proofs.Lines.{line_told, line_shown}
use Rattle.demands.proofs.Wrote.{WroteJob, call_on_job, wrote}

-- the verdict line says the verdict
verdict_same : (v : Verdict) → verdict_line Accepted ≡ verdict_line v → v ≡ Accepted
unfolding verdict_line verdict_value
verdict_same Accepted e = refl
verdict_same NotAccepted e = let v : accepted ≡ not_accepted = ap (λ (l : PrintedLine). l.value) e in impossible cc
verdict_same (Refused n) e = let v : accepted ≡ number n = ap (λ (l : PrintedLine). l.value) e in impossible cc

module _ (fill : ℕ → ℕ → Coefficient) {job : Job} {bytes : List ℕ} (c : CallWrote fill job bytes) where
  is_key : IsKey job.key
  is_key = job_key c.is_book c.at

  did : WroteJob fill job c.before c.after c.len
  did = wrote (call_on_job c.is_book c.at c.fills c.call)

  bytes_are : bytes ≡ texts job.key did.text.lines
  unfolding did
  bytes_are = c.wrote ∙ did.first ∙ did.text.are

  told : (lines : List PrintedLine) × Tells bytes job.key lines × LinesOf fill job lines
  unfolding did
  told = (did.text.lines, record { is_key = is_key; are = bytes_are }, did.text.is)

  lines_same : (key : Key) (lines : List PrintedLine) → Tells bytes key lines → lines ≡ did.text.lines
  lines_same key lines t = texts_injective t.is_key is_key lines _ (sym t.are ∙ bytes_are)

  lines_own : (key : Key) (lines : List PrintedLine) → Tells bytes key lines → LinesOf fill job lines
  unfolding did
  lines_own key lines t = subst (LinesOf fill job) (sym (lines_same key lines t)) did.text.is

  laid : bytes ≡ line_text job.key (verdict_line did.text.is.answer.verdict) ++ texts job.key (unless_refused did.text.is.answer.verdict (later_lines did.text.is.answer))
  unfolding did texts lines_of
  laid = bytes_are ∙ ap (texts job.key) did.text.is.are

  key_same : (key : Key) (lines : List PrintedLine) → Tells bytes key lines → key ≡ job.key
  unfolding did texts lines_of
  key_same key lines t =
      let e = lines_same key lines t ∙ did.text.is.are in
      (line_injective t.is_key is_key _ _ _ _ (ap (texts key) (sym e) ∙ sym t.are ∙ laid)).0

  nothing_else : (key : Key) (lines : List PrintedLine) → Tells bytes key lines → (key ≡ job.key) × LinesOf fill job lines
  nothing_else key lines t = (key_same key lines t, lines_own key lines t)

  accepted_bytes : StartsWith (line_text job.key (verdict_line Accepted)) bytes → Sound fill job
  unfolding did
  accepted_bytes p =
      let e = (line_injective is_key is_key _ _ p.rest _ (sym p.are ∙ laid)).1 in
      accepted_sound fill job did.text.is.answer did.text.is.is (verdict_same did.text.is.answer.verdict e)

  accepts : Sound fill job → StartsWith (line_text job.key (verdict_line Accepted)) bytes
  unfolding did
  accepts s =
      let v = sound_accepted fill job did.text.is.answer did.text.is.is s in
      let rest = texts job.key (unless_refused did.text.is.answer.verdict (later_lines did.text.is.answer)) in
      record { rest = rest; are = subst (λ (x : Verdict). bytes ≡ line_text job.key (verdict_line x) ++ rest) v laid }

  each : (key : Key) (lines : List PrintedLine) → Tells bytes key lines → (n : ℕ) (line : PrintedLine) → Nth lines n line → LineTold fill job line line.name
  each key lines t n line r = let own_lines = lines_own key lines t in line_told fill job own_lines.is (subst (λ (l : List PrintedLine). Nth l n line) own_lines.are r)

  shown : (key : Key) (lines : List PrintedLine) → Tells bytes key lines → Unrefused fill job
      → (combination : Combination) (of : Check) → Checked fill job combination of → HasLine lines combination of
  shown key lines t u combination of h =
      let own_lines = lines_own key lines t in
      let w = line_shown fill job h.loads h.are own_lines.answer combination of h.set own_lines.is u h.limit h.limited h.permitted in
      subst (λ (l : List PrintedLine). HasLine l combination of) (sym own_lines.are) (record { place = w.0; line = w.1; at = w.2; is = w.3 })

pub demand2 : Demand2
demand2 fill job bytes c =
    record { told = told fill c; nothing_else = nothing_else fill c; accepted = accepted_bytes fill c; accepts = accepts fill c; each = each fill c; shown = shown fill c }
