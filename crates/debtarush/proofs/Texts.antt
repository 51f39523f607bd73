-- A job has one list of lines, and they have one text: with what is held of fills, and so with two fill books, which hold one thing for its member.
use Prim.Native.Nat.{ℕ}
use mathlib.Core.Path.{◌≡◌, refl, sym, ap, subst, ◌∙◌}
use mathlib.Core.List.{List, []}
use Rattle.jobs.specs.declared.Job.{Job}
use Rattle.earth.specs.coefficients.Coefficients.{Coefficient}
use Rattle.earth.specs.table2.Table2.{table2_fill}
use Rattle.fills.specs.Says.{FillFor}
use Rattle.fills.specs.table2_book.Text.{table2_text}
use Rattle.fills.proofs.table2_book.Common.{table2_common}
use Rattle.fills.proofs.OneReading.{fill_one}
use Rattle.lines.specs.Lines.{PrintedLine, lines_of}
use Rattle.answer.proofs.Answers.{answer_one}
use Rattle.printing.specs.Text.{texts}
use Rattle.debtarush.specs.Lines.{LinesOf, TextOf, JobText}

module _ {fill : ℕ → ℕ → Coefficient} where
  lines_one : {job : Job} {ls ms : List PrintedLine} → LinesOf fill job ls → LinesOf fill job ms → ls ≡ ms
  lines_one {job} p q = p.are ∙ ap lines_of (answer_one fill job p.answer q.answer p.is q.is) ∙ sym q.are

  pub text_one : {j k : Job} {s t : List ℕ} → j ≡ k → TextOf fill j s → TextOf fill k t → s ≡ t
  text_one {j} {k} {s} e p q =
      let p' = subst (λ (x : Job). TextOf fill x s) e p in
      p'.are ∙ ap (texts k.key) (lines_one p'.is q.is) ∙ sym q.are

module _ {own common : List ℕ} where
  -- the text is that with whatever the books are shown to hold
  pub text_with : {fill : ℕ → ℕ → Coefficient} {job : Job} {t : List ℕ} → FillFor own common job.key.member fill → JobText own common job t → TextOf fill job t
  text_with {job = job} {t} f p = subst (λ (g : ℕ → ℕ → Coefficient). TextOf g job t) (fill_one p.fills f) p.text

  pub job_text_one : {j k : Job} {s t : List ℕ} → j ≡ k → JobText own common j s → JobText own common k t → s ≡ t
  job_text_one {s = s} e p q =
      let p' = subst (λ (x : Job). JobText own common x s) e p in
      text_one refl p'.text (text_with p'.fills q)

-- without own fills, and with the common book that is shipped, the text of a job is that of document 01's Table 2, and no other
pub as_before : {job : Job} {t : List ℕ} → (JobText [] table2_text job t → TextOf table2_fill job t) × (TextOf table2_fill job t → JobText [] table2_text job t)
as_before {job} = (λ p. text_with (table2_common job.key.member) p, λ p. record { fill = table2_fill; fills = table2_common job.key.member; text = p })
