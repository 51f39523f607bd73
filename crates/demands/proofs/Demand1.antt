-- Demand 1 holds.
use Prim.Native.Nat.{ℕ, ◌≤◌}
use native.Mathlib.Omega.{arith}
use mathlib.Core.Path.{◌≡◌, refl, sym, ap, subst, ◌∙◌}
use mathlib.Core.Logic.{◌⊎◌, inl, inr}
use mathlib.Core.List.{List, ◌++◌, append-nil}
use lib.ListN.{length, drop}
use Rattle.arithmetic.proofs.Cases.{impossible}
use Rattle.jobs.specs.declared.Job.{Job}
use Rattle.book.specs.JobBook.{Jobs, JobBook}
use Rattle.book.specs.Values.{values}
use Rattle.earth.specs.coefficients.Coefficients.{Coefficient}
use Rattle.csv_text.specs.Nth.{Nth}
use Rattle.lines.specs.declared.Verdict.TheVariants.{Refused}
use Rattle.lines.specs.Lines.{verdict_line, unless_refused, lines_of}
use Rattle.answer.specs.Rules.{Refuses}
use Rattle.answer.specs.Answer as answer
use Rattle.printing.specs.Text.{line_text, texts}
use Rattle.fills.specs.Says.{FillFor}
use Rattle.debtarush.specs.Lines.{TextOf}
use Rattle.debtarush.specs.CallTold.{CallTold, written, refused}
use Rattle.debtarush.specs.Called.{Called, no_book, no_fills, no_place, too_short, lines}
use Rattle.debtarush.proofs.Texts.{text_one}
use Rattle.debtarush.proofs.Answers.{called_one}
use Rattle.debtarush.proofs.Telling.{call_told_one}
use Rattle.demands.specs.Demand1.{CallInOrder, Demand1}
use Rattle.demands.proofs.Numbers.{book_numbers}
use Rattle.demands.proofs.Wrote.{call_on_job, wrote}

-- the one line of a refused job
refused_text : {fill : ℕ → ℕ → Coefficient} {job : Job} {n : ℕ} → Refuses fill job n → TextOf fill job (line_text job.key (verdict_line (Refused n)))
unfolding texts lines_of unless_refused
refused_text {n = n} r = record { lines = lines_of (answer.refusal n); is = record { answer = answer.refusal n; is = answer.refused r refl; are = refl }; are = sym (append-nil _) }

module _ {own common b : List ℕ} {place : ℕ} {before after : List ℕ} {t : CallTold} where
  numbers : Called own common b place before after t → (n row : ℕ) → t ≡ refused n row → ((1 ≤ n) × (n ≤ 8)) ⊎ (n ≡ 10)
  numbers (no_book {n = m} s a e) n row f = let z : n ≡ m = cc in let w = book_numbers s in inl (omega arith, omega arith)
  numbers (no_fills p q a e) n row f = let z : n ≡ 8 = cc in inl (omega arith, omega arith)
  numbers (no_place p w q a e) n row f = let z : n ≡ 10 = cc in inr z
  numbers (too_short p r s l a e) n row f = let z : n ≡ 7 = cc in inl (omega arith, omega arith)
  numbers (lines p r s l a e) n row f = impossible cc

  untouched : Called own common b place before after t → (n row : ℕ) → t ≡ refused n row → after ≡ before
  untouched (no_book s a e) n row f = a
  untouched (no_fills p q a e) n row f = a
  untouched (no_place p w q a e) n row f = a
  untouched (too_short p r s l a e) n row f = a
  untouched (lines p r s l a e) n row f = impossible cc

  alone : Called own common b place before after t → (len n : ℕ) (js : Jobs) (job : Job) (fill : ℕ → ℕ → Coefficient) → t ≡ written len → JobBook b js → Nth (values js) place job
      → FillFor own common job.key.member fill → Refuses fill job n
      → (len ≡ length (line_text job.key (verdict_line (Refused n)))) × (after ≡ line_text job.key (verdict_line (Refused n)) ++ drop len before)
  alone c len n js job fill f p r h q =
      let w = wrote (call_on_job p r h (subst (Called own common b place before after) f c)) in
      let e = text_one refl w.text (refused_text q) in
      (w.long ∙ ap length e, w.whole ∙ ap (λ (x : List ℕ). x ++ drop len before) e)

  in_order : Called own common b place before after t → CallInOrder own common b place before after t
  in_order c = record {
    book_first = λ n row s. (called_one c (no_book s refl refl)).1;
    then_fills = λ js p q. (called_one c (no_fills p q refl refl)).1;
    then_place = λ js p w q. (called_one c (no_place p w q refl refl)).1;
    then_buffer = λ js job text p r s l. (called_one c (too_short p r s l refl refl)).1;
    then_lines = λ js job text p r s l. let w = called_one c (lines p r s l refl refl) in (w.1, w.0);
    numbers = numbers c;
    untouched = untouched c;
    alone = alone c;
  }

pub demand1 : Demand1
demand1 = record { one = called_one; told_one = call_told_one; in_order = in_order }
