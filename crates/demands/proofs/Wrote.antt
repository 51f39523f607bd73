-- What a call for a job that is there wrote, with fill books that hold something for its member, or why it wrote nothing.
use Prim.Native.Nat.{ℕ, ◌≤◌, ◌<◌}
use mathlib.Core.Path.{◌≡◌, sym, ap, subst, ◌∙◌}
use mathlib.Core.List.{List, ◌++◌}
use lib.ListN.{length, take, drop}
use lib.Seq.{take_at}
use Rattle.arithmetic.proofs.Cases.{impossible}
use Rattle.jobs.specs.declared.Job.{Job}
use Rattle.book.specs.JobBook.{Jobs, JobBook}
use Rattle.book.specs.Values.{values}
use Rattle.csv_text.specs.Nth.{Nth}
use Rattle.book.proofs.Answers.{refused_none}
use Rattle.earth.specs.coefficients.Coefficients.{Coefficient}
use Rattle.fills.specs.Says.{FillFor}
use Rattle.debtarush.proofs.Locating.{job_one, job_there}
use Rattle.debtarush.proofs.Texts.{text_with}
use Rattle.debtarush.specs.Lines.{TextOf, JobText}
use Rattle.debtarush.specs.CallTold.{CallTold, written, refused}
use Rattle.debtarush.specs.Called.{Called, no_book, no_fills, no_place, too_short, lines}

pub data CallOnJob (fill : ℕ → ℕ → Coefficient) (job : Job) (before after : List ℕ) (t : CallTold) : Type 0 where
  short : {bytes : List ℕ} → TextOf fill job bytes → length before < length bytes → t ≡ refused 7 0 → CallOnJob fill job before after t
  full : {bytes : List ℕ} → TextOf fill job bytes → length bytes ≤ length before → after ≡ bytes ++ drop (length bytes) before → t ≡ written (length bytes) → CallOnJob fill job before after t

module _ {fill : ℕ → ℕ → Coefficient} {own common b : List ℕ} {place : ℕ} {js : Jobs} {job : Job} (book : JobBook b js) (at : Nth (values js) place job)
    (fills : FillFor own common job.key.member fill) where
  own_text : {ks : Jobs} {k : Job} {bytes : List ℕ} → JobBook b ks → Nth (values ks) place k → JobText own common k bytes → TextOf fill job bytes
  own_text {bytes = bytes} p r t = text_with fills (subst (λ (x : Job). JobText own common x bytes) (job_one p book r at) t)

  pub call_on_job : {before after : List ℕ} {t : CallTold} → Called own common b place before after t → CallOnJob fill job before after t
  call_on_job (no_book s a e) = absurd (refused_none s js book)
  call_on_job (no_fills p n a e) = absurd (n fills.books)
  call_on_job (no_place p w n a e) = absurd (job_there book p at n)
  call_on_job (too_short p r s l a e) = short (own_text p r s) l e
  call_on_job (lines p r s l a e) = full (own_text p r s) l a e

-- the bytes written
pub record WroteJob (fill : ℕ → ℕ → Coefficient) (job : Job) (before after : List ℕ) (len : ℕ) : Type 0 where
  pub bytes : List ℕ
  pub text : TextOf fill job bytes
  pub long : len ≡ length bytes
  pub first : take len after ≡ bytes
  pub whole : after ≡ bytes ++ drop len before

pub wrote : {fill : ℕ → ℕ → Coefficient} {job : Job} {before after : List ℕ} {len : ℕ} → CallOnJob fill job before after (written len) → WroteJob fill job before after len
wrote (short s l e) = impossible cc
wrote {before = before} {after} {len} (full {bytes} s l a e) =
    let n : len ≡ length bytes = cc in
    record {
      bytes = bytes;
      text = s;
      long = n;
      first = ap (take len) a ∙ take_at bytes (drop (length bytes) before) len (sym n);
      whole = a ∙ ap (λ (k : ℕ). bytes ++ drop k before) (sym n);
    }
