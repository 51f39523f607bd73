-- The lines of the job at a place of a book, written to a buffer.
use Prim.Native.Nat.{ℕ}
use mathlib.Core.Path.{◌≡◌, sym, ap, subst, ◌∙◌}
use mathlib.Core.List.{List}
use Rattle.jobs.specs.declared.Job.{Job}
use Rattle.earth.specs.coefficients.Coefficients.{Coefficient}
use Rattle.block.specs.declared.Block.{Block}
use Rattle.block.specs.Block as block
use Rattle.block.proofs.Pages.{block_held}
use Rattle.buffer.specs.Copying as buffer
use Rattle.fills.specs.Says.{FillFor}
use Rattle.debtarush.specs.Lines.{JobText}
use Rattle.debtarush.specs.CallTold.{CallTold, written, refused}
use Rattle.debtarush.specs.steps.LinesIn.{LinesIn}
use Rattle.book.specs.JobBook.{Jobs, JobBook}
use Rattle.book.specs.Values.{values}
use Rattle.csv_text.specs.Nth.{Nth}
use Rattle.debtarush.specs.Called.{Called, too_short, lines}

-- what is told of writing to the buffer, with the same length, or the same number and row
abbrev pub as_told : buffer.CopyTold → CallTold
as_told (buffer.wrote n) = written n
as_told (buffer.refused number row) = refused number row

-- a block that a job's lines fill has their bytes for its text
pub lines_held : {fill : ℕ → ℕ → Coefficient} {job : Job} {b : Block} (l : LinesIn fill job b) → block.text_held b ≡ l.bytes
lines_held l = ap block.text_held l.held ∙ block_held l.bytes l.fits

-- and these are the job's with two fill books that hold just that for its member
pub text_filled : {own common : List ℕ} {fill : ℕ → ℕ → Coefficient} {job : Job} {b : Block} → FillFor own common job.key.member fill → (l : LinesIn fill job b) → JobText own common job l.bytes
text_filled {fill = fill} f l = record { fill = fill; fills = f; text = l.lines }

module _ {own common : List ℕ} {fill : ℕ → ℕ → Coefficient} {s : List ℕ} {place : ℕ} {js : Jobs} {job : Job} {b : Block} (book : JobBook s js) (at : Nth (values js) place job)
    (fills : FillFor own common job.key.member fill) (l : LinesIn fill job b) (before after : List ℕ) where
  call_as : (w : buffer.CopyTold) → buffer.Wrote l.bytes before after w → Called own common s place before after (as_told w)
  unfolding buffer.Wrote
  call_as (buffer.wrote n) v = lines book at (text_filled fills l) v.0 v.2 (ap written v.1)
  call_as (buffer.refused number row) v = too_short book at (text_filled fills l) v.0 v.3 (cc (v.1, v.2))

  -- what the call is told is what writing to the buffer is
  pub call_delivered : (w : buffer.CopyTold) {t : CallTold} → t ≡ as_told w → buffer.Wrote (block.text_held b) before after w → Called own common s place before after t
  call_delivered w e v =
      subst (Called own common s place before after) (sym e) (call_as w (subst (λ (bytes : List ℕ). buffer.Wrote bytes before after w) (lines_held l) v))
