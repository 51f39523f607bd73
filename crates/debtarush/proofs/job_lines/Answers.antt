-- A call for a place of a book: the book's refusal first, then that of the fill books, then that of the place; and the lines of the job that is there.
use Prim.Native.Nat.{ℕ, ◌-◌, ◌≤◌, ◌<◌}
use native.Mathlib.Omega.{arith}
use mathlib.Core.Path.{◌≡◌, refl, sym, ap, ◌∙◌}
use mathlib.Core.List.{List}
use mathlib.Core.Logic.{◌⊎◌, inl, inr}
use lib.ListN.{get_or}
use Rattle.std.specs.Prelude.{Result, Ok, Err}
use Rattle.std.specs.Result.{IsErrAnd}
use Rattle.jobs.specs.declared.Job.{Job}
use Rattle.earth.specs.coefficients.Lent.{fill_of}
use Rattle.block.specs.declared.Block.{Block}
use Rattle.block.specs.Block.{text_held}
use Rattle.buffer.specs.declared.TooShort.{TooShort}
use Rattle.buffer.specs.Copying as buffer
use Rattle.debtarush.specs.declared.CallRefusal.{CallRefusal}
use Rattle.debtarush.specs.declared.CallRefusal.TheVariants as refusal
use Rattle.debtarush.specs.CallTold.{CallTold, call_told}
use Rattle.debtarush.specs.Called.{Called, no_book, no_fills, no_place}
use Rattle.debtarush.specs.steps.LinesIn.{LinesIn}
use Rattle.debtarush.specs.steps.Tabled.{Tabled}
use Rattle.debtarush.proofs.Delivering.{as_told, call_delivered}
use Rattle.debtarush.proofs.InOrder.{fills_at}
use Rattle.debtarush.proofs.Locating.{Held, held, refusal as book_refusal, job_at, no_job_at, within}
use Rattle.debtarush.proofs.job_lines.Goals as goal
use Rattle.debtarush.proofs.job_lines.Goals.{then-place-eq0-via-then-place-eq0, then-place-eq0-via-else-place-eq0+then-n-place}

pub returns-in-Err : goal.returns-in-Err
returns-in-Err c = no_book (book_refusal c.in-Err.ensures) refl refl

pub returns-then-not-gather : goal.returns-then-not-gather
returns-then-not-gather c = no_fills (held c.in-Ok.ensures).book c.if-not-gather.ensures refl refl

pub returns-then-place-eq0 : goal.returns-then-place-eq0
returns-then-place-eq0 c =
    let h = held c.in-Ok.ensures in
    let none : (c.args.place ≡ 0) ⊎ (c.in-Ok.read.count < c.args.place) = elim c.then-place-eq0.branch [ then-place-eq0-via-then-place-eq0 w ↦ inl w.if-place-eq0.true | then-place-eq0-via-else-place-eq0+then-n-place w ↦ inr w.if-n-place.true ] in
    no_place h.book c.if-not-gather.ensures.accepted (no_job_at h c.args.place none) refl refl

-- what is told of the job that is there, by what writing its lines is
delivered : {own common s before after : List ℕ} {place n : ℕ} {jobs : List Job} {tables : List (List (List ℕ))} {b : Block} {t : CallTold} (d : Job) (e : List (List ℕ)) (w : buffer.CopyTold)
    → Held s n jobs → Tabled own common jobs n tables → 1 ≤ place → place ≤ n → LinesIn (fill_of (get_or tables (place - 1) e)) (get_or jobs (place - 1) d) b → t ≡ as_told w
    → buffer.Wrote (text_held b) before after w → Called own common s place before after t
delivered {place = place} d e w h f low high l =
    call_delivered h.book (job_at h place d low high) (fills_at f (place - 1) d e (omega arith) h.few (within h (omega arith))) l _ _ w

-- a buffer that is too short, by the way that `?` tells it
told_short : (r : Result ℕ CallRefusal) {w : Result ℕ TooShort} {short : TooShort} → w ≡ Err short → IsErrAnd r (λ e. e ≡ refusal.TooShort) → call_told r ≡ as_told (buffer.copy_told w)
unfolding buffer.copy_told
told_short (Ok n) e i = absurd i
told_short (Err why) e i = ap (λ (x : CallRefusal). call_told (Err x)) i ∙ sym (ap (λ (w : Result ℕ TooShort). as_told (buffer.copy_told w)) e)

pub returns-in_err-write_block : goal.returns-in_err-write_block
returns-in_err-write_block c =
    delivered _ _ _ (held c.in-Ok.ensures) c.if-not-gather.ensures (omega arith) (omega arith) c.lines_of.ensures
    (told_short _ c.in_err-write_block.was c.from_residual.ensures.1) c.write_block.ensures

pub returns : goal.returns
unfolding buffer.copy_told
returns c =
    delivered _ _ _ (held c.in-Ok.ensures) c.if-not-gather.ensures (omega arith) (omega arith) c.lines_of.ensures
    (sym (ap (λ (w : Result ℕ TooShort). as_told (buffer.copy_told w)) c.in_ok-write_block.was)) c.write_block.ensures
