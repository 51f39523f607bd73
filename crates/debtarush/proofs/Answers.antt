-- A call has one answer, and leaves one state of the buffer.
use Prim.Native.Nat.{ℕ}
use native.Mathlib.Omega.{arith}
use mathlib.Core.Path.{◌≡◌, sym, ap, ◌∙◌}
use mathlib.Core.List.{List, ◌++◌}
use lib.ListN.{length, drop}
use Rattle.book.specs.Says as book
use Rattle.book.proofs.Answers.{book_says_one, refused_none}
use Rattle.debtarush.proofs.Locating.{job_one, job_there}
use Rattle.debtarush.proofs.Texts.{job_text_one}
use Rattle.debtarush.specs.CallTold.{CallTold, written, refused}
use Rattle.debtarush.specs.Called.{Called, no_book, no_fills, no_place, too_short, lines}

-- a book's refusal as a call's
call_refusal : book.BookTold → CallTold
call_refusal (book.given n js) = written n
call_refusal (book.refused n row) = refused n row

module _ {own common b : List ℕ} {place : ℕ} {before : List ℕ} where
  pub called_one : {x y : List ℕ} {t u : CallTold} → Called own common b place before x t → Called own common b place before y u → (x ≡ y) × (t ≡ u)
  unfolding call_refusal
  called_one (no_book p a e) (no_book q c f) = (a ∙ sym c, e ∙ ap call_refusal (book_says_one p q) ∙ sym f)
  called_one (no_book p a e) (no_fills q w c f) = absurd (refused_none p _ q)
  called_one (no_book p a e) (no_place q w m c f) = absurd (refused_none p _ q)
  called_one (no_book p a e) (too_short q r s l c f) = absurd (refused_none p _ q)
  called_one (no_book p a e) (lines q r s l c f) = absurd (refused_none p _ q)
  called_one (no_fills p v a e) (no_book q c f) = absurd (refused_none q _ p)
  called_one (no_fills p v a e) (no_fills q w c f) = (a ∙ sym c, e ∙ sym f)
  called_one (no_fills p v a e) (no_place q w m c f) = absurd (v w)
  called_one (no_fills p v a e) (too_short q r s l c f) = absurd (v s.fills.books)
  called_one (no_fills p v a e) (lines q r s l c f) = absurd (v s.fills.books)
  called_one (no_place p v m a e) (no_book q c f) = absurd (refused_none q _ p)
  called_one (no_place p v m a e) (no_fills q w c f) = absurd (w v)
  called_one (no_place p v m a e) (no_place q w n c f) = (a ∙ sym c, e ∙ sym f)
  called_one (no_place p v m a e) (too_short q r s l c f) = absurd (job_there q p r m)
  called_one (no_place p v m a e) (lines q r s l c f) = absurd (job_there q p r m)
  called_one (too_short p r s l a e) (no_book q c f) = absurd (refused_none q _ p)
  called_one (too_short p r s l a e) (no_fills q w c f) = absurd (w s.fills.books)
  called_one (too_short p r s l a e) (no_place q w m c f) = absurd (job_there p q r m)
  called_one (too_short p r s l a e) (too_short q u v k c f) = (a ∙ sym c, e ∙ sym f)
  called_one (too_short p r s l a e) (lines q u v k c f) = let z = ap length (job_text_one (job_one p q r u) s v) in absurd (omega arith)
  called_one (lines p r s l a e) (no_book q c f) = absurd (refused_none q _ p)
  called_one (lines p r s l a e) (no_fills q w c f) = absurd (w s.fills.books)
  called_one (lines p r s l a e) (no_place q w m c f) = absurd (job_there p q r m)
  called_one (lines p r s l a e) (too_short q u v k c f) = let z = ap length (job_text_one (job_one p q r u) s v) in absurd (omega arith)
  called_one (lines p r s l a e) (lines q u v k c f) =
      let z = job_text_one (job_one p q r u) s v in
      (a ∙ ap (λ (t : List ℕ). t ++ drop (length t) before) z ∙ sym c, e ∙ ap (λ (t : List ℕ). written (length t)) z ∙ sym f)
