-- A book has one text, and leaves one state of the buffer that it is printed into.
use Prim.Native.Nat.{ℕ, ◌≤◌}
use native.Mathlib.Omega.{arith}
use mathlib.Core.Path.{◌≡◌, refl, sym, ap, subst, ◌∙◌}
use mathlib.Core.List.{List, [], ◌++◌}
use lib.ListN.{length, drop, length-append}
use Rattle.book.specs.JobBook.{Jobs, none, ◌and◌}
use Rattle.book.specs.Says as book
use Rattle.book.proofs.Answers.{book_says_one, book_one, refused_none}
use Rattle.printing.specs.refused_book.Text.{book_text}
use Rattle.debtarush.specs.BookText.{JobsText, BookText, refused, no_fills, jobs, BookPrinted}
use Rattle.debtarush.proofs.Texts.{job_text_one}

pub jobs_text_one : (own common : List ℕ) (js : Jobs) (s t : List ℕ) → JobsText own common js s → JobsText own common js t → s ≡ t
unfolding JobsText
jobs_text_one own common none s t p q = p ∙ sym q
jobs_text_one own common (js and j) s t p q =
    let before = jobs_text_one own common js p.before q.before p.earlier q.earlier in
    let last = job_text_one refl p.lines q.lines in
    p.are ∙ ap (λ (l : List ℕ). l ++ p.last) before ∙ ap (λ (l : List ℕ). q.before ++ l) last ∙ sym q.are

-- the line of a book that is refused
refusal_text : book.BookTold → List ℕ
refusal_text (book.given n js) = []
refusal_text (book.refused n row) = book_text n row

module _ {own common b : List ℕ} where
  pub book_text_one : {s t : List ℕ} → BookText own common b s → BookText own common b t → s ≡ t
  unfolding refusal_text
  book_text_one (refused p e) (refused q f) = e ∙ ap refusal_text (book_says_one p q) ∙ sym f
  book_text_one (refused p e) (no_fills q w f) = absurd (refused_none p _ q)
  book_text_one (refused p e) (jobs q w u) = absurd (refused_none p _ q)
  book_text_one (no_fills p v e) (refused q f) = absurd (refused_none q _ p)
  book_text_one (no_fills p v e) (no_fills q w f) = e ∙ sym f
  book_text_one (no_fills p v e) (jobs q w u) = absurd (v w)
  book_text_one (jobs p v l) (refused q f) = absurd (refused_none q _ p)
  book_text_one (jobs p v l) (no_fills q w f) = absurd (w v)
  book_text_one {s} {t} (jobs {js} p v l) (jobs q w u) = jobs_text_one own common js s t l (subst (λ (ks : Jobs). JobsText own common ks t) (book_one q p) u)

  pub printed_one : {before x y : List ℕ} {m n : ℕ} (p : BookPrinted own common b before x m) (q : BookPrinted own common b before y n) → (p.text ≡ q.text) × (x ≡ y) × (m ≡ n)
  printed_one {before} p q =
      let e = book_text_one p.is q.is in
      (e, p.whole ∙ ap (λ (t : List ℕ). t ++ drop (length t) before) e ∙ sym q.whole, p.long ∙ ap length e ∙ sym q.long)

-- the text of a book does not pass the buffer's end
pub printed_within : {own common b before after : List ℕ} {len : ℕ} → BookPrinted own common b before after len → len ≤ length after
printed_within {before = before} p = omega (arith, p.long, ap length p.whole, length-append p.text (drop (length p.text) before))
