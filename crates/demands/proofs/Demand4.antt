-- Demand 4 holds: the text of a book's jobs is cut into the lines of each, and those of a job are what a call for its place writes.
use Prim.Native.Nat.{ℕ, suc, ◌+◌, ◌≤◌}
use native.Mathlib.Omega.{arith}
use mathlib.Core.Path.{◌≡◌, refl, sym, ap, subst, ◌∙◌}
use mathlib.Core.Logic.{◌⊎◌, ⊎_elim}
use mathlib.Core.List.{List, [], ◌∷◌, ◌++◌, append-nil, append_assoc}
use lib.ListN.{length, take, drop}
use lib.Seq.{take_at, drop_at}
use Rattle.arithmetic.proofs.Cases.{impossible}
use Rattle.csv_text.specs.Nth.{Nth}
use Rattle.jobs.specs.declared.Job.{Job}
use Rattle.book.specs.JobBook.{Jobs, none, ◌and◌, count, JobBook}
use Rattle.book.specs.Values.{values}
use Rattle.book.proofs.Answers.{book_one, refused_none}
use Rattle.book.proofs.Keeping.{values_many}
use Rattle.printing.specs.refused_book.Text.{book_text}
use Rattle.fills.specs.Says.{Accepted}
use Rattle.debtarush.specs.Lines.{JobText}
use Rattle.debtarush.specs.CallTold.{refused}
use Rattle.debtarush.specs.Called.{Called, no_book, no_fills, no_place, too_short, lines}
use Rattle.debtarush.specs.BookText as printed
use Rattle.debtarush.proofs.BookTexts.{book_text_one, printed_one}
use Rattle.demands.specs.Pieces.{joined, Pieces}
use Rattle.demands.specs.Demand4.{Demand4}

-- ---- a text in the lines of its jobs

-- the texts of jobs, one for each
data Texts (own common : List ℕ) : List (List ℕ) → List Job → Type 0 where
  no_text : Texts own common [] []
  one_text : {piece : List ℕ} {job : Job} {pieces : List (List ℕ)} {jobs : List Job} → JobText own common job piece → Texts own common pieces jobs → Texts own common (piece ∷ pieces) (job ∷ jobs)

joined_last : (pieces : List (List ℕ)) (piece : List ℕ) → joined (pieces ++ piece ∷ []) ≡ joined pieces ++ piece
joined_last [] piece = append-nil piece
joined_last (p ∷ ps) piece = ap (λ (l : List ℕ). p ++ l) (joined_last ps piece) ∙ sym (append_assoc p (joined ps) piece)

module _ {own common : List ℕ} where
  texts_last : {pieces : List (List ℕ)} {jobs : List Job} {piece : List ℕ} {job : Job} → Texts own common pieces jobs → JobText own common job piece
      → Texts own common (pieces ++ piece ∷ []) (jobs ++ job ∷ [])
  texts_last no_text t = one_text t no_text
  texts_last (one_text s ts) t = one_text s (texts_last ts t)

  texts_many : {pieces : List (List ℕ)} {jobs : List Job} → Texts own common pieces jobs → length pieces ≡ length jobs
  texts_many no_text = refl
  texts_many (one_text t ts) = ap suc (texts_many ts)

-- the job whose lines a piece is
record LinesAt (own common : List ℕ) (jobs : List Job) (front : ℕ) (piece : List ℕ) : Type 0 where
  job : Job
  before : List Job
  behind : List Job
  are : jobs ≡ before ++ job ∷ behind
  as_many : length before ≡ front
  lines : JobText own common job piece

lines_at : {own common : List ℕ} {jobs : List Job} (front behind : List (List ℕ)) (piece : List ℕ) → Texts own common (front ++ piece ∷ behind) jobs → LinesAt own common jobs (length front) piece
lines_at [] behind piece (one_text {job = job} {jobs = jobs} t ts) = record { job = job; before = []; behind = jobs; are = refl; as_many = refl; lines = t }
lines_at (x ∷ front) behind piece (one_text {job = job} t ts) =
    let w = lines_at front behind piece ts in
    record { job = w.job; before = job ∷ w.before; behind = w.behind; are = ap (λ (l : List Job). job ∷ l) w.are; as_many = ap suc w.as_many; lines = w.lines }

-- the text of jobs, cut into the lines of each
record Cut (own common : List ℕ) (js : Jobs) (text : List ℕ) : Type 0 where
  pieces : List (List ℕ)
  texts : Texts own common pieces (values js)
  are : text ≡ joined pieces

cut : (own common : List ℕ) (js : Jobs) (text : List ℕ) → printed.JobsText own common js text → Cut own common js text
unfolding printed.JobsText
cut own common none text p = record { pieces = []; texts = no_text; are = p }
cut own common (js and j) text p =
    let w = cut own common js p.before p.earlier in
    record {
      pieces = w.pieces ++ p.last ∷ [];
      texts = texts_last w.texts p.lines;
      are = p.are ∙ ap (λ (l : List ℕ). l ++ p.last) w.are ∙ sym (joined_last w.pieces p.last);
    }

-- ---- the demand

module _ {own common b before after : List ℕ} {len : ℕ} (p : printed.BookPrinted own common b before after len) where
  first : take len after ≡ p.text
  first = ap (take len) p.whole ∙ take_at p.text (drop (length p.text) before) len (sym p.long)

  rest : drop len after ≡ drop len before
  rest = ap (drop len) p.whole ∙ drop_at p.text (drop (length p.text) before) len (sym p.long) ∙ ap (λ (n : ℕ). drop n before) (sym p.long)

  refused_line : {before' after' : List ℕ} {place n row : ℕ} → Called own common b place before' after' (refused n row) → (n ≤ 6) ⊎ (n ≡ 8) → take len after ≡ book_text n row
  refused_line {n = n} {row} (no_book {n = m} {row = at} s a e) l =
      let same : n ≡ m = cc in
      let line : row ≡ at = cc in
      first ∙ book_text_one p.is (printed.refused s refl) ∙ sym (ap (λ (k : ℕ). book_text k row) same ∙ ap (book_text m) line)
  refused_line {n = n} {row} (no_fills q m a e) l =
      let same : n ≡ 8 = cc in
      let line : row ≡ 0 = cc in
      first ∙ book_text_one p.is (printed.no_fills q m refl) ∙ sym (ap (λ (k : ℕ). book_text k row) same ∙ ap (book_text 8) line)
  refused_line {n = n} (no_place q w m a e) l = let z : n ≡ 10 = cc in absurd (⊎_elim (λ k. omega (arith, z, k)) (λ k. omega (arith, z, k)) l)
  refused_line {n = n} (too_short q r s k a e) l = let z : n ≡ 7 = cc in absurd (⊎_elim (λ k. omega (arith, z, k)) (λ k. omega (arith, z, k)) l)
  refused_line (lines q r s k a e) l = impossible cc

  text_of : {text : List ℕ} → printed.BookText own common b text → (js : Jobs) → JobBook b js → Accepted own common → printed.JobsText own common js text
  text_of (printed.refused s e) js book fills = absurd (refused_none s js book)
  text_of (printed.no_fills x n e) js book fills = absurd (n fills)
  text_of {text} (printed.jobs x a t) js book fills = subst (λ (ks : Jobs). printed.JobsText own common ks text) (book_one x book) t

  pieces : (js : Jobs) → JobBook b js → Accepted own common → Pieces own common b (count js) (take len after)
  pieces js book fills =
      let w = cut own common js p.text (text_of p.is js book fills) in
      record {
        pieces = w.pieces;
        as_many = texts_many w.texts ∙ values_many js;
        are = first ∙ w.are;
        each = λ place piece room at fits.
            let l = lines_at at.before at.behind piece (subst (λ (ps : List (List ℕ)). Texts own common ps (values js)) at.are w.texts) in
            let row : Nth (values js) place l.job = record { before = l.before; behind = l.behind; are = l.are; number = at.number ∙ ap (λ (n : ℕ). n + 1) (sym l.as_many) } in
            lines book row l.lines fits refl refl;
      }

pub demand4 : Demand4
demand4 = record {
  one = λ p q. let w = printed_one p q in (w.1, w.2);
  refused_line = λ p c l. refused_line p c l;
  pieces = pieces;
  rest = rest;
}
