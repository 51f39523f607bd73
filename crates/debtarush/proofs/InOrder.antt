-- The lines of a book's jobs in book order: those of the first so many, then those of all, which are the book's text; and the one line of a refused
-- book, or of refused fill books.
use Prim.Native.Nat.{ℕ, zero, suc, ◌+◌, ◌*◌, ◌≤◌, ◌<◌}
use native.Mathlib.Omega.{arith}
use native.Mathlib.Numerals.{add-one}
use mathlib.Core.Path.{◌≡◌, refl, ap, subst, ◌∙◌}
use mathlib.Core.List.{List, [], ◌∷◌, ◌++◌, append_assoc}
use lib.ListN.{length, get_or}
use lib.Seq.{get_or_at}
use Rattle.jobs.specs.declared.Job.{Job}
use Rattle.jobs.specs.Blank.{no_job}
use Rattle.earth.specs.coefficients.Coefficients.{Coefficient}
use Rattle.earth.specs.coefficients.Lent.{fill_of}
use Rattle.fills.specs.Says.{Accepted, FillFor}
use Rattle.block.specs.declared.Block.{Block}
use Rattle.block.specs.Block.{block_of, text_held}
use Rattle.block.proofs.Pages.{block_held}
use Rattle.printing.specs.refused_book.Text.{book_text}
use Rattle.book.specs.Says as book
use Rattle.book.specs.JobBook.{Jobs, none, ◌and◌, count, JobBook}
use Rattle.book.specs.Values.{job_value, values}
use Rattle.book.proofs.Keeping.{values_many}
use Rattle.debtarush.specs.Lines.{JobText}
use Rattle.debtarush.specs.steps.LinesIn.{LinesIn}
use Rattle.debtarush.specs.steps.Tabled.{Tabled}
use Rattle.debtarush.specs.steps.Behind.{Behind}
use Rattle.debtarush.specs.BookText.{OneMore, JobsText, BookText, refused, no_fills, jobs, BookPrinted}
use Rattle.debtarush.proofs.Delivering.{lines_held, text_filled}
use Rattle.debtarush.proofs.Joining.{Starts, starts_same, starts_none, starts_first, starts_more}
use Rattle.debtarush.proofs.Locating.{Held}

-- the lines of the first so many of the jobs that are held
unfoldable pub FirstText : (own common : List ℕ) → List Job → ℕ → List ℕ → Type 0
FirstText own common held zero text = text ≡ []
FirstText own common held (suc i) text = OneMore own common (FirstText own common held i) (get_or held i no_job) text

-- they stand at the start of a buffer, and no job's took more than a block
pub record SoFar (own common : List ℕ) (held : List Job) (i : ℕ) (before after : List ℕ) (end : ℕ) : Type 0 where
  pub text : List ℕ
  pub lines : FirstText own common held i text
  pub starts : Starts text before after end
  pub short : end ≤ 2048 * i
  pub fits : end ≤ length before

pub so_far_none : {own common : List ℕ} (held : List Job) (before : List ℕ) → SoFar own common held 0 before before 0
unfolding FirstText
so_far_none held before = record { text = []; lines = refl; starts = starts_none before; short = omega arith; fits = omega arith }

-- what is there is the same, whatever would be read where there is nothing
pub same_there : {A : Type 0} (held : List A) (i : ℕ) (d e : A) → i < length held → get_or held i d ≡ get_or held i e
same_there [] i d e h = absurd (omega arith)
same_there (j ∷ js) zero d e h = refl
same_there (j ∷ js) (suc i) d e h = same_there js i d e (omega arith)

-- what is held for a job, as it is read
pub fills_at : {own common : List ℕ} {held : List Job} {n : ℕ} {tables : List (List (List ℕ))} → Tabled own common held n tables
    → (i : ℕ) (d : Job) (e : List (List ℕ)) → i < n → n ≤ 64 → i < length held → FillFor own common (get_or held i d).key.member (fill_of (get_or tables i e))
fills_at {own} {common} {held} {tables = tables} all i d e k few h =
    let long = all.long in
    subst (λ (j : Job). FillFor own common j.key.member (fill_of (get_or tables i e))) (same_there held i no_job d h)
    (subst (λ (table : List (List ℕ)). FillFor own common (get_or held i no_job).key.member (fill_of table)) (same_there tables i [] e (omega arith)) (all.each i k))

-- all that a book has
all_jobs : (own common : List ℕ) (js : Jobs) (behind : List Job) (text : List ℕ) → FirstText own common (values js ++ behind) (count js) text → JobsText own common js text
unfolding FirstText JobsText
all_jobs own common none behind text p = p
all_jobs own common (js and j) behind text p =
    let one = append_assoc (values js) (job_value j ∷ []) behind in
    let there = ap (λ (l : List Job). get_or l (count js) no_job) one ∙ get_or_at (values js) (job_value j) behind no_job (count js) (values_many js) in
    record {
      before = p.before;
      last = p.last;
      earlier = all_jobs own common js (job_value j ∷ behind) p.before (subst (λ (l : List Job). FirstText own common l (count js) p.before) one p.earlier);
      lines = subst (λ (k : Job). JobText own common k p.last) there p.lines;
      are = p.are;
    }

module _ {own common : List ℕ} where
  pub so_far_more : {fill : ℕ → ℕ → Coefficient} {held : List Job} {i : ℕ} {before middle after : List ℕ} {at end : ℕ} {block : Block} (d : Job) → i < length held
      → SoFar own common held i before middle at → at + 2048 ≤ length middle → FillFor own common (get_or held i d).key.member fill → LinesIn fill (get_or held i d) block
      → Behind at (text_held block) middle after end → SoFar own common held (i + 1) before after end
  unfolding FirstText
  so_far_more {held = held} {i} {before} {middle} {after} {at} {end} {block} d h s room f l b =
      let b' = subst (λ (t : List ℕ). Behind at t middle after end) (lines_held l) b in
      let last = subst (λ (j : Job). JobText own common j l.bytes) (same_there held i d no_job h) (text_filled f l) in
      record {
        text = s.text ++ l.bytes;
        lines = rw add-one (record { before = s.text; last = l.bytes; earlier = s.lines; lines = last; are = refl });
        starts = starts_more s.starts b';
        short = omega (arith, b'.ends, s.short, l.fits);
        fits = omega (arith, b'.ends, s.fits, l.fits, starts_same s.starts s.fits);
      }

  pub printed_jobs : {s before after : List ℕ} {n i end : ℕ} {held : List Job} → Held s n held → Accepted own common → i ≤ n → n ≤ i → SoFar own common held i before after end
      → BookPrinted own common s before after end
  printed_jobs {n = n} {i} {end} {held} h a low high p =
      let all : i ≡ count h.written = (let m = h.many in let v = values_many h.written in omega arith) in
      let first = subst (λ (k : ℕ). FirstText own common held k p.text) all p.lines in
      record {
        text = p.text;
        is = jobs h.book a (all_jobs own common h.written _ p.text (subst (λ (l : List Job). FirstText own common l (count h.written) p.text) h.are first));
        long = p.starts.long;
        fits = omega (arith, p.fits, p.starts.long);
        whole = p.starts.whole;
      }

  -- one line that is the book's text, behind nothing
  printed_line : {s before after line : List ℕ} {end : ℕ} {block : Block} → BookText own common s line → block ≡ block_of line → length line ≤ 2048
      → Behind 0 (text_held block) before after end → 131072 ≤ length before → BookPrinted own common s before after end
  printed_line {before = before} {after} {line} {end} is held short b room =
      let p = starts_first (subst (λ (t : List ℕ). Behind 0 t before after end) (ap text_held held ∙ block_held line short) b) in
      record { text = line; is = is; long = p.long; fits = omega arith; whole = p.whole }

  -- that of a refused book
  pub printed_refusal : {s before after : List ℕ} {m n row end : ℕ} {block : Block} → book.BookSays s (book.refused n row) → m ≡ n → block ≡ block_of (book_text m row)
      → length (book_text m row) ≤ 2048 → Behind 0 (text_held block) before after end → 131072 ≤ length before → BookPrinted own common s before after end
  printed_refusal {row = row} says e held short b room = printed_line (refused says (ap (λ (k : ℕ). book_text k row) e)) held short b room

  -- and that of refused fill books
  pub printed_no_fills : {s before after : List ℕ} {js : Jobs} {end : ℕ} {block : Block} → JobBook s js → (Accepted own common → ⊥) → block ≡ block_of (book_text 8 0)
      → length (book_text 8 0) ≤ 2048 → Behind 0 (text_held block) before after end → 131072 ≤ length before → BookPrinted own common s before after end
  printed_no_fills book n held short b room = printed_line (no_fills book n refl) held short b room
