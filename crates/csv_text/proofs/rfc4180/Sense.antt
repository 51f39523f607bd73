-- What the two choices of `Rfc4180` come to: they refuse no text of the ABNF, and the readings of the smallest texts are the customer's.
use Prim.Native.Nat.{ℕ}
use mathlib.Core.Path.{◌≡◌, refl, sym}
use mathlib.Core.List.{List, [], ◌∷◌, ◌++◌}
use Rattle.csv_text.specs.rfc4180.Rfc4180.{CR, LF, Cell, none, plain, Record, only, File, last, closed, next, Readable}
use Rattle.csv_text.proofs.Lists.{nil_cons}
use Rattle.csv_text.proofs.rfc4180.Unique.{file_unique}
use Rattle.csv_text.proofs.rfc4180.First.{cell, join}

-- file = record *(CRLF record) [CRLF], as the ABNF has it, with no choice made
pub data Abnf : List ℕ → Type 0 where
  abnf_last : {s : List ℕ} {r : List Cell} → Record s r → Abnf s
  abnf_closed : {s : List ℕ} {r : List Cell} → Record s r → Abnf (s ++ CR ∷ LF ∷ [])
  abnf_next : {s t : List ℕ} {r : List Cell} → Record s r → Abnf t → Abnf (s ++ CR ∷ LF ∷ t)

pub all_read : {s : List ℕ} → Abnf s → Readable s
all_read (abnf_last p) = record { rows = _; reading = last p }
all_read (abnf_closed p) = record { rows = _; reading = closed p }
all_read (abnf_next {t} p a) = join t p (all_read a)

file_abnf : {s : List ℕ} {rs : List (List Cell)} → File s rs → Abnf s
file_abnf (last p) = abnf_last p
file_abnf (closed p) = abnf_closed p
file_abnf (next p n q) = abnf_next p (file_abnf q)

pub no_more_read : {s : List ℕ} → Readable s → Abnf s
no_more_read q = file_abnf q.reading

abbrev nothing_cell : Cell
nothing_cell = cell [] []

nothing_row : Record [] (nothing_cell ∷ [])
nothing_row = only {f = nothing_cell} (plain none)

-- the empty text is one row with one empty field, and so is a CRLF alone; two are two rows
pub empty_text : (rs : List (List Cell)) → File [] rs → rs ≡ (nothing_cell ∷ []) ∷ []
empty_text rs q = file_unique q (last nothing_row) refl

pub crlf_text : (rs : List (List Cell)) → File (CR ∷ LF ∷ []) rs → rs ≡ (nothing_cell ∷ []) ∷ []
crlf_text rs q = file_unique q (closed nothing_row) refl

pub two_crlf : (rs : List (List Cell)) → File (CR ∷ LF ∷ CR ∷ LF ∷ []) rs → rs ≡ (nothing_cell ∷ []) ∷ (nothing_cell ∷ []) ∷ []
two_crlf rs q = file_unique q (next nothing_row (λ e. nil_cons (sym e)) (closed nothing_row)) refl
