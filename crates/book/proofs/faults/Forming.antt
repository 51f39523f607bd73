-- The form alone of a row, from where it starts: the first row at the text's start, and no other at its end. What is told of it is one thing.
use Prim.Native.Nat.{ℕ, ◌≤◌}
use native.Mathlib.Omega.{arith}
use mathlib.Core.Path.{◌≡◌, refl, sym, ap, subst, ◌∙◌}
use mathlib.Core.List.{List, [], ◌∷◌}
use lib.ListN.{length, length-append}
use Rattle.csv_text.specs.Nth.{Nth}
use Rattle.csv_text.specs.rfc4180.Rfc4180.{CR, LF, Cell, File, last, closed, next, Readable}
use Rattle.csv_text.specs.places.Places.{StartsAt}
use Rattle.csv_text.proofs.notes.Answers.{nth_one}
use Rattle.csv_text.proofs.notes.Reached.{reached_start}
use Rattle.csv_text.proofs.places.Starts.{Started, start_past}
use Rattle.csv_text.proofs.rfc4180.Unique.{file_unique}
use Rattle.rows.specs.faults.Faults.{RowSays}
use Rattle.rows.specs.faults.Place.{FaultAt}
use Rattle.rows.specs.declared.faults.RowFault.{RowFault}
use Rattle.std.specs.Prelude.{Option, None}
use Rattle.rows.proofs.faults.Answers.{row_one}
use Rattle.book.specs.faults.FormAlone.{FormLies, of_row, no_row, no_text}

-- the first row is there in every text
pub form_first : {s : List ℕ} {n : ℕ} {f : Option RowFault} → Readable s → n ≡ 1 → FaultAt s 0 f → FormLies s n f
form_first q e a =
    let r = reached_start q in
    of_row r.reading (record { before = []; behind = r.behind; are = r.are; number = e }) (a _ _ r.here)

-- another is there if it starts before the end
pub form_there : {s : List ℕ} {n at : ℕ} {f : Option RowFault} → Started s n at → FaultAt s at f → FormLies s n f
form_there w a = of_row w.reading w.nth (a _ _ w.here.file)

-- the empty text has one row
one_row : {s : List ℕ} {css : List (List Cell)} → File s css → s ≡ [] → length css ≡ 1
one_row (last p) e = refl
one_row (closed p) e = refl
one_row (next {s = s} {t = t} p m q) e = absurd (omega (arith, ap length e, length-append s (CR ∷ LF ∷ t)))

-- and is not there if it starts at the end
pub form_missing : {s : List ℕ} {n at : ℕ} {f : Option RowFault} → Readable s → (n ≡ 1 → ⊥) → StartsAt s n at → length s ≤ at → f ≡ None → FormLies s n f
form_missing q e h l z =
    no_row q.reading
    (λ cs a.
    let number = a.number in
    let one = one_row q.reading (start_past q.reading a h l) in
    e (omega (arith, ap length a.are, length-append a.before (cs ∷ a.behind)))) z

pub form_lies_one : {s : List ℕ} {n : ℕ} {f g : Option RowFault} → FormLies s n f → FormLies s n g → f ≡ g
form_lies_one {n = n} {g = g} (of_row q a p) (of_row {cs = cs} r b u) =
    row_one p (subst (λ (l : List Cell). RowSays l g) (sym (nth_one a (subst (λ (l : List (List Cell)). Nth l n cs) (file_unique r q refl) b))) u)
form_lies_one {n = n} (of_row {cs = cs} q a p) (no_row r m e) = absurd (m cs (subst (λ (l : List (List Cell)). Nth l n cs) (file_unique q r refl) a))
form_lies_one (of_row q a p) (no_text m e) = absurd (m (record { rows = _; reading = q }))
form_lies_one {n = n} (no_row q m d) (of_row {cs = cs} r b u) = absurd (m cs (subst (λ (l : List (List Cell)). Nth l n cs) (file_unique r q refl) b))
form_lies_one (no_row q m d) (no_row r k e) = d ∙ sym e
form_lies_one (no_row q m d) (no_text k e) = absurd (k (record { rows = _; reading = q }))
form_lies_one (no_text m d) (of_row r b u) = absurd (m (record { rows = _; reading = r }))
form_lies_one (no_text m d) (no_row r k e) = absurd (m (record { rows = _; reading = r }))
form_lies_one (no_text m d) (no_text k e) = d ∙ sym e
