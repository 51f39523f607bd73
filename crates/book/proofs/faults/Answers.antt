-- Where the refusal of a book lies is one thing, and its number and row are those that the book's reading tells.
use Prim.Native.Nat.{ℕ, ◌+◌, ◌≤◌}
use native.Mathlib.Omega.{arith}
use mathlib.Core.Path.{◌≡◌, refl, sym, ap, subst, ◌∙◌}
use mathlib.Core.List.{List, ◌∷◌, ◌++◌, append_assoc}
use lib.ListN.{length, length-append}
use Rattle.arithmetic.proofs.Cases.{impossible}
use Rattle.csv_text.specs.Nth.{Nth}
use Rattle.csv_text.specs.rfc4180.Rfc4180.{Cell, File}
use Rattle.csv_text.proofs.Lists.{level}
use Rattle.csv_text.proofs.rfc4180.Unique.{file_unique}
use Rattle.csv_text.proofs.strays.Answers.{fault_unreadable, text_one}
use Rattle.kinds.specs.declared.Role.TheVariants.{Base}
use Rattle.rows.specs.Form.{BookRow, Form}
use Rattle.rows.specs.faults.Faults.{RowSays}
use Rattle.rows.specs.declared.faults.RowFault.{RowFault}
use Rattle.rows.proofs.Forms.{form_one}
use Rattle.rows.proofs.faults.Answers.{row_one, fault_formless}
use Rattle.jobs.specs.misplaced.Rules.{FirstRule}
use Rattle.jobs.specs.declared.misplaced.Misplaced.{Misplaced}
use Rattle.jobs.proofs.misplaced.Ruling.{first_rule_one}
use Rattle.book.specs.JobBook.{IsA, SameKey, good, Jobs, river_rows, job_rows, rows_of, count, Used, last, before, Different, new_key, JobBook}
use Rattle.book.specs.Beginning.{Shaped, one_more, Begins}
use Rattle.book.specs.Says as says
use Rattle.book.specs.Says.{BookSays, refused, given}
use Rattle.book.specs.Values.{values}
use Rattle.book.specs.faults.Rules as rules
use Rattle.book.specs.faults.Rules.{Rule, UsedAt}
use Rattle.book.specs.faults.Faults.{Behind, RowsLie, row, misplaced, unfinished, too_many, used_key, BookLies, sound, too_long, text, rows}
use Rattle.book.specs.faults.Told.{fault_number, fault_row}
use Rattle.book.specs.declared.faults.BookFault.{BookFault}
use Rattle.book.specs.declared.faults.BookFault.TheVariants as fault
use Rattle.std.specs.Prelude.{Option, Some, None}
use Rattle.book.proofs.Answers.{begins_one, book_says_one}
use Rattle.book.proofs.Steps.{whole_shaped}
use Rattle.book.proofs.Stopping.{base_placed, used_twice}
use Rattle.book.proofs.faults.Ruling.{rule_misplaced, unruled_loaded}

-- a key that was used at a row was used
used_at : {r : BookRow} {js : Jobs} {m : ℕ} → UsedAt r js m → Used r js
used_at (rules.last s e) = last s
used_at (rules.before u) = before (used_at u)

-- and that row is a B row with the key, among the rows of the jobs
pub record EarlierBase (r : BookRow) (rs : List BookRow) (m : ℕ) : Type 0 where
  pub earlier : BookRow
  pub at : Nth rs m earlier
  pub is_base : IsA Base earlier
  pub same : SameKey earlier r

nth_more : {rs : List BookRow} {m : ℕ} {x : BookRow} (ts : List BookRow) → Nth rs m x → Nth (rs ++ ts) m x
nth_more {x = x} ts a =
    record { before = a.before; behind = a.behind ++ ts; are = ap (λ (l : List BookRow). l ++ ts) a.are ∙ append_assoc a.before (x ∷ a.behind) ts; number = a.number }

pub used_row : {r : BookRow} {js : Jobs} {m : ℕ} → UsedAt r js m → Shaped js → EarlierBase r (rows_of js) m
used_row (rules.last s e) (one_more {js = js} w (good {b = b} {v = v} {ls = ls} k i l n)) =
    record { earlier = b; at = record { before = rows_of js; behind = river_rows v ++ ls; are = refl; number = e }; is_base = k; same = s }
used_row (rules.before u) (one_more {j = j} w g) =
    let x = used_row u (whole_shaped w).0 in
    record { earlier = x.earlier; at = nth_more (job_rows j) x.at; is_base = x.is_base; same = x.same }

-- and at one row alone, where all keys are different
rebased : {r b : BookRow} {js : Jobs} → b.keyed.key ≡ r.keyed.key → Used r js → Used b js
rebased e (last s) = last (record { same = s.same ∙ sym e })
rebased e (before u) = before (rebased e u)

used_at_one : {r : BookRow} {js : Jobs} {m n : ℕ} → Different js → UsedAt r js m → UsedAt r js n → m ≡ n
used_at_one d (rules.last s e) (rules.last t f) = e ∙ sym f
used_at_one (new_key d u) (rules.last s e) (rules.before v) = absurd (u (rebased s.same (used_at v)))
used_at_one (new_key d u) (rules.before v) (rules.last s e) = absurd (u (rebased s.same (used_at v)))
used_at_one (new_key d u) (rules.before v) (rules.before w) = used_at_one d v w

module _ {s : List ℕ} {css : List (List Cell)} (size : length s ≤ 65536) (file : File s css) where
  first_bad : {n why : ℕ} (b : Behind css n) → says.Bad b.typed b.row why → BookSays s (refused why n)
  first_bad b x = says.bad_row size file (record { row = b.row; at = b.at; typed = b.typed; jobs = b.jobs; begins = b.begins; bad = x }) refl

  -- the number and row
  rows_said : {f : Option BookFault} → RowsLie css f → BookSays s (refused (fault_number f) (fault_row f))
  rows_said (row b r) = first_bad b (says.formless (fault_formless r (λ e. impossible cc)))
  rows_said (misplaced b f p) = first_bad b (says.misplaced f (rule_misplaced b.begins.placed p.holds))
  rows_said (unfinished u e) = says.unfinished size file u (ap (refused 4) e)
  rows_said (too_many b m) =
      let k = b.behind in
      first_bad k (says.surplus b.form (base_placed k.begins.placed b.is_base (unruled_loaded k.jobs b.is_base b.placed)) (omega arith))
  rows_said (used_key b m u) =
      let k = b.behind in
      first_bad k
      (says.reused b.form (base_placed k.begins.placed b.is_base (unruled_loaded k.jobs b.is_base b.placed)) (omega arith) (used_twice (used_at u)))

  rows_faulty : {f : Option BookFault} → RowsLie css f → f ≡ None → ⊥
  rows_faulty (row b r) e = impossible cc
  rows_faulty (misplaced b f p) e = impossible cc
  rows_faulty (unfinished u z) e = impossible cc
  rows_faulty (too_many b m) e = impossible cc
  rows_faulty (used_key b m u) e = impossible cc

-- a fault is told with the refusal that the book is told
pub lies_said : {s : List ℕ} {f : Option BookFault} → BookLies s f → (f ≡ None → ⊥) → BookSays s (refused (fault_number f) (fault_row f))
lies_said (sound b) n = absurd (n refl)
lies_said (too_long h) n = says.too_long h refl
lies_said (text h t) n = says.not_csv h (fault_unreadable t (λ e. impossible cc)) refl
lies_said (rows h q l) n = rows_said h q l

-- and none where the book is given
pub record Given (s : List ℕ) : Type 0 where
  pub jobs : Jobs
  pub book : JobBook s jobs
  pub told : BookSays s (given (count jobs) (values jobs))

pub sound_said : {s : List ℕ} {f : Option BookFault} → BookLies s f → f ≡ None → Given s
sound_said (sound {js} b) e = record { jobs = js; book = b; told = says.book b refl }
sound_said (too_long h) e = impossible cc
sound_said (text h t) e = impossible cc
sound_said (rows h q l) e = absurd (rows_faulty h q l e)

-- a row's number has one row, and behind the rows before it stand the same jobs
module _ {css : List (List Cell)} {n m : ℕ} (b : Behind css n) (c : Behind css m) (e : n ≡ m) where
  same_row : (b.at.before ≡ c.at.before) × (b.row ≡ c.row)
  same_row =
      let x = b.at.number in
      let y = c.at.number in
      level b.at.before c.at.before b.at.behind c.at.behind b.row c.row (sym b.at.are ∙ c.at.are) (omega arith)

  same_jobs : b.jobs ≡ c.jobs
  same_jobs = begins_one b.begins (subst (λ (l : List (List Cell)). Begins l c.typed c.jobs) (sym same_row.0) c.begins)

  same_form : {r q : BookRow} → Form b.row r → Form c.row q → r ≡ q
  same_form {q = q} f g = form_one f (subst (λ (l : List Cell). Form l q) (sym same_row.1) g)

  same_fault : {f g : Option RowFault} → RowSays b.row f → RowSays c.row g → f ≡ g
  same_fault {g = g} p q = row_one p (subst (λ (l : List Cell). RowSays l g) (sym same_row.1) q)

  same_rule : {r q : BookRow} {v w : Misplaced} → Form b.row r → Form c.row q → FirstRule (Rule b.jobs r) v → FirstRule (Rule c.jobs q) w → v ≡ w
  same_rule {r} {q} {v} {w} f g x y =
      first_rule_one x
      (subst (λ (l : BookRow). FirstRule (Rule b.jobs l) w) (sym (same_form f g)) (subst (λ (l : Jobs). FirstRule (Rule l q) w) (sym same_jobs) y))

  same_use : {r q : BookRow} {i j : ℕ} → Form b.row r → Form c.row q → UsedAt r b.jobs i → UsedAt q c.jobs j → i ≡ j
  same_use {r} {q} {i} {j} f g x y =
      used_at_one b.begins.different x
      (subst (λ (l : BookRow). UsedAt l b.jobs j) (sym (same_form f g)) (subst (λ (l : Jobs). UsedAt q l j) (sym same_jobs) y))

-- no row is one past the last
no_such : {css : List (List Cell)} {n : ℕ} → Behind css n → n ≡ length css + 1 → ⊥
no_such b e =
    let x = b.at.number in
    omega (arith, ap length b.at.are, length-append b.at.before (b.row ∷ b.at.behind))

-- the rows of a text lie in one way under a number and a row
rows_lie_one : {css : List (List Cell)} {f g : Option BookFault} → RowsLie css f → RowsLie css g → fault_number f ≡ fault_number g → fault_row f ≡ fault_row g → f ≡ g
rows_lie_one (row b p) (row c q) x y = let e = same_fault b c y p q in cc
rows_lie_one (row b p) (misplaced c g q) x y = absurd (omega arith)
rows_lie_one (row b p) (unfinished u e) x y = absurd (omega arith)
rows_lie_one (row b p) (too_many c m) x y = absurd (omega arith)
rows_lie_one (row b p) (used_key c m u) x y = absurd (omega arith)
rows_lie_one (misplaced b f p) (row c q) x y = absurd (omega arith)
rows_lie_one (misplaced b f p) (misplaced c g q) x y = let e = same_rule b c y f g p q in cc
rows_lie_one (misplaced b f p) (unfinished u e) x y = absurd (no_such b (y ∙ e))
rows_lie_one (misplaced b f p) (too_many c m) x y = absurd (omega arith)
rows_lie_one (misplaced b f p) (used_key c m u) x y = absurd (omega arith)
rows_lie_one (unfinished u e) (row c q) x y = absurd (omega arith)
rows_lie_one (unfinished u e) (misplaced c g q) x y = absurd (no_such c (sym y ∙ e))
rows_lie_one (unfinished u e) (unfinished v d) x y = cc
rows_lie_one (unfinished u e) (too_many c m) x y = absurd (omega arith)
rows_lie_one (unfinished u e) (used_key c m v) x y = absurd (omega arith)
rows_lie_one (too_many b k) (row c q) x y = absurd (omega arith)
rows_lie_one (too_many b k) (misplaced c g q) x y = absurd (omega arith)
rows_lie_one (too_many b k) (unfinished v d) x y = absurd (omega arith)
rows_lie_one (too_many b k) (too_many c m) x y = cc
rows_lie_one (too_many b k) (used_key c m v) x y = absurd (omega arith)
rows_lie_one (used_key b k u) (row c q) x y = absurd (omega arith)
rows_lie_one (used_key b k u) (misplaced c g q) x y = absurd (omega arith)
rows_lie_one (used_key b k u) (unfinished v d) x y = absurd (omega arith)
rows_lie_one (used_key b k u) (too_many c m) x y = absurd (omega arith)
rows_lie_one (used_key b k u) (used_key c m v) x y = let e = same_use b.behind c.behind y b.form c.form u v in cc

-- what lies in the rows of a text is refused neither with 1 nor with 2, and the text is one
unlike_rows : {s : List ℕ} {css : List (List Cell)} {f g : Option BookFault} → length s ≤ 65536 → File s css → RowsLie css f → BookLies s g → fault_number f ≡ fault_number g → fault_row f ≡ fault_row g → f ≡ g
unlike_rows h q l (sound b) x y = absurd (few l x)
  where
    few : {css : List (List Cell)} {f : Option BookFault} → RowsLie css f → fault_number f ≡ 0 → ⊥
    few (row b r) e = omega arith
    few (misplaced b f p) e = omega arith
    few (unfinished u z) e = omega arith
    few (too_many b m) e = omega arith
    few (used_key b m u) e = omega arith
unlike_rows h q l (too_long k) x y = absurd (omega arith)
unlike_rows h q l (text k t) x y = absurd (fault_unreadable t (λ e. impossible cc) (record { rows = _; reading = q }))
unlike_rows {g = g} h q l (rows k p m) x y = rows_lie_one l (subst (λ (c : List (List Cell)). RowsLie c g) (file_unique p q refl) m) x y

numbered : {s : List ℕ} {f g : Option BookFault} → BookLies s f → BookLies s g → fault_number f ≡ fault_number g → fault_row f ≡ fault_row g → f ≡ g
numbered (sound b) (sound c) x y = refl
numbered (sound b) (too_long k) x y = absurd (omega arith)
numbered (sound b) (text k t) x y = absurd (omega arith)
numbered (sound b) (rows k q l) x y = sym (unlike_rows k q l (sound b) (sym x) (sym y))
numbered (too_long h) (sound c) x y = absurd (omega arith)
numbered (too_long h) (too_long k) x y = refl
numbered (too_long h) (text k t) x y = absurd (omega arith)
numbered (too_long h) (rows k q l) x y = absurd (omega arith)
numbered (text h t) (sound c) x y = absurd (omega arith)
numbered (text h t) (too_long k) x y = absurd (omega arith)
numbered (text h t) (text k u) x y = let e = text_one t u in cc
numbered (text h t) (rows k q l) x y = absurd (fault_unreadable t (λ e. impossible cc) (record { rows = _; reading = q }))
numbered (rows h p l) c x y = unlike_rows h p l c x y

-- what is told of a fault, that it is one or none
told_one : {s : List ℕ} {f g : Option BookFault} → BookLies s f → BookLies s g → (fault_number f ≡ fault_number g) × (fault_row f ≡ fault_row g)
told_one {s} {f} {g} p q = by (sound_or f) (sound_or g)
  where
    sound_or : (f : Option BookFault) → Dec (f ≡ None)
    sound_or None = yes refl
    sound_or (Some fault.TooLong) = no (λ e. impossible cc)
    sound_or (Some (fault.Text t)) = no (λ e. impossible cc)
    sound_or (Some (fault.Row n t)) = no (λ e. impossible cc)
    sound_or (Some (fault.Misplaced n t)) = no (λ e. impossible cc)
    sound_or (Some (fault.TooManyJobs n)) = no (λ e. impossible cc)
    sound_or (Some (fault.UsedKey n m)) = no (λ e. impossible cc)

    by : Dec (f ≡ None) → Dec (g ≡ None) → (fault_number f ≡ fault_number g) × (fault_row f ≡ fault_row g)
    by (yes a) (yes b) = let e = a ∙ sym b in (ap fault_number e, ap fault_row e)
    by (yes a) (no n) = let e = book_says_one (sound_said p a).told (lies_said q n) in impossible cc
    by (no n) (yes b) = let e = book_says_one (lies_said p n) (sound_said q b).told in impossible cc
    by (no n) (no m) = let e = book_says_one (lies_said p n) (lies_said q m) in (cc, cc)

-- where the refusal of a book lies is one thing
pub lies_one : {s : List ℕ} {f g : Option BookFault} → BookLies s f → BookLies s g → f ≡ g
lies_one p q = let e = told_one p q in numbered p q e.0 e.1
