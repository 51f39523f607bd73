-- The refusal of a fill book lies in one place: rows before the first bad row begin a fill book, and with it they begin none. So there is no fault
-- exactly where there is a fill book.
use Prim.Native.Nat.{ℕ, ◌+◌, ◌<◌}
use native.Mathlib.Decide.{dec_lt}
use native.Mathlib.Omega.{arith}
use mathlib.Core.Path.{◌≡◌, refl, sym, ap, subst, ◌∙◌}
use mathlib.Core.List.{List, [], ◌∷◌, ◌++◌}
use lib.ListN.{length, get_or, length-append, get_or-append}
use lib.Seq.{get_or_at}
use Rattle.arithmetic.proofs.Cases.{by_cases, impossible}
use Rattle.arithmetic.proofs.rounding.Laws.{least_one}
use Rattle.csv_text.specs.rfc4180.Rfc4180.{Cell, plain, none, only, last, Readable}
use mathlib.Core.Bool.{true, false}
use Rattle.std.specs.Prelude.{Option, Some, None, Result, Ok, Err}
use Rattle.std.specs.Result.{result_err, is_err}
use Rattle.csv_text.specs.Nth.{Nth}
use Rattle.csv_text.proofs.strays.Answers as strays
use Rattle.csv_text.proofs.Lists.{heads, tails, conses, level}
use Rattle.fills.specs.declared.fill_rows.Fill.{Fill}
use Rattle.fills.specs.declared.fill_rows.Whose.{Whose}
use Rattle.fills.specs.declared.fill_rows.Whose.TheVariants.{Own, Common}
use Rattle.fills.specs.declared.faults.FillFault.{FillFault}
use Rattle.fills.specs.declared.faults.FillFault.TheVariants.{Count, Column, Twice}
use Rattle.fills.specs.FillBook.{TextRows, no_bytes, bytes, Forms, no_fill, SamePlace, Once, FillBook}
use Rattle.fills.specs.Says.{Accepted}
use Rattle.fills.specs.declared.digest.FillWords.{FillWords}
use Rattle.fills.specs.reading.Rows.{Digested, RowsAre}
use Rattle.fills.specs.faults.Faults.{Begins, RowLies, count, column, twice, FillLies, sound, too_long, text, row}
use Rattle.fills.proofs.OneReading.{form_one, forms_one, text_one, one_place}
use Rattle.fills.proofs.fill_rows.Cells.{form_length}
use Rattle.fills.proofs.Walking.{some_form, cut}
use Rattle.fills.proofs.faults.Columns.{wrong_formless}

-- the n-th of a list, by its place
nth_there : {A : Type 0} {xs : List A} {n : ℕ} {x : A} (d : A) (a : Nth xs n x) → get_or xs (length a.before) d ≡ x
nth_there {x = x} d a = ap (λ (l : List _). get_or l (length a.before) d) a.are ∙ get_or_at a.before x a.behind d (length a.before) refl

nth_within : {A : Type 0} {xs : List A} {n : ℕ} {x : A} (a : Nth xs n x) → length a.before < length xs
nth_within {x = x} a = omega (arith, ap length a.are, length-append a.before (x ∷ a.behind))

-- no fill book begins with the rows before a bad row and that row
bad_row : {whose : Whose} (os : List (List Cell)) (cs : List Cell) (bs : List (List Cell)) {gone fs : List Fill} {n : ℕ} {fault : FillFault}
    → Forms whose os gone → RowLies whose gone cs n fault → Forms whose (os ++ cs ∷ bs) fs → Once fs → ⊥
bad_row os cs bs p (count e m) q once = m (e ∙ form_length (some_form os cs bs q).1)
bad_row os cs bs p (column e l) q once = wrong_formless l.holds (some_form os cs bs q).1
bad_row os cs bs {gone} {fs} p (twice {f} {earlier} w a same) q once =
    let c = cut bs p w q in
    let within = nth_within a in
    let here : get_or fs (length gone) no_fill ≡ f = ap (λ (l : List Fill). get_or l (length gone) no_fill) c.are ∙ get_or_at gone f c.behind no_fill (length gone) refl in
    let there : get_or fs (length a.before) no_fill ≡ earlier = ap (λ (l : List Fill). get_or l (length a.before) no_fill) c.are ∙ get_or-append gone (f ∷ c.behind) no_fill (length a.before) within ∙ nth_there no_fill a in
    once (length a.before) (length gone) within (omega (arith, ap length c.are, length-append gone (f ∷ c.behind)))
    (record {
      member = ap (λ (g : Fill). g.member) there ∙ same.member ∙ sym (ap (λ (g : Fill). g.member) here);
      soil = ap (λ (g : Fill). g.soil) there ∙ same.soil ∙ sym (ap (λ (g : Fill). g.soil) here);
      slope = ap (λ (g : Fill). g.slope) there ∙ same.slope ∙ sym (ap (λ (g : Fill). g.slope) here);
    })

-- a row behind the same rows is bad in one way
earlier_one : {fs : List Fill} {f g x y : Fill} {j k : ℕ} → Once fs → f ≡ g → Nth fs j x → Nth fs k y → SamePlace x f → SamePlace y g → j ≡ k
earlier_one {fs} once e a b p q =
    let here = nth_there no_fill a in
    let there = nth_there no_fill b in
    let same = one_place fs once (length a.before) (length b.before) (nth_within a) (nth_within b)
    (record {
      member = ap (λ (z : Fill). z.member) here ∙ p.member ∙ ap (λ (z : Fill). z.member) e ∙ sym q.member ∙ sym (ap (λ (z : Fill). z.member) there);
      soil = ap (λ (z : Fill). z.soil) here ∙ p.soil ∙ ap (λ (z : Fill). z.soil) e ∙ sym q.soil ∙ sym (ap (λ (z : Fill). z.soil) there);
      slope = ap (λ (z : Fill). z.slope) here ∙ p.slope ∙ ap (λ (z : Fill). z.slope) e ∙ sym q.slope ∙ sym (ap (λ (z : Fill). z.slope) there);
    }) in
    a.number ∙ ap (λ (i : ℕ). i + 1) same ∙ sym b.number

row_lies_one : {whose : Whose} {fs : List Fill} {cs : List Cell} {n : ℕ} {a b : FillFault} → Once fs → RowLies whose fs cs n a → RowLies whose fs cs n b → a ≡ b
row_lies_one {n = n} once (count e m) (count f k) = ap (Count n) (e ∙ sym f)
row_lies_one once (count e m) (column f l) = absurd (m (e ∙ f))
row_lies_one once (count e m) (twice w a p) = absurd (m (e ∙ form_length w))
row_lies_one once (column e l) (count f k) = absurd (k (f ∙ e))
row_lies_one {n = n} once (column e l) (column f k) = ap (Column n) (least_one l k)
row_lies_one once (column e l) (twice w a p) = absurd (wrong_formless l.holds w)
row_lies_one once (twice w a p) (count f k) = absurd (k (f ∙ form_length w))
row_lies_one once (twice w a p) (column f l) = absurd (wrong_formless l.holds w)
row_lies_one {n = n} once (twice w a p) (twice v b q) = ap (Twice n) (earlier_one once (form_one w v) a b p q)

-- of two cuts of one list the longer has the shorter in it
ahead : {A : Type 0} (os cs bs ds : List A) (x y : A) → os ++ x ∷ bs ≡ cs ++ y ∷ ds → length os < length cs → (es : List A) × (cs ≡ os ++ x ∷ es)
ahead [] [] bs ds x y e l = absurd (omega arith)
ahead [] (c ∷ cs) bs ds x y e l = (cs, conses (sym (heads e)) refl)
ahead (o ∷ os) [] bs ds x y e l = absurd (omega arith)
ahead (o ∷ os) (c ∷ cs) bs ds x y e l =
    let w = ahead os cs bs ds x y (tails e) (omega arith) in
    (w.0, conses (sym (heads e)) w.1)

-- a row before a bad row is not bad
module _ {whose : Whose} {rows : List (List Cell)} {n m : ℕ} {cs ds : List Cell} {fs gs : List Fill} {fault : FillFault} (p : Nth rows n cs) (q : Nth rows m ds) (x : Begins whose p.before fs) (y : Begins whose q.before gs) where
  not_before : RowLies whose fs cs n fault → length p.before < length q.before → ⊥
  not_before v l =
      let c = ahead p.before q.before p.behind q.behind cs ds (sym p.are ∙ q.are) l in
      bad_row p.before cs c.0 x.forms v (subst (λ (r : List (List Cell)). Forms whose r gs) c.1 y.forms) y.once

first_one : {whose : Whose} {rows : List (List Cell)} {n m : ℕ} {cs ds : List Cell} {fs gs : List Fill} {a b : FillFault} (p : Nth rows n cs) (q : Nth rows m ds)
    → Begins whose p.before fs → Begins whose q.before gs → RowLies whose fs cs n a → RowLies whose gs ds m b → a ≡ b
first_one {whose} {n = n} {m} {cs} {ds} {fs} {gs} {a} {b} p q x y v w =
    by_cases (dec_lt (length p.before) (length q.before)) (λ l. absurd (not_before p q x y v l))
    (λ l.
    by_cases (dec_lt (length q.before) (length p.before)) (λ k. absurd (not_before q p y x w k))
    (λ k.
    let e = level p.before q.before p.behind q.behind cs ds (sym p.are ∙ q.are) (omega arith) in
    let number : n ≡ m = p.number ∙ ap (λ (r : List (List Cell)). length r + 1) e.0 ∙ sym q.number in
    let fills : fs ≡ gs = forms_one (subst (λ (r : List (List Cell)). Forms whose r fs) e.0 x.forms) y.forms in
    row_lies_one y.once
    (subst (λ (l : List Fill). RowLies whose l ds m a) fills (subst (λ (c : List Cell). RowLies whose fs c m a) e.1 (subst (λ (i : ℕ). RowLies whose fs cs i a) number v)))
    w))

-- a text with rows is RFC 4180, and so is that of no bytes
text_readable : {s : List ℕ} {rows : List (List Cell)} → TextRows s rows → Readable s
text_readable no_bytes = record { rows = _; reading = last (only {f = record { raw = []; content = [] }} (plain none)) }
text_readable (bytes n q) = record { rows = _; reading = q }

-- no fault is told of a fill book: it has no bad row, and its text is RFC 4180
module _ {whose : Whose} {s : List ℕ} {fs : List Fill} (b : FillBook whose s fs) where
  pub book_sound : {fault : Option FillFault} → FillLies whose s fault → fault ≡ None
  book_sound (sound d) = refl
  book_sound (too_long l) = let size = b.size in absurd (omega arith)
  book_sound (text l t) = absurd (strays.fault_unreadable t (λ e. impossible cc) (text_readable b.text))
  book_sound (row {cs = cs} l t a x v) =
      absurd (bad_row a.before cs a.behind x.forms v (subst (λ (r : List (List Cell)). Forms whose r fs) (text_one b.text t ∙ a.are) b.forms) b.once)

-- what `fill_fault` promises is met by one answer only
pub fill_lies_one : {whose : Whose} {s : List ℕ} {a b : Option FillFault} → FillLies whose s a → FillLies whose s b → a ≡ b
fill_lies_one (sound b) q = sym (book_sound b q)
fill_lies_one (too_long l) (sound b) = book_sound b (too_long l)
fill_lies_one (too_long l) (too_long k) = refl
fill_lies_one (too_long l) (text k t) = absurd (omega arith)
fill_lies_one (too_long l) (row k t a x v) = absurd (omega arith)
fill_lies_one (text l t) (sound b) = book_sound b (text l t)
fill_lies_one (text l t) (too_long k) = absurd (omega arith)
fill_lies_one (text l t) (text k u) = let e = strays.text_one t u in cc
fill_lies_one (text l t) (row k u a x v) = absurd (strays.fault_unreadable t (λ e. impossible cc) (text_readable u))
fill_lies_one (row l t a x v) (sound b) = book_sound b (row l t a x v)
fill_lies_one (row l t a x v) (too_long k) = absurd (omega arith)
fill_lies_one (row l t a x v) (text k u) = absurd (strays.fault_unreadable u (λ e. impossible cc) (text_readable t))
fill_lies_one (row l t a x v) (row k u b y w) = ap Some (first_one a (record { before = b.before; behind = b.behind; are = text_one t u ∙ b.are; number = b.number }) x y v w)

-- and where none is told there is one, so that a fault is refusal 8
pub sound_book : {whose : Whose} {s : List ℕ} {fault : Option FillFault} → fault ≡ None → FillLies whose s fault → (fs : List Fill) × FillBook whose s fs
sound_book e (sound {fs} b) = (fs, b)
sound_book e (too_long l) = impossible cc
sound_book e (text l t) = impossible cc
sound_book e (row l t a x v) = impossible cc

pub refused_book : {whose : Whose} {s : List ℕ} {fault : FillFault} → FillLies whose s (Some fault) → (fs : List Fill) → FillBook whose s fs → ⊥
refused_book l fs b = let e = book_sound b l in impossible cc

-- two books are accepted exactly where no fault is told of either
pub accepted_sound : {own common : List ℕ} {a b : Option FillFault} → Accepted own common → FillLies Own own a → FillLies Common common b → (a ≡ None) × (b ≡ None)
accepted_sound w p q = (book_sound w.is_own p, book_sound w.is_common q)

pub sound_accepted : {own common : List ℕ} {a b : Option FillFault} → FillLies Own own a → FillLies Common common b → a ≡ None → b ≡ None → Accepted own common
sound_accepted p q e f =
    let mine = sound_book e p in
    let all = sound_book f q in
    record { owns = mine.0; commons = all.0; is_own = mine.1; is_common = all.1 }

-- of a book that is read, where its refusal lies
pub lies_of : {whose : Whose} {s : List ℕ} (ws : List FillWords) (r : Result (Unit {0}) FillFault) → RowsAre whose s ws r → FillLies whose s (result_err r)
lies_of ws (Ok done) d = sound d.book
lies_of ws (Err fault) l = l

-- and whether it is refused
pub refused_of : {whose : Whose} {s : List ℕ} (ws : List FillWords) (r : Result (Unit {0}) FillFault) → RowsAre whose s ws r → is_err r ≡ true → (fs : List Fill) → FillBook whose s fs → ⊥
refused_of ws (Ok done) d e = impossible cc
refused_of ws (Err fault) l e = refused_book l

pub given_of : {whose : Whose} {s : List ℕ} {ws : List FillWords} (r : Result (Unit {0}) FillFault) → RowsAre whose s ws r → is_err r ≡ false → Digested whose s ws
given_of (Ok done) d e = d
given_of (Err fault) l e = impossible cc
