-- The columns of a row from the left: a column that has its form is not wrong, since a name, a kind and a number's column are one each; and a
-- wrong one with none before it is the first.
use Prim.Native.Nat.{ℕ, suc, ◌+◌, ◌<◌}
use native.Mathlib.Omega.{arith}
use native.Mathlib.Decide.{dec_le}
use native.Mathlib.Nat.{lt_of_not-le}
use mathlib.Core.Path.{◌≡◌, sym, ap, subst, ◌∙◌}
use mathlib.Core.List.{List, [], ◌∷◌, ◌++◌}
use lib.ListN.{length, length-append, get_or, take, drop}
use lib.Seq.{split_at, length-take-le}
use lib.Dec.{lit<}
use borrow.Author.Count.{below_more}
use Rattle.arithmetic.proofs.Cases.{by_cases}
use Rattle.arithmetic.specs.decides.Decides.{Decides}
use Rattle.arithmetic.specs.rounding.Least.{Least}
use Rattle.csv_text.specs.Nth.{Nth}
use Rattle.csv_text.specs.rfc4180.Rfc4180.{Cell}
use Rattle.csv_text.specs.cells.Cells.{CellAt}
use Rattle.csv_text.specs.cells.Standing.{Standing}
use Rattle.csv_text.specs.cells.Content.{content}
use Rattle.csv_text.specs.declared.cells.Cells.{Cells}
use Rattle.csv_text.proofs.notes.Answers.{nth_one}
use Rattle.fields.specs.names.Names.{NameOf}
use Rattle.fields.specs.Entries.{EntryAt}
use Rattle.fields.specs.declared.names.Name.{Name}
use Rattle.kinds.specs.Table.{columns, letters, six_of}
use Rattle.kinds.specs.Form.{Means}
use Rattle.kinds.specs.declared.Column.{Column}
use Rattle.kinds.specs.declared.Column.TheVariants.{Empty}
use Rattle.kinds.specs.declared.Columns.{Columns}
use Rattle.kinds.specs.declared.Kind.{Kind}
use Rattle.kinds.specs.declared.Numbers.{Numbers}
use Rattle.kinds.proofs.letters.Letters.{letters_one}
use Rattle.rows.specs.Form.{Six}
use Rattle.rows.specs.Answer.{first_ten}
use Rattle.std.specs.Prelude.{Option, Some, None, is_some}
use Rattle.fields.specs.declared.Entry.{Entry}
use Rattle.rows.proofs.Reading.{cell_entry, cell_no_entry}
use Rattle.rows.specs.faults.Faults.{WrongColumn, member, job, kind, number}
use Rattle.rows.specs.faults.steps.Columns.{Held, Clear}

module _ {cs : List Cell} where
  -- the first column is 1
  pub clear_first : Clear cs 1
  clear_first m h (member e f) = omega arith
  clear_first m h (job e f) = omega arith
  clear_first m h (kind e f) = omega arith
  clear_first m h (number k e l at f) = omega arith

  pub clear_next : (k : ℕ) → Clear cs k → (WrongColumn cs k → ⊥) → Clear cs (k + 1)
  clear_next k c right = below_more (λ m. WrongColumn cs m → ⊥) k c right

  pub first_wrong : {k : ℕ} → Clear cs k → WrongColumn cs k → Least (WrongColumn cs) k
  first_wrong {k} c w = record { holds = w; least = λ m p. by_cases (dec_le k m) (λ l. l) (λ l. absurd (c m (lt_of_not-le l) p)) }

  -- a column that has its form is not wrong
  pub right_member : (n : Name) → NameOf (content cs 0) n → WrongColumn cs 1 → ⊥
  right_member n is (member e f) = f n is
  right_member n is (job e f) = omega arith
  right_member n is (kind e f) = omega arith
  right_member n is (number k e l at f) = omega arith

  pub right_job : (n : Name) → NameOf (content cs 1) n → WrongColumn cs 2 → ⊥
  right_job n is (member e f) = omega arith
  right_job n is (job e f) = f n is
  right_job n is (kind e f) = omega arith
  right_job n is (number k e l at f) = omega arith

  module _ (of : Kind) (written : content cs 2 ≡ letters of) where
    pub right_kind : WrongColumn cs 3 → ⊥
    right_kind (member e f) = omega arith
    right_kind (job e f) = omega arith
    right_kind (kind e f) = f of written
    right_kind (number k e l at f) = let a = at.number in omega arith

    pub right_number : {i : ℕ} {column : Column} → Nth (six_of (columns of)) i column → Held column (content cs (2 + i)) → WrongColumn cs (3 + i) → ⊥
    right_number at h (member e f) = omega arith
    right_number at h (job e f) = omega arith
    right_number at h (kind e f) = let a = at.number in omega arith
    right_number {i} {column} at h (number k {i = j} {column = d} e l near f) =
        let same : j ≡ i = omega arith in
        let one : d ≡ column = nth_one (subst (λ (m : ℕ). Nth (six_of (columns of)) m d) same (subst (λ (x : Kind). Nth (six_of (columns x)) j d) (letters_one k of (sym l ∙ written)) near)) at in
        f h.entry (subst (λ (m : ℕ). Means d (content cs (2 + m)) h.entry) (sym same) (subst (λ (x : Column). Means x (content cs (2 + i)) h.entry) (sym one) h.means))

-- each of the six numbers has its form by its column
six_held : (c : Columns) (cs : List Cell) (n : Numbers) → Six c (first_ten cs) n → (before behind : List Column) (column : Column) → six_of c ≡ before ++ column ∷ behind → Held column (content cs (3 + length before))
six_held c cs n s [] behind column e = let q : c.n1 ≡ column = cc in record { entry = n.n1; means = subst (λ (x : Column). Means x (content cs 3) n.n1) q s.n1 }
six_held c cs n s (a1 ∷ []) behind column e = let q : c.n2 ≡ column = cc in record { entry = n.n2; means = subst (λ (x : Column). Means x (content cs 4) n.n2) q s.n2 }
six_held c cs n s (a1 ∷ a2 ∷ []) behind column e = let q : c.n3 ≡ column = cc in record { entry = n.n3; means = subst (λ (x : Column). Means x (content cs 5) n.n3) q s.n3 }
six_held c cs n s (a1 ∷ a2 ∷ a3 ∷ []) behind column e = let q : c.n4 ≡ column = cc in record { entry = n.n4; means = subst (λ (x : Column). Means x (content cs 6) n.n4) q s.n4 }
six_held c cs n s (a1 ∷ a2 ∷ a3 ∷ a4 ∷ []) behind column e = let q : c.n5 ≡ column = cc in record { entry = n.n5; means = subst (λ (x : Column). Means x (content cs 7) n.n5) q s.n5 }
six_held c cs n s (a1 ∷ a2 ∷ a3 ∷ a4 ∷ a5 ∷ []) behind column e = let q : c.n6 ≡ column = cc in record { entry = n.n6; means = subst (λ (x : Column). Means x (content cs 8) n.n6) q s.n6 }
six_held c cs n s (a1 ∷ a2 ∷ a3 ∷ a4 ∷ a5 ∷ a6 ∷ more) behind column e = absurd (omega (arith, length-append more (column ∷ behind), ap length e))

pub number_held : (c : Columns) (cs : List Cell) (n : Numbers) → Six c (first_ten cs) n → (i : ℕ) (column : Column) → Nth (six_of c) i column → Held column (content cs (2 + i))
number_held c cs n s i column at =
    let a = at.number in
    let e : 3 + length at.before ≡ 2 + i = omega arith in
    subst (λ (k : ℕ). Held column (content cs k)) e (six_held c cs n s at.before at.behind column at.are)

-- a cell has the form of a column exactly if it was read to hold a number by it
pub cell_held : {s : List ℕ} {c : Cells} {cs : List Cell} → Standing 10 s c cs → (k : ℕ) (r : List ℕ) → k < 10 → CellAt s c k r → (column : Column) (x : Option Entry) → EntryAt (Means column) r x → Decides (is_some x) (Held column (content cs k))
cell_held t k r h a column (Some x) p = record { entry = x; means = cell_entry t k r h a column x p }
cell_held t k r h a column None p = λ w. cell_no_entry t k r h a column p w.entry w.means

-- the columns asked up to the i-th from 0 have their forms
abbrev pub HeldTo : List Column → ℕ → List Cell → Type 0
HeldTo columns i cs = (j : ℕ) → j < i → Held (get_or columns j Empty) (content cs (3 + j))

-- if all six have, the row has its numbers
pub six_numbers : (c : Columns) (cs : List Cell) (xs : List Column) → xs ≡ six_of c → HeldTo xs 6 cs → (n : Numbers) × Six c (first_ten cs) n
six_numbers c cs xs e g =
    let h : HeldTo (six_of c) 6 cs = subst (λ (x : List Column). HeldTo x 6 cs) e g in
    let a1 = h 0 (lit< tt) in
    let a2 = h 1 (lit< tt) in
    let a3 = h 2 (lit< tt) in
    let a4 = h 3 (lit< tt) in
    let a5 = h 4 (lit< tt) in
    let a6 = h 5 (lit< tt) in (
      record { n1 = a1.entry; n2 = a2.entry; n3 = a3.entry; n4 = a4.entry; n5 = a5.entry; n6 = a6.entry },
      record { n1 = a1.means; n2 = a2.means; n3 = a3.means; n4 = a4.means; n5 = a5.means; n6 = a6.means },
    )

-- a number asked by its column, with no wrong column before it: the next is asked, or this is the first that is wrong
module _ {cs : List Cell} (of : Kind) (written : content cs 2 ≡ letters of) (xs : List Column) (are : xs ≡ six_of (columns of)) (i : ℕ) (few : i < 6) (passed : Clear cs (4 + i)) where
  abbrev column : Column
  column = get_or xs i Empty

  there : Nth (six_of (columns of)) (i + 1) column
  there =
      let l : length xs ≡ 6 = ap length are in
      let n = length-take-le i xs (omega arith) in
      subst (λ (x : List Column). Nth x (i + 1) column) are (record { before = take i xs; behind = drop (suc i) xs; are = split_at xs i Empty (omega arith); number = omega arith })

  place : 4 + i ≡ 3 + (i + 1)
  place = omega arith

  content_place : 3 + i ≡ 2 + (i + 1)
  content_place = omega arith

  pub number_right : Held column (content cs (3 + i)) → Clear cs (4 + (i + 1))
  number_right h =
      let next : 4 + (i + 1) ≡ 4 + i + 1 = omega arith in
      rw next (clear_next (4 + i) passed (λ w. right_number of written there (subst (λ (k : ℕ). Held column (content cs k)) content_place h) (subst (WrongColumn cs) place w)))

  pub number_wrong : (Held column (content cs (3 + i)) → ⊥) → Least (WrongColumn cs) (4 + i)
  number_wrong n = first_wrong passed (number of place written there (λ e m. n (record { entry = e; means = subst (λ (k : ℕ). Means column (content cs k) e) (sym content_place) m })))
