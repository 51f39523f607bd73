-- Document 02, P4: with no own rows, the common book that is shipped holds for every member what Table 2 of document 01 holds. That each place of
-- the table has its fill goes along the table; that the fills keep to their ranges and to the table, and their places rise, are computed tests.
use Prim.Native.Nat.{ℕ, zero, suc, ◌+◌, ◌*◌, ◌<◌}
use native.Mathlib.Omega.{arith}
use native.Mathlib.Decide.{ℕ_discrete}
use mathlib.Core.Path.{◌≡◌, refl, sym, ap, subst, ◌∙◌}
use mathlib.Core.Bool.{Bool, true, false, ◌&&◌}
use mathlib.Core.List.{List, [], ◌∷◌, ◌++◌}
use lib.Dec.{T, leb, ltb, eqb, lit≤, lit<, eqb→eq}
use lib.ListN.{length, get_or, length-append, get_or-append}
use mir.Facts.{and_yes}
use Rattle.arithmetic.proofs.Cases.{impossible, by_cases}
use Rattle.block.specs.Decimal.{digits, decimal}
use Rattle.fields.specs.names.Names.{no_name}
use Rattle.fields.specs.declared.names.Name.{Name}
use Rattle.earth.specs.coefficients.Coefficients.{Coefficient}
use Rattle.std.proofs.Common.{None, Some}
use Rattle.earth.specs.table2.Table2.{table2, table2_fill}
use Rattle.fills.specs.declared.fill_rows.Fill.{Fill}
use Rattle.fills.specs.declared.fill_rows.Whose.TheVariants.{Own, Common}
use Rattle.fills.specs.FillBook.{no_bytes, no_form, no_fill, Lists, Once, FillBook}
use Rattle.fills.specs.Says.{Says, common, neither, FillFor}
use Rattle.fills.specs.table2_book.Text.{soil_fills, table_fills, row_text, book_text, table2_fills, table2_text}
use Rattle.fills.proofs.Holding.{InRange}
use Rattle.fills.proofs.table2_book.Writing.{Each, common_book}

-- ---- every place of a table that is not blank has its fill

module _ {m : Name} {soil slope value : ℕ} where
  one_behind : {f : Fill} {fs : List Fill} → Lists fs m soil slope value → Lists (f ∷ fs) m soil slope value
  one_behind l = record { at = suc l.at; within = omega (arith, l.within); is = l.is }

  behind : (xs : List Fill) {ys : List Fill} → Lists ys m soil slope value → Lists (xs ++ ys) m soil slope value
  behind [] l = l
  behind (x ∷ xs) l = one_behind (behind xs l)

  before : (xs ys : List Fill) → Lists xs m soil slope value → Lists (xs ++ ys) m soil slope value
  before xs ys l = record { at = l.at; within = omega (arith, l.within, length-append xs ys); is = get_or-append xs ys no_fill l.at l.within ∙ l.is }

soil_lists : (soil slope : ℕ) (places : List Coefficient) (j : ℕ) {p value : ℕ} → p ≡ slope + j → get_or places j None ≡ Some value → Lists (soil_fills soil slope places) no_name soil p value
unfolding soil_fills
soil_lists soil slope [] j h e = impossible cc
soil_lists soil slope (None ∷ places) zero h e = impossible cc
soil_lists soil slope (Some v ∷ places) zero {p} h e = let here : slope ≡ p = omega arith in record { at = 0; within = omega arith; is = cc }
soil_lists soil slope (None ∷ places) (suc j) h e = soil_lists soil (suc slope) places j (omega arith) e
soil_lists soil slope (Some v ∷ places) (suc j) h e = one_behind (soil_lists soil (suc slope) places j (omega arith) e)

table_lists : (soil : ℕ) (table : List (List Coefficient)) (i j : ℕ) {s value : ℕ} → s ≡ soil + i → get_or (get_or table i []) j None ≡ Some value → Lists (table_fills soil table) no_name s (suc j) value
unfolding table_fills
table_lists soil [] i j h e = impossible cc
table_lists soil (places ∷ soils) zero j {s} {value} h e =
    let here : soil ≡ s = omega arith in
    before (soil_fills soil 1 places) (table_fills (suc soil) soils) (subst (λ (k : ℕ). Lists (soil_fills soil 1 places) no_name k (suc j) value) here (soil_lists soil 1 places j (omega arith) e))
table_lists soil (places ∷ soils) (suc i) j h e = behind (soil_fills soil 1 places) (table_lists (suc soil) soils i j (omega arith) e)

table2_lists : (soil slope value : ℕ) → table2_fill soil slope ≡ Some value → Lists table2_fills no_name soil slope value
unfolding table2_fills
table2_lists zero slope value e = impossible cc
table2_lists (suc i) zero value e = impossible cc
table2_lists (suc i) (suc j) value e = table_lists 1 table2 i j (omega arith) e

-- ---- no fill of a table is a member's

abbrev Nobodys : List Fill → Type 0
Nobodys fs = (k : ℕ) → (get_or fs k no_fill).member ≡ no_name

nobody_both : (xs ys : List Fill) → Nobodys xs → Nobodys ys → Nobodys (xs ++ ys)
nobody_both [] ys v w k = w k
nobody_both (x ∷ xs) ys v w zero = v 0
nobody_both (x ∷ xs) ys v w (suc k) = nobody_both xs ys (λ i. v (suc i)) w k

nobody_soil : (soil slope : ℕ) (places : List Coefficient) → Nobodys (soil_fills soil slope places)
unfolding soil_fills
nobody_soil soil slope [] k = refl
nobody_soil soil slope (None ∷ places) k = nobody_soil soil (suc slope) places k
nobody_soil soil slope (Some v ∷ places) zero = refl
nobody_soil soil slope (Some v ∷ places) (suc k) = nobody_soil soil (suc slope) places k

nobody_table : (soil : ℕ) (table : List (List Coefficient)) → Nobodys (table_fills soil table)
unfolding table_fills
nobody_table soil [] k = refl
nobody_table soil (places ∷ soils) k = nobody_both (soil_fills soil 1 places) (table_fills (suc soil) soils) (nobody_soil soil 1 places) (nobody_table (suc soil) soils) k

-- ---- the fills of Table 2 keep to their ranges and to the table, and their places rise

-- a test of each number below a bound
below : ℕ → (ℕ → Bool) → Bool
below zero test = true
below (suc n) test = test n && below n test

below_at : (n : ℕ) (test : ℕ → Bool) → T (below n test) → (k : ℕ) → k < n → T (test k)
unfolding below
below_at zero test t k l = absurd (omega arith)
below_at (suc n) test t k l =
    let w = and_yes (test n) (below n test) t in
    by_cases (ℕ_discrete k n) (λ e. subst (λ (i : ℕ). T (test i)) (sym e) w.0) (λ e. below_at n test w.1 k (omega (arith, e)))

abbrev fill : ℕ → Fill
fill k = get_or table2_fills k no_fill

many : length table2_fills ≡ 21
unfolding table2_fills table_fills soil_fills
many = refl

tested : (test : ℕ → Bool) → T (below 21 test) → (k : ℕ) → k < length table2_fills → T (test k)
tested test t k l = let h = many in below_at 21 test t k (omega arith)

in_range : Each (λ f. InRange f.soil f.slope f.value) table2_fills
unfolding table2_fills table_fills soil_fills below
in_range k l = record {
  soil_in = (lit≤ (tested (λ i. leb 1 (fill i).soil) tt k l), lit≤ (tested (λ i. leb (fill i).soil 5) tt k l));
  slope_in = (lit≤ (tested (λ i. leb 1 (fill i).slope) tt k l), lit≤ (tested (λ i. leb (fill i).slope 5) tt k l));
  value_in = (lit≤ (tested (λ i. leb 1 (fill i).value) tt k l), lit≤ (tested (λ i. leb (fill i).value 40000) tt k l));
}

holds : Coefficient → ℕ → Bool
holds None value = false
holds (Some v) value = eqb v value

held : (c : Coefficient) (value : ℕ) → T (holds c value) → c ≡ Some value
unfolding holds
held None value t = absurd t
held (Some v) value t = ap Some (eqb→eq v value t)

in_table : Each (λ f. table2_fill f.soil f.slope ≡ Some f.value) table2_fills
unfolding table2_fills table_fills soil_fills below holds
in_table k l = held (table2_fill (fill k).soil (fill k).slope) (fill k).value (tested (λ i. holds (table2_fill (fill i).soil (fill i).slope) (fill i).value) tt k l)

abbrev place : ℕ → ℕ
place k = (fill k).soil * 6 + (fill k).slope

once : Once table2_fills
unfolding table2_fills table_fills soil_fills below
once j k h l same =
    let rises : place j < place k = lit< (below_at k (λ i. ltb (place i) (place k)) (tested (λ n. below n (λ i. ltb (place i) (place n))) tt k l) j h) in
    let soil = same.soil in
    let slope = same.slope in
    omega arith

-- ---- what the book says

table2_book : FillBook Common table2_text table2_fills
unfolding table2_text book_text row_text table2_fills table_fills soil_fills decimal digits
table2_book = common_book table2_fills (lit≤ tt) (λ k l. record { nobody = nobody_table 1 table2 k; ranged = in_range k l }) once

no_rows : FillBook Own [] []
no_rows = record { size = omega arith; rows = []; text = no_bytes; forms = no_form; once = λ j k h l same. omega arith }

says : (member : Name) (soil slope : ℕ) (c : Coefficient) → table2_fill soil slope ≡ c → Says [] table2_fills member soil slope c
says member soil slope None e =
    neither (λ v l. omega (arith, l.within))
    (λ v l.
    let is : table2_fill soil slope ≡ Some v = subst (λ (f : Fill). table2_fill f.soil f.slope ≡ Some f.value) l.is (in_table l.at l.within) in
    impossible cc) refl
says member soil slope (Some v) e = common (λ w l. omega (arith, l.within)) (table2_lists soil slope v e) refl

pub table2_common : (member : Name) → FillFor [] table2_text member table2_fill
table2_common member = record {
  books = record { owns = []; commons = table2_fills; is_own = no_rows; is_common = table2_book };
  says = λ soil slope. says member soil slope (table2_fill soil slope) refl;
}
