-- The first column of a row that is outside its form or range: those before it hold what they should.
use Prim.Native.Nat.{ℕ, ◌≤◌, ◌<◌}
use native.Mathlib.Decide.{dec_lt}
use native.Mathlib.Omega.{arith}
use mathlib.Core.List.{List}
use Rattle.arithmetic.proofs.Cases.{by_cases}
use Rattle.arithmetic.specs.rounding.Least.{Least}
use lib.Dec.{lit<}
use Rattle.std.specs.Prelude.{Some, None}
use Rattle.csv_text.specs.rfc4180.Rfc4180.{Cell}
use Rattle.csv_text.specs.cells.Cells.{CellAt}
use Rattle.csv_text.specs.cells.Standing.{Standing}
use Rattle.csv_text.specs.declared.cells.Cells.{Cells}
use Rattle.csv_text.specs.cells.Content.{content}
use Rattle.fields.specs.declared.names.Name.{Name}
use Rattle.fills.specs.declared.fill_rows.Fill.{Fill}
use Rattle.fills.specs.declared.fill_rows.Whose.{Whose}
use Rattle.fills.specs.fill_rows.Form.{MemberIs, UpTo, Form}
use Rattle.fills.specs.declared.faults.FillFault.TheVariants.{Column}
use Rattle.fills.specs.fill_rows.steps.Reading.{Holds, NumberTo, MemberAt}
use Rattle.fills.specs.faults.Faults.{WrongColumn, member, soil, slope, value, RowLies, column}
use Rattle.fills.proofs.fill_rows.Cells.{member_is, soil_is, slope_is, value_is, stands_in, cell_holds, first_five, five_cells}

module _ {whose : Whose} {cs : List Cell} where
  -- such a column leaves no fill
  pub wrong_formless : {k : ℕ} {f : Fill} → WrongColumn whose cs k → Form whose cs f → ⊥
  wrong_formless {f = f} (member n) w = n f.member (member_is w)
  wrong_formless (soil n) w = n _ (soil_is w)
  wrong_formless (slope n) w = n _ (slope_is w)
  wrong_formless (value n) w = n _ (value_is w)

  few_columns : {k : ℕ} → WrongColumn whose cs k → k ≤ 4
  few_columns (member n) = omega arith
  few_columns (soil n) = omega arith
  few_columns (slope n) = omega arith
  few_columns (value n) = omega arith

  module _ (k : ℕ) (wrong : WrongColumn whose cs k) (named : 1 < k → (n : Name) × MemberIs whose (content cs 0) n) (soiled : 2 < k → (n : ℕ) × UpTo 5 (content cs 1) n) (sloped : 3 < k → (n : ℕ) × UpTo 5 (content cs 2) n) where
    none_before : {m : ℕ} → WrongColumn whose cs m → k ≤ m
    none_before (member n) = by_cases (dec_lt 1 k) (λ l. absurd (n (named l).0 (named l).1)) (λ l. omega arith)
    none_before (soil n) = by_cases (dec_lt 2 k) (λ l. absurd (n (soiled l).0 (soiled l).1)) (λ l. omega arith)
    none_before (slope n) = by_cases (dec_lt 3 k) (λ l. absurd (n (sloped l).0 (sloped l).1)) (λ l. omega arith)
    none_before (value n) = few_columns wrong

    first_wrong : Least (WrongColumn whose cs) k
    first_wrong = record { holds = wrong; least = λ m v. none_before v }

-- five cells where these places say, asked from the left
module _ {s : List ℕ} {c : Cells} {cs : List Cell} (t : Standing 5 s c cs) where
  has_in : {A : Type 0} (F : List ℕ → A → Type 0) (k : ℕ) → k < 5 → {r : List ℕ} → CellAt s c k r → {x : A} → Holds F r x → (y : A) × F (content cs k) y
  has_in F k l a {x} h = (x, cell_holds F t k l a h)

module _ {whose : Whose} {s : List ℕ} {c : Cells} {cs : List Cell} (t : Standing 5 s c cs) where
  module _ {fs : List Fill} {n : ℕ} {a : List ℕ} (first : CellAt s c 0 a) where
    pub no_member_in : MemberAt whose a None → RowLies whose fs cs n (Column n 1)
    no_member_in h =
        column t.so_many
        (first_wrong 1 (member (λ m w. h m (stands_in (MemberIs whose) t 0 (lit< tt) first w))) (λ l. absurd (omega arith)) (λ l. absurd (omega arith)) (λ l. absurd (omega arith)))

    module _ {named : Name} (m : MemberAt whose a (Some named)) {b : List ℕ} (second : CellAt s c 1 b) where
      pub no_soil_in : NumberTo 5 b None → RowLies whose fs cs n (Column n 2)
      no_soil_in h =
          column t.so_many
          (first_wrong 2 (soil (λ x w. h x (stands_in (UpTo 5) t 1 (lit< tt) second w))) (λ l. has_in t (MemberIs whose) 0 (lit< tt) first m) (λ l. absurd (omega arith)) (λ l. absurd (omega arith)))

      module _ {sized : ℕ} (p : NumberTo 5 b (Some sized)) {d : List ℕ} (third : CellAt s c 2 d) where
        pub no_slope_in : NumberTo 5 d None → RowLies whose fs cs n (Column n 3)
        no_slope_in h =
            column t.so_many
            (first_wrong 3 (slope (λ x w. h x (stands_in (UpTo 5) t 2 (lit< tt) third w))) (λ l. has_in t (MemberIs whose) 0 (lit< tt) first m) (λ l. has_in t (UpTo 5) 1 (lit< tt) second p) (λ l. absurd (omega arith)))

        module _ {sloped : ℕ} (q : NumberTo 5 d (Some sloped)) {e : List ℕ} (fourth : CellAt s c 3 e) where
          pub no_value_in : NumberTo 40000 e None → RowLies whose fs cs n (Column n 4)
          no_value_in h =
              column t.so_many
              (first_wrong 4 (value (λ x w. h x (stands_in (UpTo 40000) t 3 (lit< tt) fourth w))) (λ l. has_in t (MemberIs whose) 0 (lit< tt) first m) (λ l. has_in t (UpTo 5) 1 (lit< tt) second p) (λ l. has_in t (UpTo 5) 2 (lit< tt) third q))

  -- five good cells mean a fill
  pub fill_in : {f : Fill} {a b d e : List ℕ} → CellAt s c 0 a → MemberAt whose a (Some f.member) → CellAt s c 1 b → NumberTo 5 b (Some f.soil)
      → CellAt s c 2 d → NumberTo 5 d (Some f.slope) → CellAt s c 3 e → NumberTo 40000 e (Some f.value) → Form whose cs f
  fill_in first m second p third q fourth v = record {
    five = first_five cs;
    are = five_cells cs t.so_many;
    member = cell_holds (MemberIs whose) t 0 (lit< tt) first m;
    soil = cell_holds (UpTo 5) t 1 (lit< tt) second p;
    slope = cell_holds (UpTo 5) t 2 (lit< tt) third q;
    value = cell_holds (UpTo 40000) t 3 (lit< tt) fourth v;
  }
