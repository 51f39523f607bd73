-- What is found of a cell's stretch holds of the cell's content: the stretch is a field, and a field has one content.
use Prim.Native.Nat.{ℕ, ◌≤◌, ◌<◌}
use native.Mathlib.Omega.{arith}
use mathlib.Core.Path.{◌≡◌, refl, sym, ap, subst}
use mathlib.Core.Bool.{false}
use mathlib.Core.List.{List, [], ◌∷◌}
use lib.ListN.{length, get_or}
use Rattle.arithmetic.proofs.Cases.{impossible}
use Rattle.csv_text.specs.rfc4180.Rfc4180.{Cell, Field}
use Rattle.csv_text.specs.cells.Cells.{CellAt}
use Rattle.csv_text.specs.cells.Content.{no_cell}
use Rattle.csv_text.specs.cells.Standing.{Standing}
use Rattle.csv_text.specs.cells.Content.{content}
use Rattle.csv_text.specs.declared.cells.Cells.{Cells}
use Rattle.csv_text.proofs.rfc4180.Unique.{content_unique}
use Rattle.csv_text.proofs.cells.Standing.{cell_field}
use Rattle.fields.specs.Numbers.{positive, IsNumber, is_positive, is_negative, IsEmpty}
use Rattle.fields.specs.digits.Numerals.{Digited}
use Rattle.fields.specs.Entries.{EntryIn, EntryAt}
use Rattle.fields.specs.names.NameAt.{NameAt}
use Rattle.fields.specs.declared.Entry.{Entry}
use Rattle.fields.specs.declared.names.Name.{Name}
use Rattle.fields.proofs.Numerals.{number_unique}
use Rattle.fills.specs.declared.fill_rows.Fill.{Fill}
use Rattle.fills.specs.declared.fill_rows.Whose.{Whose}
use Rattle.fills.specs.declared.fill_rows.Whose.TheVariants.{Own, Common}
use Rattle.fills.specs.fill_rows.Form.{Five, cells_of, MemberIs, UpTo, Form}
use Rattle.std.specs.Prelude.{Option, Some, None}
use Rattle.fills.specs.fill_rows.steps.Reading.{Holds, NumberTo, MemberAt}

-- what a field's stretch holds, its content does
pub held : {A : Type 0} (F : List ℕ → A → Type 0) {raw c : List ℕ} {x : A} → Holds F raw x → Field raw c → F c x
held F {x = x} h f = subst (λ (l : List ℕ). F l x) (content_unique h.field f) h.is

-- a number from 1 to a bound
module _ (bound : ℕ) {raw : List ℕ} where
  pub wrong_number : EntryAt IsNumber raw None → NumberTo bound raw None
  wrong_number w = λ n h. w (positive n) (record { content = h.content; field = h.field; is = h.is.number })

  module _ {e : Entry} (q : EntryIn IsNumber raw e) where
    pub no_number : (e.minus ≡ false → 0 < e.size → e.size ≤ bound → ⊥) → NumberTo bound raw None
    no_number none n h =
        let p = number_unique (subst (λ (l : List ℕ). IsNumber l e) (content_unique q.field h.field) q.is) h.is.number in
        let same : e.size ≡ n = ap (λ (x : Entry). x.size) p in
        let from = h.is.from in
        let to = h.is.to in
        none (ap (λ (x : Entry). x.minus) p) (omega arith) (omega arith)

    pub a_number : e.minus ≡ false → 0 < e.size → e.size ≤ bound → NumberTo bound raw (Some e.size)
    a_number a from to = record { content = q.content; field = q.field; is = record { number = plus q.is; from = from; to = to } }
      where
        plus : {c : List ℕ} → IsNumber c e → IsNumber c (positive e.size)
        plus {c} (is_positive {n = n} d p) = is_positive {n = e.size} (subst (Digited c) (ap (λ (x : Entry). x.size) (sym p)) d) refl
        plus (is_negative f d l p) = impossible cc

-- a member, by whose book it is
pub own_member : {whose : Whose} (raw : List ℕ) → whose ≡ Own → (a : Option Name) → NameAt raw a → MemberAt whose raw a
own_member raw e (Some n) h = subst (λ (of : Whose). MemberAt of raw (Some n)) (sym e) (record { content = h.content; field = h.field; is = h.named })
own_member raw e None h = subst (λ (of : Whose). MemberAt of raw None) (sym e) (λ m w. h m (record { content = w.content; field = w.field; named = w.is }))

pub some_member : {whose : Whose} {raw : List ℕ} → whose ≡ Common → EntryAt IsEmpty raw None → MemberAt whose raw None
some_member {raw = raw} e h = subst (λ (of : Whose). MemberAt of raw None) (sym e) (λ m w. h _ (record { content = w.content; field = w.field; is = (w.is.0, refl) }))

-- five cells are the five fields in their order
abbrev pub first_five : List Cell → Five
first_five cs = record { member = get_or cs 0 no_cell; soil = get_or cs 1 no_cell; slope = get_or cs 2 no_cell; value = get_or cs 3 no_cell; note = get_or cs 4 no_cell }

pub five_cells : (cs : List Cell) → length cs ≡ 5 → cs ≡ cells_of (first_five cs)
five_cells [] h = absurd (omega arith)
five_cells (a ∷ []) h = absurd (omega arith)
five_cells (a ∷ b ∷ []) h = absurd (omega arith)
five_cells (a ∷ b ∷ c ∷ []) h = absurd (omega arith)
five_cells (a ∷ b ∷ c ∷ d ∷ []) h = absurd (omega arith)
five_cells (a ∷ b ∷ c ∷ d ∷ e ∷ []) h = refl
five_cells (a ∷ b ∷ c ∷ d ∷ e ∷ f ∷ cs) h = absurd (omega arith)

-- the fields of a form are the row's first five cells
module _ {whose : Whose} {cs : List Cell} {f : Fill} (w : Form whose cs f) where
  pub form_length : length cs ≡ 5
  form_length = ap length w.are

  at_places : w.five ≡ first_five cs
  at_places = ap first_five (sym w.are)

  pub member_is : MemberIs whose (content cs 0) f.member
  member_is = subst (λ (t : Five). MemberIs whose t.member.content f.member) at_places w.member

  pub soil_is : UpTo 5 (content cs 1) f.soil
  soil_is = subst (λ (t : Five). UpTo 5 t.soil.content f.soil) at_places w.soil

  pub slope_is : UpTo 5 (content cs 2) f.slope
  slope_is = subst (λ (t : Five). UpTo 5 t.slope.content f.slope) at_places w.slope

  pub value_is : UpTo 40000 (content cs 3) f.value
  value_is = subst (λ (t : Five). UpTo 40000 t.value.content f.value) at_places w.value

-- what stands in a cell, by what its content is
pub stands_in : {A : Type 0} (F : List ℕ → A → Type 0) {s : List ℕ} {c : Cells} {cs : List Cell} (t : Standing 5 s c cs) (k : ℕ) {r : List ℕ} → k < 5 → CellAt s c k r → {x : A} → F (content cs k) x → Holds F r x
stands_in F {cs = cs} t k l a w = record { content = content cs k; field = cell_field t (omega arith) k _ l a; is = w }

pub cell_holds : {A : Type 0} (F : List ℕ → A → Type 0) {s : List ℕ} {c : Cells} {cs : List Cell} (t : Standing 5 s c cs) (k : ℕ) {r : List ℕ} → k < 5 → CellAt s c k r → {x : A} → Holds F r x → F (content cs k) x
cell_holds F t k l a h = held F h (cell_field t (omega arith) k _ l a)
