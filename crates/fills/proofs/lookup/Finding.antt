-- The row of a fill that is found by its words: rows and fills stand in one order.
use Prim.Native.Nat.{ℕ, zero, suc, ◌+◌, ◌≤◌, ◌<◌}
use native.Mathlib.Omega.{arith}
use mathlib.Core.Path.{◌≡◌, refl, ap, subst}
use mathlib.Core.List.{List, [], ◌∷◌}
use lib.ListN.{length, get_or}
use Rattle.std.specs.Prelude.{Some, None}
use Rattle.csv_text.specs.rfc4180.Rfc4180.{Cell}
use Rattle.csv_text.specs.Nth.{Nth}
use Rattle.fields.specs.declared.names.Name.{Name}
use Rattle.fills.specs.declared.fill_rows.Fill.{Fill}
use Rattle.fills.specs.declared.fill_rows.Whose.{Whose}
use Rattle.fills.specs.declared.digest.TwoWords.{TwoWords}
use Rattle.fills.specs.declared.digest.FillWords.{FillWords}
use Rattle.fills.specs.declared.lookup.Lies.{Lies}
use Rattle.fills.specs.fill_rows.Form.{Form}
use Rattle.fills.specs.FillBook.{Forms, no_form, form, no_fill}
use Rattle.fills.specs.digest.Digest.{no_words, KeyIs, FoundAt}
use Rattle.fills.specs.reading.Rows.{Digested}
use Rattle.fills.specs.lookup.Lookup.{RowFor}
use Rattle.fills.specs.lookup.steps.Found.{WithoutRow, HasRow, PartIs}
use Rattle.fills.proofs.digest.Words.{found_fill, not_found}
use Rattle.fills.proofs.Holding.{forms_small}

-- the row of the fill k
record RowOf (of : Whose) (css : List (List Cell)) (k : ℕ) (f : Fill) : Type 0 where
  row : List Cell
  at : Nth css (k + 1) row
  means : Form of row f

row_of : {of : Whose} {css : List (List Cell)} {fs : List Fill} → Forms of css fs → (k : ℕ) → k < length fs → RowOf of css k (get_or fs k no_fill)
row_of no_form k l = absurd (omega arith)
row_of (form {cs = cs} {css} w ws) zero l = record { row = cs; at = record { before = []; behind = css; are = refl; number = refl }; means = w }
row_of (form {cs = cs} w ws) (suc k) l =
    let r = row_of ws k (omega arith) in
    let a = r.at in
    let n = a.number in
    record { row = r.row; at = record { before = cs ∷ a.before; behind = a.behind; are = ap (λ (x : List (List Cell)). cs ∷ x) a.are; number = omega arith }; means = r.means }

as_many : {of : Whose} {css : List (List Cell)} {fs : List Fill} → Forms of css fs → length css ≡ length fs
as_many no_form = refl
as_many (form w ws) = ap suc (as_many ws)

-- no row has a long member, or a soil or slope that is none
module _ {of : Whose} {s : List ℕ} {ws : List FillWords} (d : Digested of s ws) {member : Name} {soil slope : ℕ} where
  pub beyond_none : (member.len ≤ 12 → soil ≤ 5 → slope ≤ 5 → ⊥) → WithoutRow of s member soil slope
  beyond_none out = record {
    fills = d.fills;
    book = d.book;
    lacks = λ v l.
        let small = forms_small d.book.forms l.at l.within in
        let m = small.member.few in
        let i = small.soil.1 in
        let j = small.slope.1 in
        let e = ap (λ (f : Fill). f.member.len) l.is in
        let f = ap (λ (f : Fill). f.soil) l.is in
        let g = ap (λ (f : Fill). f.slope) l.is in
        out (omega arith) (omega arith) (omega arith);
  }

  module _ {key : TwoWords} (is : KeyIs member soil slope key) (a : soil ≤ 5) (b : slope ≤ 5) where
    pub none_found : FoundAt ws key None → WithoutRow of s member soil slope
    none_found found = record { fills = d.fills; book = d.book; lacks = not_found d.digest is a b found }

    module _ {r : ℕ} (found : FoundAt ws key (Some r)) where
      pub found_there : HasRow s r
      found_there =
          let many = d.digest.many in
          let same = as_many d.book.forms in
          let l = found.0 in
          record { of = of; fills = d.fills; book = d.book; more = omega arith }

      pub row_found : (lies : Lies) → PartIs s r lies → RowFor of s member soil slope lies.from lies.to
      row_found lies part =
          let many = d.digest.many in
          let l = found.0 in
          let w = row_of d.book.forms r (omega arith) in
          let ends = part of d.fills d.book w.row w.at in
          record {
            fills = d.fills;
            book = d.book;
            number = r + 1;
            row = w.row;
            at = w.at;
            value = (get_or ws r no_words).value;
            means = subst (Form of w.row) (found_fill d.digest is a b found) w.means;
            starts = ends.0;
            ends = ends.1;
          }
