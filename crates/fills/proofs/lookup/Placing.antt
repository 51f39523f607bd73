-- Of what was found in the two books: own before common, and nothing where one is refused. And what `place_of` and `row_of` promise is met by one answer.
use Prim.Native.Nat.{ℕ, ◌+◌, ◌≤◌, ◌<◌}
use native.Mathlib.Omega.{arith}
use mathlib.Core.Path.{◌≡◌, refl, sym, ap, subst, ◌∙◌}
use mathlib.Core.List.{List, [], ◌∷◌, ◌++◌}
use lib.ListN.{length, get_or, length-append}
use Rattle.std.specs.Prelude.{Option, Some, None, Ok}
use Rattle.arithmetic.proofs.Cases.{impossible}
use Rattle.csv_text.specs.rfc4180.Rfc4180.{Cell, File}
use Rattle.csv_text.specs.Part.{part}
use Rattle.csv_text.specs.cells.Standing.{row_text, row_start}
use Rattle.csv_text.proofs.Lists.{level}
use Rattle.csv_text.proofs.cells.Standing.{row_lies, row_within}
use Rattle.csv_text.proofs.places.Here.{HereAt, row_here}
use Rattle.fields.specs.names.Names.{NameOf, no_name}
use Rattle.fields.specs.names.NameAt.{ContentNamed}
use Rattle.std.specs.Option.{unwrap_or}
use Rattle.fields.specs.declared.names.Name.{Name}
use Rattle.fills.specs.declared.fill_rows.Fill.{Fill}
use Rattle.fills.specs.declared.fill_rows.Whose.{Whose}
use Rattle.fills.specs.declared.fill_rows.Whose.TheVariants as whose
use Rattle.fills.specs.declared.lookup.Place.{Place}
use Rattle.fills.specs.declared.lookup.Place.TheVariants.{Own, Common}
use Rattle.fills.specs.declared.lookup.Lies.{Lies}
use Rattle.fills.specs.declared.faults.FillFault.{FillFault}
use Rattle.fills.specs.faults.Faults.{FillLies}
use Rattle.fills.specs.FillBook.{Forms, form, no_fill, Lists, FillBook}
use Rattle.fills.specs.fill_rows.Form.{Form}
use Rattle.fills.specs.Says.{Lacks}
use Rattle.fills.specs.lookup.Lookup.{RowFor, LacksOwn, PlaceIs, refused, in_own, in_common, nowhere, stretch, RowIs}
use Rattle.fills.specs.lookup.steps.Found.{WithoutRow, FoundIs}
use Rattle.fills.proofs.OneReading.{form_one, rows_one, fills_one, one_place}
use Rattle.fills.proofs.lookup.Rows.{rows_file}
use Rattle.fills.proofs.faults.Lying.{refused_book}

-- an own row has a name
no_name_own : {s : List ℕ} {soil slope from to : ℕ} → RowFor whose.Own s no_name soil slope from to → ⊥
no_name_own r =
    let some = r.means.member.is.some in
    let e = ap (λ (n : Name). n.len) r.means.member.held in
    omega arith

-- the name that was read, where a row has it; no row has no name
row_named : (a : Option Name) {member : List ℕ} {n : Name} → ContentNamed member a → n ≡ unwrap_or a no_name → {s : List ℕ} {soil slope from to : ℕ} → RowFor whose.Own s n soil slope from to → NameOf member n
row_named (Some m) {member} h e r = subst (NameOf member) (sym e) h
row_named None h e {s} {soil} {slope} {from} {to} r = absurd (no_name_own (subst (λ (n : Name). RowFor whose.Own s n soil slope from to) e r))

-- and where no row has it, none has the member
none_named : (a : Option Name) {member : List ℕ} {n : Name} → ContentNamed member a → n ≡ unwrap_or a no_name → {fs : List Fill} {soil slope : ℕ} → Lacks fs n soil slope → LacksOwn fs member soil slope
none_named (Some o) {n = n} h e {fs} {soil} {slope} lacks m w = subst (λ (x : Name). Lacks fs x soil slope) (e ∙ h.held ∙ sym w.held) lacks
none_named None h e lacks m w = absurd (h w.is)

-- a book's fills, whether the row is there or not
pub record HasBook (of : Whose) (s : List ℕ) : Type 0 where
  pub fills : List Fill
  pub book : FillBook of s fills

pub has_book : {of : Whose} {s : List ℕ} (m : Name) (soil slope : ℕ) (found : Option Lies) → FoundIs of s m soil slope (Ok found) → HasBook of s
has_book m soil slope (Some lies) r = record { fills = r.fills; book = r.book }
has_book m soil slope None r = record { fills = r.fills; book = r.book }

module _ {own common member : List ℕ} {soil slope : ℕ} where
  pub no_common : {fault : FillFault} → FillLies whose.Common common (Some fault) → PlaceIs own common member soil slope None
  no_common h = refused (λ b. refused_book h b.commons b.is_common) refl

  pub no_own : {fault : FillFault} → FillLies whose.Own own (Some fault) → PlaceIs own common member soil slope None
  no_own h = refused (λ b. refused_book h b.owns b.is_own) refl

module _ {own common member : List ℕ} {soil slope : ℕ} (a : Option Name) (n : Name) (named : ContentNamed member a) (is : n ≡ unwrap_or a no_name) where
  pub own_row : {from to : ℕ} → RowFor whose.Own own n soil slope from to → HasBook whose.Common common → PlaceIs own common member soil slope (Some (Own (record { from = from; to = to })))
  own_row r c = in_own (record { owns = r.fills; commons = c.fills; is_own = r.book; is_common = c.book }) (row_named a named is r) r refl

  pub common_row : {from to : ℕ} → WithoutRow whose.Own own n soil slope → RowFor whose.Common common no_name soil slope from to → PlaceIs own common member soil slope (Some (Common (record { from = from; to = to })))
  common_row w r = in_common (record { owns = w.fills; commons = r.fills; is_own = w.book; is_common = r.book }) (none_named a named is w.lacks) r refl

  pub no_row : WithoutRow whose.Own own n soil slope → WithoutRow whose.Common common no_name soil slope → PlaceIs own common member soil slope None
  no_row w c = nowhere (record { owns = w.fills; commons = c.fills; is_own = w.book; is_common = c.book }) (none_named a named is w.lacks) c.lacks refl

-- a row lies within its book, and it is the row itself that lies there
module _ {of : Whose} {s : List ℕ} {m : Name} {soil slope from to : ℕ} (r : RowFor of s m soil slope from to) where
  reading : File s (r.at.before ++ r.row ∷ r.at.behind)
  reading =
      let n = ap length r.at.are in
      let l = length-append r.at.before (r.row ∷ r.at.behind) in
      subst (File s) r.at.are (rows_file r.book.text (omega arith))

  here : HereAt s (row_start r.at.before) r.row r.at.behind
  here = row_here s r.at.before reading

  pub lies_within : (from ≤ to) × (to ≤ length s)
  lies_within =
      let a = r.starts in
      let b = r.ends in
      let w = row_within s (row_start r.at.before) here.file here.within in
      (omega arith, omega arith)

  pub the_row : part from to s ≡ row_text r.row
  the_row =
      let e = r.starts in
      let f : to ≡ row_start r.at.before + length (row_text r.row) = r.ends ∙ ap (λ (k : ℕ). k + length (row_text r.row)) e in
      (λ i. part (e i) (f i) s) ∙ row_lies s (row_start r.at.before) here.file

module _ {own common member : List ℕ} {soil slope : ℕ} {lies : Lies} where
  pub own_within : PlaceIs own common member soil slope (Some (Own lies)) → (lies.from ≤ lies.to) × (lies.to ≤ length own)
  own_within (refused n e) = impossible cc
  own_within (in_own {from = a} {to = b} n w r e) =
      let x : lies.from ≡ a = cc in
      let y : lies.to ≡ b = cc in
      let z = lies_within r in
      let u = z.0 in
      let v = z.1 in
      (omega arith, omega arith)
  own_within (in_common n l r e) = impossible cc
  own_within (nowhere n l k e) = impossible cc

  pub common_within : PlaceIs own common member soil slope (Some (Common lies)) → (lies.from ≤ lies.to) × (lies.to ≤ length common)
  common_within (refused n e) = impossible cc
  common_within (in_own n w r e) = impossible cc
  common_within (in_common {from = a} {to = b} n l r e) =
      let x : lies.from ≡ a = cc in
      let y : lies.to ≡ b = cc in
      let z = lies_within r in
      let u = z.0 in
      let v = z.1 in
      (omega arith, omega arith)
  common_within (nowhere n l k e) = impossible cc

-- a row that has a member, soil and slope stands where its fill does
record FillHere (fs : List Fill) (k : ℕ) (f : Fill) : Type 0 where
  within : k < length fs
  is : get_or fs k no_fill ≡ f

fill_here : {of : Whose} (os : List (List Cell)) (row : List Cell) (bs : List (List Cell)) {fs : List Fill} {f : Fill} → Forms of (os ++ row ∷ bs) fs → Form of row f → FillHere fs (length os) f
fill_here [] row bs (form w ws) v = record { within = omega arith; is = form_one w v }
fill_here (o ∷ os) row bs (form w ws) v = let h = fill_here os row bs ws v in let l = h.within in record { within = omega arith; is = h.is }

-- so there is one
module _ {of : Whose} {s : List ℕ} {m : Name} {soil slope : ℕ} where
  placed : {a b : ℕ} (r : RowFor of s m soil slope a b) → FillHere r.fills (length r.at.before) (record { member = m; soil = soil; slope = slope; value = r.value })
  placed r = fill_here r.at.before r.row r.at.behind (subst (λ (l : List (List Cell)). Forms of l r.fills) r.at.are r.book.forms) r.means

  pub row_one : {a b c d : ℕ} → RowFor of s m soil slope a b → RowFor of s m soil slope c d → (a ≡ c) × (b ≡ d)
  row_one r q =
      let x = placed r in
      let y = placed q in
      let e = fills_one q.book r.book in
      let there : get_or r.fills (length q.at.before) no_fill ≡ record { member = m; soil = soil; slope = slope; value = q.value } = ap (λ (l : List Fill). get_or l (length q.at.before) no_fill) (sym e) ∙ y.is in
      let long : length q.fills ≡ length r.fills = ap length e in
      let k = x.within in
      let l = y.within in
      let same : length r.at.before ≡ length q.at.before =
      one_place r.fills r.book.once (length r.at.before) (length q.at.before) x.within (omega arith)
      (record { member = ap (λ (f : Fill). f.member) x.is ∙ sym (ap (λ (f : Fill). f.member) there); soil = ap (λ (f : Fill). f.soil) x.is ∙ sym (ap (λ (f : Fill). f.soil) there); slope = ap (λ (f : Fill). f.slope) x.is ∙ sym (ap (λ (f : Fill). f.slope) there) }) in
      let w = level r.at.before q.at.before r.at.behind q.at.behind r.row q.row (sym r.at.are ∙ rows_one r.book q.book ∙ q.at.are) same in
      let starts = r.starts ∙ ap row_start w.0 ∙ sym q.starts in
      (starts, r.ends ∙ (λ i. starts i + length (row_text (w.1 i))) ∙ sym q.ends)

-- own rows are those of one name
name_one : {member : List ℕ} {a b : Name} → NameOf member a → NameOf member b → a ≡ b
name_one p q = p.held ∙ sym q.held

row_listed : {of : Whose} {s : List ℕ} {m : Name} {soil slope from to : ℕ} (r : RowFor of s m soil slope from to) {fs : List Fill} → FillBook of s fs → Lists fs m soil slope r.value
row_listed {m = m} {soil} {slope} r b = subst (λ (l : List Fill). Lists l m soil slope r.value) (fills_one r.book b) (record { at = _; within = (placed r).within; is = (placed r).is })

module _ {own common member : List ℕ} {soil slope : ℕ} where
  pub place_one : {p q : Option Place} → PlaceIs own common member soil slope p → PlaceIs own common member soil slope q → p ≡ q
  place_one (refused n e) (refused m f) = e ∙ sym f
  place_one (refused n e) (in_own b w r f) = absurd (n b)
  place_one (refused n e) (in_common b l r f) = absurd (n b)
  place_one (refused n e) (nowhere b l k f) = absurd (n b)
  place_one (in_own b w r e) (refused m f) = absurd (m b)
  place_one (in_own {from = x} {to = y} b w r e) (in_own {from = u} {to = v} c z q f) =
      let o = row_one (subst (λ (n : Name). RowFor whose.Own own n soil slope x y) (name_one w z) r) q in
      e ∙ (λ i. Some (Own (record { from = o.0 i; to = o.1 i }))) ∙ sym f
  place_one (in_own b w r e) (in_common c l q f) = absurd (l _ w _ (row_listed r c.is_own))
  place_one (in_own b w r e) (nowhere c l k f) = absurd (l _ w _ (row_listed r c.is_own))
  place_one (in_common b l r e) (refused m f) = absurd (m b)
  place_one (in_common b l r e) (in_own c z q f) = absurd (l _ z _ (row_listed q b.is_own))
  place_one (in_common b l r e) (in_common c k q f) = let o = row_one r q in e ∙ (λ i. Some (Common (record { from = o.0 i; to = o.1 i }))) ∙ sym f
  place_one (in_common b l r e) (nowhere c k j f) = absurd (j _ (row_listed r c.is_common))
  place_one (nowhere b l k e) (refused m f) = absurd (m b)
  place_one (nowhere b l k e) (in_own c z q f) = absurd (l _ z _ (row_listed q b.is_own))
  place_one (nowhere b l k e) (in_common c j q f) = absurd (k _ (row_listed q b.is_common))
  place_one (nowhere b l k e) (nowhere c j i f) = e ∙ sym f

  pub row_is_one : {x y : List ℕ} → RowIs own common member soil slope x → RowIs own common member soil slope y → x ≡ y
  row_is_one p q = p.is ∙ ap (stretch own common) (place_one p.lies q.lies) ∙ sym q.is
