-- The loop over the rows of a fill book: those passed mean the fills that are held, and none is listed twice.
use Prim.Native.Nat.{ℕ, zero, suc, ◌+◌, ◌*◌, ◌≤◌, ◌<◌}
use native.Mathlib.Decide.{dec_lt}
use native.Mathlib.Omega.{arith}
use mathlib.Core.Path.{◌≡◌, refl, sym, ap, subst, ◌∙◌}
use mathlib.Core.List.{List, [], ◌∷◌, ◌++◌}
use lib.ListN.{length, get_or, length-append, get_or-append}
use lib.Seq.{get_or_at}
use Rattle.std.specs.Prelude.{Some, None, Result, Ok, Err}
use Rattle.arithmetic.proofs.Cases.{by_cases}
use Rattle.csv_text.specs.rfc4180.Rfc4180.{DQUOTE, Cell, Field, plain, quoted, File, Readable}
use Rattle.csv_text.specs.Nth.{Nth}
use Rattle.csv_text.specs.cells.Cells.{offset, RowIs, RowAt}
use Rattle.csv_text.specs.strays.Strays.{TextSays}
use Rattle.csv_text.specs.declared.cells.Cells.{Cells}
use Rattle.csv_text.specs.declared.strays.TextFault.{TextFault}
use Rattle.csv_text.proofs.cells.Standing.{standing}
use Rattle.csv_text.proofs.cells.Fields.{row_fields}
use Rattle.csv_text.proofs.notes.Reached.{RowReached, reached_start, reached_more, reached_last}
use Rattle.fields.specs.Numbers.{IsNumber, is_positive, is_negative}
use Rattle.fields.proofs.digits.Numerals.{numeral_some}
use Rattle.fields.specs.declared.Entry.{Entry}
use Rattle.fields.specs.names.Names.{Letter, hyphen, digit, upper}
use Rattle.fields.specs.declared.names.Name.{Name}
use Rattle.fills.specs.declared.fill_rows.Fill.{Fill}
use Rattle.fills.specs.declared.fill_rows.Whose.{Whose}
use Rattle.fills.specs.declared.fill_rows.Whose.TheVariants.{Own, Common}
use Rattle.fills.specs.declared.digest.TwoWords.{TwoWords}
use Rattle.fills.specs.declared.digest.FillWords.{FillWords}
use Rattle.fills.specs.declared.faults.FillFault.{FillFault}
use Rattle.fills.specs.declared.faults.FillFault.TheVariants.{Text, Twice}
use Rattle.fills.specs.fill_rows.Form.{MemberIs, Form}
use Rattle.fills.specs.fill_rows.steps.Reading.{RowMeans, MeantBy}
use Rattle.fills.specs.FillBook.{no_bytes, bytes, Forms, no_form, form, no_fill, Lists, SamePlace, Once}
use Rattle.fills.specs.digest.Digest.{Proper, KeyIs, FoundAt, Small, DigestOf}
use Rattle.fills.specs.reading.Rows.{Digested}
use Rattle.fills.specs.faults.Faults.{RowLies, twice, FillLies, text, row}
use Rattle.fills.proofs.OneReading.{form_one}
use Rattle.fills.proofs.digest.Words.{proper_name, found_fill, not_found, digest_more}

-- a member that a row names is told by its words
letter_small : {b : ℕ} → Letter b → b < 256
letter_small (hyphen e) = omega arith
letter_small (digit h k) = omega arith
letter_small (upper h k) = omega arith

member_proper : (whose : Whose) (c : List ℕ) {n : Name} → MemberIs whose c n → Proper n
member_proper Own c h = subst Proper (sym h.held) (proper_name c h.is.few (λ k l. letter_small (h.is.letters k l)))
member_proper Common c h = subst Proper (sym h.1) (proper_name [] (omega arith) (λ k l. absurd (omega arith)))

pub form_small : {whose : Whose} {cs : List Cell} {f : Fill} → Form whose cs f → Small f
form_small {whose} w = record {
  member = member_proper whose _ w.member;
  soil = (w.soil.from, w.soil.to);
  slope = (w.slope.from, w.slope.to);
  value = (w.value.from, w.value.to);
}

-- a row takes seven bytes at least: four commas, and a digit in each of three fields
number_some : {c : List ℕ} {e : Entry} → IsNumber c e → 1 ≤ length c
number_some (is_positive d q) = numeral_some d.numeral
number_some (is_negative f d l q) = let e = ap length f in omega arith

field_some : {r c : List ℕ} → Field r c → 1 ≤ length c → 1 ≤ length r
field_some (plain p) h = h
field_some (quoted {s} p) h = let l = length-append s (DQUOTE ∷ []) in omega arith

module _ {whose : Whose} {cs : List Cell} {f : Fill} (w : Form whose cs f) where
  pub row_long : {s : List ℕ} {css : List (List Cell)} → File s (cs ∷ css) → 8 ≤ offset cs (length cs)
  unfolding offset
  row_long {s} {css} q =
      let t = w.five in
      let p = subst (λ (l : List Cell). File s (l ∷ css)) w.are q in
      let a = field_some (row_fields p 1 (omega arith)) (number_some w.soil.number) in
      let b = field_some (row_fields p 2 (omega arith)) (number_some w.slope.number) in
      let c = field_some (row_fields p 3 (omega arith)) (number_some w.value.number) in
      subst (λ (l : List Cell). 8 ≤ offset l (length l)) (sym w.are) (omega arith)

-- the rows of a book, cut behind those that were passed
pub record Cut (fs gone : List Fill) (f : Fill) : Type 0 where
  pub behind : List Fill
  pub are : fs ≡ gone ++ f ∷ behind

pub some_form : {whose : Whose} (os : List (List Cell)) (cs : List Cell) (bs : List (List Cell)) {fs : List Fill} → Forms whose (os ++ cs ∷ bs) fs → (f : Fill) × Form whose cs f
some_form [] cs bs (form {f = f} w ws) = (f, w)
some_form (o ∷ os) cs bs (form w ws) = some_form os cs bs ws

pub cut : {whose : Whose} {os : List (List Cell)} {gone : List Fill} {cs : List Cell} {f : Fill} (bs : List (List Cell)) {fs : List Fill} → Forms whose os gone → Form whose cs f → Forms whose (os ++ cs ∷ bs) fs → Cut fs gone f
cut bs no_form w (form {fs = fs} v vs) = let e = form_one v w in record { behind = fs; are = cc }
cut bs (form u us) w (form v vs) =
    let c = cut bs us w vs in
    let e = form_one v u in
    let g = c.are in
    record { behind = c.behind; are = cc }

forms_more : {whose : Whose} {css : List (List Cell)} {fs : List Fill} {cs : List Cell} {f : Fill} → Forms whose css fs → Form whose cs f → Forms whose (css ++ cs ∷ []) (fs ++ f ∷ [])
forms_more no_form g = form g no_form
forms_more (form f fs) g = form f (forms_more fs g)

-- a fill whose member, soil and slope were not listed before
once_more : {fs : List Fill} (f : Fill) → Once fs → ((v : ℕ) → Lists fs f.member f.soil f.slope v → ⊥) → Once (fs ++ f ∷ [])
once_more {fs} f once new j k l m same =
    let n = length-append fs (f ∷ []) in
    by_cases (dec_lt k (length fs))
    (λ a.
    once j k l a
    (subst (λ (g : Fill). SamePlace g (get_or fs k no_fill)) (get_or-append fs (f ∷ []) no_fill j (omega arith))
    (subst (λ (g : Fill). SamePlace (get_or (fs ++ f ∷ []) j no_fill) g) (get_or-append fs (f ∷ []) no_fill k a) same)))
    (λ a.
    let e : k ≡ length fs = omega arith in
    let x = get_or fs j no_fill in
    let here : get_or (fs ++ f ∷ []) k no_fill ≡ f = get_or_at fs f [] no_fill k (sym e) in
    let there : get_or (fs ++ f ∷ []) j no_fill ≡ x = get_or-append fs (f ∷ []) no_fill j (omega arith) in
    let p = same.member in
    let q = same.soil in
    let r = same.slope in
    let mm : x.member ≡ f.member = sym (ap (λ (g : Fill). g.member) there) ∙ p ∙ ap (λ (g : Fill). g.member) here in
    let ss : x.soil ≡ f.soil = sym (ap (λ (g : Fill). g.soil) there) ∙ q ∙ ap (λ (g : Fill). g.soil) here in
    let tt' : x.slope ≡ f.slope = sym (ap (λ (g : Fill). g.slope) there) ∙ r ∙ ap (λ (g : Fill). g.slope) here in
    new x.value (record { at = j; within = omega arith; is = λ i. record { member = mm i; soil = ss i; slope = tt' i; value = x.value } }))

-- the n-th of a list, by its place
nth_at : {A : Type 0} (d : A) (xs : List A) (k : ℕ) → k < length xs → Nth xs (k + 1) (get_or xs k d)
nth_at d [] k l = absurd (omega arith)
nth_at d (x ∷ xs) zero l = record { before = []; behind = xs; are = refl; number = refl }
nth_at d (x ∷ xs) (suc k) l =
    let a = nth_at d xs k (omega arith) in
    let n = a.number in
    record { before = x ∷ a.before; behind = a.behind; are = ap (λ (ys : List _). x ∷ ys) a.are; number = omega arith }

-- the first rows of a text mean fills, which are held in words, and the next row is reached
pub record Walk (whose : Whose) (s : List ℕ) (n at : ℕ) (ws : List FillWords) : Type 0 where
  pub size : length s ≤ 65536
  pub some : 0 < length s
  pub passed : List (List Cell)
  pub reached : RowReached s passed (n + 1) at
  pub fills : List Fill
  pub forms : Forms whose passed fills
  pub once : Once fills
  pub digest : DigestOf fills ws
  pub many : length ws ≡ n
  pub room : 9 * n ≤ at
  pub more_text : at < length s

pub walk_start : {whose : Whose} {s : List ℕ} {ws : List FillWords} → ws ≡ [] → 0 < length s → length s ≤ 65536 → Readable s → Walk whose s 0 0 ws
walk_start none h k q = record {
  size = k;
  some = h;
  passed = [];
  reached = reached_start q;
  fills = [];
  forms = no_form;
  once = λ j k l m same. absurd (omega arith);
  digest = record { many = ap length none; holds = λ k l. let e = ap length none in absurd (omega arith) };
  many = ap length none;
  room = omega arith;
  more_text = h;
}

-- there is a place for one fill more
pub walk_room : {whose : Whose} {s : List ℕ} {n at : ℕ} {ws : List FillWords} → Walk whose s n at ws → n < 7282
walk_room i =
    let a = i.room in
    let b = i.more_text in
    let c = i.size in
    omega arith

-- a text that is no RFC 4180 text
pub text_refused : {whose : Whose} {s : List ℕ} {fault : TextFault} → length s ≤ 65536 → TextSays s (Some fault) → FillLies whose s (Some (Text fault))
text_refused h t = text h t

-- a fill book of no bytes has no rows
pub empty_book : {whose : Whose} (s : List ℕ) {ws : List FillWords} → length s ≡ 0 → ws ≡ [] → Digested whose s ws
empty_book [] h none = record {
  fills = [];
  book = record { size = omega arith; rows = []; text = no_bytes; forms = no_form; once = λ j k l m same. absurd (omega arith) };
  digest = record { many = ap length none; holds = λ k l. let e = ap length none in absurd (omega arith) };
}
empty_book (b ∷ s) h none = absurd (omega arith)

module _ {whose : Whose} {s : List ℕ} {n at : ℕ} {ws : List FillWords} (i : Walk whose s n at ws) {c : Cells} (h : RowAt s at c) where
  abbrev cs : List Cell
  cs = i.reached.row

  seen : RowIs s at cs i.reached.behind c
  seen = h _ _ i.reached.here

  meant : (r : Result Fill FillFault) → MeantBy whose s c (n + 1) r → RowMeans whose cs (n + 1) r
  meant r w = w cs seen.count (standing h cs i.reached.behind i.reached.here (omega arith))

  -- it may not stand behind those passed
  lies : {fault : FillFault} → RowLies whose i.fills cs (n + 1) fault → FillLies whose s (Some fault)
  lies w =
      row i.size (bytes (λ (z : s ≡ []). let l = ap length z in let m = i.some in omega arith) i.reached.reading)
      (record { before = i.passed; behind = i.reached.behind; are = i.reached.are; number = i.reached.number })
      (record { forms = i.forms; once = i.once }) w

  pub walk_fault : {fault : FillFault} → MeantBy whose s c (n + 1) (Err fault) → FillLies whose s (Some fault)
  walk_fault {fault} w = lies (meant (Err fault) w i.fills)

  module _ {f : Fill} (w : MeantBy whose s c (n + 1) (Ok f)) where
    means : Form whose cs f
    means = meant (Ok f) w

    pub small : Small f
    small = form_small means

    module _ {key : TwoWords} (is : KeyIs f.member f.soil f.slope key) where
      pub walk_twice : {found : ℕ} → FoundAt ws key (Some found) → FillLies whose s (Some (Twice (n + 1) (found + 1)))
      walk_twice {found} place =
          let many = i.digest.many in
          let within = place.0 in
          let same = found_fill i.digest is small.soil.1 small.slope.1 place in
          lies
          (twice means (nth_at no_fill i.fills found (omega arith))
          (record { member = ap (λ (g : Fill). g.member) same; soil = ap (λ (g : Fill). g.soil) same; slope = ap (λ (g : Fill). g.slope) same }))

      module _ (new : FoundAt ws key None) where
        abbrev these : FillWords
        these = record { key = key; value = f.value }

        once : Once (i.fills ++ f ∷ [])
        once = once_more f i.once (not_found i.digest is small.soil.1 small.slope.1 new)

        held : DigestOf (i.fills ++ f ∷ []) (ws ++ these ∷ [])
        held = digest_more i.digest f these (record { small = small; high_is = is.high; low_is = is.low; value_is = refl })

        pub walk_more : c.next < length s → Walk whose s (n + 1) c.next (ws ++ these ∷ [])
        walk_more k = record {
          size = i.size;
          some = i.some;
          passed = _;
          reached = reached_more i.reached seen.rest (seen.on k) k;
          fills = i.fills ++ f ∷ [];
          forms = forms_more i.forms means;
          once = once;
          digest = held;
          many = let e = length-append ws (these ∷ []) in let m = i.many in omega arith;
          room = let a = i.room in let b = seen.behind in let l = row_long means i.reached.here in omega arith;
          more_text = k;
        }

        pub walk_last : length s ≤ c.next → Digested whose s (ws ++ these ∷ [])
        walk_last k =
            let e = reached_last i.reached seen.rest k in
            record {
              fills = i.fills ++ f ∷ [];
              book = record {
                size = i.size;
                rows = i.passed ++ cs ∷ [];
                text = bytes (λ (z : s ≡ []). let l = ap length z in let m = i.some in omega arith) (subst (File s) e i.reached.reading);
                forms = forms_more i.forms means;
                once = once;
              };
              digest = held;
            }

  pub walk_on : c.next < length s → at < c.next
  walk_on k = seen.on k
