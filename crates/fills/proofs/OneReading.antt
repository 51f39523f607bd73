-- A fill book has one reading, and two accepted books say one thing for a member, soil and slope.
use Prim.Native.Nat.{ℕ, ◌<◌}
use native.Mathlib.Decide.{dec_lt}
use native.Mathlib.Omega.{arith}
use mathlib.Core.Path.{◌≡◌, refl, sym, ap, subst, ◌∙◌}
use mathlib.Core.List.{List}
use lib.ListN.{length, get_or}
use Rattle.arithmetic.proofs.Cases.{by_cases}
use Rattle.csv_text.specs.rfc4180.Rfc4180.{Cell}
use Rattle.csv_text.proofs.rfc4180.Unique.{file_unique}
use Rattle.fields.specs.declared.Entry.{Entry}
use Rattle.fields.specs.declared.names.Name.{Name}
use Rattle.fields.proofs.Numerals.{number_unique}
use Rattle.earth.specs.coefficients.Coefficients.{Coefficient}
use Rattle.std.proofs.Common.{Some}
use Rattle.fills.specs.declared.fill_rows.Fill.{Fill}
use Rattle.fills.specs.declared.fill_rows.Whose.{Whose}
use Rattle.fills.specs.declared.fill_rows.Whose.TheVariants.{Own, Common}
use Rattle.fills.specs.fill_rows.Form.{Five, cells_of, MemberIs, UpTo, Form}
use Rattle.fills.specs.FillBook.{TextRows, no_bytes, bytes, Forms, no_form, form, no_fill, Lists, SamePlace, Once, FillBook}
use Rattle.fills.specs.Says.{Says, own, common, neither, FillFor}

member_one : (whose : Whose) (c : List ℕ) {m n : Name} → MemberIs whose c m → MemberIs whose c n → m ≡ n
member_one Own c p q = p.held ∙ sym q.held
member_one Common c p q = p.1 ∙ sym q.1

up_to_one : {bound : ℕ} {c : List ℕ} {m n : ℕ} → UpTo bound c m → UpTo bound c n → m ≡ n
up_to_one p q = ap (λ (e : Entry). e.size) (number_unique p.number q.number)

-- cells are five in one way
five_one : {a b : Five} → cells_of a ≡ cells_of b → a ≡ b
five_one {a} {b} e =
    let m : a.member ≡ b.member = cc in
    let s : a.soil ≡ b.soil = cc in
    let p : a.slope ≡ b.slope = cc in
    let v : a.value ≡ b.value = cc in
    let n : a.note ≡ b.note = cc in
    λ i. record { member = m i; soil = s i; slope = p i; value = v i; note = n i }

pub form_one : {whose : Whose} {cs : List Cell} {a b : Fill} → Form whose cs a → Form whose cs b → a ≡ b
form_one {whose} {a = a} {b} f g =
    let e = five_one (sym f.are ∙ g.are) in
    let m = member_one whose _ (subst (λ (t : Five). MemberIs whose t.member.content a.member) e f.member) g.member in
    let s = up_to_one (subst (λ (t : Five). UpTo 5 t.soil.content a.soil) e f.soil) g.soil in
    let p = up_to_one (subst (λ (t : Five). UpTo 5 t.slope.content a.slope) e f.slope) g.slope in
    let v = up_to_one (subst (λ (t : Five). UpTo 40000 t.value.content a.value) e f.value) g.value in
    λ i. record { member = m i; soil = s i; slope = p i; value = v i }

pub forms_one : {whose : Whose} {css : List (List Cell)} {xs ys : List Fill} → Forms whose css xs → Forms whose css ys → xs ≡ ys
forms_one no_form no_form = refl
forms_one (form f fs) (form g gs) =
    let a = form_one f g in
    let b = forms_one fs gs in
    cc

pub text_one : {s : List ℕ} {rs qs : List (List Cell)} → TextRows s rs → TextRows s qs → rs ≡ qs
text_one no_bytes no_bytes = refl
text_one no_bytes (bytes n q) = absurd (n refl)
text_one (bytes n p) no_bytes = absurd (n refl)
text_one (bytes n p) (bytes m q) = file_unique p q refl

-- a fill book has one reading, of its rows and of what they mean
pub rows_one : {whose : Whose} {s : List ℕ} {xs ys : List Fill} (p : FillBook whose s xs) (q : FillBook whose s ys) → p.rows ≡ q.rows
rows_one p q = text_one p.text q.text

pub fills_one : {whose : Whose} {s : List ℕ} {xs ys : List Fill} → FillBook whose s xs → FillBook whose s ys → xs ≡ ys
fills_one {whose} {xs = xs} p q = forms_one (subst (λ (l : List (List Cell)). Forms whose l xs) (rows_one p q) p.forms) q.forms

-- a member, soil and slope is listed once
pub one_place : (fs : List Fill) → Once fs → (j k : ℕ) → j < length fs → k < length fs → SamePlace (get_or fs j no_fill) (get_or fs k no_fill) → j ≡ k
one_place fs once j k a b same =
    by_cases (dec_lt j k) (λ l. absurd (once j k l b same))
    (λ l.
    by_cases (dec_lt k j) (λ m. absurd (once k j m a (record { member = sym same.member; soil = sym same.soil; slope = sym same.slope })))
    (λ m. omega arith))

pub listed_one : (fs : List Fill) → Once fs → {m : Name} {s p v w : ℕ} → Lists fs m s p v → Lists fs m s p w → v ≡ w
listed_one fs once a b =
    let x = a.is in
    let y = b.is in
    let e = one_place fs once a.at b.at a.within b.within (record { member = cc; soil = cc; slope = cc }) in
    ap (λ (f : Fill). f.value) (sym a.is ∙ ap (λ (i : ℕ). get_or fs i no_fill) e ∙ b.is)

pub says_one : (owns commons : List Fill) → Once owns → Once commons → {m : Name} {s p : ℕ} {c d : Coefficient} → Says owns commons m s p c → Says owns commons m s p d → c ≡ d
says_one owns commons a b (own x e) (own y f) = e ∙ ap Some (listed_one owns a x y) ∙ sym f
says_one owns commons a b (own x e) (common n y f) = absurd (n _ x)
says_one owns commons a b (own x e) (neither n k f) = absurd (n _ x)
says_one owns commons a b (common n x e) (own y f) = absurd (n _ y)
says_one owns commons a b (common n x e) (common m y f) = e ∙ ap Some (listed_one commons b x y) ∙ sym f
says_one owns commons a b (common n x e) (neither m k f) = absurd (k _ x)
says_one owns commons a b (neither n k e) (own y f) = absurd (n _ y)
says_one owns commons a b (neither n k e) (common m y f) = absurd (k _ y)
says_one owns commons a b (neither n k e) (neither m l f) = e ∙ sym f

-- two accepted books hold one thing for a member
pub fill_one : {own common : List ℕ} {m : Name} {f g : ℕ → ℕ → Coefficient} → FillFor own common m f → FillFor own common m g → f ≡ g
fill_one {m = m} {f} {g} p q =
    let a = fills_one p.books.is_own q.books.is_own in
    let b = fills_one p.books.is_common q.books.is_common in
    let same : (s t : ℕ) → f s t ≡ g s t =
    λ s t.
    says_one q.books.owns q.books.commons q.books.is_own.once q.books.is_common.once
    (subst (λ (l : List Fill). Says l q.books.commons m s t (f s t)) a (subst (λ (l : List Fill). Says p.books.owns l m s t (f s t)) b (p.says s t)))
    (q.says s t) in
    λ i s t. same s t i
