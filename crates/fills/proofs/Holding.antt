-- The values gathered for a member are what the two books say for every soil and slope, and there is one such state of the places.
use Prim.Native.Nat.{ℕ, zero, suc, ◌≤◌, ◌<◌, min}
use native.Mathlib.Decide.{dec_lt, ℕ_discrete}
use native.Mathlib.Omega.{arith}
use mathlib.Core.Path.{◌≡◌, refl, sym, ap, subst, ◌∙◌}
use mathlib.Core.Bool.{Bool}
use mathlib.Core.List.{List, []}
use lib.ListN.{length, get_or, set, length-set, get_or-eq_default}
use lib.Seq.{ext_get_or, get_or-set_same, get_or-set_other}
use Rattle.arithmetic.proofs.Cases.{impossible, by_cases}
use Rattle.csv_text.specs.rfc4180.Rfc4180.{Cell}
use Rattle.fields.specs.declared.names.Name.{Name}
use Rattle.earth.specs.coefficients.Coefficients.{Coefficient}
use Rattle.earth.specs.coefficients.Lent.{coefficient, fill_of}
use Rattle.std.proofs.Common.{None, Some}
use Rattle.earth.proofs.coefficients.Held.{coefficient_value, coefficient_blank}
use Rattle.fills.specs.declared.fill_rows.Fill.{Fill}
use Rattle.fills.specs.declared.fill_rows.Whose.{Whose}
use Rattle.fills.specs.FillBook.{Forms, no_form, form, no_fill, Lists, FillBook}
use Rattle.fills.specs.Says.{Says, own, common, neither, Accepted, FillFor}
use Rattle.fills.specs.Values.{cell, mark, ValuesFor, void_name, Gathered, ValuesGiven, given, refused}
use Rattle.fills.specs.digest.Digest.{Small}
use Rattle.fills.proofs.OneReading.{fills_one, says_one}
use Rattle.fills.proofs.Walking.{form_small}

-- the fills of a book keep to their ranges
pub forms_small : {whose : Whose} {css : List (List Cell)} {fs : List Fill} → Forms whose css fs → (k : ℕ) → k < length fs → Small (get_or fs k no_fill)
forms_small no_form k l = absurd (omega arith)
forms_small (form w ws) zero l = form_small w
forms_small (form w ws) (suc k) l = forms_small ws k (omega arith)

pub record InRange (soil slope value : ℕ) : Type 0 where
  pub soil_in : (1 ≤ soil) × (soil ≤ 5)
  pub slope_in : (1 ≤ slope) × (slope ≤ 5)
  pub value_in : (1 ≤ value) × (value ≤ 40000)

pub listed_range : {whose : Whose} {s : List ℕ} {fs : List Fill} → FillBook whose s fs → {m : Name} {soil slope value : ℕ} → Lists fs m soil slope value → InRange soil slope value
listed_range b {soil = soil} {slope} {value} l =
    let w = forms_small b.forms l.at l.within in
    record {
      soil_in = subst (λ (k : ℕ). (1 ≤ k) × (k ≤ 5)) (ap (λ (f : Fill). f.soil) l.is) w.soil;
      slope_in = subst (λ (k : ℕ). (1 ≤ k) × (k ≤ 5)) (ap (λ (f : Fill). f.slope) l.is) w.slope;
      value_in = subst (λ (k : ℕ). (1 ≤ k) × (k ≤ 40000)) (ap (λ (f : Fill). f.value) l.is) w.value;
    }

module _ {mine all : List ℕ} (books : Accepted mine all) {m : Name} where
  -- nothing is held but for the five soils and slopes
  nothing_held : (soil slope : ℕ) → ((1 ≤ soil) × (soil ≤ 5) → (1 ≤ slope) × (slope ≤ 5) → ⊥) → Says books.owns books.commons m soil slope None
  nothing_held soil slope out =
      neither (λ v l. let w = listed_range books.is_own l in out w.soil_in w.slope_in) (λ v l. let w = listed_range books.is_common l in out w.soil_in w.slope_in) refl

  -- a mark stands for one thing
  marked : {soil slope : ℕ} (c : Coefficient) → Says books.owns books.commons m soil slope c → coefficient (mark c) ≡ c
  marked None w = coefficient_blank 0 (λ h. let from = h.0 in omega arith)
  marked (Some v) (own {value = u} l e) = let z : v ≡ u = cc in coefficient_value v (subst (λ (k : ℕ). (1 ≤ k) × (k ≤ 40000)) (sym z) (listed_range books.is_own l).value_in)
  marked (Some v) (common {value = u} n l e) = let z : v ≡ u = cc in coefficient_value v (subst (λ (k : ℕ). (1 ≤ k) × (k ≤ 40000)) (sym z) (listed_range books.is_common l).value_in)
  marked (Some v) (neither n k e) = impossible cc

  module _ {held : List (List ℕ)} (values : ValuesFor books.owns books.commons m held) where
    beyond : (i j : ℕ) → (i < 5 → j < 5 → ⊥) → cell held i j ≡ 0
    beyond i j out =
        by_cases (dec_lt i 5)
        (λ a. get_or-eq_default (get_or held i []) 0 (let n = values.shape.slopes i a in by_cases (dec_lt j 5) (λ b. absurd (out a b)) (λ b. omega arith)))
        (λ a. ap (λ (r : List ℕ). get_or r j 0) (get_or-eq_default held [] (let n = values.shape.soils in omega arith)))

    held_says : (soil slope : ℕ) → Says books.owns books.commons m soil slope (fill_of held soil slope)
    unfolding fill_of
    held_says zero slope = nothing_held 0 slope (λ a b. let z = a.0 in omega arith)
    held_says (suc i) zero = nothing_held (suc i) 0 (λ a b. let z = b.0 in omega arith)
    held_says (suc i) (suc j) =
        by_cases (dec_lt i 5)
        (λ a.
        by_cases (dec_lt j 5) (λ b. let w = values.each i j a b in subst (Says books.owns books.commons m (suc i) (suc j)) (sym (ap coefficient w.is ∙ marked w.held w.says)) w.says)
        (λ b. outside (λ c d. b d)))
        (λ a. outside (λ c d. a c))
      where
        outside : (i < 5 → j < 5 → ⊥) → Says books.owns books.commons m (suc i) (suc j) (coefficient (cell held i j))
        outside out =
            subst (Says books.owns books.commons m (suc i) (suc j)) (sym (ap coefficient (beyond i j out) ∙ coefficient_blank 0 (λ h. let from = h.0 in omega arith)))
            (nothing_held (suc i) (suc j) (λ c d. let e = c.1 in let f = d.1 in out (omega arith) (omega arith)))

    -- what is gathered for a member is what is held for it
    pub fill_held : FillFor mine all m (fill_of held)
    fill_held = record { books = books; says = held_says }

-- the values at a member's place
module _ (owns commons : List Fill) (members : List Name) (before : List (List (List ℕ))) where
  pub gathered_long : (n : ℕ) (after : List (List (List ℕ))) → Gathered owns commons members before n after → length after ≡ length before
  unfolding Gathered
  gathered_long zero after g = ap length g
  gathered_long (suc n) after g = ap length g.are ∙ length-set g.values n g.held ∙ gathered_long n g.values g.earlier

  pub gathered_at : (n : ℕ) (after : List (List (List ℕ))) → Gathered owns commons members before n after → n ≤ length before → (k : ℕ) → k < n → ValuesFor owns commons (get_or members k void_name) (get_or after k [])
  unfolding Gathered
  gathered_at zero after g room k l = absurd (omega arith)
  gathered_at (suc n) after g room k l =
      let long = gathered_long n g.values g.earlier in
      by_cases (ℕ_discrete k n)
      (λ e.
      let here : get_or after k [] ≡ g.held = ap (λ (x : List (List (List ℕ))). get_or x k []) g.are ∙ ap (λ (i : ℕ). get_or (set g.values n g.held) i []) e ∙ get_or-set_same g.values n g.held [] (omega arith) in
      subst (ValuesFor owns commons (get_or members k void_name)) (sym here) (subst (λ (i : ℕ). ValuesFor owns commons (get_or members i void_name) g.held) (sym e) g.own_values))
      (λ e.
      let there : get_or after k [] ≡ get_or g.values k [] = ap (λ (x : List (List (List ℕ))). get_or x k []) g.are ∙ get_or-set_other g.values n k g.held [] e in
      subst (ValuesFor owns commons (get_or members k void_name)) (sym there) (gathered_at n g.values g.earlier (omega arith) k (omega (arith, e))))

-- one state of the places
module _ {mine all : List ℕ} (books : Accepted mine all) where
  values_one : {m : Name} {a b : List (List ℕ)} → ValuesFor books.owns books.commons m a → ValuesFor books.owns books.commons m b → a ≡ b
  values_one {a = a} {b} p q =
      let x = p.shape in
      let y = q.shape in
      ext_get_or [] a b (x.soils ∙ sym y.soils)
      (λ i l.
      let n = x.soils in
      let h : i < 5 = omega arith in
      ext_get_or 0 (get_or a i []) (get_or b i []) (x.slopes i h ∙ sym (y.slopes i h))
      (λ j k.
      let o = x.slopes i h in
      let u = p.each i j h (omega arith) in
      let w = q.each i j h (omega arith) in
      u.is ∙ ap mark (says_one books.owns books.commons books.is_own.once books.is_common.once u.says w.says) ∙ sym w.is))

  gathered_one : (members : List Name) (before : List (List (List ℕ))) (n : ℕ) (x y : List (List (List ℕ))) → Gathered books.owns books.commons members before n x → Gathered books.owns books.commons members before n y → x ≡ y
  unfolding Gathered
  gathered_one members before zero x y p q = p ∙ sym q
  gathered_one members before (suc n) x y p q =
      p.are ∙ ap (λ (v : List (List (List ℕ))). set v n p.held) (gathered_one members before n p.values q.values p.earlier q.earlier)
      ∙ ap (λ (h : List (List ℕ)). set q.values n h) (values_one p.own_values q.own_values) ∙ sym q.are

-- what `values_for` promises is met by one answer only
pub values_given_one : {mine all : List ℕ} {members : List Name} {n : ℕ} {before x y : List (List (List ℕ))} {a b : Bool} → ValuesGiven mine all members n before x a → ValuesGiven mine all members n before y b → (a ≡ b) × (x ≡ y)
values_given_one {members = members} {n} {before} {x} {y} (given p g) (given q h) =
    let owns = fills_one q.is_own p.is_own in
    let commons = fills_one q.is_common p.is_common in (
      refl,
      gathered_one p members before (min n 64) x y g
          (subst (λ (o : List Fill). Gathered o p.commons members before (min n 64) y) owns (subst (λ (o : List Fill). Gathered q.owns o members before (min n 64) y) commons h)),
    )
values_given_one (given p g) (refused n e) = absurd (n p)
values_given_one (refused n e) (given p g) = absurd (n p)
values_given_one (refused n e) (refused m f) = (refl, e ∙ sym f)
