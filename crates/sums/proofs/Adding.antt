-- Adding sums, row by row: sums are added in any order, their fields are the natural sums of the definitions, these make the whole numbers N, H and M, and all of it fits.
use Rattle.std.proofs.Common.{◌≡◌, ℕ, zero, suc, ◌+◌, ◌*◌, ◌%◌, ◌^◌, ◌<◌, ◌≤◌, ℤ, pos, ◌+ℤ◌, ◌-ℤ◌, ◌*ℤ◌, sym, refl, ap, ◌∙◌, subst, ap₂, le_refl, mod-lt, mod-eq_of_lt, mul-le-mul, add-one, arith, pow_pos, pow_mono, rules}
use native.Mathlib.Nat.{mod-one}
use lib.Count.{ones, ones_in, ones_cat}
use lib.Pow.{mod-pow-add}
use Rattle.arithmetic.specs.declared.signed.Amount.{Amount}
use Rattle.arithmetic.specs.declared.signed.Parts.{Parts}
use Rattle.arithmetic.specs.signed.Whole.{worth, above, below}
use Rattle.arithmetic.specs.signed.Parts.{parts_in, times}
use Rattle.arithmetic.proofs.signed.Laws.{same_parts, parts, add_diffs, add_parts, above_less, below_less, above_more, below_more, above_neg, below_neg, above_twice, below_twice, above_mul, below_mul, above_size, below_size}
use Rattle.sums.specs.declared.Balance.{Balance}
use Rattle.sets.specs.declared.Class.{Class}
use Rattle.sets.specs.declared.Class.TheVariants.{Permanent, Free, Wind, Earthquake}
use Rattle.sets.specs.declared.Load.{Load}
use Rattle.sets.specs.declared.Loads.{Loads}
use Rattle.sums.specs.declared.Sums.{Sums}
use Rattle.sets.specs.Sets.{bit, row}
use Rattle.sets.specs.Bounded.{Bounded, BoundedLoad}
use Rattle.sets.proofs.Bits.{bit_two}
use Rattle.sums.specs.Totals.{countedℤ, counted, sumℤ, sum, N, H, M, moment, plus, minus, arm, v_moment, h_moment, resists, overturns, resisting, overturning}
use Rattle.sums.specs.steps.Sums.{parts_sum, balance_sum, zero_sums, add, add_if, balance_of, is_wind, is_earthquake, moment_of, terms_from, sums_to, sums_from, arm_by, balance_at, moment_by, Room}

-- ---- equal sums
pub same_balance : {a b : Balance} → a.resisting ≡ b.resisting → a.overturning ≡ b.overturning → a ≡ b
same_balance p q = λ i. record { resisting = p i; overturning = q i }

pub record SameSums (a b : Sums) : Type 0 where
  pub v : a.v ≡ b.v
  pub h : a.h ≡ b.h
  pub m : a.m ≡ b.m
  pub plus : a.plus ≡ b.plus
  pub minus : a.minus ≡ b.minus
  pub winds : a.winds ≡ b.winds
  pub earthquakes : a.earthquakes ≡ b.earthquakes
  pub rows : a.rows ≡ b.rows
  pub set : a.set ≡ b.set

pub same_sums : {a b : Sums} → SameSums a b → a ≡ b
same_sums e =
    λ i. record { v = e.v i; h = e.h i; m = e.m i; plus = e.plus i; minus = e.minus i; winds = e.winds i; earthquakes = e.earthquakes i; rows = e.rows i; set = e.set i }

-- ---- sums are added in any order
module _ (a b c : Parts) where
  parts_swap : parts_sum (parts_sum a b) c ≡ parts_sum (parts_sum a c) b
  unfolding parts_sum
  parts_swap = same_parts (omega arith) (omega arith)

module _ (a b c : Balance) where
  balance_swap : balance_sum (balance_sum a b) c ≡ balance_sum (balance_sum a c) b
  unfolding balance_sum
  balance_swap = same_balance (omega arith) (omega arith)

pub add_swap : (a b c : Sums) → add (add a b) c ≡ add (add a c) b
unfolding add
add_swap a b c =
    same_sums (record {
      v = parts_swap a.v b.v c.v;
      h = parts_swap a.h b.h c.h;
      m = parts_swap a.m b.m c.m;
      plus = balance_swap a.plus b.plus c.plus;
      minus = balance_swap a.minus b.minus c.minus;
      winds = omega arith;
      earthquakes = omega arith;
      rows = omega arith;
      set = omega arith;
    })

pub add_if_in : {held : ℕ} (a b : Sums) → held ≡ 1 → add_if held a b ≡ add a b
unfolding add_if
add_if_in a b e = rw e

pub add_if_out : {held : ℕ} (a b : Sums) → held ≡ 0 → add_if held a b ≡ a
unfolding add_if
add_if_out a b e = rw e

-- ---- one row more
pub sums_none : (width : ℕ) (loads : Loads) (set : ℕ) → zero_sums ≡ sums_to width loads set 0
unfolding sums_to
sums_none width loads set = refl

pub sums_more : (width : ℕ) (loads : Loads) (set n : ℕ) → sums_to width loads set (n + 1) ≡ add_if (bit set n) (sums_to width loads set n) (terms_from width (row loads n) (2 ^ n))
unfolding sums_to
sums_more width loads set n = rw add-one

-- ---- the fields are natural sums
module _ (width : ℕ) (loads : Loads) (set : ℕ) (f : Sums → ℕ) (gives : Load → ℕ) (none : f zero_sums ≡ 0) (both : (a b : Sums) → f (add a b) ≡ f a + f b)
    (own : (load : Load) (place : ℕ) → f (terms_from width load place) ≡ gives load) where
  counted_by : (held : ℕ) (a b : Sums) → f (add_if held a b) ≡ f a + counted held (f b)
  unfolding add_if counted
  counted_by zero a b = omega arith
  counted_by (suc held) a b = both a b

  pub field_is : (n : ℕ) → f (sums_to width loads set n) ≡ sum gives loads set n
  unfolding sums_to sum
  field_is zero = none
  field_is (suc n) =
      counted_by (bit set n) (sums_to width loads set n) (terms_from width (row loads n) (2 ^ n))
      ∙ ap₂ (λ (x y : ℕ). x + y) (field_is n) (ap (counted (bit set n)) (own (row loads n) (2 ^ n)))

-- ---- a sum of whole numbers is the difference of two natural sums
counted_diff : (held a b : ℕ) → countedℤ held (pos a -ℤ pos b) ≡ pos (counted held a) -ℤ pos (counted held b)
unfolding counted countedℤ
counted_diff zero a b = refl
counted_diff (suc held) a b = refl

sum_diff : (gives : Load → ℤ) (up down : Load → ℕ) → ((load : Load) → gives load ≡ pos (up load) -ℤ pos (down load)) → (loads : Loads) (set n : ℕ)
    → sumℤ gives loads set n ≡ pos (sum up loads set n) -ℤ pos (sum down loads set n)
unfolding sum sumℤ
sum_diff gives up down e loads set zero = refl
sum_diff gives up down e loads set (suc n) =
    ap₂ (λ (y z : ℤ). y +ℤ z) (sum_diff gives up down e loads set n)
    (ap (countedℤ (bit set n)) (e (row loads n)) ∙ counted_diff (bit set n) (up (row loads n)) (down (row loads n)))
    ∙ add_diffs (sum up loads set n) (sum down loads set n) (counted (bit set n) (up (row loads n))) (counted (bit set n) (down (row loads n)))

module _ (width : ℕ) (loads : Loads) (set : ℕ) where
  pub n_is : N loads set ≡ pos (sums_from width loads set).v.above -ℤ pos (sums_from width loads set).v.below
  unfolding N sums_from zero_sums add parts_sum terms_from parts_in
  n_is =
      sum_diff (λ load. worth load.v) (λ load. above (worth load.v)) (λ load. below (worth load.v)) (λ load. parts (worth load.v)) loads set loads.count
      ∙ ap₂ (λ (a b : ℕ). pos a -ℤ pos b)
      (sym (field_is width loads set (λ s. s.v.above) (λ load. above (worth load.v)) refl (λ a b. refl) (λ load place. refl) loads.count))
      (sym (field_is width loads set (λ s. s.v.below) (λ load. below (worth load.v)) refl (λ a b. refl) (λ load place. refl) loads.count))

  pub h_is : H loads set ≡ pos (sums_from width loads set).h.above -ℤ pos (sums_from width loads set).h.below
  unfolding H sums_from zero_sums add parts_sum terms_from parts_in
  h_is =
      sum_diff (λ load. worth load.h) (λ load. above (worth load.h)) (λ load. below (worth load.h)) (λ load. parts (worth load.h)) loads set loads.count
      ∙ ap₂ (λ (a b : ℕ). pos a -ℤ pos b)
      (sym (field_is width loads set (λ s. s.h.above) (λ load. above (worth load.h)) refl (λ a b. refl) (λ load place. refl) loads.count))
      (sym (field_is width loads set (λ s. s.h.below) (λ load. below (worth load.h)) refl (λ a b. refl) (λ load place. refl) loads.count))

  pub m_is : M loads set ≡ pos (sums_from width loads set).m.above -ℤ pos (sums_from width loads set).m.below
  unfolding M moment sums_from zero_sums add parts_sum terms_from moment_of parts_in
  m_is =
      sum_diff moment (λ load. (moment_of load).above) (λ load. (moment_of load).below)
      (λ load. add_parts (pos 2 *ℤ (worth load.v *ℤ worth load.x)) (pos 2 *ℤ worth load.twist)) loads set loads.count
      ∙ ap₂ (λ (a b : ℕ). pos a -ℤ pos b)
      (sym (field_is width loads set (λ s. s.m.above) (λ load. (moment_of load).above) refl (λ a b. refl) (λ load place. refl) loads.count))
      (sym (field_is width loads set (λ s. s.m.below) (λ load. (moment_of load).below) refl (λ a b. refl) (λ load place. refl) loads.count))

  pub plus_is : (sums_from width loads set).plus ≡ record { resisting = resisting plus width loads set; overturning = overturning plus width loads set }
  unfolding resisting overturning sums_from zero_sums add balance_sum terms_from balance_of
  plus_is =
      same_balance (field_is width loads set (λ s. s.plus.resisting) (resists plus width) refl (λ a b. refl) (λ load place. refl) loads.count)
      (field_is width loads set (λ s. s.plus.overturning) (overturns plus width) refl (λ a b. refl) (λ load place. refl) loads.count)

  pub minus_is : (sums_from width loads set).minus ≡ record { resisting = resisting minus width loads set; overturning = overturning minus width loads set }
  unfolding resisting overturning sums_from zero_sums add balance_sum terms_from balance_of
  minus_is =
      same_balance (field_is width loads set (λ s. s.minus.resisting) (resists minus width) refl (λ a b. refl) (λ load place. refl) loads.count)
      (field_is width loads set (λ s. s.minus.overturning) (overturns minus width) refl (λ a b. refl) (λ load place. refl) loads.count)

  pub winds_is : (sums_from width loads set).winds ≡ sum (λ load. is_wind load.class) loads set loads.count
  unfolding sums_from zero_sums add terms_from
  winds_is = field_is width loads set (λ s. s.winds) (λ load. is_wind load.class) refl (λ a b. refl) (λ load place. refl) loads.count

  pub earthquakes_is : (sums_from width loads set).earthquakes ≡ sum (λ load. is_earthquake load.class) loads set loads.count
  unfolding sums_from zero_sums add terms_from
  earthquakes_is = field_is width loads set (λ s. s.earthquakes) (λ load. is_earthquake load.class) refl (λ a b. refl) (λ load place. refl) loads.count

-- ---- the rows of a set are counted by the ones of its number
module _ (width : ℕ) (loads : Loads) (set : ℕ) where
  one_more : (held : ℕ) (a : Sums) (load : Load) (place : ℕ) → held < 2 → (add_if held a (terms_from width load place)).rows ≡ ones held + a.rows
  unfolding add_if add terms_from ones ones_in
  one_more zero a load place h = let e : ones 0 ≡ 0 = refl in omega (arith, e)
  one_more (suc zero) a load place h = let e : ones 1 ≡ 1 = refl in omega (arith, e)
  one_more (suc (suc held)) a load place h = absurd (omega arith)

  last_bit : (n : ℕ) → set % 2 ^ suc n ≡ bit set n * 2 ^ n + set % 2 ^ n
  unfolding bit
  last_bit n = let e : suc n ≡ 1 + n = omega arith in ap (λ (k : ℕ). set % 2 ^ k) e ∙ mod-pow-add set 1 n

  rows_to : (n : ℕ) → (sums_to width loads set n).rows ≡ ones (set % 2 ^ n)
  unfolding sums_to zero_sums ones ones_in
  rows_to zero = sym (ap ones (mod-one set))
  rows_to (suc n) =
      one_more (bit set n) (sums_to width loads set n) (row loads n) (2 ^ n) (bit_two set n) ∙ ap (λ (x : ℕ). ones (bit set n) + x) (rows_to n)
      ∙ sym (ap ones (last_bit n) ∙ ones_cat n (bit set n) (set % 2 ^ n) (mod-lt set (pow_pos n)))

  pub rows_is : set < 2 ^ loads.count → (sums_from width loads set).rows ≡ ones set
  unfolding sums_from
  rows_is h = rows_to loads.count ∙ ap ones (mod-eq_of_lt h)

-- ---- one row, in natural numbers
pub arm_plus : (width : ℕ) (x : ℤ) → arm_by width (above x) (below x) ≡ parts_in (arm plus width x)
unfolding arm_by parts_in arm
arm_plus width x = same_parts (sym (above_less width x)) (sym (below_less width x))

pub arm_minus : (width : ℕ) (x : ℤ) → arm_by width (below x) (above x) ≡ parts_in (arm minus width x)
unfolding arm_by parts_in arm
arm_minus width x = same_parts (sym (above_more width x)) (sym (below_more width x))

pub balance_plus : (width : ℕ) (load : Load)
    → balance_at (parts_in (worth load.v)) (parts_in (arm plus width (worth load.x))) (below (worth load.twist)) (above (worth load.twist)) ≡ balance_of plus width load
unfolding balance_at balance_of resists overturns v_moment h_moment times parts_in
balance_plus width load =
    let t = worth load.twist in
    same_balance
    (ap₂ (λ (a b : ℕ). a + b) (sym (above_mul (worth load.v) (arm plus width (worth load.x)))) (sym (above_neg (pos 2 *ℤ t) ∙ below_twice t)))
    (ap₂ (λ (a b : ℕ). a + b) (sym (below_mul (worth load.v) (arm plus width (worth load.x)))) (sym (below_neg (pos 2 *ℤ t) ∙ above_twice t)))

pub balance_minus : (width : ℕ) (load : Load)
    → balance_at (parts_in (worth load.v)) (parts_in (arm minus width (worth load.x))) (above (worth load.twist)) (below (worth load.twist)) ≡ balance_of minus width load
unfolding balance_at balance_of resists overturns v_moment h_moment times parts_in
balance_minus width load =
    let t = worth load.twist in
    same_balance
    (ap₂ (λ (a b : ℕ). a + b) (sym (above_mul (worth load.v) (arm minus width (worth load.x)))) (sym (above_twice t)))
    (ap₂ (λ (a b : ℕ). a + b) (sym (below_mul (worth load.v) (arm minus width (worth load.x)))) (sym (below_twice t)))

pub moment_parts : (load : Load) → moment_by (parts_in (worth load.v)) (parts_in (worth load.x)) (parts_in (worth load.twist)) ≡ moment_of load
unfolding moment_by moment_of parts_sum times parts_in
moment_parts load =
    let v = worth load.v in
    let x = worth load.x in
    let t = worth load.twist in
    same_parts
    (ap₂ (λ (a b : ℕ). a + b) (sym (above_twice (v *ℤ x) ∙ ap (λ (n : ℕ). 2 * n) (above_mul v x))) (sym (above_twice t)))
    (ap₂ (λ (a b : ℕ). a + b) (sym (below_twice (v *ℤ x) ∙ ap (λ (n : ℕ). 2 * n) (below_mul v x))) (sym (below_twice t)))

-- the place of one of 16 rows
pub low_place : (n : ℕ) → n ≤ 16 → 2 ^ n ≤ 2 ^ 34
low_place n h = let k : n ≤ 34 = omega arith in pow_mono k

-- and by a shift
pub shifted : (n : ℕ) → n < 64 → (1 * 2 ^ n) % 2 ^ 64 ≡ 2 ^ n
shifted n h =
    let k : n ≤ 63 = omega arith in
    let p : 2 ^ n ≤ 2 ^ 63 = pow_mono k in
    let l : 1 * 2 ^ n < 2 ^ 64 = omega arith in
    mod-eq_of_lt l ∙ omega arith

-- ---- sizes: what a row gives, and sums of rows
pub room_none : (n : ℕ) → Room n zero_sums
unfolding zero_sums
room_none n = search rules

pub room_add : {m n : ℕ} {a b : Sums} → Room m a → Room n b → Room (m + n) (add a b)
unfolding add parts_sum balance_sum
room_add p q = search rules

pub room_more : {m n : ℕ} {a : Sums} → m ≤ n → Room m a → Room n a
room_more h p = search rules

pub room_if : {n : ℕ} (held : ℕ) {a b : Sums} → Room n a → Room 1 b → Room (n + 1) (add_if held a b)
unfolding add_if
room_if zero p q = room_more (omega arith) p
room_if (suc held) p q = room_add p q

-- the parts of an amount that is small
pub parts_low : (a : Amount) (m : ℕ) {p : Parts} → p ≡ parts_in (worth a) → a.size ≤ m → (p.above ≤ m) × (p.below ≤ m)
unfolding parts_in
parts_low a m e h = rw e (omega (arith, above_size a), omega (arith, below_size a))

-- one row's numbers
pub record SmallLoad (load : Load) : Type 0 where
  pub down : above (worth load.v) ≤ 50000
  pub up : below (worth load.v) ≤ 50000
  pub onward : above (worth load.x) ≤ 32000
  pub inward : below (worth load.x) ≤ 32000
  pub ahead : above (worth load.h) ≤ 300000
  pub back : below (worth load.h) ≤ 300000
  pub turning : above (worth load.twist) ≤ 3000000000
  pub returning : below (worth load.twist) ≤ 3000000000

pub small_load : {load : Load} → BoundedLoad load → SmallLoad load
small_load {load} b =
    record {
      down = omega (arith, above_size load.v, b.v);
      up = omega (arith, below_size load.v, b.v);
      onward = omega (arith, above_size load.x, b.x);
      inward = omega (arith, below_size load.x, b.x);
      ahead = omega (arith, above_size load.h, b.h);
      back = omega (arith, below_size load.h, b.h);
      turning = omega (arith, above_size load.twist, b.twist);
      returning = omega (arith, below_size load.twist, b.twist);
    }

product_room : (p q : Parts) (m n : ℕ) → p.above ≤ m → p.below ≤ m → q.above ≤ n → q.below ≤ n → ((times p q).above ≤ 2 * (m * n)) × ((times p q).below ≤ 2 * (m * n))
unfolding times
product_room p q m n a b c d = (omega (arith, mul-le-mul a c, mul-le-mul b d), omega (arith, mul-le-mul a d, mul-le-mul b c))

class_room : (c : Class) → (is_wind c ≤ 1) × (is_earthquake c ≤ 1)
unfolding is_wind is_earthquake
class_room Permanent = (omega arith, omega arith)
class_room Free = (omega arith, omega arith)
class_room Wind = (omega arith, omega arith)
class_room Earthquake = (omega arith, omega arith)

-- a row's parts, its arms, its moment and its balance
pub arm_room : (width toward away : ℕ) → width ≤ 30000 → toward ≤ 32000 → away ≤ 32000 → ((arm_by width toward away).above ≤ 94000) × ((arm_by width toward away).below ≤ 94000)
unfolding arm_by
arm_room width toward away w t a = (omega arith, omega arith)

balance_room : (v a : Parts) (holds pushes : ℕ) → v.above ≤ 50000 → v.below ≤ 50000 → (a.above ≤ 94000) × (a.below ≤ 94000) → holds ≤ 3000000000 → pushes ≤ 3000000000
    → ((balance_at v a holds pushes).resisting ≤ 2 ^ 34) × ((balance_at v a holds pushes).overturning ≤ 2 ^ 34)
unfolding balance_at
balance_room v a holds pushes p q r h k =
    let t = product_room v a 50000 94000 p q r.0 r.1 in
    (omega (arith, t.0), omega (arith, t.1))

moment_room : (v x t : Parts) → v.above ≤ 50000 → v.below ≤ 50000 → x.above ≤ 32000 → x.below ≤ 32000 → t.above ≤ 3000000000 → t.below ≤ 3000000000
    → ((moment_by v x t).above ≤ 2 ^ 34) × ((moment_by v x t).below ≤ 2 ^ 34)
unfolding moment_by
moment_room v x t a b c d e f =
    let p = product_room v x 50000 32000 a b c d in
    (omega (arith, p.0), omega (arith, p.1))

module _ (width : ℕ) (load : Load) (wide : width ≤ 30000) (b : BoundedLoad load) where
  row_moment : ((moment_of load).above ≤ 2 ^ 34) × ((moment_of load).below ≤ 2 ^ 34)
  unfolding parts_in
  row_moment =
      let s = small_load b in
      subst (λ (p : Parts). (p.above ≤ 2 ^ 34) × (p.below ≤ 2 ^ 34)) (moment_parts load)
      (moment_room _ _ _ s.down s.up s.onward s.inward s.turning s.returning)

  row_plus : ((balance_of plus width load).resisting ≤ 2 ^ 34) × ((balance_of plus width load).overturning ≤ 2 ^ 34)
  unfolding parts_in
  row_plus =
      let s = small_load b in
      let x = worth load.x in
      subst (λ (p : Balance). (p.resisting ≤ 2 ^ 34) × (p.overturning ≤ 2 ^ 34)) (balance_plus width load)
      (balance_room _ _ _ _ s.down s.up
      (subst (λ (p : Parts). (p.above ≤ 94000) × (p.below ≤ 94000)) (arm_plus width x) (arm_room width (above x) (below x) wide s.onward s.inward)) s.returning s.turning)

  row_minus : ((balance_of minus width load).resisting ≤ 2 ^ 34) × ((balance_of minus width load).overturning ≤ 2 ^ 34)
  unfolding parts_in
  row_minus =
      let s = small_load b in
      let x = worth load.x in
      subst (λ (p : Balance). (p.resisting ≤ 2 ^ 34) × (p.overturning ≤ 2 ^ 34)) (balance_minus width load)
      (balance_room _ _ _ _ s.down s.up
      (subst (λ (p : Parts). (p.above ≤ 94000) × (p.below ≤ 94000)) (arm_minus width x) (arm_room width (below x) (above x) wide s.inward s.onward)) s.turning s.returning)

  pub room_row : (place : ℕ) → place ≤ 2 ^ 34 → Room 1 (terms_from width load place)
  unfolding terms_from parts_in
  room_row place near =
      let s = small_load b in
      let m = row_moment in
      let p = row_plus in
      let n = row_minus in
      let c = class_room load.class in
      record {
        down = omega (arith, s.down);
        up = omega (arith, s.up);
        ahead = omega (arith, s.ahead);
        back = omega (arith, s.back);
        turning = omega (arith, m.0);
        returning = omega (arith, m.1);
        resisting_plus = omega (arith, p.0);
        overturning_plus = omega (arith, p.1);
        resisting_minus = omega (arith, n.0);
        overturning_minus = omega (arith, n.1);
        winds = c.0;
        earthquakes = c.1;
        rows = le_refl 1;
        set = omega arith;
      }

pub room_sums : (width : ℕ) (loads : Loads) (set n : ℕ) → width ≤ 30000 → Bounded loads → n ≤ loads.count → Room n (sums_to width loads set n)
unfolding sums_to
room_sums width loads set zero w b h = room_none 0
room_sums width loads set (suc n) w b h =
    subst (λ (k : ℕ). Room k (add_if (bit set n) (sums_to width loads set n) (terms_from width (row loads n) (2 ^ n)))) (add-one n)
    (room_if (bit set n) (room_sums width loads set n w b (omega arith))
    (room_row width (row loads n) w (b.each n (omega arith)) (2 ^ n) (low_place n (omega (arith, b.count)))))

pub room_all : (width : ℕ) (loads : Loads) (set : ℕ) → width ≤ 30000 → Bounded loads → Room 16 (sums_from width loads set)
unfolding sums_from
room_all width loads set w b = room_more b.count (room_sums width loads set loads.count w b (le_refl loads.count))
