-- A set within the bounds of the worst so far leaves it as it is, in every check: its rank is above, or the last of all and the set no earlier.
use mathlib.Core.Path.{◌≡◌, refl, ◌∙◌, ap, subst, subst⁻¹}
use mathlib.Core.Logic.{inl, inr, ⊎_elim}
use mathlib.Core.Bool.{Bool, true, false}
use Prim.Native.Nat.{ℕ, zero, suc, ◌+◌, ◌*◌, ◌-◌, ◌/◌, ◌^◌, ◌≤◌, ◌<◌}
use native.Mathlib.Omega.{arith}
use native.Mathlib.Decide.{dec_lt, dec_le}
use native.Mathlib.Nat.{le_refl, le_trans, mul-le-mul, mul-pos, mul_comm, mul_assoc, mod-lt}
use lib.Dec.{lit<}
use Rattle.arithmetic.specs.rounding.Least.{RoundedUp}
use Rattle.arithmetic.proofs.Cases.{by_cases}
use Rattle.arithmetic.proofs.rounding.Laws.{up_some}
use Rattle.sets.specs.declared.Combination.{Combination}
use Rattle.sets.proofs.Admitting.{admits_or_not}
use Rattle.sums.specs.declared.carried.Carried.{Carried}
use Rattle.sums.specs.steps.Carried.{over_zero, from_zero, carried_set, wind_count, earthquake_count}
use Rattle.checks.specs.declared.Base.{Base}
use Rattle.checks.specs.declared.Check.{Check}
use Rattle.checks.specs.declared.Check.TheVariants.{OP, OM, SL, PR, RK}
use Rattle.checks.specs.declared.Figure.{Figure}
use Rattle.checks.specs.Order.{Side, lowest, highest, side}
use Rattle.checks.specs.Sized.{Sized}
use Rattle.checks.specs.steps.Rounded.{Tips, Slides, Presses, Leans}
use Rattle.checks.specs.steps.Ranks.{Ranks}
use Rattle.checks.proofs.Ranking.{rank_low}
use Rattle.checks.proofs.ranks.Pressing.{press_full, press_part}
use Rattle.checks.proofs.ranks.Ranks.{tip_above, tip_none, slide_above, slide_none, lean_some}
use Rattle.weighing.specs.declared.ranked.RankedSet.{RankedSet}
use Rattle.weighing.specs.declared.bounds.Bounds.{Bounds}
use Rattle.weighing.specs.declared.Worst.{Worst}
use Rattle.weighing.specs.steps.Ranked.{order_of_ties, weight_of, Offered}
use Rattle.weighing.specs.steps.Weighs.{ShowsCarried, SmallCarried, ranked_of, Weighed, Low, Words, Visits}
use Rattle.weighing.specs.steps.Bounds.{later, bound_of, tied_above, lesser_number, lean_from, bounds_of, PressedWithin, Within, Fitting}
use Rattle.weighing.proofs.Weighing.{weighed_or_not}
use Rattle.weighing.proofs.ranked.Weights.{weight_tie_order, worse_of_old, offered_old}
use Rattle.weighing.proofs.bounds.Bounding.{bound_free, bound_multiplied, bound_none, tied_last, below_most, below_shown, lean_on_rock, later_over_first, later_over_second, number_most}

-- the number below a figure is below it, or 0
number_under : (most rank : ℕ) → lesser_number most rank ≤ 2 ^ 64 - 1 - rank - 1
number_under most rank =
    by_cases (dec_lt most (2 ^ 64 - 1 - rank)) (λ h. omega (arith, below_most most rank h)) (λ h. omega (arith, below_shown most rank (omega arith)))

lean_most : (rock : Bool) (rank : ℕ) → lean_from rock rank ≤ 998
unfolding lean_from
lean_most true rank = omega (arith, number_most 499 rank)
lean_most false rank = le_refl 998

-- every product fits a word
bound_fits : (weighed : Bool) (by of rank : ℕ) → of ≤ 1000 → 0 < by → ((bound_of weighed by of rank).by ≤ by * 2 ^ 24) × ((bound_of weighed by of rank).of ≤ 1000)
bound_fits true by of rank h p =
    by_cases (dec_lt rank 16777216)
    (λ l. rw (bound_multiplied true by of rank refl l) (mul-le-mul (le_refl by) (omega arith), h))
    (λ l. rw (bound_none true by of rank refl (omega arith)) (omega arith, omega arith))
bound_fits false by of rank h p = rw (bound_free false by of rank refl) (omega arith, omega arith)

part_fits : (number length : ℕ) → number ≤ 262144 → length ≤ 60000 → number * (3 * length) / 1000 ≤ 2 ^ 26
part_fits number length p q = let h : number * (3 * length) ≤ 262144 * (3 * 60000) = mul-le-mul p (mul-le-mul (le_refl 3) q) in omega (arith, h)

pub bounds_fit : (serves : Bool) (base : Base) (worst : Worst) → Sized base → Fitting (bounds_of serves base worst)
unfolding bounds_of
bounds_fit serves base worst sized =
    record {
      op = bound_fits serves 1 100 worst.op.rank (omega arith) (lit< tt);
      om = bound_fits serves 1 100 worst.om.rank (omega arith) (lit< tt);
      sl = bound_fits serves 10 base.friction worst.sl.rank sized.friction (lit< tt);
      part = part_fits (lesser_number 262144 worst.pr.rank) base.length (number_most 262144 worst.pr.rank) sized.length;
      lean = lean_most base.rock worst.rk.rank;
    }

-- ---- a set that is no worse in one check: OP or OM, SL, RK, and PR
module _ (weighed : Bool) (b : RankedSet) (key set : ℕ) (on : weighed ≡ true) (word : b.rank ≤ 2 ^ 64 - 1) (low : b.set < 65536) (few : set < 65536)
    (keyed : key / 65536 ≡ order_of_ties set) (first : tied_above weighed b ≤ key) where
  -- a set with a higher rank, or with the last of all ranks where the worst so far has it too
  no_worse : (s : Side) (P : Figure → Type 0) (n : ℕ) → Ranks s P n → (b.rank < 2 ^ 64 - 1 → b.rank < n) → (2 ^ 64 - 1 ≤ b.rank → b.rank ≡ n)
      → Offered s P b set b
  unfolding weight_of
  no_worse s P n ranks above tied =
      by_cases (dec_lt b.rank (2 ^ 64 - 1)) (λ h. offered_old s P b set n ranks (above h) low few)
      (λ h.
      let last : 2 ^ 64 - 1 ≤ b.rank = omega arith in
      let no_earlier : order_of_ties b.set ≤ order_of_ties set = omega (arith, tied_last weighed b on last) in
      record { rank = n; ranks = ranks; worse = worse_of_old b n set (weight_tie_order b.rank n b.set set (tied last) no_earlier) })

  tipped : (r o : ℕ) → r ≤ 2 ^ 40 → (bound_of weighed 1 100 b.rank).by * o ≤ (bound_of weighed 1 100 b.rank).of * r → Offered lowest (Tips r o) b set b
  tipped r o small bound =
      by_cases (dec_lt b.rank 16777216)
      (λ l.
      let above = tip_above r o b.rank small l (omega (arith, rw (bound_multiplied weighed 1 100 b.rank on l) at bound)) in
      offered_old lowest (Tips r o) b set above.0 above.1 above.2 low few)
      (λ l.
      let past : 16777216 ≤ b.rank = omega arith in
      let none : o ≡ 0 = omega (arith, rw (bound_none weighed 1 100 b.rank on past) at bound) in
      no_worse lowest (Tips r o) (2 ^ 64 - 1) (tip_none r o none) (λ k. k) (λ k. omega arith))

  slid : (f n h : ℕ) → f ≤ 1000 → n ≤ 2 ^ 20 → 0 < n → (bound_of weighed 10 f b.rank).by * h ≤ (bound_of weighed 10 f b.rank).of * n
      → Offered lowest (Slides f n h) b set b
  slid f n h rough small some bound =
      by_cases (dec_lt b.rank 16777216)
      (λ l.
      let above = slide_above f n h b.rank rough small some l (omega (arith, rw (bound_multiplied weighed 10 f b.rank on l) at bound)) in
      offered_old lowest (Slides f n h) b set above.0 above.1 above.2 low few)
      (λ l.
      let past : 16777216 ≤ b.rank = omega arith in
      let none : h ≡ 0 = omega (arith, rw (bound_none weighed 10 f b.rank on past) at bound) in
      no_worse lowest (Slides f n h) (2 ^ 64 - 1) (slide_none f n h (λ e. omega arith) none) (λ k. k) (λ k. omega arith))

  leaned : (width n m : ℕ) → m ≤ 2 ^ 40 → 0 < width → 0 < n → 1000 * m ≤ lean_from weighed b.rank * (n * width) → Offered highest (Leans width n m) b set b
  leaned width n m small wide some bound =
      let full : 0 < 2 * (n * width) = mul-pos (lit< tt) (mul-pos some wide) in
      let up = up_some (1000 * m) (2 * (n * width)) full in
      let number = lesser_number 499 b.rank in
      let most : up.0 ≤ number = up.1.least number (omega (arith, rw (lean_on_rock weighed b.rank on) at bound)) in
      let under = number_under 499 b.rank in
      let ranks = lean_some width n m small full (λ e. omega arith) up.1 in
      no_worse highest (Leans width n m) (2 ^ 64 - 1 - up.0) ranks (λ h. omega (arith, most, under)) (λ h. omega (arith, most, under))

factor_some : (a b : ℕ) → 0 < a * b → 0 < a
factor_some zero b h = absurd (omega arith)
factor_some (suc a) b h = omega arith

-- a bound that was rounded down, taken times something
rounded_times : (number l x y : ℕ) → y ≤ number * l / 1000 * x → 1000 * y ≤ number * (l * x)
rounded_times number l x y h =
    let r : number * l / 1000 * 1000 ≤ number * l = omega arith in
    let q : number * l / 1000 * 1000 * x ≤ number * l * x = mul-le-mul r (le_refl x) in
    let e : number * l / 1000 * 1000 * x ≡ 1000 * (number * l / 1000 * x) = ap (λ (z : ℕ). z * x) (mul_comm (number * l / 1000) 1000) ∙ mul_assoc 1000 (number * l / 1000) x in
    omega (arith, h, q, e, mul_assoc number l x)

-- PR by whichever of its rules
module _ (b : RankedSet) (set width length n m : ℕ) (low : b.set < 65536) (few : set < 65536) (wide : 0 < width) (narrow : width ≤ 30000) (long : 0 < length) (small : n ≤ 2 ^ 20) (some : 0 < n)
    (below : m < n * width) where
  number : ℕ
  number = lesser_number 262144 b.rank

  -- a figure that is at most the number below the one so far
  no_more : (a d : ℕ) → 0 < a → a ≤ number * d → (up : (v : ℕ) × RoundedUp a d v) → Ranks highest (Presses width length n m) (2 ^ 64 - 1 - up.0) → Offered highest (Presses width length n m) b set b
  unfolding number
  no_more a d p h up ranks =
      let most : up.0 ≤ number = up.1.least number h in
      let left : 0 < number = factor_some number d (omega (arith, p, h)) in
      offered_old highest (Presses width length n m) b set (2 ^ 64 - 1 - up.0) ranks (omega (arith, most, left, number_under 262144 b.rank)) low few

  pressed_whole : 3 * m ≤ n * width → n * width + 3 * m ≤ number * (width * width * length) / 1000000 → Offered highest (Presses width length n m) b set b
  pressed_whole h w =
      let area : 0 < width * width * length = mul-pos (mul-pos wide wide) long in
      let up = up_some (1000000 * (n * width + 3 * m)) (width * width * length) area in
      no_more (1000000 * (n * width + 3 * m)) (width * width * length) (omega (arith, below)) (omega (arith, w)) up (press_full width length n m narrow small area below h up.1)

  pressed_part : n * width < 3 * m → 4000 * (n * n) ≤ number * (3 * length) / 1000 * (n * width - m) → Offered highest (Presses width length n m) b set b
  pressed_part h w =
      let rest : 0 < 3 * length * (n * width - m) = mul-pos (omega arith) (omega (arith, below)) in
      let up = up_some (4000000 * (n * n)) (3 * length * (n * width - m)) rest in
      let bound : 1000 * (4000 * (n * n)) ≤ number * (3 * length * (n * width - m)) = rounded_times number (3 * length) (n * width - m) (4000 * (n * n)) w in
      no_more (4000000 * (n * n)) (3 * length * (n * width - m)) (omega (arith, mul-pos some some)) (omega (arith, bound)) up (press_part width length n m small rest below h up.1)

pressed : (b : RankedSet) (set width length n m lean : ℕ) {bounds : Bounds} → b.set < 65536 → set < 65536 → 0 < width → width ≤ 30000 → 0 < length → n ≤ 2 ^ 20 → 0 < n
    → lean ≤ 998 → 1000 * m ≤ lean * (n * width) → bounds.whole ≡ lesser_number 262144 b.rank * (width * width * length) / 1000000 → bounds.part ≡ lesser_number 262144 b.rank * (3 * length) / 1000
    → PressedWithin bounds (n * width) n m → Offered highest (Presses width length n m) b set b
unfolding number
pressed b set width length n m lean low few wide narrow long small some most leans whole part within =
    let full : 0 < n * width = mul-pos some wide in
    let near : 1000 * m ≤ 998 * (n * width) = le_trans leans (mul-le-mul most (le_refl _)) in
    let below : m < n * width = omega (arith, full, near) in
    by_cases (dec_le (3 * m) (n * width)) (λ h. pressed_whole b set width length n m low few wide narrow long small some below h (omega (arith, within.whole h, whole)))
    (λ h.
    pressed_part b set width length n m low few wide narrow long small some below (omega arith)
    (subst (λ (k : ℕ). 4000 * (n * n) ≤ k * (n * width - m)) part (within.part (omega arith))))

-- ---- a set within the bounds leaves the worst so far as it is
module _ (serves : Bool) (base : Base) (worst : Worst) (c : Carried) (sized : Sized base) (low : Low worst) (words : Words worst) (light : SmallCarried c)
    (keyed : c.key / 65536 ≡ order_of_ties (carried_set c)) (within : Within base.width (bounds_of serves base worst) c) where
  few : carried_set c < 65536
  unfolding carried_set
  few = mod-lt (c.key / 65536) (lit< tt)

  -- it comes no earlier than the worst so far of each check where it ties
  turned : later (tied_above serves worst.op) (tied_above serves worst.om) ≤ c.key
  unfolding bounds_of
  turned = le_trans (later_over_first _ _) within.tied

  moved : later (tied_above serves worst.sl) (tied_above base.rock worst.rk) ≤ c.key
  unfolding bounds_of
  moved = le_trans (later_over_second _ _) within.tied

  pub kept : (check : Check) → Weighed serves base check → Offered (side check) (ShowsCarried check base c) (ranked_of check worst) (carried_set c) (ranked_of check worst)
  unfolding Weighed side ShowsCarried ranked_of Low bounds_of
  kept OP on =
      tipped serves worst.op c.key (carried_set c) on (words OP) (low OP) few keyed (le_trans (later_over_first _ _) turned)
      c.plus.resisting c.plus.overturning light.plus within.op
  kept OM on =
      tipped serves worst.om c.key (carried_set c) on (words OM) (low OM) few keyed (le_trans (later_over_second _ _) turned)
      c.minus.resisting c.minus.overturning light.minus within.om
  kept SL on =
      slid serves worst.sl c.key (carried_set c) on (words SL) (low SL) few keyed (le_trans (later_over_first _ _) moved)
      base.friction (over_zero c.n) (from_zero c.h) sized.friction light.n within.n within.sl
  kept PR on =
      pressed worst.pr (carried_set c) base.width base.length (over_zero c.n) (from_zero c.m) (lean_from base.rock worst.rk.rank) (low PR) few
      sized.wide sized.width sized.long light.n within.n (lean_most base.rock worst.rk.rank) within.lean refl refl within.press
  kept RK on =
      leaned base.rock worst.rk c.key (carried_set c) on (words RK) (low RK) few keyed (le_trans (later_over_second _ _) moved)
      base.width (over_zero c.n) (from_zero c.m) light.m sized.wide within.n within.lean

-- ---- a set that is passed over
-- A set within the bounds need not be visited: if it is admitted it leaves the worst so far as it is, and else it does not count.
pub within_visits : (combination : Combination) (serves : Bool) (base : Base) (worst : Worst) (c : Carried) → Sized base → Low worst → Words worst → SmallCarried c
    → (0 < carried_set c → c.key / 65536 ≡ order_of_ties (carried_set c)) → Within base.width (bounds_of serves base worst) c → Visits combination serves base c worst worst
within_visits combination serves base worst c sized low words light keyed within =
    record {
      came = by_cases (admits_or_not combination (wind_count c) (earthquake_count c) (carried_set c))
          (λ a. inl (a, record { offered = kept serves base worst c sized low words light (keyed a.some) within; left = λ check n. refl; low = low }))
          (λ n. inr (n, refl));
      low = low;
    }

-- The worst so far stays within its ranks.
pub visits_words : (combination : Combination) (serves : Bool) (base : Base) (c : Carried) {b r : Worst} → Words b → Visits combination serves base c b r → Words r
visits_words combination serves base c {b} {r} words v check =
    ⊎_elim
    (λ w.
    by_cases (weighed_or_not serves base check) (λ on. ranked (w.1.offered check on))
    (λ off. subst⁻¹ (λ (m : RankedSet). m.rank ≤ 2 ^ 64 - 1) (w.1.left check off) (words check)))
    (λ w. subst⁻¹ (λ (x : Worst). (ranked_of check x).rank ≤ 2 ^ 64 - 1) w.1 (words check)) v.came
  where
    ranked : {P : Figure → Type 0} {s : ℕ} → Offered (side check) P (ranked_of check b) s (ranked_of check r) → (ranked_of check r).rank ≤ 2 ^ 64 - 1
    ranked o =
        ⊎_elim (λ e. subst⁻¹ (λ (m : RankedSet). m.rank ≤ 2 ^ 64 - 1) e (words check))
        (λ e. omega (arith, e.0, o.ranks.ranked, rank_low (side check) o.ranks.figure o.ranks.has_rank)) o.worse.from
