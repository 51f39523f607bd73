-- A row's terms, part by part: each natural part is that of the whole number that the definition names.
use Rattle.std.proofs.Common.{◌≡◌, ◌+◌, ◌≤◌, refl, ap, ◌∙◌, arith}
use mir.Val.{bool_byte}
use denote.Enum.Bare.{sameb}
use Rattle.arithmetic.specs.declared.signed.Amount.{Amount}
use Rattle.arithmetic.specs.declared.signed.Parts.{Parts}
use Rattle.arithmetic.specs.signed.Whole.{worth, above, below}
use Rattle.arithmetic.specs.signed.Parts.{parts_in, times, Small}
use Rattle.arithmetic.proofs.signed.Laws.{same_parts, times_low}
use Rattle.sets.specs.declared.Class.{Class}
use Rattle.sets.specs.declared.Class.TheVariants.{Permanent, Free, Wind, Earthquake}
use Rattle.sets.specs.contracts.Class.{the_type}
use Rattle.sums.specs.steps.Sums.{terms_from, is_wind, is_earthquake, arm_by, balance_at, moment_by}
use Rattle.sums.proofs.Adding.{same_sums, parts_low, arm_plus, arm_minus, balance_plus, balance_minus, moment_parts}
use Rattle.sums.proofs.row_terms.terms_of.Goals as goal

small : (a : Amount) {p : Parts} → p ≡ parts_in (worth a) → a.size ≤ 50000 → Small p
small a e h = let k = parts_low a 50000 e h in record { above = omega arith; below = omega arith }

pub mul-requires : goal.mul-requires
mul-requires c = let b = c.requires.bounded_load in (small _ c.from-v.ensures b.v, small _ c.from-x.ensures (omega (arith, b.x)))

pub add-moment-requires : goal.add-moment-requires
add-moment-requires c =
    let b = c.requires.bounded_load in
    let t = times_low _ _ (small _ c.from-v.ensures b.v) (small _ c.from-x.ensures (omega (arith, b.x))) c.mul.ensures in
    let u = parts_low _ _ c.from-twist.ensures b.twist in
    (omega arith, omega arith)

pub add-m-requires : goal.add-m-requires
add-m-requires c =
    let b = c.requires.bounded_load in
    let t = times_low _ _ (small _ c.from-v.ensures b.v) (small _ c.from-x.ensures (omega (arith, b.x))) c.mul.ensures in
    let u = parts_low _ _ c.from-twist.ensures b.twist in
    (omega arith, omega arith)

pub balance_by-plus-requires-clause-small : goal.balance_by-plus-requires-clause-small
balance_by-plus-requires-clause-small c = small _ c.from-v.ensures c.requires.bounded_load.v

pub balance_by-plus-requires-clause-width_bound : goal.balance_by-plus-requires-clause-width_bound
balance_by-plus-requires-clause-width_bound c = let x = parts_low _ _ c.from-x.ensures c.requires.bounded_load.x in (c.requires.width_bound, x.0, x.1)

pub balance_by-plus-requires-clause-holds_bound : goal.balance_by-plus-requires-clause-holds_bound
balance_by-plus-requires-clause-holds_bound c = let t = parts_low _ _ c.from-twist.ensures c.requires.bounded_load.twist in (t.1, t.0)

pub balance_by-minus-requires-clause-small : goal.balance_by-minus-requires-clause-small
balance_by-minus-requires-clause-small c = small _ c.from-v.ensures c.requires.bounded_load.v

pub balance_by-minus-requires-clause-width_bound :
    goal.balance_by-minus-requires-clause-width_bound
balance_by-minus-requires-clause-width_bound c = let x = parts_low _ _ c.from-x.ensures c.requires.bounded_load.x in (c.requires.width_bound, x.1, x.0)

pub balance_by-minus-requires-clause-holds_bound :
    goal.balance_by-minus-requires-clause-holds_bound
balance_by-minus-requires-clause-holds_bound c = parts_low _ _ c.from-twist.ensures c.requires.bounded_load.twist

-- the moment: twice a sum is the sum of twice its parts
twice : (v x t p half m : Parts) → p ≡ times v x → (half.above ≡ p.above + t.above) × (half.below ≡ p.below + t.below) → (m.above ≡ half.above + half.above) × (m.below ≡ half.below + half.below) → m ≡ moment_by v x t
unfolding moment_by
twice v x t p half m e h d = same_parts (omega (arith, ap (λ (q : Parts). q.above) e)) (omega (arith, ap (λ (q : Parts). q.below) e))

-- how many wind and earthquake rows it is
winds_by : (k : Class) → bool_byte (sameb the_type k Wind) ≡ is_wind k
unfolding is_wind
winds_by Permanent = refl
winds_by Free = refl
winds_by Wind = refl
winds_by Earthquake = refl

earthquakes_by : (k : Class) → bool_byte (sameb the_type k Earthquake) ≡ is_earthquake k
unfolding is_earthquake
earthquakes_by Permanent = refl
earthquakes_by Free = refl
earthquakes_by Wind = refl
earthquakes_by Earthquake = refl

pub returns : goal.returns
unfolding terms_from parts_in
returns c =
    let load = c.args.load in
    let width = c.args.width in
    let v = c.from-v.ensures in
    let x = c.from-x.ensures in
    let t = c.from-twist.ensures in
    same_sums (record {
      v = v;
      h = c.from-h.ensures;
      m = twice _ _ _ _ _ _ c.mul.ensures c.add-moment.ensures c.add-m.ensures ∙ (λ i. moment_by (v i) (x i) (t i)) ∙ moment_parts load;
      plus = c.balance_by-plus.ensures
          ∙ (λ i. balance_at (v i) (arm_by width (x i).above (x i).below) (t i).below (t i).above)
          ∙ (λ i. balance_at (parts_in (worth load.v)) (arm_plus width (worth load.x) i) (below (worth load.twist)) (above (worth load.twist)))
          ∙ balance_plus width load;
      minus = c.balance_by-minus.ensures
          ∙ (λ i. balance_at (v i) (arm_by width (x i).below (x i).above) (t i).above (t i).below)
          ∙ (λ i. balance_at (parts_in (worth load.v)) (arm_minus width (worth load.x) i) (above (worth load.twist)) (below (worth load.twist)))
          ∙ balance_minus width load;
      winds = c.from-winds.ensures ∙ ap bool_byte c.eq.ensures ∙ winds_by load.class;
      earthquakes = c.from-earthquakes.ensures ∙ ap bool_byte c.eq-2.ensures ∙ earthquakes_by load.class;
      rows = refl;
      set = refl;
    })
