-- The carried sums of a set, read back: they are small, they tell the set with its rows, and they show what its sums show.
use mathlib.Core.Path.{◌≡◌, sym, ◌∙◌, ap, subst}
use Prim.Native.Nat.{ℕ, ◌+◌, ◌*◌, ◌-◌, ◌/◌, ◌<◌}
use native.Mathlib.Omega.{arith}
use lib.Count.{ones}
use Rattle.sums.specs.declared.Sums.{Sums}
use Rattle.sums.specs.declared.carried.Carried.{Carried}
use Rattle.sums.specs.steps.Sums.{zero_sums, Room}
use Rattle.sums.specs.steps.Carried.{key_of, balance_shift, shift_of, over_zero, from_zero, carried_set, wind_count, earthquake_count}
use Rattle.sums.proofs.carried.Carrying.{wrap_whole, over_wrap, distance_wrap}
use Rattle.checks.specs.declared.Base.{Base}
use Rattle.checks.specs.declared.Check.{Check}
use Rattle.checks.specs.declared.Check.TheVariants.{OP, OM, SL, PR, RK}
use Rattle.checks.specs.declared.Figure.{Figure}
use Rattle.checks.specs.steps.Rounded.{Tips, Slides, Presses, Leans}
use Rattle.checks.specs.steps.BySums.{apart, ShowsBySums}
use Rattle.checks.proofs.set_figures.Showing.{small_sums}
use Rattle.weighing.specs.steps.Ranked.{order_of_ties}
use Rattle.weighing.specs.steps.Weighs.{ShowsCarried, SmallCarried}
use Rattle.weighing.proofs.ranked.Weights.{tie_order_some}

module _ (sums : Sums) (room : Room 16 sums) where
  carried : Carried
  carried = shift_of sums zero_sums

  -- ---- the numbers
  n_read : over_zero carried.n ≡ sums.v.above - sums.v.below
  unfolding carried shift_of zero_sums
  n_read = over_wrap (sums.v.above + 0) (sums.v.below + 0) (omega (arith, room.down)) (omega (arith, room.up)) ∙ omega arith

  h_read : from_zero carried.h ≡ apart sums.h
  unfolding carried shift_of zero_sums apart
  h_read = distance_wrap (sums.h.above + 0) (sums.h.below + 0) (omega (arith, room.ahead)) (omega (arith, room.back)) ∙ omega arith

  m_read : from_zero carried.m ≡ apart sums.m
  unfolding carried shift_of zero_sums apart
  m_read = distance_wrap (sums.m.above + 0) (sums.m.below + 0) (omega (arith, room.turning)) (omega (arith, room.returning)) ∙ omega arith

  resisting_plus_read : carried.plus.resisting ≡ sums.plus.resisting
  unfolding carried shift_of balance_shift zero_sums
  resisting_plus_read = wrap_whole sums.plus.resisting (omega (arith, room.resisting_plus))

  overturning_plus_read : carried.plus.overturning ≡ sums.plus.overturning
  unfolding carried shift_of balance_shift zero_sums
  overturning_plus_read = wrap_whole sums.plus.overturning (omega (arith, room.overturning_plus))

  resisting_minus_read : carried.minus.resisting ≡ sums.minus.resisting
  unfolding carried shift_of balance_shift zero_sums
  resisting_minus_read = wrap_whole sums.minus.resisting (omega (arith, room.resisting_minus))

  overturning_minus_read : carried.minus.overturning ≡ sums.minus.overturning
  unfolding carried shift_of balance_shift zero_sums
  overturning_minus_read = wrap_whole sums.minus.overturning (omega (arith, room.overturning_minus))

  key_read : carried.key ≡ key_of sums
  unfolding carried shift_of key_of zero_sums
  key_read = wrap_whole (key_of sums) (omega (arith, room.winds, room.earthquakes, room.set, room.rows))

  pub small_carried : SmallCarried (shift_of sums zero_sums)
  unfolding carried
  small_carried =
      let s = small_sums room in
      record {
        n = rw n_read s.n;
        h = rw h_read s.h;
        m = rw m_read s.m;
        plus = rw resisting_plus_read s.plus;
        minus = rw resisting_minus_read s.minus;
        over_plus = rw overturning_plus_read s.over_plus;
        over_minus = rw overturning_minus_read s.over_minus;
      }

  -- ---- the set and its rows
  pub winds_read : wind_count (shift_of sums zero_sums) ≡ sums.winds
  unfolding carried wind_count key_of
  winds_read = omega (arith, key_read, room.winds)

  pub earthquakes_read : earthquake_count (shift_of sums zero_sums) ≡ sums.earthquakes
  unfolding carried earthquake_count key_of
  earthquakes_read = omega (arith, key_read, room.winds, room.earthquakes)

  module _ (low : sums.set < 65536) where
    pub set_read : carried_set (shift_of sums zero_sums) ≡ sums.set
    unfolding carried carried_set key_of
    set_read = omega (arith, key_read, room.winds, room.earthquakes)

    pub key_ordered : sums.rows ≡ ones sums.set → 0 < carried_set (shift_of sums zero_sums) → (shift_of sums zero_sums).key / 65536 ≡ order_of_ties (carried_set (shift_of sums zero_sums))
    unfolding carried key_of
    key_ordered e h =
        let s : 0 < sums.set = omega (arith, h, set_read) in
        let f : (shift_of sums zero_sums).key / 65536 ≡ sums.rows * 65536 + sums.set = omega (arith, key_read, room.winds, room.earthquakes) in
        f ∙ ap (λ (r : ℕ). r * 65536 + sums.set) e ∙ sym (tie_order_some sums.set s) ∙ ap order_of_ties (sym set_read)

  -- ---- the figures
  shows_same : (check : Check) (base : Base) (v : Figure) → ShowsCarried check base (shift_of sums zero_sums) v ≡ ShowsBySums check base sums v
  unfolding carried ShowsCarried ShowsBySums Tips Slides Presses Leans
  shows_same OP base v = λ i. Tips (resisting_plus_read i) (overturning_plus_read i) v
  shows_same OM base v = λ i. Tips (resisting_minus_read i) (overturning_minus_read i) v
  shows_same SL base v = λ i. Slides base.friction (n_read i) (h_read i) v
  shows_same PR base v = λ i. Presses base.width base.length (n_read i) (m_read i) v
  shows_same RK base v = λ i. Leans base.width (n_read i) (m_read i) v

  pub carried_shows : (check : Check) (base : Base) (v : Figure) → ShowsCarried check base (shift_of sums zero_sums) v → ShowsBySums check base sums v
  carried_shows check base v h = subst (λ (A : Type 0). A) (shows_same check base v) h
