-- What `no_sums`, `add_sums`, `balance_by`, `terms_of` and `sums_of` answer: the sums over the rows of a set as the program holds
-- them, natural numbers only, each whole number by what is above and below zero.
use Rattle.std.specs.Prelude.{ℕ, zero, suc, ◌+◌, ◌-◌, ◌*◌, ◌^◌, ◌≤◌, pos, ◌*ℤ◌}
use Rattle.arithmetic.specs.declared.signed.Parts.{Parts}
use Rattle.arithmetic.specs.signed.Whole.{worth}
use Rattle.arithmetic.specs.signed.Parts.{parts_in, times}
use Rattle.sets.specs.declared.Class.{Class}
use Rattle.sets.specs.declared.Class.TheVariants.{Permanent, Free, Wind, Earthquake}
use Rattle.sets.specs.declared.Load.{Load}
use Rattle.sets.specs.declared.Loads.{Loads}
use Rattle.sums.specs.declared.Balance.{Balance}
use Rattle.sums.specs.declared.Sums.{Sums}
use Rattle.sets.specs.Sets.{bit, row}
use Rattle.sums.specs.Totals.{Edge, plus, minus, resists, overturns}

unfoldable pub parts_sum : Parts → Parts → Parts
parts_sum a b = record { above = a.above + b.above; below = a.below + b.below }

unfoldable pub balance_sum : Balance → Balance → Balance
balance_sum a b = record { resisting = a.resisting + b.resisting; overturning = a.overturning + b.overturning }

-- nothing, and two sums together
unfoldable pub zero_sums : Sums
zero_sums =
    record {
      v = record { above = 0; below = 0 };
      h = record { above = 0; below = 0 };
      m = record { above = 0; below = 0 };
      plus = record { resisting = 0; overturning = 0 };
      minus = record { resisting = 0; overturning = 0 };
      winds = 0;
      earthquakes = 0;
      rows = 0;
      set = 0;
    }

unfoldable pub add : Sums → Sums → Sums
unfolding parts_sum balance_sum
add a b =
    record {
      v = parts_sum a.v b.v;
      h = parts_sum a.h b.h;
      m = parts_sum a.m b.m;
      plus = balance_sum a.plus b.plus;
      minus = balance_sum a.minus b.minus;
      winds = a.winds + b.winds;
      earthquakes = a.earthquakes + b.earthquakes;
      rows = a.rows + b.rows;
      set = a.set + b.set;
    }

-- with one row more, where the row is in the set
unfoldable pub add_if : ℕ → Sums → Sums → Sums
add_if zero a b = a
add_if (suc held) a b = add a b

-- what one row gives; its place is the number that it counts in a set
unfoldable pub balance_of : Edge → ℕ → Load → Balance
balance_of edge width load = record { resisting = resists edge width load; overturning = overturns edge width load }

unfoldable pub is_wind : Class → ℕ
is_wind Permanent = 0
is_wind Free = 0
is_wind Wind = 1
is_wind Earthquake = 0

unfoldable pub is_earthquake : Class → ℕ
is_earthquake Permanent = 0
is_earthquake Free = 0
is_earthquake Wind = 0
is_earthquake Earthquake = 1

unfoldable pub moment_of : Load → Parts
unfolding parts_sum
moment_of load = parts_sum (parts_in (pos 2 *ℤ (worth load.v *ℤ worth load.x))) (parts_in (pos 2 *ℤ worth load.twist))

unfoldable pub terms_from : ℕ → Load → ℕ → Sums
terms_from width load place =
    record {
      v = parts_in (worth load.v);
      h = parts_in (worth load.h);
      m = moment_of load;
      plus = balance_of plus width load;
      minus = balance_of minus width load;
      winds = is_wind load.class;
      earthquakes = is_earthquake load.class;
      rows = 1;
      set = place;
    }

-- the sum over the first n rows
unfoldable pub sums_to : ℕ → Loads → ℕ → ℕ → Sums
sums_to width loads set zero = zero_sums
sums_to width loads set (suc n) = add_if (bit set n) (sums_to width loads set n) (terms_from width (row loads n) (2 ^ n))

unfoldable pub sums_from : ℕ → Loads → ℕ → Sums
sums_from width loads set = sums_to width loads set loads.count

-- ---- one row in natural numbers

-- the arm to an edge of what stands so far toward it and so far away from it
unfoldable pub arm_by : ℕ → ℕ → ℕ → Parts
arm_by width toward away = record { above = (width + 2 * away) - 2 * toward; below = 2 * toward - (width + 2 * away) }

unfoldable pub balance_at : Parts → Parts → ℕ → ℕ → Balance
balance_at v arm holds pushes = record { resisting = (times v arm).above + 2 * holds; overturning = (times v arm).below + 2 * pushes }

unfoldable pub moment_by : Parts → Parts → Parts → Parts
moment_by v x twist = record { above = 2 * (times v x).above + 2 * twist.above; below = 2 * (times v x).below + 2 * twist.below }

-- ---- sizes

-- what n rows give at most
pub record Room (n : ℕ) (sums : Sums) : Type 0 where
  pub down : sums.v.above ≤ n * 50000
  pub up : sums.v.below ≤ n * 50000
  pub ahead : sums.h.above ≤ n * 300000
  pub back : sums.h.below ≤ n * 300000
  pub turning : sums.m.above ≤ n * 2 ^ 34
  pub returning : sums.m.below ≤ n * 2 ^ 34
  pub resisting_plus : sums.plus.resisting ≤ n * 2 ^ 34
  pub overturning_plus : sums.plus.overturning ≤ n * 2 ^ 34
  pub resisting_minus : sums.minus.resisting ≤ n * 2 ^ 34
  pub overturning_minus : sums.minus.overturning ≤ n * 2 ^ 34
  pub winds : sums.winds ≤ n
  pub earthquakes : sums.earthquakes ≤ n
  pub rows : sums.rows ≤ n
  pub set : sums.set ≤ n * 2 ^ 34
