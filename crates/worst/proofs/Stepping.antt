-- The sums that a walk carries from step to step are those of the choices in their order.
use mathlib.Core.Path.{◌≡◌, refl, sym, ◌∙◌, ap, ap₂, subst, subst⁻¹}
use mathlib.Core.Bool.{cond}
use mathlib.Core.List.{List}
use Prim.Native.Nat.{ℕ, zero, suc, ◌+◌, ◌*◌, ◌^◌, ◌≤◌, ◌<◌}
use native.Mathlib.Omega.{arith}
use native.Mathlib.Numerals.{add-one}
use native.Mathlib.Decide.{dec_lt}
use lib.Dec.{eqb}
use borrow.Author.Tests.{eq-eqb, ne_eqb}
use Rattle.arithmetic.proofs.Cases.{by_cases}
use Rattle.sets.specs.declared.Combination.{Combination}
use Rattle.sets.specs.declared.Loads.{Loads}
use Rattle.sums.specs.declared.Sums.{Sums}
use Rattle.sums.specs.declared.carried.Carried.{Carried}
use Rattle.sets.specs.Bounded.{Bounded}
use Rattle.sums.specs.steps.Sums.{zero_sums, sums_from, Room}
use Rattle.sums.specs.steps.Carried.{shift_of, moved}
use Rattle.sums.proofs.Adding.{room_more, room_all}
use Rattle.sums.proofs.carried.Carrying.{row_added, row_taken}
use Rattle.worst.specs.declared.choices.Stance.{Stance}
use Rattle.worst.specs.declared.choices.Stance.TheVariants.{Choosable}
use Rattle.worst.specs.declared.step_table.StepTable.{StepTable}
use Rattle.worst.specs.steps.Stance.{choosable, fixed, chosen, row_terms, stance_at}
use Rattle.worst.specs.steps.Order.{choice, changed, taken}
use Rattle.worst.specs.steps.Steps.{change_from, reached}
use Rattle.worst.specs.steps.StepTable.{TableIs}
use Rattle.worst.specs.declared.trains.Trains.{Trains}
use Rattle.worst.specs.steps.Search.{count_of, set_of, carried_of}
use Rattle.worst.proofs.choices.Choices.{choosable_room, Tabled, pick_sums, chosen_nothing}
use Rattle.worst.proofs.step_table.Filling.{choosable_step, choosable_onto, terms_room}
use Rattle.worst.proofs.Order.{choice_none, changed_low, taken_two, walk_added, walk_taken}

-- ---- the choosable rows in their places
-- what the choosable row at place j gives, among the first n rows
unfoldable placed : (ℕ → Stance) → (ℕ → Sums) → ℕ → ℕ → Sums
placed stance terms zero j = zero_sums
placed stance terms (suc n) j = cond (eqb j (choosable stance n)) (terms n) (placed stance terms n j)

module _ (stance : ℕ → Stance) (terms : ℕ → Sums) where
  placed_own : (n i : ℕ) → i < n → stance i ≡ Choosable → placed stance terms n (choosable stance i) ≡ terms i
  unfolding placed
  placed_own zero i h e = absurd (omega arith)
  placed_own (suc n) i h e =
      by_cases (dec_lt i n) (λ l. rw (ne_eqb (choosable stance i) (choosable stance n) (λ d. omega (arith, d, choosable_step stance i n l e))) (placed_own n i l e))
      (λ l. let d : i ≡ n = omega arith in rw (d, eq-eqb (choosable stance n) (choosable stance n) refl) refl)

-- ---- one step on
pub reached_more : (steps : List Carried) (first : Carried) (k : ℕ) → reached steps first (k + 1) ≡ moved (reached steps first k) (change_from steps (2 * changed (k + 1) + taken (k + 1)))
unfolding reached
reached_more steps first k = rw add-one

-- ---- a walk by the table of a combination
module _ (combination : Combination) (width : ℕ) (loads : Loads) (trains : Trains) (table : StepTable) (f : TableIs combination width loads trains table) (wide : width ≤ 30000) (b : Bounded loads) where
  abbrev count : ℕ
  count = choosable (stance_at combination loads trains) loads.count

  rows : ℕ → Sums
  rows = placed (stance_at combination loads trains) (row_terms width loads) loads.count

  few : count ≤ 16
  few = omega (arith, choosable_room (stance_at combination loads trains) loads.count, b.count)

  -- the sums of step k
  sums_at : ℕ → Sums
  sums_at k = chosen (fixed (stance_at combination loads trains) (row_terms width loads) loads.count) rows (choice count k) count

  sums_are : (k : ℕ) → sums_at k ≡ sums_from width loads (set_of combination loads trains k)
  unfolding sums_at set_of count_of sums_from Tabled rows
  sums_are k =
      sym (pick_sums (stance_at combination loads trains) width loads rows loads.count (choice count k) (λ i h e. placed_own (stance_at combination loads trains) (row_terms width loads) loads.count i h e))

  sums_room : (k : ℕ) → Room 16 (sums_at k)
  sums_room k = subst⁻¹ (Room 16) (sums_are k) (room_all width loads (set_of combination loads trains k) wide b)

  -- every place below the count is that of a choosable row
  module _ (j : ℕ) (h : j < count) where
    held : (i : ℕ) × (i < loads.count) × (stance_at combination loads trains i ≡ Choosable) × (choosable (stance_at combination loads trains) i ≡ j)
    held = choosable_onto (stance_at combination loads trains) loads.count j h

    row_is : rows j ≡ row_terms width loads held.0
    unfolding rows
    row_is =
        ap (placed (stance_at combination loads trains) (row_terms width loads) loads.count) (sym held.3) ∙ placed_own (stance_at combination loads trains) (row_terms width loads) loads.count held.0 held.1 held.2

    row_room : Room 16 (rows j)
    row_room = subst⁻¹ (Room 16) row_is (room_more (omega arith) (terms_room combination width loads trains wide b held.0 held.1))

    entry_added : change_from table.steps (2 * j + 0) ≡ shift_of (rows j) zero_sums
    entry_added =
        let e : 2 * j + 0 ≡ 2 * choosable (stance_at combination loads trains) held.0 = omega (arith, held.3) in
        ap (change_from table.steps) e ∙ f.added held.0 held.1 held.2 ∙ ap (λ (s : Sums). shift_of s zero_sums) (sym row_is)

    entry_taken : change_from table.steps (2 * j + 1) ≡ shift_of zero_sums (rows j)
    entry_taken =
        let e : 2 * j + 1 ≡ 2 * choosable (stance_at combination loads trains) held.0 + 1 = omega (arith, held.3) in
        ap (change_from table.steps) e ∙ f.taken held.0 held.1 held.2 ∙ ap (shift_of zero_sums) (sym row_is)

  -- one step on
  module _ (k : ℕ) (h : k + 1 < 2 ^ count) where
    below : changed (k + 1) < count
    below = changed_low count (k + 1) (omega arith) h (omega (arith, few))

    stepped : (t : ℕ) → t < 2 → taken (k + 1) ≡ t → moved (shift_of (sums_at k) zero_sums) (change_from table.steps (2 * changed (k + 1) + t)) ≡ shift_of (sums_at (k + 1)) zero_sums
    unfolding sums_at
    stepped zero two e =
        ap (moved (shift_of (sums_at k) zero_sums)) (entry_added (changed (k + 1)) below) ∙ row_added (sums_at k) (rows (changed (k + 1))) (sums_room k) (row_room (changed (k + 1)) below)
        ∙ ap (λ (s : Sums). shift_of s zero_sums) (sym (walk_added _ rows count few k h e))
    stepped (suc zero) two e =
        ap₂ (λ (s : Sums) (by : Carried). moved (shift_of s zero_sums) by) (walk_taken _ rows count few k h e) (entry_taken (changed (k + 1)) below)
        ∙ row_taken (sums_at (k + 1)) (rows (changed (k + 1))) (sums_room (k + 1)) (row_room (changed (k + 1)) below)
    stepped (suc (suc t)) two e = absurd (omega arith)

  -- what is carried at step k is what the sums of its set give
  carried_at : (k : ℕ) → k < 2 ^ count → reached table.steps table.first k ≡ shift_of (sums_at k) zero_sums
  unfolding reached sums_at
  carried_at zero h =
      f.first
      ∙ ap (λ (s : Sums). shift_of s zero_sums)
      (sym (ap (λ (c : ℕ). chosen (fixed (stance_at combination loads trains) (row_terms width loads) loads.count) rows c count) (choice_none count) ∙ chosen_nothing _ rows count))
  carried_at (suc k) h =
      subst (λ (n : ℕ). moved (reached table.steps table.first k) (change_from table.steps (2 * changed n + taken n)) ≡ shift_of (sums_at n) zero_sums) (add-one k)
      (ap (λ (c : Carried). moved c (change_from table.steps (2 * changed (k + 1) + taken (k + 1)))) (carried_at k (omega arith)) ∙ stepped k (omega arith) (taken (k + 1)) (taken_two (k + 1)) refl)

  pub carried_is : (k : ℕ) → k < 2 ^ count → reached table.steps table.first k ≡ carried_of combination width loads trains k
  unfolding carried_of
  carried_is k h = carried_at k h ∙ ap (λ (s : Sums). shift_of s zero_sums) (sums_are k)
