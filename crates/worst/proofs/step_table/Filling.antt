-- The table row by row, and how large its rows are.
use mathlib.Core.Path.{◌≡◌, refl, sym, ◌∙◌, ap, ap₂, subst, subst⁻¹}
use mathlib.Core.List.{List}
use Prim.Native.Nat.{ℕ, zero, suc, ◌+◌, ◌*◌, ◌^◌, ◌≤◌, ◌<◌}
use native.Mathlib.Omega.{arith}
use native.Mathlib.Numerals.{add-one}
use native.Mathlib.Nat.{lt_of_lt_of_le}
use native.Mathlib.Decide.{dec_lt}
use lib.ListN.{length}
use Rattle.arithmetic.proofs.Cases.{impossible, by_cases}
use Rattle.sets.specs.declared.Combination.{Combination}
use Rattle.sets.specs.declared.Loads.{Loads}
use Rattle.sums.specs.declared.Sums.{Sums}
use Rattle.sums.specs.declared.carried.Carried.{Carried}
use Rattle.sets.specs.Sets.{row}
use Rattle.sets.specs.Bounded.{Bounded}
use Rattle.sums.specs.steps.Sums.{zero_sums, add, Room}
use Rattle.sums.specs.steps.Carried.{shift_of}
use Rattle.sums.proofs.Adding.{room_none, room_add, room_more, room_row, low_place}
use Rattle.worst.specs.declared.choices.Stance.{Stance}
use Rattle.worst.specs.declared.choices.Stance.TheVariants.{Never, Always, Choosable}
use Rattle.worst.specs.declared.trains.Trains.{Trains}
use Rattle.worst.specs.steps.Stance.{next, choosable, fixed_by, fixed, row_terms, stance_at}
use Rattle.worst.specs.steps.Steps.{change_from}
use Rattle.worst.proofs.choices.Choices.{next_le}
use Rattle.worst.proofs.step_table.Entries.{Puts, puts_size, puts_own, puts_others}

-- a choosable row comes before the number of those up to a later one
pub choosable_step : (stance : ℕ → Stance) (i n : ℕ) → i < n → stance i ≡ Choosable → choosable stance i < choosable stance n
unfolding choosable next
choosable_step stance i zero h e = absurd (omega arith)
choosable_step stance i (suc n) h e =
    by_cases (dec_lt i n) (λ l. lt_of_lt_of_le (choosable_step stance i n l e) (next_le (stance n) (choosable stance n)))
    (λ l.
    let d : i ≡ n = omega arith in
    let f : stance n ≡ Choosable = subst (λ (j : ℕ). stance j ≡ Choosable) d e in
    subst (λ (j : ℕ). choosable stance j < next (stance n) (choosable stance n)) (sym d)
    (subst⁻¹ (λ (a : Stance). choosable stance n < next a (choosable stance n)) f (omega arith)))

module _ (combination : Combination) (width : ℕ) (loads : Loads) (trains : Trains) where
  -- the table of the first n rows: m of them are choosable
  pub record Filled (n : ℕ) (steps : List Carried) (m : ℕ) (always : Sums) : Type 0 where
    pub size : length steps ≡ 32
    pub count : m ≡ choosable (stance_at combination loads trains) n
    pub few : m ≤ n
    pub always_there : always ≡ fixed (stance_at combination loads trains) (row_terms width loads) n
    pub added : (i : ℕ) → i < n → stance_at combination loads trains i ≡ Choosable → change_from steps (2 * choosable (stance_at combination loads trains) i) ≡ shift_of (row_terms width loads i) zero_sums
    pub taken : (i : ℕ) → i < n → stance_at combination loads trains i ≡ Choosable → change_from steps (2 * choosable (stance_at combination loads trains) i + 1) ≡ shift_of zero_sums (row_terms width loads i)

  pub filled_none : (steps : List Carried) {always : Sums} → length steps ≡ 32 → always ≡ zero_sums → Filled 0 steps 0 always
  unfolding choosable fixed
  filled_none steps l e =
      record { size = l; count = refl; few = omega arith; always_there = e; added = λ i h. absurd (omega arith); taken = λ i h. absurd (omega arith) }

  pub filled_as : (n : ℕ) {steps steps' : List Carried} {m m' : ℕ} {always always' : Sums} → Filled n steps m always
      → steps' ≡ steps → m' ≡ m → always' ≡ always → Filled n steps' m' always'
  filled_as n f p q t = rw (p, q, t) f

  -- ---- one row more
  module _ (n : ℕ) {steps : List Carried} {m : ℕ} {always : Sums} (f : Filled n steps m always) where
    -- one that is not choosable is written nowhere
    unwritten : (a : Stance) → stance_at combination loads trains n ≡ a → (a ≡ Choosable → ⊥) → {sums : Sums} → next a m ≡ m → sums ≡ fixed_by a always (row_terms width loads n)
        → Filled (n + 1) steps m sums
    unfolding choosable fixed
    unwritten a e not {sums} same s =
        subst⁻¹ (λ (k : ℕ). Filled k steps m sums) (add-one n)
        (record {
          size = f.size;
          count = sym same ∙ ap₂ next (sym e) f.count;
          few = omega (arith, f.few);
          always_there = s ∙ ap₂ (λ (k : Stance) (x : Sums). fixed_by k x (row_terms width loads n)) (sym e) f.always_there;
          added = λ i h c. f.added i (below i c h) c;
          taken = λ i h c. f.taken i (below i c h) c;
        })
      where
        below : (i : ℕ) → stance_at combination loads trains i ≡ Choosable → i < suc n → i < n
        below i c h =
            by_cases (dec_lt i n) (λ l. l)
            (λ l. let d : i ≡ n = omega arith in absurd (not (sym e ∙ sym (ap (stance_at combination loads trains) d) ∙ c)))

    pub more_never : stance_at combination loads trains n ≡ Never → Filled (n + 1) steps m always
    unfolding next fixed_by
    more_never e = unwritten Never e (λ q. impossible cc) refl refl

    pub more_always : stance_at combination loads trains n ≡ Always → {sums : Sums} → sums ≡ add always (row_terms width loads n) → Filled (n + 1) steps m sums
    unfolding next fixed_by
    more_always e s = unwritten Always e (λ q. impossible cc) refl s

    -- one that is choosable is written behind those before it, which stay
    pub more_choosable : stance_at combination loads trains n ≡ Choosable → {mid after : List Carried} {x y : Carried} → x ≡ shift_of (row_terms width loads n) zero_sums → y ≡ shift_of zero_sums (row_terms width loads n)
        → Puts steps (2 * m) x mid → Puts mid (2 * m + 1) y after → Filled (n + 1) after (m + 1) always
    unfolding choosable fixed next fixed_by
    more_choosable e {mid} {after} {x} {y} by-x by-y p q =
        subst⁻¹ (λ (k : ℕ). Filled k after (m + 1) always) (add-one n)
        (record {
          size = puts_size q ∙ puts_size p ∙ f.size;
          count = add-one m ∙ ap₂ next (sym e) f.count;
          few = omega (arith, f.few);
          always_there = f.always_there ∙ ap (λ (k : Stance). fixed_by k (fixed (stance_at combination loads trains) (row_terms width loads) n) (row_terms width loads n)) (sym e);
          added = λ i h c. by_cases (dec_lt i n) (λ l. earlier (2 * choosable (stance_at combination loads trains) i) (omega (arith, place i l c)) ∙ f.added i l c)
              (λ l. own i (omega arith) (puts_others q (2 * m) (omega arith) ∙ puts_own p ∙ by-x));
          taken = λ i h c. by_cases (dec_lt i n) (λ l. earlier (2 * choosable (stance_at combination loads trains) i + 1) (omega (arith, place i l c)) ∙ f.taken i l c)
              (λ l. own_taken i (omega arith) (puts_own q ∙ by-y));
        })
      where
        place : (i : ℕ) → i < n → stance_at combination loads trains i ≡ Choosable → choosable (stance_at combination loads trains) i < m
        place i l c = subst⁻¹ (λ (k : ℕ). choosable (stance_at combination loads trains) i < k) f.count (choosable_step (stance_at combination loads trains) i n l c)

        earlier : (k : ℕ) → k < 2 * m → change_from after k ≡ change_from steps k
        earlier k h = puts_others q k (omega arith) ∙ puts_others p k h

        own : (i : ℕ) → i ≡ n → change_from after (2 * m) ≡ shift_of (row_terms width loads n) zero_sums → change_from after (2 * choosable (stance_at combination loads trains) i) ≡ shift_of (row_terms width loads i) zero_sums
        own i d w = rw (d, ← f.count) w

        own_taken : (i : ℕ) → i ≡ n → change_from after (2 * m + 1) ≡ shift_of zero_sums (row_terms width loads n) → change_from after (2 * choosable (stance_at combination loads trains) i + 1) ≡ shift_of zero_sums (row_terms width loads i)
        own_taken i d w = rw (d, ← f.count) w

  -- ---- sizes
  module _ (wide : width ≤ 30000) (b : Bounded loads) where
    pub terms_room : (i : ℕ) → i < loads.count → Room 1 (row_terms width loads i)
    unfolding row_terms
    terms_room i h = room_row width (row loads i) wide (b.each i h) (2 ^ i) (low_place i (omega (arith, b.count)))

    fixed_room_by : (a : Stance) (n : ℕ) (s t : Sums) → Room n s → Room 1 t → Room (suc n) (fixed_by a s t)
    unfolding fixed_by
    fixed_room_by Never n s t p q = room_more (omega arith) p
    fixed_room_by Always n s t p q = room_more (omega arith) (room_add p q)
    fixed_room_by Choosable n s t p q = room_more (omega arith) p

    pub fixed_room : (n : ℕ) → n ≤ loads.count → Room n (fixed (stance_at combination loads trains) (row_terms width loads) n)
    unfolding fixed
    fixed_room zero h = room_none 0
    fixed_room (suc n) h =
        fixed_room_by (stance_at combination loads trains n) n _ _ (fixed_room n (omega arith)) (terms_room n (omega arith))

-- every place of the table that is in use is that of a choosable row
pub choosable_onto : (stance : ℕ → Stance) (n j : ℕ) → j < choosable stance n → (i : ℕ) × (i < n) × (stance i ≡ Choosable) × (choosable stance i ≡ j)
unfolding choosable next
choosable_onto stance zero j h = absurd (omega arith)
choosable_onto stance (suc n) j h = go (stance n) refl (λ l. choosable_onto stance n j l) h
  where
    FoundAt : Type 0
    FoundAt = (i : ℕ) × (i < suc n) × (stance i ≡ Choosable) × (choosable stance i ≡ j)

    below : ((i : ℕ) × (i < n) × (stance i ≡ Choosable) × (choosable stance i ≡ j)) → FoundAt
    below w = (w.0, omega (arith, w.1), w.2, w.3)

    go : (a : Stance) → stance n ≡ a → (j < choosable stance n → (i : ℕ) × (i < n) × (stance i ≡ Choosable) × (choosable stance i ≡ j)) → j < next a (choosable stance n) → FoundAt
    go Never e before l = below (before l)
    go Always e before l = below (before l)
    go Choosable e before l = by_cases (dec_lt j (choosable stance n)) (λ k. below (before k)) (λ k. (n, omega arith, e, omega arith))
