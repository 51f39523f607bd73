-- The order of the walk: each choice is visited once, and a step adds one row or takes one away.
use mathlib.Core.Path.{◌≡◌, refl, sym, ◌∙◌, ap, ap₂, subst}
use Prim.Native.Nat.{ℕ, zero, suc, ◌+◌, ◌*◌, ◌/◌, ◌%◌, ◌^◌, ◌≤◌, ◌<◌}
use native.Mathlib.Omega.{arith}
use native.Mathlib.Nat.{pow-suc, lt_of_lt_of_le}
use native.Mathlib.Decide.{dec_lt, ℕ_discrete}
use lib.Pow.{pow_mono}
use lib.Count.{count_trailing_zeros, under}
use Rattle.arithmetic.proofs.Cases.{by_cases}
use Rattle.sets.specs.Sets.{bit}
use Rattle.sets.proofs.Bits.{half_part, half_bit, first_bit}
use Rattle.sums.specs.declared.Sums.{Sums}
use Rattle.sums.specs.steps.Sums.{add, add_if}
use Rattle.sums.proofs.Adding.{add_if_in, add_if_out}
use Rattle.worst.specs.steps.Stance.{chosen}
use Rattle.worst.specs.steps.Order.{held_at, choice, changed, taken}
use Rattle.worst.proofs.choices.Choices.{add_if_swap}

-- ---- the parts of a number from a place on, by halving
half_held : (k j : ℕ) → held_at k (suc j) ≡ held_at (k / 2) j
unfolding held_at
half_held k j = ap (λ (x : ℕ). (x + 1) / 2 % 2) (half_part k j)

first_held : (k : ℕ) → held_at k 0 ≡ (k / 2 + k % 2) % 2
unfolding held_at
first_held k = let e : (k / 2 ^ 0 + 1) / 2 ≡ k / 2 + k % 2 = omega arith in ap (λ (x : ℕ). x % 2) e

-- ---- even and odd
by_half : {A : Type 0} (n : ℕ) → (n % 2 ≡ 0 → A) → (n % 2 ≡ 1 → A) → A
by_half n f g = by_cases (ℕ_discrete (n % 2) 0) f (λ h. g (omega arith))

next_odd : (a : ℕ) → (a + 1) % 2 + a % 2 ≡ 1
next_odd a = by_half a (λ e. omega arith) (λ e. omega arith)

twice_added : (q r : ℕ) → r < 2 → (q + (q + r) % 2) % 2 ≡ r
twice_added q zero h = omega arith
twice_added q (suc zero) h = by_half q (λ e. omega arith) (λ e. omega arith)
twice_added q (suc (suc r)) h = absurd (omega arith)

same_rest : (q r s : ℕ) → r < 2 → s < 2 → (q + r) % 2 ≡ (q + s) % 2 → r ≡ s
same_rest q r s h i e = sym (twice_added q r h) ∙ rw e (twice_added q s i)

-- ---- the choices
pub choice_low : (m k : ℕ) → choice m k < 2 ^ m
unfolding choice
choice_low zero k = omega arith
choice_low (suc m) k = rw (pow-suc 2 m) (omega (arith, choice_low m (k / 2), first_held k))

pub choice_bit : (m k j : ℕ) → j < m → bit (choice m k) j ≡ held_at k j
unfolding choice
choice_bit zero k j h = absurd (omega arith)
choice_bit (suc m) k zero h = first_bit (choice (suc m) k) ∙ omega (arith, first_held k)
choice_bit (suc m) k (suc j) h =
    let e : choice (suc m) k / 2 ≡ choice m (k / 2) = omega (arith, first_held k) in
    half_bit (choice (suc m) k) j ∙ ap (λ (x : ℕ). bit x j) e ∙ choice_bit m (k / 2) j (omega arith) ∙ sym (half_held k j)

-- each choice is visited, and only once
visited : (m c : ℕ) → c < 2 ^ m → (k : ℕ) × (k < 2 ^ m) × (choice m k ≡ c)
unfolding choice
visited zero c h = (0, omega arith, omega arith)
visited (suc m) c h = later (visited m (c / 2) (omega (arith, rw (pow-suc 2 m) at h)))
  where
    later : (k : ℕ) × (k < 2 ^ m) × (choice m k ≡ c / 2) → (k : ℕ) × (k < 2 ^ suc m) × (choice (suc m) k ≡ c)
    later (q, l, e) =
        let k = 2 * q + (q + c % 2) % 2 in
        let half : k / 2 ≡ q = omega arith in
        let rest : k % 2 ≡ (q + c % 2) % 2 = omega arith in
        let own : held_at k 0 ≡ c % 2 = first_held k ∙ ap₂ (λ (x y : ℕ). (x + y) % 2) half rest ∙ twice_added q (c % 2) (omega arith) in
        (k, rw (pow-suc 2 m) (omega arith), omega (arith, own, ap (choice m) half))

once : (m k l : ℕ) → k < 2 ^ m → l < 2 ^ m → choice m k ≡ choice m l → k ≡ l
unfolding choice
once zero k l h i e = omega arith
once (suc m) k l h i e =
    let before : choice m (k / 2) ≡ choice m (l / 2) = omega (arith, e, first_held k, first_held l) in
    let halves : k / 2 ≡ l / 2 = once m (k / 2) (l / 2) (omega (arith, rw (pow-suc 2 m) at h)) (omega (arith, rw (pow-suc 2 m) at i)) before in
    let turned : held_at k 0 ≡ held_at l 0 = omega (arith, e, before) in
    let rests : (k / 2 + k % 2) % 2 ≡ (k / 2 + l % 2) % 2 = sym (first_held k) ∙ turned ∙ first_held l ∙ ap (λ (x : ℕ). (x + l % 2) % 2) (sym halves) in
    omega (arith, halves, same_rest (k / 2) (k % 2) (l % 2) (omega arith) (omega arith) rests)

pub visited_once : (m c : ℕ) → c < 2 ^ m → (k : ℕ) × (k < 2 ^ m) × (choice m k ≡ c) × ((l : ℕ) → l < 2 ^ m → choice m l ≡ c → l ≡ k)
visited_once m c h = let v = visited m c h in (v.0, v.1, v.2, λ l i e. once m l v.0 i v.1 (e ∙ sym v.2))

-- the first choice has none of the rows
pub choice_none : (m : ℕ) → choice m 0 ≡ 0
unfolding choice held_at
choice_none zero = refl
choice_none (suc m) = omega (arith, choice_none m)

-- ---- one step
-- the lowest place of a number that is set, by halving
lowest_odd : (d n : ℕ) → n % 2 ≡ 1 → count_trailing_zeros (suc d) n ≡ 0
unfolding count_trailing_zeros
lowest_odd d n e = ap (λ (x : ℕ). under x (count_trailing_zeros d (n / 2))) e

lowest_even : (d n : ℕ) → n % 2 ≡ 0 → count_trailing_zeros (suc d) n ≡ suc (count_trailing_zeros d (n / 2))
unfolding count_trailing_zeros
lowest_even d n e = ap (λ (x : ℕ). under x (count_trailing_zeros d (n / 2))) e

lowest_low : (d m k : ℕ) → 0 < k → k < 2 ^ m → m ≤ d → count_trailing_zeros d k < m
lowest_low d zero k p h l = absurd (omega arith)
lowest_low zero (suc m) k p h l = absurd (omega arith)
lowest_low (suc d) (suc m) k p h l =
    by_half k (λ e. omega (arith, lowest_even d k e, lowest_low d m (k / 2) (omega arith) (omega (arith, rw (pow-suc 2 m) at h)) (omega arith)))
    (λ e. omega (arith, lowest_odd d k e))

-- the row is one of the m
pub changed_low : (m k : ℕ) → 0 < k → k < 2 ^ m → m ≤ 64 → changed k < m
unfolding changed
changed_low m k p h l = lowest_low 64 m k p h l

-- the other rows stay
others : (d k j : ℕ) → k + 1 < 2 ^ d → (j ≡ count_trailing_zeros d (k + 1) → ⊥) → held_at (k + 1) j ≡ held_at k j
others zero k j h n = absurd (omega arith)
others (suc d) k zero h n =
    by_half (k + 1)
    (λ e.
    let same : (k + 1) / 2 + (k + 1) % 2 ≡ k / 2 + k % 2 = omega arith in
    first_held (k + 1) ∙ ap (λ (x : ℕ). x % 2) same ∙ sym (first_held k))
    (λ e. absurd (n (sym (lowest_odd d (k + 1) e))))
others (suc d) k (suc j) h n =
    by_half (k + 1)
    (λ e.
    let up : (k + 1) / 2 ≡ k / 2 + 1 = omega arith in
    let low : k / 2 + 1 < 2 ^ d = omega (arith, rw (pow-suc 2 d) at h) in
    half_held (k + 1) j ∙ ap (λ (x : ℕ). held_at x j) up
    ∙ others d (k / 2) j low (λ i. n (ap suc (i ∙ ap (count_trailing_zeros d) (sym up)) ∙ sym (lowest_even d (k + 1) e)))
    ∙ sym (half_held k j))
    (λ e.
    let same : (k + 1) / 2 ≡ k / 2 = omega arith in
    half_held (k + 1) j ∙ ap (λ (x : ℕ). held_at x j) same ∙ sym (half_held k j))

pub step_others : (k j : ℕ) → k + 1 < 2 ^ 64 → (j ≡ changed (k + 1) → ⊥) → held_at (k + 1) j ≡ held_at k j
unfolding changed
step_others k j h n = others 64 k j h n

-- the row itself is held before where it is taken away, and after where it is not
unfoldable Turns : ℕ → ℕ → Type 0
Turns k j = (held_at k j ≡ (k + 1) / 2 ^ j / 2 % 2) × (held_at (k + 1) j + (k + 1) / 2 ^ j / 2 % 2 ≡ 1)

turns : (d k : ℕ) → k + 1 < 2 ^ d → Turns k (count_trailing_zeros d (k + 1))
unfolding Turns
turns zero k h = absurd (omega arith)
turns (suc d) k h =
    by_half (k + 1)
    (λ e.
    let up : (k + 1) / 2 ≡ k / 2 + 1 = omega arith in
    let low : k / 2 + 1 < 2 ^ d = omega (arith, rw (pow-suc 2 d) at h) in
    let place : count_trailing_zeros (suc d) (k + 1) ≡ suc (count_trailing_zeros d (k / 2 + 1)) = lowest_even d (k + 1) e ∙ ap (λ (x : ℕ). suc (count_trailing_zeros d x)) up in
    subst (Turns k) (sym place) (later (count_trailing_zeros d (k / 2 + 1)) up (turns d (k / 2) low)))
    (λ e. subst (Turns k) (sym (lowest_odd d (k + 1) e)) (first e))
  where
    first : (k + 1) % 2 ≡ 1 → Turns k 0
    first e =
        let whole : (k + 1) / 2 ^ 0 ≡ k + 1 = omega arith in
        let before : k / 2 + k % 2 ≡ (k + 1) / 2 = omega arith in
        let after : held_at (k + 1) 0 ≡ ((k + 1) / 2 + 1) % 2 = first_held (k + 1) ∙ ap (λ (x : ℕ). ((k + 1) / 2 + x) % 2) e in
        (first_held k ∙ rw whole (ap (λ (x : ℕ). x % 2) before), rw (whole, after) (next_odd ((k + 1) / 2)))

    later : (j : ℕ) → (k + 1) / 2 ≡ k / 2 + 1 → Turns (k / 2) j → Turns k (suc j)
    later j up t =
        let part : (k + 1) / 2 ^ suc j ≡ (k / 2 + 1) / 2 ^ j = half_part (k + 1) j ∙ ap (λ (x : ℕ). x / 2 ^ j) up in
        let after : held_at (k + 1) (suc j) ≡ held_at (k / 2 + 1) j = half_held (k + 1) j ∙ ap (λ (x : ℕ). held_at x j) up in
        (half_held k j ∙ rw part t.0, rw (part, after) t.1)

-- added or taken away
pub taken_two : (k : ℕ) → taken k < 2
unfolding taken
taken_two k = omega arith

-- the row is added where it was not, or taken away where it was
pub step_added : (k : ℕ) → k + 1 < 2 ^ 64 → taken (k + 1) ≡ 0 → (held_at k (changed (k + 1)) ≡ 0) × (held_at (k + 1) (changed (k + 1)) ≡ 1)
unfolding taken changed Turns
step_added k h e = let t = turns 64 k h in (t.0 ∙ e, omega (arith, t.1, e))

pub step_taken : (k : ℕ) → k + 1 < 2 ^ 64 → taken (k + 1) ≡ 1 → (held_at k (changed (k + 1)) ≡ 1) × (held_at (k + 1) (changed (k + 1)) ≡ 0)
unfolding taken changed Turns
step_taken k h e = let t = turns 64 k h in (t.0 ∙ e, omega (arith, t.1, e))

-- ---- sums
-- the sums go by the rows that are held
chosen_same : (first : Sums) (table : ℕ → Sums) (a b m : ℕ) → ((i : ℕ) → i < m → bit a i ≡ bit b i) → chosen first table a m ≡ chosen first table b m
unfolding chosen
chosen_same first table a b zero h = refl
chosen_same first table a b (suc m) h =
    ap₂ (λ (x : ℕ) (s : Sums). add_if x s (table m)) (h m (omega arith)) (chosen_same first table a b m (λ i l. h i (omega arith)))

-- a choice with one row more
pub chosen_added : (first : Sums) (table : ℕ → Sums) (a b j m : ℕ) → j < m → bit a j ≡ 0 → bit b j ≡ 1 → ((i : ℕ) → i < m → (i ≡ j → ⊥) → bit a i ≡ bit b i)
    → chosen first table b m ≡ add (chosen first table a m) (table j)
unfolding chosen add_if
chosen_added first table a b j zero l p q h = absurd (omega arith)
chosen_added first table a b j (suc m) l p q h =
    by_cases (dec_lt j m)
    (λ k.
    ap₂ (λ (x : ℕ) (s : Sums). add_if x s (table m)) (sym (h m (omega arith) (λ e. omega arith)))
    (chosen_added first table a b j m k p q (λ i n. h i (omega arith)))
    ∙ add_if_swap (bit a m) 1 (chosen first table a m) (table j) (table m))
    (λ k.
    let e : j ≡ m = omega arith in
    let same : chosen first table b m ≡ chosen first table a m = chosen_same first table b a m (λ i n. sym (h i (omega arith) (λ o. omega arith))) in
    add_if_in (chosen first table b m) (table m) (subst (λ (x : ℕ). bit b x ≡ 1) e q)
    ∙ ap₂ add (same ∙ sym (add_if_out (chosen first table a m) (table m) (subst (λ (x : ℕ). bit a x ≡ 0) e p))) (ap table (sym e)))

-- ---- the walk among m rows
module _ (first : Sums) (table : ℕ → Sums) (m : ℕ) (room : m ≤ 16) where
  -- neighbours differ by one of the rows
  low_step : (k : ℕ) → k + 1 < 2 ^ m → k + 1 < 2 ^ 64
  low_step k h = lt_of_lt_of_le h (pow_mono {i = m} {j = 64} (omega arith))

  row_low : (k : ℕ) → k + 1 < 2 ^ m → changed (k + 1) < m
  row_low k h = changed_low m (k + 1) (omega arith) h (omega arith)

  same_others : (k i : ℕ) → k + 1 < 2 ^ m → i < m → (i ≡ changed (k + 1) → ⊥) → bit (choice m (k + 1)) i ≡ bit (choice m k) i
  same_others k i h l n = choice_bit m (k + 1) i l ∙ step_others k i (low_step k h) n ∙ sym (choice_bit m k i l)

  -- their sums, where it is added, and where it is taken away
  pub walk_added : (k : ℕ) → k + 1 < 2 ^ m → taken (k + 1) ≡ 0
      → chosen first table (choice m (k + 1)) m ≡ add (chosen first table (choice m k) m) (table (changed (k + 1)))
  walk_added k h e =
      let j = changed (k + 1) in
      let t = step_added k (low_step k h) e in
      chosen_added first table (choice m k) (choice m (k + 1)) j m (row_low k h) (choice_bit m k j (row_low k h) ∙ t.0)
      (choice_bit m (k + 1) j (row_low k h) ∙ t.1) (λ i l n. sym (same_others k i h l n))

  pub walk_taken : (k : ℕ) → k + 1 < 2 ^ m → taken (k + 1) ≡ 1
      → chosen first table (choice m k) m ≡ add (chosen first table (choice m (k + 1)) m) (table (changed (k + 1)))
  walk_taken k h e =
      let j = changed (k + 1) in
      let t = step_taken k (low_step k h) e in
      chosen_added first table (choice m (k + 1)) (choice m k) j m (row_low k h) (choice_bit m (k + 1) j (row_low k h) ∙ t.1)
      (choice_bit m k j (row_low k h) ∙ t.0) (λ i l n. same_others k i h l n)
