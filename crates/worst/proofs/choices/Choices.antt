-- The choices among the rows are the sets whose rows may stand in them: choice k makes the set `pick`, every such set is made by a choice, and the sums of the
-- choice are those of the set.
use mathlib.Core.Path.{◌≡◌, refl, sym, ◌∙◌, ap, ap₂, subst}
use Prim.Native.Nat.{ℕ, zero, suc, ◌+◌, ◌-◌, ◌^◌, ◌≤◌, ◌<◌}
use native.Mathlib.Omega.{arith}
use native.Mathlib.Nat.{pow-suc, lt_of_lt_of_le}
use lib.Pow.{pow_pos}
use native.Mathlib.Decide.{dec_lt}
use lib.Dec.{lit<}
use Rattle.arithmetic.proofs.Cases.{by_cases}
use Rattle.sets.specs.declared.Loads.{Loads}
use Rattle.sums.specs.declared.Sums.{Sums}
use Rattle.sets.specs.Sets.{bit, row}
use Rattle.sums.specs.steps.Sums.{zero_sums, add, add_if, terms_from, sums_to}
use Rattle.sets.proofs.Bits.{bit_two, bit_above, bit_own, bit_kept}
use Rattle.sums.proofs.Adding.{add_swap, add_if_in, add_if_out}
use Rattle.worst.specs.declared.choices.Stance.{Stance}
use Rattle.worst.specs.declared.choices.Stance.TheVariants.{Never, Always, Choosable}
use Rattle.worst.specs.steps.Stance.{held_by, next, choosable, join, pick, fixed_by, fixed, chosen, row_terms}

-- ---- a set of n + 1 rows has its last row or has it not
pub data Split (s n : ℕ) : Type 0 where
  without : s < 2 ^ n → Split s n
  with : (rest : ℕ) → rest < 2 ^ n → s ≡ rest + 2 ^ n → Split s n

pub split : (s n : ℕ) → s < 2 ^ suc n → Split s n
split s n h = by_cases (dec_lt s (2 ^ n)) without (λ k. with (s - 2 ^ n) (omega (arith, rw (pow-suc 2 n) at h)) (omega arith))

-- ---- the choosable rows passed
pub next_le : (a : Stance) (m : ℕ) → m ≤ next a m
unfolding next
next_le Never m = omega arith
next_le Always m = omega arith
next_le Choosable m = omega arith

next_room : (a : Stance) (m : ℕ) → next a m ≤ suc m
unfolding next
next_room Never m = omega arith
next_room Always m = omega arith
next_room Choosable m = omega arith

pub choosable_room : (stance : ℕ → Stance) (n : ℕ) → choosable stance n ≤ n
unfolding choosable
choosable_room stance zero = omega arith
choosable_room stance (suc n) = omega (arith, next_room (stance n) (choosable stance n), choosable_room stance n)

held_same : (a : Stance) (m : ℕ) {x y : ℕ} → (m < next a m → x ≡ y) → held_by a x ≡ held_by a y
unfolding held_by next
held_same Never m h = refl
held_same Always m h = refl
held_same Choosable m h = h (omega arith)

module _ (stance : ℕ → Stance) where
  -- ---- the set that a choice makes
  join_low : (b s n : ℕ) → s < 2 ^ n → join b s (2 ^ n) < 2 ^ suc n
  unfolding join
  join_low zero s n h = rw (pow-suc 2 n) (omega arith)
  join_low (suc b) s n h = rw (pow-suc 2 n) (omega arith)

  pub pick_low : (n k : ℕ) → pick stance n k < 2 ^ n
  unfolding pick
  pick_low zero k = lit< tt
  pick_low (suc n) k = join_low (held_by (stance n) (bit k (choosable stance n))) (pick stance n k) n (pick_low n k)

  held_two : (a : Stance) (b : ℕ) → b < 2 → held_by a b < 2
  unfolding held_by
  held_two Never b h = omega arith
  held_two Always b h = omega arith
  held_two Choosable b h = h

  join_own : (b s n : ℕ) → b < 2 → s < 2 ^ n → bit (join b s (2 ^ n)) n ≡ b
  unfolding join
  join_own zero s n k h = bit_above s n h
  join_own (suc b) s n k h = bit_own s n h ∙ omega arith

  join_kept : (b s n i : ℕ) → i < n → bit (join b s (2 ^ n)) i ≡ bit s i
  unfolding join
  join_kept zero s n i h = refl
  join_kept (suc b) s n i h = bit_kept s i n h

  -- its own bit, and the bits below it
  pub pick_own : (n k : ℕ) → bit (pick stance (suc n) k) n ≡ held_by (stance n) (bit k (choosable stance n))
  unfolding pick
  pick_own n k =
      join_own (held_by (stance n) (bit k (choosable stance n))) (pick stance n k) n (held_two (stance n) (bit k (choosable stance n)) (bit_two k (choosable stance n))) (pick_low n k)

  pub pick_kept : (n k i : ℕ) → i < n → bit (pick stance (suc n) k) i ≡ bit (pick stance n k) i
  unfolding pick
  pick_kept n k i h = join_kept (held_by (stance n) (bit k (choosable stance n))) (pick stance n k) n i h

  pub pick_bit : (n k i : ℕ) → i < n → bit (pick stance n k) i ≡ held_by (stance i) (bit k (choosable stance i))
  pick_bit zero k i h = absurd (omega arith)
  pick_bit (suc n) k i h =
      by_cases (dec_lt i n) (λ l. pick_kept n k i l ∙ pick_bit n k i l)
      (λ l.
      let e : i ≡ n = omega arith in
      subst (λ (j : ℕ). bit (pick stance (suc n) k) j ≡ held_by (stance j) (bit k (choosable stance j))) (sym e) (pick_own n k))

  -- it goes by the bits of the choice for the choosable rows passed
  pub pick_same : (n k l : ℕ) → ((j : ℕ) → j < choosable stance n → bit k j ≡ bit l j) → pick stance n k ≡ pick stance n l
  unfolding pick choosable
  pick_same zero k l h = refl
  pick_same (suc n) k l h =
      ap₂ (λ (b s : ℕ). join b s (2 ^ n)) (held_same (stance n) (choosable stance n) (λ j. h (choosable stance n) j))
      (pick_same n k l (λ j m. h j (lt_of_lt_of_le m (next_le (stance n) (choosable stance n)))))

  -- ---- every set whose rows stand as their stance says is made by a choice
  unfoldable pub KeepsStances : ℕ → ℕ → Type 0
  KeepsStances t n = (i : ℕ) → i < n → ((stance i ≡ Never → bit t i ≡ 0) × (stance i ≡ Always → bit t i ≡ 1))

  unfoldable pub Made : ℕ → ℕ → Type 0
  Made t n = (k : ℕ) × (k < 2 ^ choosable stance n) × (pick stance n k ≡ t)

  made_out : (t n : ℕ) → t < 2 ^ n → Made t n → (a : Stance) → stance n ≡ a → (a ≡ Always → bit t n ≡ 1) → Made t (suc n)
  unfolding Made pick choosable held_by next join
  made_out t n h w Never e f = (w.0, rw e w.1, rw e w.2)
  made_out t n h w Always e f = absurd (omega (arith, f refl, bit_above t n h))
  made_out t n h w Choosable e f =
      (w.0, rw (e, pow-suc 2 (choosable stance n)) (omega (arith, w.1)), rw (e, bit_above w.0 (choosable stance n) w.1) w.2)

  made_in : (t r n : ℕ) → r < 2 ^ n → t ≡ r + 2 ^ n → Made r n → (a : Stance) → stance n ≡ a → (a ≡ Never → bit t n ≡ 0) → Made t (suc n)
  unfolding Made pick choosable held_by next join
  made_in t r n h d w Never e f = absurd (omega (arith, f refl, ap (λ (x : ℕ). bit x n) d, bit_own r n h))
  made_in t r n h d w Always e f = (w.0, rw e w.1, rw e (ap (λ (x : ℕ). x + 2 ^ n) w.2 ∙ sym d))
  made_in t r n h d w Choosable e f =
      let k = w.0 + 2 ^ choosable stance n in (
        k,
        rw (e, pow-suc 2 (choosable stance n)) (omega (arith, w.1)),
        rw (e, bit_own w.0 (choosable stance n) w.1) (ap (λ (x : ℕ). x + 2 ^ n) (pick_same n k w.0 (λ j m. bit_kept w.0 j (choosable stance n) m) ∙ w.2) ∙ sym d),
      )

  pub made : (t n : ℕ) → t < 2 ^ n → KeepsStances t n → Made t n
  unfolding Made KeepsStances choosable pick
  made t zero h s = (0, lit< tt, zero_only t h)
    where
      zero_only : (t : ℕ) → t < 1 → 0 ≡ t
      zero_only t h = omega arith
  made t (suc n) h s = go (λ r k f. made r n k f) (split t n h)
    where
      go : ((r : ℕ) → r < 2 ^ n → KeepsStances r n → Made r n) → Split t n → Made t (suc n)
      go before (without k) = made_out t n k (before t k (λ i l. s i (omega arith))) (stance n) refl (λ e. (s n (omega arith)).1 e)
      go before (with r k d) =
          made_in t r n k d
          (before r k (λ i l. (λ e. lower i l ∙ (s i (omega arith)).0 e, λ e. lower i l ∙ (s i (omega arith)).1 e))) (stance n) refl (λ e. (s n (omega arith)).0 e)
        where
          lower : (i : ℕ) → i < n → bit r i ≡ bit t i
          lower i l = sym (ap (λ (x : ℕ). bit x i) d ∙ bit_kept r i n l)

-- ---- sums of a choice
pub sums_same : (width : ℕ) (loads : Loads) (s t n : ℕ) → ((i : ℕ) → i < n → bit s i ≡ bit t i) → sums_to width loads s n ≡ sums_to width loads t n
unfolding sums_to
sums_same width loads s t zero h = refl
sums_same width loads s t (suc n) h =
    ap₂ (λ (b : ℕ) (x : Sums). add_if b x (terms_from width (row loads n) (2 ^ n))) (h n (omega arith)) (sums_same width loads s t n (λ i l. h i (omega arith)))

-- the sums of a set have its number
pub sums_number : (width : ℕ) (loads : Loads) (s n : ℕ) → s < 2 ^ n → (sums_to width loads s n).set ≡ s
unfolding sums_to zero_sums add terms_from
sums_number width loads s zero h = zero_only s h
  where
    zero_only : (t : ℕ) → t < 1 → 0 ≡ t
    zero_only t h = omega arith
sums_number width loads s (suc n) h = go (λ r k. sums_number width loads r n k) (split s n h)
  where
    terms : Sums
    terms = terms_from width (row loads n) (2 ^ n)

    go : ((r : ℕ) → r < 2 ^ n → (sums_to width loads r n).set ≡ r) → Split s n → (add_if (bit s n) (sums_to width loads s n) terms).set ≡ s
    go before (without k) = ap (λ (x : Sums). x.set) (add_if_out (sums_to width loads s n) terms (bit_above s n k)) ∙ before s k
    go before (with r k d) =
        ap (λ (x : Sums). x.set) (add_if_in (sums_to width loads s n) terms (ap (λ (x : ℕ). bit x n) d ∙ bit_own r n k))
        ∙ own (ap (λ (x : Sums). x.set) (sums_same width loads s r n (λ i l. ap (λ (x : ℕ). bit x i) d ∙ bit_kept r i n l)) ∙ before r k) ∙ sym d
      where
        own : {m : ℕ} → (sums_to width loads s n).set ≡ m → (add (sums_to width loads s n) terms).set ≡ m + 2 ^ n
        own e = ap (λ (x : ℕ). x + 2 ^ n) e

-- a row added first or last
chosen_shift : (first t : Sums) (table : ℕ → Sums) (k m : ℕ) → chosen (add first t) table k m ≡ add (chosen first table k m) t
unfolding chosen add_if
chosen_shift first t table k zero = refl
chosen_shift first t table k (suc m) =
    ap (λ (x : Sums). add_if (bit k m) x (table m)) (chosen_shift first t table k m) ∙ swap (bit k m) (chosen first table k m) (table m)
  where
    swap : (b : ℕ) (x y : Sums) → add_if b (add x t) y ≡ add (add_if b x y) t
    swap zero x y = refl
    swap (suc b) x y = add_swap x t y

module _ (stance : ℕ → Stance) (width : ℕ) (loads : Loads) (table : ℕ → Sums) where
  -- the table holds the terms of the choosable rows, in order
  unfoldable pub Tabled : ℕ → Type 0
  Tabled n = (i : ℕ) → i < n → stance i ≡ Choosable → table (choosable stance i) ≡ row_terms width loads i

  step : (n k : ℕ) (a : Stance) → stance n ≡ a → (a ≡ Choosable → table (choosable stance n) ≡ row_terms width loads n)
      → sums_to width loads (pick stance n k) n ≡ chosen (fixed stance (row_terms width loads) n) table k (choosable stance n)
      → sums_to width loads (pick stance (suc n) k) (suc n) ≡ chosen (fixed stance (row_terms width loads) (suc n)) table k (choosable stance (suc n))
  unfolding sums_to fixed choosable chosen next add_if held_by fixed_by row_terms
  step n k a e own before =
      ap₂ (λ (b : ℕ) (x : Sums). add_if b x (terms_from width (row loads n) (2 ^ n))) (pick_own stance n k ∙ ap (λ (y : Stance). held_by y (bit k (choosable stance n))) e)
      (sums_same width loads (pick stance (suc n) k) (pick stance n k) n (pick_kept stance n k) ∙ before)
      ∙ go a own
      ∙ ap (λ (y : Stance). chosen (fixed_by y (fixed stance (row_terms width loads) n) (row_terms width loads n)) table k (next y (choosable stance n))) (sym e)
    where
      go : (a : Stance) → (a ≡ Choosable → table (choosable stance n) ≡ row_terms width loads n)
          → add_if (held_by a (bit k (choosable stance n))) (chosen (fixed stance (row_terms width loads) n) table k (choosable stance n)) (terms_from width (row loads n) (2 ^ n))
          ≡ chosen (fixed_by a (fixed stance (row_terms width loads) n) (row_terms width loads n)) table k (next a (choosable stance n))
      go Never f = refl
      go Always f = sym (chosen_shift (fixed stance (row_terms width loads) n) (row_terms width loads n) table k (choosable stance n))
      go Choosable f = ap (λ (x : Sums). add_if (bit k (choosable stance n)) (chosen (fixed stance (row_terms width loads) n) table k (choosable stance n)) x) (sym (f refl))

  pub pick_sums : (n k : ℕ) → Tabled n → sums_to width loads (pick stance n k) n ≡ chosen (fixed stance (row_terms width loads) n) table k (choosable stance n)
  unfolding Tabled chosen sums_to choosable fixed
  pick_sums zero k h = nothing
    where
      nothing : sums_to width loads (pick stance 0 k) 0 ≡ chosen (fixed stance (row_terms width loads) 0) table k (choosable stance 0)
      nothing = refl
  pick_sums (suc n) k h = step n k (stance n) refl (λ e. h n (omega arith) e) (pick_sums n k (λ i l. h i (omega arith)))

-- ---- the choice with no row
pub chosen_nothing : (first : Sums) (table : ℕ → Sums) (m : ℕ) → chosen first table 0 m ≡ first
unfolding chosen
chosen_nothing first table zero = refl
chosen_nothing first table (suc m) = add_if_out (chosen first table 0 m) (table m) (bit_above 0 m (pow_pos m)) ∙ chosen_nothing first table m

-- ---- rows are added in any order
pub add_if_swap : (x y : ℕ) (a b c : Sums) → add_if x (add_if y a b) c ≡ add_if y (add_if x a c) b
unfolding add_if
add_if_swap zero zero a b c = refl
add_if_swap zero (suc y) a b c = refl
add_if_swap (suc x) zero a b c = refl
add_if_swap (suc x) (suc y) a b c = add_swap a b c
