-- PR is one figure; and its rank, by the tests that lead to it.
use mathlib.Core.Path.{◌≡◌, refl, ap}
use mathlib.Core.Bool.{Bool, true}
use mathlib.Core.Logic.{inr, ⊎_elim}
use Prim.Native.Nat.{ℕ, zero, suc, ◌+◌, ◌*◌, ◌-◌, ◌^◌, ◌≤◌, ◌<◌}
use native.Mathlib.Omega.{arith}
use native.Mathlib.Decide.{dec_le}
use native.Mathlib.Nat.{mul-le-mul}
use Rattle.arithmetic.proofs.Cases.{by_cases}
use Rattle.arithmetic.proofs.Deciding.{decides_same}
use Rattle.arithmetic.specs.rounding.Least.{RoundedUp}
use Rattle.arithmetic.specs.rounding.Rounding.{Exactly, RoundsUp}
use Rattle.arithmetic.proofs.rounding.Laws.{least_one, up_le}
use Rattle.checks.specs.declared.Figure.{Figure}
use Rattle.checks.specs.declared.Figure.TheVariants.{Nothing, Number, Off}
use Rattle.checks.specs.Order.{highest}
use Rattle.checks.specs.steps.Ranks.{HasRank, rank, Ranks, RanksTold}
use Rattle.checks.specs.ranks.Figures.{PressesBy}
use Rattle.checks.specs.steps.Rounded.{Presses}

-- ---- PR is one
pub presses_one : (b l n m : ℕ) (v w : Figure) → Presses b l n m v → Presses b l n m w → v ≡ w
unfolding Presses
presses_one b l n m Nothing w p q = absurd p
presses_one b l n m (Number x) Nothing p q = absurd q
presses_one b l n m (Number x) (Number y) p q =
    ap Number (by_cases (dec_le (3 * m) (n * b)) (λ h. least_one (p.2 h) (q.2 h)) (λ h. let k : n * b < 3 * m = omega arith in least_one (p.3 k) (q.3 k)))
presses_one b l n m (Number x) Off p q = absurd (⊎_elim (λ e. omega (arith, e, p.0)) (λ e. omega (arith, e, p.1)) q)
presses_one b l n m Off Nothing p q = absurd q
presses_one b l n m Off (Number y) p q = absurd (⊎_elim (λ e. omega (arith, e, q.0)) (λ e. omega (arith, e, q.1)) p)
presses_one b l n m Off Off p q = refl

-- ---- the rank, by the tests
pub press_off : (b l n m : ℕ) → n * b ≤ m → Ranks highest (Presses b l n m) 0
unfolding Presses HasRank rank
press_off b l n m h = record { figure = Off; holds = inr h; has_rank = tt; ranked = refl }

-- N is above 0 where N times B is more than something
some_n : (n b : ℕ) {m : ℕ} → m < n * b → 0 < n
some_n zero b h = absurd (omega arith)
some_n (suc n) b h = omega arith

pub press_full : (b l n m : ℕ) {c : ℕ} → b ≤ 30000 → n ≤ 2 ^ 20 → 0 < b * b * l → m < n * b → 3 * m ≤ n * b → RoundedUp (1000000 * (n * b + 3 * m)) (b * b * l) c
    → Ranks highest (Presses b l n m) (2 ^ 64 - 1 - c)
unfolding Presses HasRank rank
press_full b l n m {c} w k z h t r =
    record { figure = Number c; holds = (some_n n b h, h, λ _. r, λ x. absurd (omega arith)); has_rank = omega (arith, up_le z r, mul-le-mul k w); ranked = refl }

pub press_part : (b l n m : ℕ) {c : ℕ} → n ≤ 2 ^ 20 → 0 < 3 * l * (n * b - m) → m < n * b → n * b < 3 * m → RoundedUp (4000000 * (n * n)) (3 * l * (n * b - m)) c
    → Ranks highest (Presses b l n m) (2 ^ 64 - 1 - c)
unfolding Presses HasRank rank
press_part b l n m {c} k z h t r =
    record { figure = Number c; holds = (some_n n b h, h, λ x. absurd (omega arith), λ _. r); has_rank = omega (arith, up_le z r, mul-le-mul k k); ranked = refl }

-- ---- the same, and whether the figure is exact, by the rule that was used
pub press_off_told : (b l n m : ℕ) → n * b ≤ m → RanksTold highest (Presses b l n m) (PressesBy Exactly b l n m) 0 true
unfolding press_off
press_off_told b l n m h = record { ranks = press_off b l n m h; told = inr h }

pub press_full_told : (b l n m : ℕ) {c : ℕ} {x : Bool} → b ≤ 30000 → n ≤ 2 ^ 20 → 0 < b * b * l → m < n * b → 3 * m ≤ n * b → RoundsUp (1000000 * (n * b + 3 * m)) (b * b * l) c x
    → RanksTold highest (Presses b l n m) (PressesBy Exactly b l n m) (2 ^ 64 - 1 - c) x
unfolding press_full
press_full_told b l n m {c} {x} w k z h t r =
    record {
      ranks = press_full b l n m w k z h t r.rounded;
      told = decides_same x (λ e. (some_n n b h, h, λ _. e, λ y. absurd (omega arith))) (λ p. p.2 t) r.told;
    }

pub press_part_told : (b l n m : ℕ) {c : ℕ} {x : Bool} → n ≤ 2 ^ 20 → 0 < 3 * l * (n * b - m) → m < n * b → n * b < 3 * m → RoundsUp (4000000 * (n * n)) (3 * l * (n * b - m)) c x
    → RanksTold highest (Presses b l n m) (PressesBy Exactly b l n m) (2 ^ 64 - 1 - c) x
unfolding press_part
press_part_told b l n m {c} {x} k z h t r =
    record {
      ranks = press_part b l n m k z h t r.rounded;
      told = decides_same x (λ e. (some_n n b h, h, λ y. absurd (omega arith), λ _. e)) (λ p. p.3 t) r.told;
    }
