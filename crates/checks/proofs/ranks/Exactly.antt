-- A figure by a rule with nothing rounded away is the figure by that rule.
use mathlib.Core.Logic.{inl, inr, ⊎_elim}
use Prim.Native.Nat.{ℕ, ◌*◌, ◌-◌, ◌<◌}
use native.Mathlib.Nat.{mul-pos}
use native.Mathlib.Omega.{arith}
use lib.Dec.{lit<}
use Rattle.arithmetic.specs.rounding.Least.{RoundedUp, RoundedDown}
use Rattle.arithmetic.specs.rounding.Rounding.{Exactly}
use Rattle.arithmetic.proofs.rounding.Exactness.{exact_up, exact_down}
use Rattle.checks.specs.declared.Figure.{Figure}
use Rattle.checks.specs.declared.Figure.TheVariants.{Nothing, Number, Off}
use Rattle.checks.specs.ranks.Figures.{TipsBy, SlidesBy, PressesBy, LeansBy}

pub tips_exactly : (r o : ℕ) (v : Figure) → TipsBy Exactly r o v → TipsBy RoundedDown r o v
tips_exactly r o Nothing p = p
tips_exactly r o (Number v) p = (p.0, exact_down _ _ _ p.0 p.1)
tips_exactly r o Off p = p

pub slides_exactly : (f n h : ℕ) (v : Figure) → SlidesBy Exactly f n h v → SlidesBy RoundedDown f n h v
slides_exactly f n h Nothing p = p
slides_exactly f n h (Number v) p = ⊎_elim (λ x. inl x) (λ x. inr (x.0, x.1, exact_down _ _ _ (mul-pos (lit< tt) x.1) x.2)) p
slides_exactly f n h Off p = p

pub presses_exactly : (b l n m : ℕ) (v : Figure) → 0 < b → 0 < l → PressesBy Exactly b l n m v → PressesBy RoundedUp b l n m v
presses_exactly b l n m Nothing wide long p = p
presses_exactly b l n m (Number v) wide long p =
    let part : 0 < n * b - m = omega (arith, p.1) in
    (p.0, p.1, (λ h. exact_up _ _ _ (mul-pos (mul-pos wide wide) long) (p.2 h)), λ h. exact_up _ _ _ (mul-pos (mul-pos (lit< tt) long) part) (p.3 h))
presses_exactly b l n m Off wide long p = p

pub leans_exactly : (b n m : ℕ) (v : Figure) → 0 < b → LeansBy Exactly b n m v → LeansBy RoundedUp b n m v
leans_exactly b n m Nothing wide p = p
leans_exactly b n m (Number v) wide p = (p.0, exact_up _ _ _ (mul-pos (lit< tt) (mul-pos p.0 wide)) p.1)
leans_exactly b n m Off wide p = p
