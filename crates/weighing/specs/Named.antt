-- Document 01, Load sets: worst, by the printed figure; of sets with the same printed figure the one named has the fewest rows, and then the smallest number.
use Rattle.std.specs.Prelude.{◌≡◌, ℕ, ◌≤◌}
use Rattle.std.specs.Int.Count.{ones}
use Rattle.checks.specs.declared.Figure.{Figure}
use Rattle.checks.specs.Order.{Side, Worse}

-- Among the sets with P, each of which shows a figure, the line prints v and names s.
pub record Named (side : Side) (P : ℕ → Type 0) (Shown : ℕ → Figure → Type 0) (v : Figure) (s : ℕ) : Type 0 where
  -- s is one of the sets, and its figure is v;
  pub permitted : P s
  pub reaches : Shown s v
  -- no set is worse;
  pub no_worse : (t : ℕ) (w : Figure) → P t → Shown t w → Worse side w v → ⊥
  -- of the sets with the same figure s has the fewest rows, and then the smallest number.
  pub fewest : (t : ℕ) → P t → Shown t v → ones s ≤ ones t
  pub smallest : (t : ℕ) → P t → Shown t v → ones t ≡ ones s → s ≤ t
