-- What a line names is one figure and one set.
use mathlib.Core.Path.{◌≡◌, sym, subst}
use Prim.Native.Nat.{ℕ}
use native.Mathlib.Nat.{le_antisymm}
use lib.Count.{ones}
use Rattle.checks.specs.declared.Figure.{Figure}
use Rattle.checks.specs.Order.{Side}
use Rattle.checks.proofs.Ranking.{connex}
use Rattle.weighing.specs.Named.{Named}

module _ {s : Side} {P : ℕ → Type 0} {Shows : ℕ → Figure → Type 0} {v w : Figure} {a b : ℕ} (p : Named s P Shows v a) (q : Named s P Shows w b) where
  -- The figure is one,
  pub named_figure : v ≡ w
  named_figure = connex s v w (λ h. q.no_worse a v p.permitted p.reaches h) (λ h. p.no_worse b w q.permitted q.reaches h)

  same_rows : ones a ≡ ones b
  same_rows =
      le_antisymm (p.fewest b q.permitted (subst (Shows b) (sym named_figure) q.reaches))
      (q.fewest a p.permitted (subst (Shows a) named_figure p.reaches))

  -- and so is the set.
  pub named_set : a ≡ b
  named_set =
      le_antisymm (p.smallest b q.permitted (subst (Shows b) (sym named_figure) q.reaches) (sym same_rows))
      (q.smallest a p.permitted (subst (Shows a) named_figure p.reaches) same_rows)
