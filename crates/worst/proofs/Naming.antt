-- A line is one, and the worst figure passes its limit exactly if the figure of every permitted set does.
use mathlib.Core.Path.{◌≡◌, refl, subst, subst₂}
use mathlib.Core.Bool.{Bool}
use Prim.Native.Nat.{ℕ}
use Rattle.arithmetic.specs.decides.Decides.{Decides}
use Rattle.arithmetic.proofs.Deciding.{decides_same, decides_one}
use Rattle.sets.specs.declared.Combination.{Combination}
use Rattle.sets.specs.declared.Loads.{Loads}
use Rattle.sets.specs.Sets.{Permitted}
use Rattle.checks.specs.declared.Base.{Base}
use Rattle.checks.specs.declared.Check.{Check}
use Rattle.checks.specs.declared.Check.TheVariants.{OP, OM, SL, PR, RK}
use Rattle.checks.specs.declared.Figure.{Figure}
use Rattle.checks.specs.set_figures.Figures.{Shows, ShowsExactly}
use Rattle.checks.specs.Order.{side}
use Rattle.lines.specs.declared.Line.{Line}
use Rattle.lines.specs.declared.Line.TheVariants.{Missing, Shown}
use Rattle.checks.specs.passing.Passing.{Passes}
use Rattle.checks.proofs.limits.Limiting.{limit_one}
use Rattle.checks.proofs.passing.Passing.{passes_better}
use Rattle.weighing.proofs.Naming.{named_figure, named_set}
use Rattle.lines.specs.declared.Lines.{Lines}
use Rattle.worst.specs.Lines.{LineSays, line}

-- No second line meets the promise.
module _ (combination : Combination) (check : Check) (base : Base) (loads : Loads) where
  pub line_says_one : (a b : Line) → LineSays combination check base loads a → LineSays combination check base loads b → a ≡ b
  unfolding LineSays
  line_says_one Missing Missing p q = refl
  line_says_one Missing (Shown v l s y x) p q = absurd (p l q.limited s q.named.permitted)
  line_says_one (Shown v l s y x) Missing p q = absurd (q l p.limited s p.named.permitted)
  line_says_one (Shown v l s y x) (Shown w m t z u) p q =
      λ i. Shown (named_figure p.named q.named i) (limit_one combination check base l m p.limited q.limited i) (named_set p.named q.named i) (passing i) (exactness i)
    where
      exactness : x ≡ u
      exactness =
          decides_one (ShowsExactly check base loads t w) x u
          (subst₂ (λ (k : ℕ) (f : Figure). Decides x (ShowsExactly check base loads k f)) (named_set p.named q.named) (named_figure p.named q.named) p.told)
          q.told

      passing : y ≡ z
      passing =
          decides_one (Passes (side check) m w) y z
          (subst (λ (n : ℕ). Decides y (Passes (side check) n w)) (limit_one combination check base l m p.limited q.limited)
          (subst (λ (x : Figure). Decides y (Passes (side check) l x)) (named_figure p.named q.named) p.marked))
          q.marked

  -- The worst figure passes its limit exactly if every permitted set's figure does: what makes the verdict mean demand 2.
  pub worst_decides : (v : Figure) (limit s : ℕ) (passes exact : Bool) → LineSays combination check base loads (Shown v limit s passes exact)
      → Decides passes ((t : ℕ) (w : Figure) → Permitted combination loads t → Shows check base loads t w → Passes (side check) limit w)
  unfolding LineSays
  worst_decides v limit s passes exact p =
      decides_same passes (λ y t w h k. passes_better (side check) limit v w (p.named.no_worse t w h k) y) (λ f. f s v p.named.permitted p.named.reaches) p.marked

-- No second answer meets the promise of `worst_lines`.
pub lines_one : (combination : Combination) (base : Base) (loads : Loads) (a b : Lines) → ((check : Check) → LineSays combination check base loads (line check a))
    → ((check : Check) → LineSays combination check base loads (line check b)) → a ≡ b
unfolding line
lines_one combination base loads a b p q =
    λ i. record {
      op = line_says_one combination OP base loads a.op b.op (p OP) (q OP) i;
      om = line_says_one combination OM base loads a.om b.om (p OM) (q OM) i;
      sl = line_says_one combination SL base loads a.sl b.sl (p SL) (q SL) i;
      pr = line_says_one combination PR base loads a.pr b.pr (p PR) (q PR) i;
      rk = line_says_one combination RK base loads a.rk b.rk (p RK) (q RK) i;
    }
