-- The number that stands one place before the soil and the slope says what is held, in each of its three cases.
use Rattle.std.proofs.Common.{arith, sym, ◌∙◌}
use Rattle.earth.proofs.coefficients.Held.{held_at, coefficient_value, coefficient_blank}
use Rattle.earth.proofs.coefficients.look_up.Goals as goal

pub returns-then-k-eq-BLANK : goal.returns-then-k-eq-BLANK
returns-then-k-eq-BLANK c = sym (held_at _ _ _ c.requires.0 c.requires.2 ∙ coefficient_blank _ (λ w. omega (arith, w.0, c.if-k-eq-BLANK.true)))

pub returns-then-k-gt-HIGHEST : goal.returns-then-k-gt-HIGHEST
returns-then-k-gt-HIGHEST c = sym (held_at _ _ _ c.requires.0 c.requires.2 ∙ coefficient_blank _ (λ w. omega (arith, w.1, c.if-k-gt-HIGHEST.true)))

pub returns : goal.returns
returns c = sym (held_at _ _ _ c.requires.0 c.requires.2 ∙ coefficient_value _ (omega (arith, c.if-k-eq-BLANK.false), omega (arith, c.if-k-gt-HIGHEST.false)))
