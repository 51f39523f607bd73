-- The set numbers of a combination's lines are below 65,536, since each line names a permitted set of at most 16 load rows.
use Prim.Native.Nat.{◌≤◌}
use native.Mathlib.Nat.{lt_of_lt_of_le, pow-le-pow_right}
use lib.Dec.{lit<}
use Rattle.sets.specs.declared.Combination.{Combination}
use Rattle.sets.specs.declared.Loads.{Loads}
use Rattle.checks.specs.declared.Base.{Base}
use Rattle.checks.specs.declared.Check.{Check}
use Rattle.checks.specs.declared.Check.TheVariants.{OP, OM, SL, PR, RK}
use Rattle.lines.specs.declared.Line.{Line}
use Rattle.lines.specs.declared.Line.TheVariants.{Missing, Shown}
use Rattle.lines.specs.declared.Lines.{Lines}
use Rattle.lines.specs.Numbered.{SetFits, SetsFit}
use Rattle.worst.specs.Lines.{LineSays, line}

module _ (combination : Combination) (base : Base) (loads : Loads) (few : loads.count ≤ 16) where
  set_fits : (check : Check) (l : Line) → LineSays combination check base loads l → SetFits l
  unfolding LineSays SetFits
  set_fits check Missing says = tt
  set_fits check (Shown figure limit set passes exact) says =
      lt_of_lt_of_le says.named.permitted.within (pow-le-pow_right (lit< tt) few)

  pub sets_fit : (lines : Lines) → ((check : Check) → LineSays combination check base loads (line check lines)) → SetsFit lines
  unfolding line
  sets_fit lines says =
      record {
        op = set_fits OP lines.op (says OP);
        om = set_fits OM lines.om (says OM);
        sl = set_fits SL lines.sl (says SL);
        pr = set_fits PR lines.pr (says PR);
        rk = set_fits RK lines.rk (says RK);
      }
