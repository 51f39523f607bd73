-- Each check by its own rank, at the parts of N, H and M.
use borrow.Author.Rules.{rules}
use native.Mathlib.Omega.{arith}
use mathlib.Core.Path.{subst⁻¹, subst₂}
use Prim.Native.Nat.{ℕ, ◌^◌, ◌≤◌}
use Rattle.arithmetic.specs.declared.rounding.Rounded.{Rounded}
use Rattle.arithmetic.specs.rounding.Rounding.{Exactly}
use Rattle.sums.specs.declared.Sums.{Sums}
use Rattle.checks.specs.declared.Base.{Base}
use Rattle.checks.specs.declared.Check.{Check}
use Rattle.checks.specs.ranks.Figures.{SlidesBy, PressesBy, LeansBy}
use Rattle.checks.specs.steps.Rounded.{Tips, Slides, Presses, Leans}
use Rattle.checks.specs.steps.BySums.{ShowsBySums, ExactBySums, apart}
use Rattle.checks.specs.Order.{side, lowest, highest}
use Rattle.checks.specs.steps.Ranks.{RanksTold}
use Rattle.checks.proofs.set_figures.Showing.{small_sums}
use Rattle.checks.proofs.set_figures.ranked_of.Statement.{statement}
use Rattle.checks.proofs.set_figures.ranked_of.Tie as tie

-- what is to be said of a check
Told : Check → Base → Sums → Rounded → Type 0
Told check base sums r = RanksTold (side check) (ShowsBySums check base sums) (ExactBySums check base sums) r.value r.exact

excess-requires : tie.Need-excess-n-requires
excess-requires c κs = search rules

distance-requires : tie.Need-distance-h-requires
distance-requires c κs = search rules

distance-requires-2 : tie.Need-distance-m-requires
distance-requires-2 c κs = search rules

n_low : (c : tie.After-distance-m) → c.excess-n.result ≤ 2 ^ 20
n_low c = rw c.excess-n.ensures (small_sums c.requires.1).n

h_low : (c : tie.After-distance-m) → c.distance-h.result ≤ 2 ^ 24
unfolding apart
h_low c = rw c.distance-h.ensures (small_sums c.requires.1).h

m_low : (c : tie.After-distance-m) → c.distance-m.result ≤ 2 ^ 40
unfolding apart
m_low c = rw c.distance-m.ensures (small_sums c.requires.1).m

enum_told : tie.Need-enum_told-1
enum_told c = search rules

tip-requires : tie.Need-tip-requires
tip-requires c κs = omega (arith, small_sums c.requires.1)

enum-told-2 : tie.Need-enum_told-in-OM
enum-told-2 c = search rules

tip-requires-2 : tie.Need-tip-requires-in-OM
tip-requires-2 c κs = omega (arith, small_sums c.requires.1)

enum-told-3 : tie.Need-enum_told-in-SL
enum-told-3 c = search rules

slide-requires : tie.Need-slide-requires
slide-requires c κs = (c.requires.0.friction, n_low c.before, omega (arith, h_low c.before, m_low c.before))

enum-told-4 : tie.Need-enum_told-in-PR
enum-told-4 c = search rules

press-requires : tie.Need-press-requires
press-requires c κs =
    let b = c.requires.0 in
    ((b.wide, b.width, b.long, b.length), (n_low c.before, omega (arith, h_low c.before, m_low c.before)))

enum-told-5 : tie.Need-enum_told-in-RK
enum-told-5 c = search rules

lean-requires : tie.Need-lean-requires
lean-requires c κs =
    let b = c.requires.0 in
    ((b.wide, b.width), (n_low c.before, omega (arith, h_low c.before, m_low c.before)))

returns : tie.Need-returns-in-OP
unfolding Told side ShowsBySums ExactBySums Tips Slides Presses Leans apart
returns c =
    subst⁻¹ (λ (k : Check). Told k c.args.base c.args.sums c.tip.result) c.in-OP.is c.tip.ensures

returns-2 : tie.Need-returns-in-OM
unfolding Told side ShowsBySums ExactBySums Tips Slides Presses Leans apart
returns-2 c =
    subst⁻¹ (λ (k : Check). Told k c.args.base c.args.sums c.tip-in-OM.result) c.in-OM.is c.tip-in-OM.ensures

returns-3 : tie.Need-returns-in-SL
unfolding Told side ShowsBySums ExactBySums Tips Slides Presses Leans apart
returns-3 c =
    let n = c.excess-n.ensures in
    let h = c.distance-h.ensures in
    subst⁻¹ (λ (k : Check). Told k c.args.base c.args.sums c.slide.result) c.in-SL.is (subst₂ (λ (a b : ℕ). RanksTold lowest (Slides c.args.base.friction a b) (SlidesBy Exactly c.args.base.friction a b) c.slide.result.value c.slide.result.exact) n h c.slide.ensures)

returns-4 : tie.Need-returns-in-PR
unfolding Told side ShowsBySums ExactBySums Tips Slides Presses Leans apart
returns-4 c =
    let n = c.excess-n.ensures in
    let m = c.distance-m.ensures in
    subst⁻¹ (λ (k : Check). Told k c.args.base c.args.sums c.press.result) c.in-PR.is (subst₂ (λ (a b : ℕ). RanksTold highest (Presses c.args.base.width c.args.base.length a b) (PressesBy Exactly c.args.base.width c.args.base.length a b) c.press.result.value c.press.result.exact) n m c.press.ensures)

returns-5 : tie.Need-returns-in-RK
unfolding Told side ShowsBySums ExactBySums Tips Slides Presses Leans apart
returns-5 c =
    let n = c.excess-n.ensures in
    let m = c.distance-m.ensures in
    subst⁻¹ (λ (k : Check). Told k c.args.base c.args.sums c.lean.result) c.in-RK.is (subst₂ (λ (a b : ℕ). RanksTold highest (Leans c.args.base.width a b) (LeansBy Exactly c.args.base.width a b) c.lean.result.value c.lean.result.exact) n m c.lean.ensures)

pub ranked_of_spec : {M : Type 1} → statement M
ranked_of_spec = tie.close (tie.spec excess-requires distance-requires distance-requires-2 enum_told tip-requires enum-told-2 tip-requires-2 enum-told-3 slide-requires enum-told-4 press-requires enum-told-5 lean-requires returns returns-2 returns-3 returns-4 returns-5)
