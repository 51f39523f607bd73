-- All sets up to the step where the walk stands are visited, for whatever loads and trains the table is from: these are not hand in the loop.
use native.Mathlib.Omega.{arith}
use native.Mathlib.Numerals.{add-one}
use mathlib.Core.Path.{◌≡◌, refl, ◌∙◌, subst, subst⁻¹}
use mathlib.Core.Bool.{Bool}
use mathlib.Core.List.{List}
use Prim.Native.Nat.{ℕ, ◌+◌, ◌-◌, ◌^◌, ◌≤◌, ◌<◌}
use lib.Pow.{pow_mono}
use Rattle.sets.specs.declared.Combination.{Combination}
use Rattle.sets.specs.declared.Loads.{Loads}
use Rattle.sums.specs.declared.carried.Carried.{Carried}
use Rattle.sets.specs.Bounded.{Bounded}
use Rattle.checks.specs.Sized.{Sized}
use Rattle.checks.specs.declared.Base.{Base}
use Rattle.weighing.specs.declared.Worst.{Worst}
use Rattle.weighing.specs.declared.bounds.Bounds.{Bounds}
use Rattle.weighing.specs.steps.Weighs.{SmallCarried, Low, Words, Visits}
use Rattle.weighing.specs.steps.Bounds.{bounds_of, Within, Fitting}
use Rattle.weighing.proofs.bounds.Keeping.{bounds_fit, visits_words}
use Rattle.worst.specs.declared.step_table.StepTable.{StepTable}
use Rattle.worst.specs.declared.trains.Trains.{Trains}
use Rattle.worst.specs.steps.Stance.{choosable, stance_at}
use Rattle.worst.specs.steps.Steps.{reached}
use Rattle.worst.specs.steps.StepTable.{TableIs}
use Rattle.worst.specs.steps.Search.{count_of, carried_of, Visited, none_yet, one_more}
use Rattle.worst.proofs.choices.Choices.{choosable_room}
use Rattle.worst.proofs.Walking.{small_at, carried_there, passed_over}
use Rattle.worst.proofs.walk_choices.Statement.{statement}
use Rattle.worst.proofs.walk_choices.Tie as tie

-- the table that a walk goes by
abbrev table_by : List Carried → ℕ → Carried → StepTable
table_by steps last first = record { steps = steps; last = last; first = first }

-- from the first step on, all have been visited up to where the walk stands
abbrev On : Combination → Bool → Base → List Carried → ℕ → Carried → Worst → ℕ → Worst → Type 0
On combination serves base steps last first worst₀ step worst =
    (loads : Loads) (trains : Trains) (b : Worst) → Sized base → Bounded loads → TableIs combination base.width loads trains (table_by steps last first)
    → Visited combination serves base (carried_of combination base.width loads trains) 1 b worst₀
    → Visited combination serves base (carried_of combination base.width loads trains) (step + 1) b worst

abbrev invariant-loop : tie.invariant-loop-standing
invariant-loop combination serves base width steps last worst₀ standing₀ worst standing = (standing.step ≤ last) × Low worst × Words worst × (standing.carried ≡ reached steps standing₀.carried standing.step)
    × On combination serves base steps last standing₀.carried worst₀ standing.step worst

abbrev decreases-loop : tie.decreases-loop-standing
decreases-loop combination serves base width steps last worst₀ standing₀ worst standing = last - standing.step

table-of-requires : tie.Need-table_of-table-requires invariant-loop decreases-loop
table-of-requires c κs = (c.requires.0.width, c.requires.1.0)

-- ---- what the table tells
module _ (c : tie.After-table_of-table invariant-loop decreases-loop) where
  abbrev table : StepTable
  table = c.table_of-table.result

  few : table.last < 65536
  few =
      let h : 2 ^ choosable (stance_at c.args.combination c.args.loads c.args.trains) c.args.loads.count ≤ 65536 =
      pow_mono {j = 16} (omega (arith, choosable_room (stance_at c.args.combination c.args.loads c.args.trains) c.args.loads.count, c.requires.1.0.count)) in
      omega (arith, h, c.table_of-table.ensures.last)

  -- what is carried on the way is what the choices have, and all of it is small
  all_there : (k : ℕ) → k ≤ table.last → reached table.steps table.first k ≡ carried_of c.args.combination c.args.base.width c.args.loads c.args.trains k
  all_there k h = carried_there c.args.combination c.args.base c.args.loads c.args.trains c.requires.0 c.requires.1.0 table c.table_of-table.ensures k h

  all_small : (k : ℕ) → k ≤ table.last → SmallCarried (reached table.steps table.first k)
  all_small k h = subst⁻¹ SmallCarried (all_there k h) (small_at c.args.combination c.args.base c.args.loads c.args.trains c.requires.0 c.requires.1.0 k)

visit-requires : tie.Need-visit-worst-requires invariant-loop decreases-loop
unfolding reached
visit-requires c κs = (c.requires.0, (all_small c.before.before 0 (omega arith), c.requires.1.1.0))

-- ---- one step, and those passed over before it
module _ (combination : Combination) (base : Base) (serves : Bool) (loads : Loads) (trains : Trains) (sized : Sized base) (bounded : Bounded loads) (steps : List Carried) (last : ℕ) (first : Carried)
    (f : TableIs combination base.width loads trains (table_by steps last first)) where
  abbrev Gone : ℕ → Worst → Worst → Type 0
  Gone n b r = Visited combination serves base (carried_of combination base.width loads trains) n b r

  there : (k : ℕ) → k ≤ last → reached steps first k ≡ carried_of combination base.width loads trains k
  there k h = carried_there combination base loads trains sized bounded (table_by steps last first) f k h

  stepped : (k : ℕ) {c : Carried} {b m r : Worst} → k ≤ last → c ≡ reached steps first k → Visits combination serves base c m r → Gone k b m → Gone (k + 1) b r
  stepped k {c} {b} {m} {r} h e v so = subst⁻¹ (λ (n : ℕ). Gone n b r) (add-one k) (one_more so (subst (λ (x : Carried). Visits combination serves base x m r) (e ∙ there k h) v))

  passed : (from to : ℕ) {b worst : Worst} {bounds : Bounds} → Low worst → Words worst → from < to → to ≤ last → bounds ≡ bounds_of serves base worst
      → ((k : ℕ) → from < k → k < to → Within base.width bounds (reached steps first k)) → Gone (from + 1) b worst → Gone to b worst
  passed from to {b} {worst} low words h l e all so =
      let n : from + 1 + (to - (from + 1)) ≡ to = omega arith in
      subst (λ (k : ℕ). Gone k b worst) n
      (passed_over combination base loads trains sized bounded serves low words from (to - (from + 1)) so
      (λ k p q.
      subst (Within base.width (bounds_of serves base worst)) (there k (omega arith))
      (subst (λ (b : Bounds). Within base.width b (reached steps first k)) e (all k p (omega arith)))))

loop-holds : tie.Need-loop-standing-init invariant-loop decreases-loop
unfolding reached
loop-holds c =
    let v = c.visit-worst.ensures in (
      omega arith,
      v.low,
      visits_words _ _ _ _ c.requires.1.1.1 v,
      refl,
      λ loads trains b sized bounded f so. so,
    )

-- ---- on the way
bounds-of-requires : tie.Need-bounds_of-bounds-requires invariant-loop decreases-loop
bounds-of-requires c κs = (c.requires.0, c.loop-standing.invariant.1)

pass-over-requires : tie.Need-pass_over-standing-requires invariant-loop decreases-loop
pass-over-requires c κs =
    let b = c.bounds_of-bounds in (
      c.requires.0.width,
      (
        subst⁻¹ Fitting b.ensures (bounds_fit _ _ _ c.requires.0),
        record {
          few = few c.before.before.before.before.before.before.before.before;
          first = (table c.before.before.before.before.before.before.before.before).first;
          here = c.loop-standing.invariant.3;
          small = all_small c.before.before.before.before.before.before.before.before;
        },
      ),
    )

module _ (c : tie.After-pass_over-standing invariant-loop decreases-loop) where
  next_ends : c.pass_over-standing.result.step ≤ (table (c.before.before.before.before.before.before.before.before.before)).last
  next_ends = c.pass_over-standing.ensures.ends c.loop-standing.invariant.0

  next_here : c.pass_over-standing.result.carried ≡ reached (table (c.before.before.before.before.before.before.before.before.before)).steps (table (c.before.before.before.before.before.before.before.before.before)).first c.pass_over-standing.result.step
  next_here = c.pass_over-standing.ensures.here (table (c.before.before.before.before.before.before.before.before.before)).first c.loop-standing.invariant.3

  onward : c.loop-standing.standing.step < c.pass_over-standing.result.step
  onward = c.pass_over-standing.ensures.onward (omega (arith, c.loop-standing-test.true))

visit-requires-2 : tie.Need-visit-worst-requires-in-loop-standing invariant-loop decreases-loop
visit-requires-2 c κs =
    (c.requires.0, (subst⁻¹ SmallCarried (next_here c.before) (all_small c.before.before.before.before.before.before.before.before.before.before _ (next_ends c.before)), c.loop-standing.invariant.1))

loop-less : tie.Need-loop-standing-smaller invariant-loop decreases-loop
loop-less c = omega (arith, onward c.before.before, next_ends c.before.before)

loop-again : tie.Need-loop-standing-preserved invariant-loop decreases-loop
loop-again c =
    let inv = c.loop-standing.invariant in
    let v = c.visit-worst-in-loop-standing.ensures in (
      next_ends c.before.before,
      v.low,
      visits_words _ _ _ _ inv.2 v,
      next_here c.before.before,
      λ loads trains b sized bounded f so.
          stepped _ _ _ loads trains sized bounded _ _ _ f c.pass_over-standing.result.step (next_ends c.before.before) (next_here c.before.before) v
          (passed _ _ _ loads trains sized bounded _ _ _ f c.loop-standing.standing.step c.pass_over-standing.result.step inv.1 inv.2 (onward c.before.before) (next_ends c.before.before) c.bounds_of-bounds.ensures
          (c.pass_over-standing.ensures.over (table (c.before.before.before.before.before.before.before.before.before.before.before)).first inv.3) (inv.4 loads trains b sized bounded f so)),
    )

returns : tie.Need-returns invariant-loop decreases-loop
unfolding count_of reached
returns c =
    let inv = c.loop-standing.invariant in
    let n : c.loop-standing.standing.step + 1 ≡ (table c.before.before.before.before.before.before).last + 1 = omega (arith, inv.0, c.loop-standing-test.false) in
    record {
      visited = subst (λ (k : ℕ). Visited c.args.combination c.args.serves c.args.base (carried_of c.args.combination c.args.base.width c.args.loads c.args.trains) k c.args.before c.loop-standing.worst) (n ∙ c.table_of-table.ensures.last)
          (inv.4 c.args.loads c.args.trains c.args.before c.requires.0 c.requires.1.0 c.table_of-table.ensures
          (stepped _ _ _ _ _ c.requires.0 c.requires.1.0 _ _ _ c.table_of-table.ensures 0 (omega arith) refl c.visit-worst.ensures none_yet));
      low = inv.1;
      words = inv.2;
    }

pub walk_choices_spec : {M : Type 1} → statement M
walk_choices_spec = tie.close (tie.spec invariant-loop decreases-loop table-of-requires visit-requires loop-holds bounds-of-requires pass-over-requires visit-requires-2 loop-less loop-again returns)
