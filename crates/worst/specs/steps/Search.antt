-- What `walk_choices` and `walk` answer: all choices beside some trains visited in turn, and what is found at the end of all of them.
use Rattle.std.specs.Prelude.{◌≡◌, ℕ, zero, suc, ◌^◌, Bool}
use Rattle.sets.specs.declared.Combination.{Combination}
use Rattle.sets.specs.declared.Loads.{Loads}
use Rattle.sets.specs.Sets.{Permitted}
use Rattle.sums.specs.declared.carried.Carried.{Carried}
use Rattle.sums.specs.steps.Sums.{zero_sums, sums_from}
use Rattle.sums.specs.steps.Carried.{shift_of}
use Rattle.checks.specs.declared.Base.{Base}
use Rattle.checks.specs.declared.Check.{Check}
use Rattle.checks.specs.declared.Figure.{Figure}
use Rattle.checks.specs.set_figures.Figures.{Shows}
use Rattle.checks.specs.Order.{side}
use Rattle.checks.specs.steps.Ranks.{rank, HasRank}
use Rattle.checks.specs.steps.HasCheck.{HasCheck}
use Rattle.weighing.specs.declared.ranked.RankedSet.{RankedSet}
use Rattle.weighing.specs.declared.Worst.{Worst}
use Rattle.weighing.specs.Named.{Named}
use Rattle.weighing.specs.steps.Weighs.{ranked_of, Low, Words, Visits}
use Rattle.worst.specs.declared.trains.Trains.{Trains}
use Rattle.worst.specs.steps.Stance.{choosable, pick, stance_at}
use Rattle.worst.specs.steps.Order.{choice}

-- ---- the choices beside some trains
-- how many rows are left to choose
unfoldable pub count_of : Combination → Loads → Trains → ℕ
count_of combination loads trains = choosable (stance_at combination loads trains) loads.count

-- the set of step k, and what its sums are carried as
unfoldable pub set_of : Combination → Loads → Trains → ℕ → ℕ
set_of combination loads trains k = pick (stance_at combination loads trains) loads.count (choice (count_of combination loads trains) k)

unfoldable pub carried_of : Combination → ℕ → Loads → Trains → ℕ → Carried
carried_of combination width loads trains k = shift_of (sums_from width loads (set_of combination loads trains k)) zero_sums

-- the worst so far, after the sets of the first n steps have been visited in turn
pub data Visited (combination : Combination) (serves : Bool) (base : Base) (carried : ℕ → Carried) : ℕ → Worst → Worst → Type 0 where
  none_yet : {b : Worst} → Visited combination serves base carried zero b b
  one_more : {n : ℕ} {b m r : Worst} → Visited combination serves base carried n b m → Visits combination serves base (carried n) m r → Visited combination serves base carried (suc n) b r

-- the worst so far, after all choices beside these trains
pub record WalkedChoices (combination : Combination) (serves : Bool) (base : Base) (loads : Loads) (trains : Trains) (b r : Worst) : Type 0 where
  pub visited : Visited combination serves base (carried_of combination base.width loads trains) (2 ^ count_of combination loads trains) b r
  pub low : Low r
  pub words : Words r

-- ---- what is found

-- what is found is the set that the line names, and no set where the combination has none
pub record FoundWorst (combination : Combination) (check : Check) (base : Base) (loads : Loads) (m : RankedSet) : Type 0 where
  pub named : (m.set ≡ 0 → ⊥) → (v : Figure) → HasRank (side check) v → rank (side check) v ≡ m.rank
      → Named (side check) (Permitted combination loads) (Shows check base loads) v m.set
  pub none : m.set ≡ 0 → (t : ℕ) → Permitted combination loads t → ⊥

-- a check that has found a set is one that the combination has, and each of those has found what its line names
pub record Walked (combination : Combination) (base : Base) (loads : Loads) (worst : Worst) : Type 0 where
  pub has : (check : Check) → ((ranked_of check worst).set ≡ 0 → ⊥) → HasCheck combination check base
  pub found : (check : Check) → HasCheck combination check base → FoundWorst combination check base loads (ranked_of check worst)
