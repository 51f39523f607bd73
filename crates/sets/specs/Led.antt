-- Which rows may come with a train (02, P3); the load rows of a job that isn't refused are so.
use Rattle.std.specs.Prelude.{◌≡◌, ℕ, suc, ◌<◌}
use Rattle.sets.specs.declared.Class.TheVariants.{Free}
use Rattle.sets.specs.declared.Loads.{Loads}
use Rattle.sets.specs.Sets.{row}

-- row i names row n as its train
unfoldable pub Names : Loads → ℕ → ℕ → Type 0
Names loads i n = (i < loads.count) × ((row loads i).train ≡ suc n)

-- A row that comes with a train is free, as LF and CF are, and what it names is a free row, as LL is, that comes with none itself.
pub record Led (loads : Loads) : Type 0 where
  pub follows : (i n : ℕ) → Names loads i n → (row loads i).class ≡ Free
  pub there : (i n : ℕ) → Names loads i n → n < loads.count
  pub leads : (i n : ℕ) → Names loads i n → (row loads n).class ≡ Free
  pub alone : (i n : ℕ) → Names loads i n → (row loads n).train ≡ 0
