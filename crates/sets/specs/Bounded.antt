-- How large a load may be for every sum to fit a word; what the load rows of a job exert is within it.
use Rattle.std.specs.Prelude.{ℕ, ◌≤◌, ◌<◌}
use Rattle.sets.specs.declared.Load.{Load}
use Rattle.sets.specs.declared.Loads.{Loads}
use Rattle.sets.specs.Sets.{row}

-- |V| in kN, |x| in mm, |H| in kN, |H y| in kN mm, and a position among 16 rows
pub record BoundedLoad (load : Load) : Type 0 where
  pub v : load.v.size ≤ 50000
  pub x : load.x.size ≤ 32000
  pub h : load.h.size ≤ 300000
  pub twist : load.twist.size ≤ 3000000000
  pub train : load.train ≤ 16

pub record Bounded (loads : Loads) : Type 0 where
  pub count : loads.count ≤ 16
  pub each : (i : ℕ) → i < loads.count → BoundedLoad (row loads i)
