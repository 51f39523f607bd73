-- What `surcharge_load` of `loads` asks: how large the two parts may be for what it works out of them to fit. Those of every G row in range are within it.
use Rattle.std.specs.Prelude.{◌≤◌}
use Rattle.surcharge.specs.declared.Parts.{Parts}

pub record Moderate (parts : Parts) : Type 0 where
  pub first : parts.first.force ≤ 178000
  pub first_arm : parts.first.arm ≤ 7500
  pub second : parts.second.force ≤ 89000
  pub second_arm : parts.second.arm ≤ 15000
