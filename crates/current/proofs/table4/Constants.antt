-- No constant of Table 4 is above 79: one walk along the table, which antt computes.
use Prim.Native.Nat.{ℕ, ◌-◌, ◌≤◌}
use Rattle.arithmetic.proofs.rounding.Tables.{under}
use Rattle.current.specs.table4.Table4.{table4, table4_constant}

pub constant_small : (shape : ℕ) → table4_constant shape ≤ 79
constant_small shape = under 79 table4 tt (shape - 1)
