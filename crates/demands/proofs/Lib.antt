-- The proofs of the demands: `demand1`, `demand2`, `demand3` and `demand4`, for whatever two fill books are lent.
mod All
mod Keys
mod Numbers
mod Sound
mod Lines
mod Wrote
pub mod Demand1
pub mod Demand2
pub mod Demand3
pub mod Demand4
pub mod Demands
