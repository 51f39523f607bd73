-- The demands hold of the program, whatever two fill books are lent.
use Rattle.demands.specs.Demands.{Demands}
use Rattle.demands.proofs.Demand1.{demand1}
use Rattle.demands.proofs.Demand2.{demand2}
use Rattle.demands.proofs.Demand3.{demand3}
use Rattle.demands.proofs.Demand4.{demand4}

pub demands : Demands
demands = record { first = demand1; second = demand2; third = demand3; fourth = demand4 }
