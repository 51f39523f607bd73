-- Qf is at most 65,000,000, so that a thousand times it fits a word.
use borrow.Author.Rules.{rules}
use native.Mathlib.Omega.{arith}
use Rattle.scour.proofs.discharge.Bounds.{discharge_most}
use Rattle.job_faults.proofs.figures.intensity_of.Statement.{statement}
use Rattle.job_faults.proofs.figures.intensity_of.Tie as tie

cast-discharge : tie.Need-overflow_cast-discharge
cast-discharge c = search rules

cast-catchment : tie.Need-overflow_cast-catchment
cast-catchment c = search rules

cast-width : tie.Need-overflow_cast-width
cast-width c = search rules

foundation-discharge-requires : tie.Need-foundation_discharge-qf-requires
foundation-discharge-requires c κs = search rules

mul-up : tie.Need-overflow_mul-qf
mul-up c = omega (arith, discharge_most c.requires.0 c.foundation_discharge-qf.ensures)

up-requires : tie.Need-up-requires
up-requires c κs = search rules

returns : tie.Need-returns
returns c = search rules

pub intensity_of_spec : {M : Type 1} → statement M
intensity_of_spec = tie.close (tie.spec cast-discharge cast-catchment cast-width foundation-discharge-requires mul-up up-requires returns)
