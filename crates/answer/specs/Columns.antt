-- Document 01, the job book: the columns of a B row, by their names.
use Rattle.std.specs.Prelude.{eqb}
use Rattle.kinds.specs.declared.Numbers.{Numbers}
use Rattle.checks.specs.declared.Base.{Base}

-- width B, length L, allowable pressure, friction, and whether the strata are rock: 0 soil, 1 rock
abbrev pub base_of : Numbers → Base
base_of n = record { width = n.n1.size; length = n.n2.size; allowable = n.n3.size; friction = n.n4.size; rock = eqb n.n5.size 1 }
