-- The loop keeps that the members passed have their values.
use Rattle.std.proofs.Common.{List}
use Rattle.fills.specs.declared.fill_rows.Fill.{Fill}
use Rattle.fills.specs.declared.fill_rows.Whose.TheVariants.{Own, Common}
use Rattle.fills.specs.FillBook.{FillBook}
use Rattle.fills.specs.Values.{Gathered}
use Rattle.fills.proofs.values_for.Given as goal

abbrev pub invariant-loop-k : goal.invariant-loop-k
invariant-loop-k l = (os cs : List Fill) → FillBook Own l.own os → FillBook Common l.common cs → Gathered os cs l.members l.initial.values l.k l.values
