-- The part of whichever book holds the row, at its place.
use Rattle.fills.proofs.lookup.Placing.{own_within, common_within}
use Rattle.fills.proofs.lookup.row_of.Goals as goal

pub slice_bounds-result-end : goal.slice_bounds-result-end
slice_bounds-result-end c = (own_within (rw c.in-Some-Own.field-0-is at c.in-Some-Own.ensures)).1

pub slice_bounds-result-end-in-Some-Common : goal.slice_bounds-result-end-in-Some-Common
slice_bounds-result-end-in-Some-Common c = (common_within (rw c.in-Some-Common.field-0-is at c.in-Some-Common.ensures)).1
