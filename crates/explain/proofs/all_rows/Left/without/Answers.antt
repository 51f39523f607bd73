-- A row starts within its text, and what is left behind it is as long as the text from there on.
use Rattle.std.proofs.Common.{rules}
use Rattle.csv_text.proofs.places.Starts.{start_within}
use Rattle.explain.proofs.all_rows.Left.without.Goals as goal

pub slice_bounds-rest-count : goal.slice_bounds-rest-count
slice_bounds-rest-count c = start_within c.start_of-start.ensures

pub slice_bounds-rest-start : goal.slice_bounds-rest-start
slice_bounds-rest-start c = let within = start_within c.start_of-start.ensures in search rules

pub copy_within-requires-2-clause-start_le_end : goal.copy_within-requires-2-clause-start_le_end
copy_within-requires-2-clause-start_le_end c = start_within c.start_of-len.ensures

pub overflow_sub-left : goal.overflow_sub-left
overflow_sub-left c = let within = start_within c.start_of-len.ensures in search rules
