-- 1, then 2: each is given where the one before is not; then what the walk over the rows says where it stopped.
use Rattle.book.proofs.Stopping.{refused_is, stop_refused, stop_short, stop_whole}
use Rattle.book.proofs.read_book.Goals as goal

pub returns-in-Err : goal.returns-in-Err
returns-in-Err c = refused_is _ (stop_refused c.walk_rows-stop.result c.if-book-gt-LONGEST.false c.in-Err.why c.in-Err.is c.walk_rows-stop.ensures)

pub returns-then-stop-eq0 : goal.returns-then-stop-eq0
returns-then-stop-eq0 c = refused_is _ (stop_short c.walk_rows-stop.result c.if-book-gt-LONGEST.false c.in_default.is c.if-stop-eq0.true c.walk_rows-stop.ensures)

pub returns : goal.returns
returns c = stop_whole c.walk_rows-stop.result c.if-book-gt-LONGEST.false c.in_default.is c.if-stop-eq0.false c.walk_rows-stop.ensures
