-- A position past the rows, and a row there that is not LL, answer no for all of them.
use Rattle.std.proofs.Common.{◌≡◌, ◌<◌, ℕ, List, length, sym, subst, arith, below_more}
use denote.Enum.Bare.{differs_true, differs_false}
use Rattle.kinds.specs.contracts.Kind.{the_type}
use lib.Seq.{take_all}
use Rattle.kinds.specs.Table.{train}
use Rattle.kinds.specs.declared.Row.{Row}
use Rattle.loads.specs.LoadRows.{Every, NamesLive, AllNamed}
use Rattle.loads.proofs.FirstRows.{load_row, every_at, every_first}
use Rattle.loads.proofs.Naming.{live_none, live_past, live_here, here_live}
use Rattle.loads.proofs.all_named.Goals as goal
use Rattle.loads.proofs.all_named.Goals.{else-train-gt0-via-then-train-gt0+else-ne, else-train-gt0-via-else-train-gt0}

abbrev NamesWell : List Row → Row → Type 0
NamesWell rows row = NamesLive rows (train row.kind row.numbers)

-- where every row names one, the row that is looked at does
asked : (rows : List Row) (i position : ℕ) → i < length rows → position ≡ train (load_row rows i).kind (load_row rows i).numbers → AllNamed rows → NamesLive rows position
asked rows i position h e all = subst (NamesLive rows) (sym e) (every_at (NamesWell rows) rows all i h)

pub returns-then-rows-train : goal.returns-then-rows-train
unfolding load_row
returns-then-rows-train c = λ all. live_past c.args.rows.now _ c.if-rows-train.true (asked _ _ _ c.loop-row-test.true c.train_of-train.ensures all)

pub returns-then-ne : goal.returns-then-ne
unfolding load_row
returns-then-ne c =
    λ all.
    differs_true the_type _ _ (sym c.if-ne.ensures)
    (live_here c.args.rows.now c.train_of-train.result c.if-train-gt0.true (asked _ _ _ c.loop-row-test.true c.train_of-train.ensures all))

pub loop-row-preserved : goal.loop-row-preserved
unfolding load_row
loop-row-preserved c =
    let rows = c.args.rows.now in
    let position = c.train_of-train.result in
    let named : NamesLive rows position = elim c.else-train-gt0.branch [
      | else-train-gt0-via-then-train-gt0+else-ne w ↦ here_live rows position w.if-train-gt0.true c.if-rows-train.false (differs_false the_type tt _ _ (sym w.if-ne.ensures))
      | else-train-gt0-via-else-train-gt0 w ↦ live_none rows position (omega (arith, w.if-train-gt0.false))
    ] in
    below_more _ _ c.loop-row.invariant (subst (NamesLive rows) c.train_of-train.ensures named)

pub returns : goal.returns
returns c =
    let rows = c.args.rows.now in
    subst (Every (NamesWell rows)) (take_all (length rows) rows (omega arith)) (every_first (NamesWell rows) rows (length rows) (omega arith) (λ j h. c.loop-row.invariant j (omega arith)))
