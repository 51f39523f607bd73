-- A position past the load rows names none of them, and one among them names the row there.
use Rattle.std.proofs.Common.{◌≡◌, ◌∙◌, ℕ, ◌-◌, Bool, true, false, List, length, take, ap, subst, arith, rules}
use Rattle.arithmetic.specs.decides.Decides.{Decides}
use Rattle.kinds.specs.declared.Row.{Row}
use Rattle.loads.specs.LoadRows.{NamesLive}
use Rattle.loads.specs.steps.Asking.{row_count}
use Rattle.loads.proofs.Answering.{first_rows}
use Rattle.loads.proofs.FirstRows.{load_row}
use Rattle.loads.proofs.Naming.{names_none, names_past, names_by}
use Rattle.job_faults.proofs.rules.names_live.Goals as goal

-- the first n are the load rows
module _ (rows : List Row) (whole : length rows ≡ 16) (count train n : ℕ) (least : n ≡ row_count count) where
  same : take n rows ≡ take count rows
  same = ap (λ (k : ℕ). take k rows) least ∙ first_rows rows count whole

  of_loads : (r : Bool) → Decides r (NamesLive (take n rows) train) → Decides r (NamesLive (take count rows) train)
  of_loads r = subst (λ (l : List Row). Decides r (NamesLive l train)) same

pub returns-then-n-position : goal.returns-then-n-position
returns-then-n-position c =
    let rows = c.args.rows in
    let n = c.row_count-n.result in
    let whole : length rows ≡ 16 = search rules in
    of_loads rows whole c.args.count c.args.train n c.row_count-n.ensures.0 false (names_past rows n (omega (arith, whole, c.row_count-n.ensures.1)) c.args.train c.if-n-position.true)

pub returns-then-position-lt1 : goal.returns-then-position-lt1
returns-then-position-lt1 c =
    let rows = c.args.rows in
    let n = c.row_count-n.result in
    let whole : length rows ≡ 16 = search rules in
    of_loads rows whole c.args.count c.args.train n c.row_count-n.ensures.0 true
    (names_none rows n (omega (arith, whole, c.row_count-n.ensures.1)) c.args.train (omega (arith, c.if-position-lt1.true)))

pub returns : goal.returns
unfolding load_row
returns c =
    let rows = c.args.rows in
    let n = c.row_count-n.result in
    let train = c.args.train in
    let whole : length rows ≡ 16 = search rules in
    of_loads rows whole c.args.count train n c.row_count-n.ensures.0 c.eq.result
    (names_by rows n (omega (arith, whole, c.row_count-n.ensures.1)) train (train - 1) (omega (arith, c.if-position-lt1.false)) (omega (arith, c.if-position-lt1.false, c.if-n-position.false)) c.eq.result (search rules))
