-- Each row is told one thing, and what was asked of the rows passed goes on with it.
use Rattle.std.proofs.Common.{◌≡◌, ◌<◌, ℕ, length, ◌∙◌, ap, subst, arith, Result}
use Rattle.earth.specs.coefficients.Lent.{fill_of}
use Rattle.kinds.specs.classes.Classes.{class_of, optional}
use Rattle.kinds.specs.declared.refusals.JobRefusal.{JobRefusal}
use Rattle.sets.specs.declared.Load.{Load}
use Rattle.loads.specs.steps.Exerted.{LoadOf}
use Rattle.loads.proofs.FirstRows.{load_row}
use Rattle.loads.proofs.Laying.{laid_none}
use Rattle.loads.proofs.Asking.{RowsAsked, optional_low, asked_none, asked_refused, asked_load, asked_all}
use Rattle.loads.proofs.asked_of.Goals as goal
use Rattle.loads.proofs.asked_of.Goals.{in-Ok, in-Err}

pub loop-i-init : goal.loop-i-init
loop-i-init c = (omega arith, asked_none _ _ (laid_none _ _ c.no_load-loads.ensures))

pub overflow_add-optional : goal.overflow_add-optional
overflow_add-optional c = omega (arith, c.loop-i.invariant.0, c.requires, c.optional_count-optional.ensures, optional_low c.class_of-class.result)

-- the row that is looked at, and what it is told
module _ (c : goal.Joined-load_of) where
  told : {a : Result Load JobRefusal} → c.load_of.result ≡ a → LoadOf (fill_of c.args.held) (load_row c.args.rows.now c.loop-i.i) a
  unfolding load_row
  told e = subst (LoadOf (fill_of c.args.held) (load_row c.args.rows.now c.loop-i.i)) e c.load_of.ensures

  counts : c.optional_count-optional.result ≡ optional (class_of (load_row c.args.rows.now c.loop-i.i).kind)
  unfolding load_row
  counts = c.optional_count-optional.ensures ∙ ap optional c.class_of-class.ensures

  few : c.loop-i.i < 16
  few = omega (arith, c.requires, c.loop-i-test.true)

pub loop-i-preserved : goal.loop-i-preserved
loop-i-preserved c = (
  omega (arith, c.loop-i.invariant.0, optional_low c.class_of-class.result, c.optional_count-optional.ensures),
  elim c.match-load_of.branch [
    | in-Ok w ↦ rw (w.loads-is, w.first-is, counts c) (asked_load _ _ _ c.loop-i-test.true c.loop-i.invariant.1 _ (few c) (told c w.in-Ok.is))
    | in-Err w ↦ rw (w.loads-is, w.first-is, w.lowest-first.ensures, counts c) (asked_refused _ _ _ c.loop-i-test.true c.loop-i.invariant.1 _ (told c w.in-Err.is))
  ],
)

pub returns : goal.returns
returns c =
    let e : c.loop-i.i ≡ length c.args.rows.now = omega arith in
    let at = c.loop-i in
    asked_all (fill_of c.args.held) c.args.rows.now c.requires
    (subst (λ (n : ℕ). RowsAsked (fill_of c.args.held) c.args.rows.now n at.first at.optional at.loads) e at.invariant.1)
