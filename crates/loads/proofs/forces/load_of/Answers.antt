-- What a row is told goes by where its forces come from: by the push of its fill, which tells 11 and 15 itself, by that of the current, which tells
-- 11 and 17, by those of its surcharge, which tells 11, 19 and 20, or by its own numbers.
use Rattle.std.proofs.Common.{◌≡◌, sym, ◌∙◌, subst, ⊎_elim, arith}
use denote.Enum.Bare.{same_true, same_false}
use Rattle.arithmetic.proofs.Deciding.{decided, refuted}
use Rattle.kinds.specs.contracts.classes.Source.{the_type}
use Rattle.kinds.specs.declared.classes.Source.TheVariants.{Own}
use Rattle.earth.specs.coefficients.Lent.{fill_of}
use Rattle.earth.specs.EarthRow.{Pressed}
use Rattle.earth.proofs.Bounds.{pressed_modest}
use Rattle.earth.proofs.coefficients.Held.{fill_low}
use Rattle.current.specs.CurrentRow.{CurrentSays}
use Rattle.current.proofs.Bounds.{says_mild}
use Rattle.surcharge.specs.SurchargeRow.{SurchargeSays}
use Rattle.surcharge.proofs.Bounds.{says_moderate}
use Rattle.loads.specs.steps.Exerted.{LoadOf}
use Rattle.loads.proofs.forces.Exerting.{own_columns, around_size, kept, handed_on, told_out, earth_refused, earth_pushed, current_refused, current_pushed, surcharge_refused, surcharge_pushed, absent_pushed, own_exerted}
use Rattle.loads.proofs.forces.load_of.Goals as goal

-- ---- by its fill
pub returns-in_err-fill-in-Earth : goal.returns-in_err-fill-in-Earth
returns-in_err-fill-in-Earth c =
    handed_on (fill_of c.args.held) c.args.row c.from_residual.result c.from_residual.ensures.1
    (λ refusal e. earth_refused (fill_of c.args.held) c.args.row (sym c.source_of-source.ensures ∙ c.in-Earth.is) (subst (Pressed (fill_of c.args.held) c.args.row.numbers) e c.in_err-fill-in-Earth.ensures))

pub overflow_mul-fill : goal.overflow_mul-fill
overflow_mul-fill c = omega (arith, (pressed_modest (fill_low _) c.in_ok-fill-in-Earth.ensures).moment)

pub returns-in_ok-fill-in-Earth : goal.returns-in_ok-fill-in-Earth
returns-in_ok-fill-in-Earth c =
    let load = c.push_load in
    earth_pushed (fill_of c.args.held) c.args.row (sym c.source_of-source.ensures ∙ c.in-Earth.is) load.result c.in_ok-fill-in-Earth.ensures (kept (fill_of c.args.held) c.args.row load.ensures.0 c.requires c.phase_of.ensures c.train_of.ensures) load.ensures.1

-- ---- by the current
pub returns-in_err-current-in-Current : goal.returns-in_err-current-in-Current
returns-in_err-current-in-Current c =
    handed_on (fill_of c.args.held) c.args.row c.from_residual-in_err-current-in-Current.result c.from_residual-in_err-current-in-Current.ensures.1
    (λ refusal e. current_refused (fill_of c.args.held) c.args.row (sym c.source_of-source.ensures ∙ c.in-Current.is) (subst (CurrentSays c.args.row.numbers) e c.in_err-current-in-Current.ensures))

pub overflow_mul-current : goal.overflow_mul-current
overflow_mul-current c = omega (arith, (says_mild c.in_ok-current-in-Current.ensures).moment)

pub returns-in_ok-current-in-Current : goal.returns-in_ok-current-in-Current
returns-in_ok-current-in-Current c =
    let load = c.push_load-in-Current in
    current_pushed (fill_of c.args.held) c.args.row (sym c.source_of-source.ensures ∙ c.in-Current.is) load.result c.in_ok-current-in-Current.ensures (kept (fill_of c.args.held) c.args.row load.ensures.0 c.requires c.phase_of.ensures c.train_of.ensures) load.ensures.1

-- ---- by its surcharge
pub returns-in_err-parts-in-Surcharge : goal.returns-in_err-parts-in-Surcharge
returns-in_err-parts-in-Surcharge c =
    handed_on (fill_of c.args.held) c.args.row c.from_residual-in_err-parts-in-Surcharge.result c.from_residual-in_err-parts-in-Surcharge.ensures.1
    (λ refusal e. surcharge_refused (fill_of c.args.held) c.args.row (sym c.source_of-source.ensures ∙ c.in-Surcharge.is) (subst (SurchargeSays c.args.row.numbers) e c.in_err-parts-in-Surcharge.ensures))

pub surcharge_load-requires : goal.surcharge_load-requires
surcharge_load-requires c = says_moderate c.in_ok-parts-in-Surcharge.ensures

pub returns-in_ok-parts-in-Surcharge : goal.returns-in_ok-parts-in-Surcharge
returns-in_ok-parts-in-Surcharge c =
    let load = c.surcharge_load in
    surcharge_pushed (fill_of c.args.held) c.args.row (sym c.source_of-source.ensures ∙ c.in-Surcharge.is) load.result c.in_ok-parts-in-Surcharge.ensures (kept (fill_of c.args.held) c.args.row load.ensures.0 c.requires c.phase_of.ensures c.train_of.ensures) load.ensures.1

-- ---- by its own numbers
pub returns-then-not-is_ranged : goal.returns-then-not-is_ranged
unfolding LoadOf
returns-then-not-is_ranged c = told_out (fill_of c.args.held) c.args.row (refuted c.is_ranged.result c.if-not-is_ranged.true c.is_ranged.ensures)

pub returns-then-eq : goal.returns-then-eq
returns-then-eq c =
    let absent = same_true the_type tt _ _ (sym c.if-eq.ensures) in
    let load = c.push_load-then-eq in
    absent_pushed (fill_of c.args.held) c.args.row (sym c.source_of-source.ensures ∙ absent)
    (decided c.is_ranged.result c.if-not-is_ranged.false c.is_ranged.ensures) load.result (kept (fill_of c.args.held) c.args.row load.ensures.0 c.requires c.phase_of.ensures c.train_of.ensures) load.ensures.1

-- where it is not absent, the source is the row's own numbers
pub own_load-requires : goal.own_load-requires
own_load-requires c =
    let own : c.source_of-source.result ≡ Own = ⊎_elim (λ e. e) (λ e. absurd (same_false the_type _ _ (sym c.if-eq.ensures) e)) c.in-Own.is in
    let r = own_columns _ _ (sym c.source_of-source.ensures ∙ own) (decided c.is_ranged.result c.if-not-is_ranged.false c.is_ranged.ensures) in
    (around_size 50000 _ r.n3, r.n4.to, r.n4.plain)

pub returns-else-eq : goal.returns-else-eq
returns-else-eq c =
    let own : c.source_of-source.result ≡ Own = ⊎_elim (λ e. e) (λ e. absurd (same_false the_type _ _ (sym c.if-eq.ensures) e)) c.in-Own.is in
    let load = c.own_load in
    own_exerted (fill_of c.args.held) c.args.row (sym c.source_of-source.ensures ∙ own)
    (decided c.is_ranged.result c.if-not-is_ranged.false c.is_ranged.ensures) load.result (kept (fill_of c.args.held) c.args.row load.ensures.0 c.requires c.phase_of.ensures c.train_of.ensures) load.ensures.1
