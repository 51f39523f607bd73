-- A row in no set leaves the table as it is, one in every set adds to the fixed sums alone, and a choosable one is written behind the choosable rows before
-- it, which stay.
use Rattle.std.proofs.Common.{◌≡◌, ℕ, length-set, ◌*◌, ◌%◌, ◌^◌, ◌<◌, refl, sym, ◌∙◌, ap, ap₂, arith}
use Rattle.sets.specs.declared.Combination.{Combination}
use Rattle.sets.specs.declared.Load.{Load}
use Rattle.sets.specs.declared.Loads.{Loads}
use Rattle.sets.specs.Sets.{row}
use Rattle.sums.specs.declared.Sums.{Sums}
use Rattle.sums.specs.steps.Sums.{add, terms_from, zero_sums, Room}
use Rattle.sums.specs.steps.Carried.{shift_of}
use Rattle.sums.proofs.Adding.{room_none, room_more, shifted}
use Rattle.worst.specs.declared.choices.Stance.{Stance}
use Rattle.worst.specs.declared.trains.Trains.{Trains}
use Rattle.worst.specs.steps.Stance.{beside, stance_at, stance_toward, row_terms}
use Rattle.worst.proofs.step_table.Filling.{filled_none, filled_as, more_never, more_always, more_choosable, terms_room, fixed_room}
use Rattle.worst.proofs.step_table.table_of.Goals.{in-Never, in-Always, in-Choosable}
use Rattle.worst.proofs.step_table.table_of.Goals as goal

-- what row i gives, and what it is to the sets
row_is : (width : ℕ) (loads : Loads) (i : ℕ) {item : Load} {sums : Sums} → item ≡ row loads i → i < 64 → sums ≡ terms_from width item (1 * 2 ^ i % 2 ^ 64) → sums ≡ row_terms width loads i
unfolding row_terms
row_is width loads i e h s = s ∙ (λ u. terms_from width (e u) (shifted i h u))

stance_is : (combination : Combination) (loads : Loads) (trains : Trains) (i : ℕ) {item : Load} {alone stance : Stance} → item ≡ row loads i → alone ≡ stance_toward combination item → stance ≡ beside trains i item.train alone
    → stance ≡ stance_at combination loads trains i
unfolding stance_at
stance_is combination loads trains i e a s = s ∙ ap (beside trains i _) a ∙ (λ u. beside trains i (e u).train (stance_toward combination (e u)))

none_room : {none : Sums} → none ≡ zero_sums → Room 16 none
none_room e = rw e (room_none 16)

pub loop-i-init : goal.loop-i-init
loop-i-init c = filled_none _ _ _ _ _ refl c.no_sums-none.ensures

pub add-fixed-requires : goal.add-fixed-requires
add-fixed-requires c =
    let b = c.requires.bounded in
    let k : c.loop-i.i < c.args.loads.count = omega arith in (
      rw c.loop-i.invariant.always_there (room_more (omega (arith, b.count)) (fixed_room c.args.combination _ _ c.args.trains c.requires.width_bound b c.loop-i.i (omega arith))),
      rw (row_is _ _ _ (c.rows-load-items.ensures.each _ k) (omega (arith, b.count)) c.terms_of-sums.ensures) (room_more (omega arith) (terms_room c.args.combination _ _ c.args.trains c.requires.width_bound b _ k)),
    )

pub shift_of-added-requires-clause-room : goal.shift_of-added-requires-clause-room
shift_of-added-requires-clause-room c =
    let b = c.requires.bounded in
    let k : c.loop-i.i < c.args.loads.count = omega arith in
    rw (row_is _ _ _ (c.rows-load-items.ensures.each _ k) (omega (arith, b.count)) c.terms_of-sums.ensures) (room_more (omega arith) (terms_room c.args.combination _ _ c.args.trains c.requires.width_bound b _ k))

pub shift_of-added-requires-clause-room_2 : goal.shift_of-added-requires-clause-room_2
shift_of-added-requires-clause-room_2 c = none_room c.no_sums-none.ensures

pub shift_of-taken-requires-clause-room : goal.shift_of-taken-requires-clause-room
shift_of-taken-requires-clause-room c = none_room c.no_sums-none.ensures

pub shift_of-taken-requires-clause-room_2 : goal.shift_of-taken-requires-clause-room_2
shift_of-taken-requires-clause-room_2 c =
    let b = c.requires.bounded in
    let k : c.loop-i.i < c.args.loads.count = omega arith in
    rw (row_is _ _ _ (c.rows-load-items.ensures.each _ k) (omega (arith, b.count)) c.terms_of-sums.ensures) (room_more (omega arith) (terms_room c.args.combination _ _ c.args.trains c.requires.width_bound b _ k))

pub loop-i-preserved : goal.loop-i-preserved
loop-i-preserved c =
    let f = c.loop-i.invariant in
    let k : c.loop-i.i < c.args.loads.count = omega arith in
    let each = c.rows-load-items.ensures.each _ k in
    let none_is = c.no_sums-none.ensures in
    let sums_is = row_is _ _ _ each (omega (arith, c.requires.bounded.count)) c.terms_of-sums.ensures in
    let told = stance_is c.args.combination c.args.loads c.args.trains c.loop-i.i each c.stance_of-alone.ensures c.stance_beside.ensures in
    elim c.match-stance_beside.branch [
      | in-Never w ↦ filled_as _ _ _ _ _ (more_never _ _ _ _ _ f (sym told ∙ w.in-Never.is)) w.steps-is w.choosable-is w.fixed-is
      | in-Always w ↦ filled_as _ _ _ _ _ (more_always _ _ _ _ _ f (sym told ∙ w.in-Always.is) (w.add-fixed.ensures ∙ ap (add _) sums_is)) w.steps-is w.choosable-is w.fixed-is
      | in-Choosable w ↦
          filled_as _ _ _ _ _
          (more_choosable _ _ _ _ _ f (sym told ∙ w.in-Choosable.is) (w.shift_of-added.ensures ∙ ap₂ shift_of sums_is none_is) (w.shift_of-taken.ensures ∙ ap₂ shift_of none_is sums_is)
          (record { fits = omega (arith, f.size, f.few, c.requires.bounded.count); written = refl }) (record { fits = simp length-set (omega (arith, f.size, f.few, c.requires.bounded.count)); written = refl }))
          w.steps-is w.choosable-is w.fixed-is
    ]

pub shift_of-first-requires-clause-room : goal.shift_of-first-requires-clause-room
shift_of-first-requires-clause-room c =
    rw c.loop-i.invariant.always_there (room_more (omega (arith, c.requires.bounded.count)) (fixed_room c.args.combination _ _ c.args.trains c.requires.width_bound c.requires.bounded c.loop-i.i (omega arith)))

pub shift_of-first-requires-clause-room_2 : goal.shift_of-first-requires-clause-room_2
shift_of-first-requires-clause-room_2 c = none_room c.no_sums-none.ensures
