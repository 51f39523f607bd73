-- A row in no set or in every one stays so. Of a choosable one its train decides, where it has one; else whether it leads, and is there.
use borrow.Author.Rules.{rules}
use native.Mathlib.Omega.{arith}
use mathlib.Core.Path.{◌≡◌, sym, ◌∙◌, ap, ap₂, subst}
use Prim.Native.Nat.{ℕ, suc, ◌-◌}
use Rattle.arithmetic.proofs.Deciding.{decided, refuted}
use Rattle.arithmetic.specs.decides.Decides.{Decides}
use Rattle.sets.specs.Sets.{bit, HasTrain}
use Rattle.worst.specs.declared.choices.Stance.{Stance}
use Rattle.worst.specs.declared.choices.Stance.TheVariants.{Choosable}
use Rattle.worst.specs.declared.trains.Trains.{Trains}
use Rattle.worst.specs.steps.Stance.{beside}
use Rattle.worst.proofs.choices.Beside.{follower_in, follower_out, leader_in, leader_out, other_choosable}
use Rattle.worst.proofs.choices.stance_beside.Statement.{statement}
use Rattle.worst.proofs.choices.stance_beside.Tie as tie

-- what a choosable row is told, by its train
told : (trains : Trains) (row : ℕ) {train t : ℕ} {stance r : Stance} → train ≡ t → stance ≡ Choosable → beside trains row t Choosable ≡ r → r ≡ beside trains row train stance
told trains row e d p = sym (ap₂ (beside trains row) e d ∙ p)

enum_told : tie.Need-enum_told-1
enum_told c = search rules

enum-told-2 : tie.Need-enum_told-in-Always
enum-told-2 c = search rules

enum-told-3 : tie.Need-enum_told-in-Choosable
enum-told-3 c = search rules

has-train-requires : tie.Need-has_train-requires
has-train-requires c κs = c.requires.1

-- a row that names one, and whether that is present
module _ (c : tie.After-has_train) where
  abbrev train : ℕ
  train = c.args.train

  named : train ≡ suc (train - 1)
  named = omega (arith, c.if-train-gt0.true)

  present : Decides c.has_train.result (bit c.args.trains.present (train - 1) ≡ 1)
  unfolding HasTrain
  present = subst (λ (t : ℕ). Decides c.has_train.result (HasTrain t c.args.trains.present)) named c.has_train.ensures

returns : tie.Need-returns-then-has_train
returns c =
    let h = c.has_train in
    told _ _ (named c.before) c.in-Choosable.is (follower_in _ _ (train c.before - 1) (decided h.result c.if-has_train.true (present c.before)))

returns-2 : tie.Need-returns-then-train-gt0
returns-2 c =
    let h = c.has_train in
    told _ _ (named c.before) c.in-Choosable.is (follower_out _ _ (train c.before - 1) (refuted h.result c.if-has_train.false (present c.before)))

holds-requires : tie.Need-holds-requires
holds-requires c κs = omega (arith, c.requires.0)

-- a row that comes with no train
alone : (c : tie.After-holds) → c.args.train ≡ 0
alone c = omega (arith, c.if-train-gt0.false)

returns-3 : tie.Need-returns-then-not-holds
returns-3 c =
    let h = c.holds in
    told _ _ (alone c.before) c.in-Choosable.is (other_choosable _ _ (refuted h.result c.if-not-holds.true h.ensures))

holds-requires-2 : tie.Need-holds-requires-in-Choosable
holds-requires-2 c κs = omega (arith, c.requires.0)

-- a leading row
leading : (c : tie.After-holds-in-Choosable) → let a = c.args in bit a.trains.leaders a.row ≡ 1
leading c = let h = c.holds in decided h.result c.if-not-holds.false h.ensures

returns-4 : tie.Need-returns-then-holds
returns-4 c =
    let h = c.holds-in-Choosable in
    told _ _ (alone c.before.before.before) c.in-Choosable.is (leader_in _ _ (leading c.before) (decided h.result c.if-holds.true h.ensures))

returns-5 : tie.Need-returns-in-Never
unfolding beside
returns-5 c = sym (ap (beside _ _ _) c.in-Never.is)

returns-6 : tie.Need-returns-in-Always
unfolding beside
returns-6 c = sym (ap (beside _ _ _) c.in-Always.is)

returns-7 : tie.Need-returns-else-holds
returns-7 c =
    let h = c.holds-in-Choosable in
    told _ _ (alone c.before.before.before) c.in-Choosable.is (leader_out _ _ (leading c.before) (refuted h.result c.if-holds.false h.ensures))

pub stance_beside_spec : {M : Type 1} → statement M
stance_beside_spec = tie.close (tie.spec enum_told enum-told-2 enum-told-3 has-train-requires returns returns-2 holds-requires returns-3 holds-requires-2 returns-4 returns-5 returns-6 returns-7)
