-- What `stance_of` and `stance_beside` answer, and the choices that a walk goes through: what a row is to the sets of a combination, as the program sorts the rows first.
use Rattle.std.specs.Prelude.{Bool, true, cond, ℕ, zero, suc, ◌+◌, ◌^◌, eqb}
use Rattle.sets.specs.declared.Class.{Class}
use Rattle.sets.specs.declared.Class.TheVariants.{Permanent, Free, Wind, Earthquake}
use Rattle.sets.specs.declared.Combination.{Combination}
use Rattle.sets.specs.declared.Combination.TheVariants.{I, II, III, IV}
use Rattle.sets.specs.declared.Load.{Load}
use Rattle.sums.specs.declared.Sums.{Sums}
use Rattle.sets.specs.declared.Loads.{Loads}
use Rattle.sets.specs.Sets.{bit, own_phase, row}
use Rattle.sums.specs.steps.Sums.{zero_sums, add, add_if, terms_from}
use Rattle.worst.specs.declared.choices.Stance.{Stance}
use Rattle.worst.specs.declared.choices.Stance.TheVariants.{Never, Always, Choosable}
use Rattle.worst.specs.declared.trains.Trains.{Trains}

-- a row that acts: WL and SF stand apart where the combination has none of them
unfoldable pub by_class : Combination → Class → Stance
by_class k Permanent = Always
by_class k Free = Choosable
by_class I Wind = Never
by_class II Wind = Choosable
by_class III Wind = Never
by_class IV Wind = Choosable
by_class I Earthquake = Never
by_class II Earthquake = Never
by_class III Earthquake = Choosable
by_class IV Earthquake = Choosable

-- the row's phase is the combination's own or 2
unfoldable pub acting : Combination → ℕ → Bool
acting k phase = cond (eqb phase (own_phase k)) true (eqb phase 2)

-- in no set of the combination, in every one, or choosable
unfoldable pub stance_toward : Combination → Load → Stance
unfolding acting
stance_toward k load = cond (acting k load.phase) (by_class k load.class) Never

-- beside these trains: a row that comes with one is choosable where that is present, and in no set where it is not; a leading row is in as it is present
unfoldable pub beside : Trains → ℕ → ℕ → Stance → Stance
beside trains i train Never = Never
beside trains i train Always = Always
beside trains i zero Choosable = cond (eqb (bit trains.leaders i) 1) (cond (eqb (bit trains.present i) 1) Always Never) Choosable
beside trains i (suc n) Choosable = cond (eqb (bit trains.present n) 1) Choosable Never

-- the ways in which the leading rows may be there or not are the choices among them alone
unfoldable pub leading : ℕ → ℕ → Stance
leading leaders i = cond (eqb (bit leaders i) 1) Choosable Never

-- ---- the choices of the choosable rows: choice k of the first rows holds row i as the row's stance says, and by the next bit of k where it is choosable
unfoldable pub held_by : Stance → ℕ → ℕ
held_by Never b = 0
held_by Always b = 1
held_by Choosable b = b

unfoldable pub next : Stance → ℕ → ℕ
next Never m = m
next Always m = m
next Choosable m = suc m

-- how many of the first n rows are choosable
unfoldable pub choosable : (ℕ → Stance) → ℕ → ℕ
choosable stance zero = 0
choosable stance (suc n) = next (stance n) (choosable stance n)

unfoldable pub join : ℕ → ℕ → ℕ → ℕ
join zero s place = s
join (suc b) s place = s + place

-- the set of the first n rows that choice k makes
unfoldable pub pick : (ℕ → Stance) → ℕ → ℕ → ℕ
pick stance zero k = 0
pick stance (suc n) k = join (held_by (stance n) (bit k (choosable stance n))) (pick stance n k) (2 ^ n)

-- ---- the sums of a choice: the rows in every set, and those of the table that the choice holds
unfoldable pub fixed_by : Stance → Sums → Sums → Sums
fixed_by Never s t = s
fixed_by Always s t = add s t
fixed_by Choosable s t = s

unfoldable pub fixed : (ℕ → Stance) → (ℕ → Sums) → ℕ → Sums
fixed stance terms zero = zero_sums
fixed stance terms (suc n) = fixed_by (stance n) (fixed stance terms n) (terms n)

unfoldable pub chosen : Sums → (ℕ → Sums) → ℕ → ℕ → Sums
chosen first table k zero = first
chosen first table k (suc m) = add_if (bit k m) (chosen first table k m) (table m)

-- what row i gives
unfoldable pub row_terms : ℕ → Loads → ℕ → Sums
row_terms width loads i = terms_from width (row loads i) (2 ^ i)

-- what row i is to the sets of the combination beside these trains
unfoldable pub stance_at : Combination → Loads → Trains → ℕ → Stance
stance_at combination loads trains i = beside trains i (row loads i).train (stance_toward combination (row loads i))
