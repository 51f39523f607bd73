-- The order of figures: of two that differ one is the worse, and ranks have the same order.
use mathlib.Core.Path.{◌≡◌, refl, sym, ◌∙◌, ap}
use Prim.Native.Nat.{ℕ, ◌^◌, ◌<◌}
use native.Mathlib.Omega.{arith}
use lib.Dec.{lit<}
use Rattle.checks.specs.declared.Figure.{Figure}
use Rattle.checks.specs.declared.Figure.TheVariants.{Nothing, Number, Off}
use Rattle.checks.specs.Order.{Side, lowest, highest, WorseNumber, Worse}
use Rattle.checks.specs.steps.Ranks.{HasRank, rank, Ranks}

-- ---- of two figures that differ, one is the worse
number_connex : (s : Side) (a b : ℕ) → (WorseNumber s a b → ⊥) → (WorseNumber s b a → ⊥) → a ≡ b
unfolding WorseNumber
number_connex lowest a b p q = omega arith
number_connex highest a b p q = omega arith

pub connex : (s : Side) (v w : Figure) → (Worse s v w → ⊥) → (Worse s w v → ⊥) → v ≡ w
unfolding Worse
connex s Off Off p q = refl
connex s Off (Number b) p q = absurd (p tt)
connex s Off Nothing p q = absurd (p tt)
connex s (Number a) Off p q = absurd (q tt)
connex s (Number a) (Number b) p q = ap Number (number_connex s a b p q)
connex s (Number a) Nothing p q = absurd (p tt)
connex s Nothing Off p q = absurd (q tt)
connex s Nothing (Number b) p q = absurd (q tt)
connex s Nothing Nothing p q = refl

-- ---- the worse figure has the lower rank, and two figures of one rank are one
pub rank_worse : (s : Side) (v w : Figure) → HasRank s v → HasRank s w → Worse s v w → rank s v < rank s w
unfolding Worse WorseNumber HasRank rank
rank_worse lowest Off w p q h = absurd p
rank_worse lowest (Number a) Off p q h = absurd h
rank_worse lowest (Number a) (Number b) p q h = h
rank_worse lowest (Number a) Nothing p q h = p
rank_worse lowest Nothing Off p q h = absurd h
rank_worse lowest Nothing (Number b) p q h = absurd h
rank_worse lowest Nothing Nothing p q h = absurd h
rank_worse highest Off Off p q h = absurd h
rank_worse highest Off (Number b) p q h = omega arith
rank_worse highest Off Nothing p q h = lit< tt
rank_worse highest (Number a) Off p q h = absurd h
rank_worse highest (Number a) (Number b) p q h = omega arith
rank_worse highest (Number a) Nothing p q h = absurd q
rank_worse highest Nothing w p q h = absurd p

pub rank_low : (s : Side) (v : Figure) → HasRank s v → rank s v < 2 ^ 64
unfolding HasRank rank
rank_low lowest Off p = absurd p
rank_low lowest (Number a) p = omega arith
rank_low lowest Nothing p = lit< tt
rank_low highest Off p = lit< tt
rank_low highest (Number a) p = omega arith
rank_low highest Nothing p = absurd p

pub rank_one : (s : Side) (v w : Figure) → HasRank s v → HasRank s w → rank s v ≡ rank s w → v ≡ w
rank_one s v w p q e =
    connex s v w (λ h. absurd (omega (arith, rank_worse s v w p q h))) (λ h. absurd (omega (arith, rank_worse s w v q p h)))

-- where one figure has P, one rank does
pub ranks_one : {s : Side} {P : Figure → Type 0} {r q : ℕ} → ((v w : Figure) → P v → P w → v ≡ w) → Ranks s P r → Ranks s P q → r ≡ q
ranks_one {s} one x y = sym x.ranked ∙ ap (rank s) (one x.figure y.figure x.holds y.holds) ∙ y.ranked

-- a rank of what holds where P does
pub ranks_map : {s : Side} {P Q : Figure → Type 0} {r : ℕ} → ((v : Figure) → P v → Q v) → Ranks s P r → Ranks s Q r
ranks_map f k = record { figure = k.figure; holds = f k.figure k.holds; has_rank = k.has_rank; ranked = k.ranked }
