-- Each figure is one; then its rank, by the tests that lead to it, and where it is plainly no worse than another.
use mathlib.Core.Path.{◌≡◌, refl, sym, ◌∙◌, ap}
use mathlib.Core.Bool.{Bool, true}
use mathlib.Core.Logic.{inl, inr, ⊎_elim}
use Prim.Native.Nat.{ℕ, ◌+◌, ◌*◌, ◌-◌, ◌/◌, ◌^◌, ◌≤◌, ◌<◌}
use native.Mathlib.Omega.{arith}
use native.Mathlib.Decide.{ℕ_discrete}
use native.Mathlib.Nat.{mul-le-mul, mul_comm, pos_of_ne-zero}
use lib.Dec.{lit<}
use Rattle.arithmetic.proofs.Cases.{by_cases}
use Rattle.arithmetic.proofs.Deciding.{decides_same}
use Rattle.arithmetic.specs.rounding.Least.{RoundedUp, RoundedDown}
use Rattle.arithmetic.specs.rounding.Rounding.{Rounding, Exactly, RoundsUp}
use Rattle.arithmetic.proofs.rounding.Laws.{least_one, greatest_one, down_div, down_le, up_le}
use Rattle.checks.specs.declared.Figure.{Figure}
use Rattle.checks.specs.declared.Figure.TheVariants.{Nothing, Number, Off}
use Rattle.checks.specs.Order.{lowest, highest}
use Rattle.checks.specs.steps.Ranks.{HasRank, rank, Ranks, RanksTold}
use Rattle.checks.specs.ranks.Figures.{TipsBy, SlidesBy, LeansBy}
use Rattle.checks.specs.steps.Rounded.{Tips, Slides, Leans}

-- ---- a figure is one
pub tips_one : (r o : ℕ) (v w : Figure) → Tips r o v → Tips r o w → v ≡ w
unfolding Tips
tips_one r o Nothing Nothing p q = refl
tips_one r o Nothing (Number b) p q = absurd (omega (arith, q.0))
tips_one r o Nothing Off p q = absurd q
tips_one r o (Number a) Nothing p q = absurd (omega (arith, p.0))
tips_one r o (Number a) (Number b) p q = ap Number (greatest_one p.1 q.1)
tips_one r o (Number a) Off p q = absurd q
tips_one r o Off w p q = absurd p

pub slides_one : (f n h : ℕ) (v w : Figure) → Slides f n h v → Slides f n h w → v ≡ w
unfolding Slides
slides_one f n h Nothing Nothing p q = refl
slides_one f n h Nothing (Number b) p q = absurd (⊎_elim (λ x. omega (arith, x.0, p.0)) (λ x. omega (arith, x.1, p.1)) q)
slides_one f n h Nothing Off p q = absurd q
slides_one f n h (Number a) Nothing p q = absurd (⊎_elim (λ x. omega (arith, x.0, q.0)) (λ x. omega (arith, x.1, q.1)) p)
slides_one f n h (Number a) (Number b) p q =
    ap Number (⊎_elim (λ x. ⊎_elim (λ y. x.1 ∙ sym y.1) (λ y. absurd (omega (arith, x.0, y.0))) q)
    (λ x. ⊎_elim (λ y. absurd (omega (arith, x.0, y.0))) (λ y. greatest_one x.2 y.2) q) p)
slides_one f n h (Number a) Off p q = absurd q
slides_one f n h Off w p q = absurd p

pub leans_one : (b n m : ℕ) (v w : Figure) → Leans b n m v → Leans b n m w → v ≡ w
unfolding Leans
leans_one b n m Nothing w p q = absurd p
leans_one b n m (Number x) Nothing p q = absurd q
leans_one b n m (Number x) (Number y) p q = ap Number (least_one p.1 q.1)
leans_one b n m (Number x) Off p q = absurd (omega (arith, p.0))
leans_one b n m Off Nothing p q = absurd q
leans_one b n m Off (Number y) p q = absurd (omega (arith, q.0))
leans_one b n m Off Off p q = refl

-- ---- the ranks, by the tests
pub tip_none : (r o : ℕ) → o ≡ 0 → Ranks lowest (Tips r o) (2 ^ 64 - 1)
unfolding Tips HasRank rank
tip_none r o e = record { figure = Nothing; holds = e; has_rank = tt; ranked = refl }

pub tip_some : (r o : ℕ) {c : ℕ} → r ≤ 2 ^ 40 → (o ≡ 0 → ⊥) → RoundedDown (100 * r) o c → Ranks lowest (Tips r o) c
unfolding Tips HasRank rank
tip_some r o {c} h n d = let k : 0 < o = omega arith in record { figure = Number c; holds = (k, d); has_rank = omega (arith, down_le k d); ranked = refl }

pub slide_zero : (f n h : ℕ) → n ≡ 0 → Ranks lowest (Slides f n h) 0
unfolding Slides HasRank rank
slide_zero f n h e = record { figure = Number 0; holds = inl (e, refl); has_rank = lit< tt; ranked = refl }

pub slide_none : (f n h : ℕ) → (n ≡ 0 → ⊥) → h ≡ 0 → Ranks lowest (Slides f n h) (2 ^ 64 - 1)
unfolding Slides HasRank rank
slide_none f n h k e = record { figure = Nothing; holds = (omega arith, e); has_rank = tt; ranked = refl }

pub slide_some : (f n h : ℕ) {c : ℕ} → f ≤ 1000 → n ≤ 2 ^ 20 → (n ≡ 0 → ⊥) → (h ≡ 0 → ⊥) → RoundedDown (f * n) (10 * h) c → Ranks lowest (Slides f n h) c
unfolding Slides HasRank rank
slide_some f n h {c} p q k l d =
    let z : 0 < 10 * h = omega arith in
    record { figure = Number c; holds = inr (omega arith, omega arith, d); has_rank = omega (arith, down_le z d, mul-le-mul p q); ranked = refl }

pub lean_off : (b n m : ℕ) → n ≡ 0 → Ranks highest (Leans b n m) 0
unfolding Leans HasRank rank
lean_off b n m e = record { figure = Off; holds = e; has_rank = tt; ranked = refl }

pub lean_some : (b n m : ℕ) {c : ℕ} → m ≤ 2 ^ 40 → 0 < 2 * (n * b) → (n ≡ 0 → ⊥) → RoundedUp (1000 * m) (2 * (n * b)) c → Ranks highest (Leans b n m) (2 ^ 64 - 1 - c)
unfolding Leans HasRank rank
lean_some b n m {c} k z e r = record { figure = Number c; holds = (omega arith, r); has_rank = omega (arith, up_le z r); ranked = refl }

-- ---- the same, and whether the figure is exact: a word and SL 0 without weight take no rounding
pub tip_none_told : (r o : ℕ) → o ≡ 0 → RanksTold lowest (Tips r o) (TipsBy Exactly r o) (2 ^ 64 - 1) true
unfolding tip_none
tip_none_told r o e = record { ranks = tip_none r o e; told = e }

pub tip_told : (r o : ℕ) {c : ℕ} {x : Bool} → r ≤ 2 ^ 40 → (o ≡ 0 → ⊥) → Rounding (RoundedDown (100 * r) o) (Exactly (100 * r) o) c x → RanksTold lowest (Tips r o) (TipsBy Exactly r o) c x
unfolding tip_some
tip_told r o {c} {x} h n d =
    record { ranks = tip_some r o h n d.rounded; told = decides_same x (λ e. (pos_of_ne-zero n, e)) (λ p. p.1) d.told }

pub slide_zero_told : (f n h : ℕ) → n ≡ 0 → RanksTold lowest (Slides f n h) (SlidesBy Exactly f n h) 0 true
unfolding slide_zero
slide_zero_told f n h e = record { ranks = slide_zero f n h e; told = inl (e, refl) }

pub slide_none_told : (f n h : ℕ) → (n ≡ 0 → ⊥) → h ≡ 0 → RanksTold lowest (Slides f n h) (SlidesBy Exactly f n h) (2 ^ 64 - 1) true
unfolding slide_none
slide_none_told f n h k e = record { ranks = slide_none f n h k e; told = (pos_of_ne-zero k, e) }

pub slide_told : (f n h : ℕ) {c : ℕ} {x : Bool} → f ≤ 1000 → n ≤ 2 ^ 20 → (n ≡ 0 → ⊥) → (h ≡ 0 → ⊥) → Rounding (RoundedDown (f * n) (10 * h)) (Exactly (f * n) (10 * h)) c x
    → RanksTold lowest (Slides f n h) (SlidesBy Exactly f n h) c x
unfolding slide_some
slide_told f n h {c} {x} p q k l d =
    record {
      ranks = slide_some f n h p q k l d.rounded;
      told = decides_same x (λ e. inr (pos_of_ne-zero k, pos_of_ne-zero l, e)) (λ w. ⊎_elim (λ y. absurd (k y.0)) (λ y. y.2) w) d.told;
    }

pub lean_off_told : (b n m : ℕ) → n ≡ 0 → RanksTold highest (Leans b n m) (LeansBy Exactly b n m) 0 true
unfolding lean_off
lean_off_told b n m e = record { ranks = lean_off b n m e; told = e }

pub lean_told : (b n m : ℕ) {c : ℕ} {x : Bool} → m ≤ 2 ^ 40 → 0 < 2 * (n * b) → (n ≡ 0 → ⊥) → RoundsUp (1000 * m) (2 * (n * b)) c x
    → RanksTold highest (Leans b n m) (LeansBy Exactly b n m) (2 ^ 64 - 1 - c) x
unfolding lean_some
lean_told b n m {c} {x} k z e r =
    record { ranks = lean_some b n m k z e r.rounded; told = decides_same x (λ y. (pos_of_ne-zero e, y)) (λ p. p.1) r.told }

-- ---- a figure that is plainly no worse than one so far, with no division
lt_of_suc : {m n : ℕ} → m + 1 ≤ n → m < n
lt_of_suc p = omega arith

pub tip_above : (r o last : ℕ) → r ≤ 2 ^ 40 → last < 2 ^ 24 → o * (last + 1) ≤ 100 * r → (n : ℕ) × Ranks lowest (Tips r o) n × (last < n)
tip_above r o last h l k =
    by_cases (ℕ_discrete o 0) (λ e. (2 ^ 64 - 1, tip_none r o e, omega arith))
    (λ e. let d = down_div (100 * r) o (pos_of_ne-zero e) in (100 * r / o, tip_some r o h e d, lt_of_suc (d.greatest (last + 1) (rw (mul_comm (last + 1) o) k))))

pub slide_above : (f n h last : ℕ) → f ≤ 1000 → n ≤ 2 ^ 20 → 0 < n → last < 2 ^ 24 → 10 * h * (last + 1) ≤ f * n → (m : ℕ) × Ranks lowest (Slides f n h) m × (last < m)
slide_above f n h last p q z l k =
    let some_n : n ≡ 0 → ⊥ = λ e. omega arith in
    by_cases (ℕ_discrete h 0) (λ e. (2 ^ 64 - 1, slide_none f n h some_n e, omega arith))
    (λ e.
    let d = down_div (f * n) (10 * h) (omega arith) in
    (f * n / (10 * h), slide_some f n h p q some_n e d, lt_of_suc (d.greatest (last + 1) (rw (mul_comm (last + 1) (10 * h)) k))))
