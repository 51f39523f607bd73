-- Document 01, Load sets: the figures OP, OM, SL, PR and RK of a set. Lengths are in mm, forces in kN, the friction in thousandths, the
-- pressure in kN/m².
use Rattle.std.specs.Prelude.{◌≡◌, ◌⊎◌, ℕ, ◌+◌, ◌*◌, ◌-◌, ◌≤◌, ◌<◌}
use Rattle.checks.specs.declared.Figure.{Figure}
use Rattle.checks.specs.declared.Figure.TheVariants.{Nothing, Number, Off}

-- Each rule says how a quotient is taken, `by` its rounding; with `Exactly` in its place it says that nothing was rounded away (02, P7).

-- OP and OM: 100·resisting/overturning rounded down; "none" if nothing overturns.
abbrev pub TipsBy : (ℕ → ℕ → ℕ → Type 0) → ℕ → ℕ → Figure → Type 0
TipsBy by resisting overturning Nothing = overturning ≡ 0
TipsBy by resisting overturning (Number v) = (0 < overturning) × by (100 * resisting) overturning v
TipsBy by resisting overturning Off = ⊥

-- Below, n is what N is above zero, so that N ≤ 0 is n ≡ 0; h and m are the sizes of the sum of H and of M.

-- SL: 0 if N ≤ 0; else "none" if the sum of H is 0; else friction·N/(10·|sum of H|) rounded down. 02, P7: "a value that takes no rounding, such
-- as SL 0 without weight, is E".
abbrev pub SlidesBy : (ℕ → ℕ → ℕ → Type 0) → ℕ → ℕ → ℕ → Figure → Type 0
SlidesBy by friction n h Nothing = (0 < n) × (h ≡ 0)
SlidesBy by friction n h (Number v) = ((n ≡ 0) × (v ≡ 0)) ⊎ ((0 < n) × (0 < h) × by (friction * n) (10 * h) v)
SlidesBy by friction n h Off = ⊥

-- PR's two rules, rounded up (5.16.2.5): the whole base is pressed, 10⁶(NB+3|M|)/(B²L); or a part of it, 4·10⁶·N²/(3L(NB-|M|)).
abbrev pub PressesWhole : (ℕ → ℕ → ℕ → Type 0) → ℕ → ℕ → ℕ → ℕ → ℕ → Type 0
PressesWhole by width length n m v = by (1000000 * (n * width + 3 * m)) (width * width * length) v

abbrev pub PressesPart : (ℕ → ℕ → ℕ → Type 0) → ℕ → ℕ → ℕ → ℕ → ℕ → Type 0
PressesPart by width length n m v = by (4000000 * (n * n)) (3 * length * (n * width - m)) v

-- PR: "off" if N ≤ 0 or |M| ≥ NB. If 3|M| ≤ NB, the first rule; else the second.
abbrev pub PressesBy : (ℕ → ℕ → ℕ → Type 0) → ℕ → ℕ → ℕ → ℕ → Figure → Type 0
PressesBy by width length n m Nothing = ⊥
PressesBy by width length n m (Number v) =
    (0 < n) × (m < n * width) × (3 * m ≤ n * width → PressesWhole by width length n m v) × (n * width < 3 * m → PressesPart by width length n m v)
PressesBy by width length n m Off = (n ≡ 0) ⊎ (n * width ≤ m)

-- RK (6.5.3 note): 1,000|M|/(2NB) rounded up; "off" if N ≤ 0.
abbrev pub LeansBy : (ℕ → ℕ → ℕ → Type 0) → ℕ → ℕ → ℕ → Figure → Type 0
LeansBy by width n m Nothing = ⊥
LeansBy by width n m (Number v) = (0 < n) × by (1000 * m) (2 * (n * width)) v
LeansBy by width n m Off = n ≡ 0
