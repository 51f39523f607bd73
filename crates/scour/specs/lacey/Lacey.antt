-- Document 01, "River rules" for scour (002, 4.5.3, 4.6 and 6.9.1), each rule in the paper's words and letters. Lengths in mm, discharges in l/s,
-- q in l/s on each metre of the waterway, silt factors in thousandths. Document 02, P7: "Every rounding is to tell also whether it was exact."
use Rattle.std.specs.Prelude.{Bool, List, [], ◌∷◌, ℕ, ◌-◌, ◌*◌, ◌^◌, ◌≤◌, get_or}
use Rattle.arithmetic.specs.rounding.Least.{RoundedUp}
use Rattle.arithmetic.specs.rounding.Rounding.{LeastReaching, RoundsUp}

-- 4.5.3. "Regime width is met if 10,000,000 W² >= 483,537² Q (1.811 times 2.67)."
abbrev pub RegimeMet : ℕ → ℕ → Type 0
RegimeMet Q W = 483537 ^ 2 * Q ≤ 10000000 * W ^ 2

-- 4.6.3. "Then D is the least whole mm with D³f >= 473³ Qf." 02, P7: exact where they are equal
abbrev pub RegimeDepth : ℕ → ℕ → ℕ → Bool → Type 0
RegimeDepth Qf f D exact = LeastReaching (λ d. d ^ 3 * f) (473 ^ 3 * Qf) D exact

-- 4.6.4. "Otherwise q = 1,000 Qf/W rounded up,"
abbrev pub Intensity : ℕ → ℕ → ℕ → Type 0
Intensity Qf W q = RoundedUp (1000 * Qf) W q

-- "and D is the least with 1,000 f D³ >= 1,338³ q²." 02, P7: exact where they are equal
abbrev pub ConstrictedDepth : ℕ → ℕ → ℕ → Bool → Type 0
ConstrictedDepth q f D exact = LeastReaching (λ d. 1000 * f * d ^ 3) (1338 ^ 3 * q ^ 2) D exact

-- 4.6.6. "Greatest scour, rounded up: D times 1.25, 1.5, 1.75, 2, 2.75 for reach 1 to 5.", in hundredths
abbrev pub reaches : List ℕ
reaches = 125 ∷ 150 ∷ 175 ∷ 200 ∷ 275 ∷ []

abbrev pub GreatestScour : ℕ → ℕ → ℕ → Type 0
GreatestScour D reach greatest = RoundedUp (get_or reaches (reach - 1) 0 * D) 100 greatest

-- "Depth needed: 1.33 times that (6.9.1), rounded up." 02, P7: "SC reports the rounding of the 1.33"
pub record DepthNeeded (D reach needed : ℕ) (exact : Bool) : Type 0 where
  pub greatest : ℕ
  pub scour : GreatestScour D reach greatest
  pub rounded : RoundsUp (133 * greatest) 100 needed exact
