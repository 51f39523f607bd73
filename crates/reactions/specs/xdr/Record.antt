-- Document 02, P6: a record in XDR (RFC 4506), as a relation between its bytes and what it holds.
use Rattle.std.specs.Prelude.{ℕ, ◌+◌, ◌*◌, ◌≡◌, List, [], ◌∷◌, ◌++◌, length, Float}
use Rattle.std.specs.Float.{binary64}
use Rattle.std.specs.Float.Ieee.{of_bits}
use Rattle.reactions.specs.declared.xdr.FrameLoad.{FrameLoad}
use Rattle.reactions.specs.declared.xdr.FrameLoad.TheVariants.{Force, Line, Pressure}
use Rattle.reactions.specs.declared.xdr.Reaction.{Reaction}

-- the number that bytes stand for behind a number, the highest byte first
abbrev pub behind : ℕ → List ℕ → ℕ
behind n [] = n
behind n (b ∷ s) = behind (n * 256 + b) s

-- a double-precision number is eight bytes, the highest first: the bits of IEEE 754
pub record Double (s : List ℕ) (x : Float) : Type 0 where
  pub eight : length s ≡ 8
  pub is : x ≡ of_bits binary64 (behind 0 s)

-- a discriminant is an integer: four bytes, the highest first
abbrev pub discriminant : ℕ → List ℕ
discriminant n = 0 ∷ 0 ∷ 0 ∷ n ∷ []

-- "Each load is an XDR union: 0 a force in kN, 1 a line load with its length, 2 a pressure with its two sides."
pub data LoadBytes (s : List ℕ) (load : FrameLoad) : Type 0 where
  force : {a : List ℕ} {x : Float} → s ≡ discriminant 0 ++ a → Double a x → load ≡ Force x → LoadBytes s load
  line : {a b : List ℕ} {x y : Float} → s ≡ discriminant 1 ++ (a ++ b) → Double a x → Double b y → load ≡ Line x y → LoadBytes s load
  pressure : {a b c : List ℕ} {x y z : Float} → s ≡ discriminant 2 ++ (a ++ (b ++ c)) → Double a x → Double b y → Double c z → load ≡ Pressure x y z → LoadBytes s load

-- "A record holds a vertical load, x, a horizontal load and y." Its bytes are those of the four, one behind the other
pub record IsRecord (s : List ℕ) (r : Reaction) : Type 0 where
  pub vertical : List ℕ
  pub x : List ℕ
  pub horizontal : List ℕ
  pub y : List ℕ
  pub are : s ≡ vertical ++ (x ++ (horizontal ++ y))
  pub vertical_is : LoadBytes vertical r.vertical
  pub x_is : Double x r.x
  pub horizontal_is : LoadBytes horizontal r.horizontal
  pub y_is : Double y r.y
