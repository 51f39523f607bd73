-- Document 02, P7: "Every rounding is to tell also whether it was exact."
use Rattle.std.specs.Prelude.{◌≡◌, Bool, ℕ, ◌*◌, ◌≤◌}
use Rattle.arithmetic.specs.decides.Decides.{Decides}
use Rattle.arithmetic.specs.rounding.Least.{Least, RoundedUp}

-- what every rounding tells: its value, as its rule has it, and whether that value is exact, so that nothing was rounded away
pub record Rounding {A : Type 0} (Rule Exact : A → Type 0) (value : A) (exact : Bool) : Type 0 where
  pub rounded : Rule value
  pub told : Decides exact (Exact value)

-- n is the least whole number whose value under f reaches a, and exact where that value is a
abbrev pub LeastReaching : (ℕ → ℕ) → ℕ → ℕ → Bool → Type 0
LeastReaching f a = Rounding (Least (λ n. a ≤ f n)) (λ n. f n ≡ a)

-- c is a / b, and nothing is rounded away
abbrev pub Exactly : ℕ → ℕ → ℕ → Type 0
Exactly a b c = c * b ≡ a

-- c is a / b rounded up, and exact where nothing is rounded away
abbrev pub RoundsUp : ℕ → ℕ → ℕ → Bool → Type 0
RoundsUp a b = Rounding (RoundedUp a b) (Exactly a b)
