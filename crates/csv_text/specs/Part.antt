-- A stretch of a text by its places.
use Rattle.std.specs.Prelude.{ℕ, ◌-◌, List, take, drop}

-- the stretch from `at` up to e, as the source's `&s[at..e]` has it
abbrev pub part : ℕ → ℕ → List ℕ → List ℕ
part at e s = take (e - at) (drop at s)
