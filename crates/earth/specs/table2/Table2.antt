-- Document 01, "Earth pressure" (002, 5.7.2, Table 2, N): five soils by five slopes.
use Rattle.std.specs.Prelude.{List, [], ◌∷◌, ℕ, zero, suc, get_or, None, Some}
use Rattle.earth.specs.coefficients.Coefficients.{Coefficient}

-- a row for each soil, a to e; in it a place for each slope: level, 6:1, 3:1, 2:1, 1½:1
abbrev pub table2 : List (List Coefficient)
table2 =
    (Some 4609 ∷ Some 4471 ∷ Some 4707 ∷ Some 5962 ∷ Some 8786 ∷ [])
    ∷ (Some 6178 ∷ Some 5805 ∷ Some 6276 ∷ Some 7649 ∷ Some 10787 ∷ [])
    ∷ (Some 7355 ∷ Some 7511 ∷ Some 8090 ∷ Some 9571 ∷ Some 13494 ∷ [])
    ∷ (Some 15690 ∷ Some 16186 ∷ Some 17893 ∷ None ∷ None ∷ [])
    ∷ (Some 18828 ∷ Some 20306 ∷ Some 21189 ∷ None ∷ None ∷ [])
    ∷ []

-- what Table 2 holds for a soil and a slope, each counted from 1
abbrev pub table2_fill : ℕ → ℕ → Coefficient
table2_fill zero slope = None
table2_fill (suc i) zero = None
table2_fill (suc i) (suc j) = get_or (get_or table2 i []) j None
