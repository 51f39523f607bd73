-- Document 02, P1: "shape 1 to 6 of Table 4 (79, 35, 37, 47, 24, 26)" (002, 5.9.2.2, Table 4, the constant K of P = K·A·V² in kg).
use Rattle.std.specs.Prelude.{List, [], ◌∷◌, ℕ, ◌-◌, get_or}

-- a place for each shape: 1, square-ended; 2, circular, or with semi-circular ends; 3 and 4, triangular cut- and ease-waters at 60° and at 90°;
-- 5, cut- and ease-waters of equilateral arcs at 60°; 6, their arcs intersecting at 90°
abbrev pub table4 : List ℕ
table4 = 79 ∷ 35 ∷ 37 ∷ 47 ∷ 24 ∷ 26 ∷ []

-- what Table 4 holds for a shape from 1 to 6; outside these it decides nothing, since 11 is told first
abbrev pub table4_constant : ℕ → ℕ
table4_constant shape = get_or table4 (shape - 1) 0
