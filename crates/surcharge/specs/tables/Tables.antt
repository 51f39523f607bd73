-- Document 02, P5: "loading standard 1 to 7 of Table 3", "Coefficients come from 5.8.5" (002, 5.8.1, Table 3, and 5.8.5).
use Rattle.std.specs.Prelude.{List, [], ◌∷◌, ℕ, ◌-◌, get_or}

-- Table 3, a place for each standard of loading: 1, DFC loading (32.5 t axle load); 2, 25 t loading, 2008; 3, HM loading, 1995; 4, modified BG, 1987;
-- 5, modified MG, 1988; 6, MGML; 7, NG 'A' class.
-- S, the live surcharge in kg/m
abbrev pub surcharges : List ℕ
surcharges = 16300 ∷ 13700 ∷ 15800 ∷ 13700 ∷ 9800 ∷ 9800 ∷ 8300 ∷ []

-- B, the width over which it is spread at formation level, in mm
abbrev pub widths : List ℕ
widths = 3000 ∷ 3000 ∷ 3000 ∷ 3000 ∷ 2100 ∷ 2100 ∷ 1800 ∷ []

-- what Table 3 holds for a standard from 1 to 7; outside these it decides nothing, since 11 is told first
abbrev pub table3_surcharge : ℕ → ℕ
table3_surcharge standard = get_or surcharges (standard - 1) 0

abbrev pub table3_width : ℕ → ℕ
table3_width standard = get_or widths (standard - 1) 0

-- 5.8.5: Ka in hundredths for soils a to d, which are 1 to 4; for e there is none, and 20 is told
abbrev pub actives : List ℕ
actives = 27 ∷ 30 ∷ 39 ∷ 100 ∷ []

abbrev pub active : ℕ → ℕ
active soil = get_or actives (soil - 1) 0
