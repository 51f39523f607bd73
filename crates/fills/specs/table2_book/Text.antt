-- Document 02, P4: the common book that is shipped, Table 2 of document 01 (002, 5.7.2) "in the same layout with the member empty": soil by
-- soil and slope by slope, a row for each place that is not blank, its note empty too.
use Rattle.std.specs.Prelude.{ℕ, suc, List, [], ◌∷◌, ◌++◌, None, Some}
use Rattle.block.specs.Decimal.{decimal}
use Rattle.block.specs.Fields.{field, line_end}
use Rattle.fields.specs.names.Names.{no_name}
use Rattle.earth.specs.coefficients.Coefficients.{Coefficient}
use Rattle.earth.specs.table2.Table2.{table2}
use Rattle.fills.specs.declared.fill_rows.Fill.{Fill}

-- the fills of a soil, from a slope on
unfoldable pub soil_fills : ℕ → ℕ → List Coefficient → List Fill
soil_fills soil slope [] = []
soil_fills soil slope (None ∷ places) = soil_fills soil (suc slope) places
soil_fills soil slope (Some value ∷ places) = record { member = no_name; soil = soil; slope = slope; value = value } ∷ soil_fills soil (suc slope) places

-- the fills of a table, from a soil on
unfoldable pub table_fills : ℕ → List (List Coefficient) → List Fill
table_fills soil [] = []
table_fills soil (places ∷ soils) = soil_fills soil 1 places ++ table_fills (suc soil) soils

-- a row, such as `,1,1,4609,`: the member is empty, and so is the note
unfoldable pub row_text : Fill → List ℕ
row_text f = field (decimal f.soil) ++ (field (decimal f.slope) ++ (field (decimal f.value) ++ field []))

-- rows, each with its CRLF
unfoldable pub book_text : List Fill → List ℕ
book_text [] = []
book_text (f ∷ fs) = row_text f ++ (line_end ++ book_text fs)

unfoldable pub table2_fills : List Fill
table2_fills = table_fills 1 table2

unfoldable pub table2_text : List ℕ
table2_text = book_text table2_fills
