-- Document 01, The printed answer: the line of a refused book.
use Rattle.std.specs.Prelude.{ℕ, List, [], ◌∷◌, ◌++◌}
use Rattle.csv_text.specs.rfc4180.Rfc4180.{COMMA}
use Rattle.block.specs.Decimal.{decimal}
use Rattle.block.specs.Fields.{field, line_end}

-- "A refused book prints `,,BOOK,number,row,,`.", and 02, P7 adds the eighth field: "Words, VERDICT and BOOK have it empty."
unfoldable pub book_text : ℕ → ℕ → List ℕ
book_text refusal row =
    (COMMA ∷ COMMA ∷ 0x42 ∷ 0x4F ∷ 0x4F ∷ 0x4B ∷ [])
    ++ (field (decimal refusal) ++ (field (decimal row) ++ (COMMA ∷ COMMA ∷ COMMA ∷ line_end)))
