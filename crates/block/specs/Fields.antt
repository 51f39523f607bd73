-- Document 01, The printed answer: how fields and lines are set apart.
use Rattle.std.specs.Prelude.{ℕ, List, [], ◌∷◌}
use Rattle.csv_text.specs.rfc4180.Rfc4180.{CR, LF, COMMA}

-- a field behind the first of a row: a comma, and its content
abbrev pub field : List ℕ → List ℕ
field t = COMMA ∷ t

-- "Lines end with CRLF."
abbrev pub line_end : List ℕ
line_end = CR ∷ LF ∷ []
