-- What `put_exactness` and `put_ending` put.
use Rattle.std.specs.Prelude.{ℕ, List, ◌++◌}
use Rattle.lines.specs.Lines.{ExactOrRounded}
use Rattle.block.specs.Fields.{field, line_end}
use Rattle.printing.specs.line_fields.Text.{exactness_text}

-- the eighth field of a line (02, P7), and its end
abbrev pub ending : ExactOrRounded → List ℕ
ending exactness = field (exactness_text exactness) ++ line_end
