-- Document 01, The printed answer: the bytes of a line, and of a job's lines.
use Rattle.std.specs.Prelude.{ℕ, List, [], ◌∷◌, ◌++◌}
use Rattle.rows.specs.declared.keys.Key.{Key}
use Rattle.lines.specs.Lines.{PrintedLine}
use Rattle.block.specs.Fields.{field, line_end}
use Rattle.printing.specs.line_key.Text.{key_text}
use Rattle.printing.specs.line_fields.Text.{name_text, value_text, number_text, mark_text, exactness_text}

-- "Seven fields: member, job, line, value, limit, set, Y or N.", and 02, P7: "an eighth field, E or R"
unfoldable pub line_text : Key → PrintedLine → List ℕ
line_text key line =
    key_text key
    ++ (name_text line.name
    ++ (field (value_text line.value)
    ++ (field (number_text line.limit)
    ++ (field (number_text line.set)
    ++ (field (mark_text line.mark)
    ++ (field (exactness_text line.exactness)
    ++ line_end))))))

-- one line behind the other
unfoldable pub texts : Key → List PrintedLine → List ℕ
texts key [] = []
texts key (line ∷ later) = line_text key line ++ texts key later
