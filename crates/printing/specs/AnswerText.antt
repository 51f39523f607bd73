-- What `answer_text` puts: the bytes of all lines of an answer.
use Rattle.std.specs.Prelude.{ℕ, List}
use Rattle.rows.specs.declared.keys.Key.{Key}
use Rattle.lines.specs.declared.Answer.{Answer}
use Rattle.lines.specs.Lines.{lines_of}
use Rattle.printing.specs.Text.{texts}

unfoldable pub text : Key → Answer → List ℕ
text key answer = texts key (lines_of answer)
