-- Key, VERDICT, value and four empty fields, one behind the other.
use Prim.Native.Nat.{ℕ}
use mathlib.Core.Path.{refl}
use mathlib.Core.List.{List, [], ◌++◌}
use Rattle.lines.specs.Lines.{verdict_line}
use Rattle.printing.specs.line_fields.Text.{name_text, number_text, mark_text, exactness_text}
use Rattle.printing.specs.Text.{line_text}
use Rattle.block.specs.Fields.{field, line_end}
use Rattle.block.proofs.Pages.{spelled, then_put}
use Rattle.printing.proofs.put_verdict.Goals as goal

-- limit, set, Y or N, and E or R
abbrev rest_empty : List ℕ
rest_empty = field [] ++ (field [] ++ (field [] ++ (field [] ++ line_end)))

pub returns : goal.returns
unfolding line_text verdict_line name_text number_text mark_text exactness_text
returns c =
    then_put _ _ _ _ _ 26 17 c.put_key.ensures
    (then_put _ _ _ _ _ 7 10 (spelled _ _ _ _ 7 refl c.put.ensures tt)
    (then_put _ _ _ _ _ 4 6 c.put_verdict_value.ensures (spelled _ _ _ rest_empty 6 refl c.put-2.ensures tt)))
