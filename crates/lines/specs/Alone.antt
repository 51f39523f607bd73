-- Document 01, The printed answer: what `stands_alone` answers.
use Rattle.std.specs.Prelude.{◌≡◌, Bool, true, false, List, []}
use Rattle.lines.specs.declared.Verdict.{Verdict}
use Rattle.lines.specs.Lines.{PrintedLine, unless_refused}

-- whether VERDICT stands alone
abbrev pub Alone : Bool → Verdict → Type 0
Alone true verdict = (later : List PrintedLine) → unless_refused verdict later ≡ []
Alone false verdict = (later : List PrintedLine) → unless_refused verdict later ≡ later
