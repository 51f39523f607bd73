-- Whether VERDICT stands alone has one answer.
use Prim.Native.Nat.{ℕ}
use native.Mathlib.Omega.{arith}
use mathlib.Core.Path.{◌≡◌, refl, sym, ap, ◌∙◌}
use mathlib.Core.Bool.{Bool, true, false}
use mathlib.Core.List.{List, [], ◌∷◌}
use lib.ListN.{length}
use Rattle.lines.specs.declared.Verdict.{Verdict}
use Rattle.lines.specs.Lines.{PrintedLine, verdict_line}
use Rattle.lines.specs.Alone.{Alone}

abbrev some_line : Verdict → List PrintedLine
some_line verdict = verdict_line verdict ∷ []

pub alone_one : (verdict : Verdict) (a b : Bool) → Alone a verdict → Alone b verdict → a ≡ b
alone_one verdict true true p q = refl
alone_one verdict true false p q = let e : ◌≡◌ {A = ℕ} 1 0 = ap length (sym (q (some_line verdict)) ∙ p (some_line verdict)) in absurd (omega arith)
alone_one verdict false true p q = let e : ◌≡◌ {A = ℕ} 1 0 = ap length (sym (p (some_line verdict)) ∙ q (some_line verdict)) in absurd (omega arith)
alone_one verdict false false p q = refl
