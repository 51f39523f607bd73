-- With A or N the later lines stand, with a refusal none of them: the three lines of `unless_refused`.
use native.Mathlib.Omega.{arith}
use mathlib.Core.Path.{◌≡◌, refl, ap}
use mathlib.Core.Logic.{⊎_elim}
use mathlib.Core.List.{List, [], ◌∷◌}
use Prim.Native.Nat.{ℕ}
use types.Run.{OneOf}
use denote.Enum.Declared.{tag_of}
use Rattle.lines.specs.declared.Verdict.{Verdict}
use Rattle.lines.specs.declared.Verdict.TheVariants.{Accepted, NotAccepted, Refused}
use Rattle.lines.specs.Lines.{PrintedLine, unless_refused}
use Rattle.lines.specs.contracts.Verdict.{the_type}
use borrow.Author.Rules.{rules}
use Rattle.lines.proofs.stands_alone.Statement.{statement}
use Rattle.lines.proofs.stands_alone.Tie as tie

-- A and N are the first two verdicts
unrefused : (v : Verdict) → OneOf (0 ∷ 1 ∷ []) (tag_of the_type v) → (later : List PrintedLine) → unless_refused v later ≡ later
unfolding unless_refused
unrefused Accepted t later = refl
unrefused NotAccepted t later = refl
unrefused (Refused n) t later = absurd (⊎_elim (λ (e : ◌≡◌ {A = ℕ} 2 0). omega arith) (λ (e : ◌≡◌ {A = ℕ} 2 1). omega arith) t)

enum_told : tie.Need-enum_told-1
enum_told c = search rules

returns : tie.Need-returns-in-Accepted
returns c = unrefused c.args.verdict c.in-Accepted.in-Accepted-own.keys1

returns-2 : tie.Need-returns-in-Refused
unfolding unless_refused
returns-2 c = λ later. ap (λ v. unless_refused v later) c.in-Refused.is

pub stands_alone_spec : {M : Type 1} → statement M
stands_alone_spec = tie.close (tie.spec enum_told returns returns-2)
