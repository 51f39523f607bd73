-- The discriminant tells how many doubles follow.
use Prim.Native.Nat.{ℕ, ◌+◌, ◌-◌, ◌*◌, ◌≤◌}
use mathlib.Core.Path.{◌≡◌, sym, ap, subst, ◌∙◌}
use mathlib.Core.List.{List}
use native.Mathlib.Omega.{arith}
use lib.Ieee.{Float}
use lib.ListN.{length, take, drop}
use Rattle.reactions.specs.declared.xdr.FrameLoad.{FrameLoad}
use Rattle.reactions.specs.xdr.Record.{Double, discriminant, LoadBytes}
use Rattle.reactions.proofs.xdr.Records.{discriminant_of, force_first, line_first, pressure_first, to_end}
use Rattle.reactions.proofs.xdr.first_load.Goals as goal

-- the double that stands first from a place to the end
from : (s : List ℕ) (n : ℕ) {x : Float} → Double (take 8 (take (length s - n) (drop n s))) x → Double (take 8 (drop n s)) x
from s n {x} d = subst (λ (t : List ℕ). Double (take 8 t) x) (to_end s n) d

-- a discriminant that is known, with room for what it asks
told : (s : List ℕ) (case n : ℕ) → take 4 s ≡ discriminant case → 12 + 8 * case ≤ length s → case ≡ n → n ≤ 2 → {load : FrameLoad}
    → (take 4 s ≡ discriminant n → LoadBytes (take (12 + 8 * n) s) load)
    → (12 + 8 * case ≤ 28) × (12 + 8 * case ≤ length s) × LoadBytes (take (12 + 8 * case) s) load
told s case n first fits e l {load} is =
    (omega arith, fits, subst (λ (k : ℕ). LoadBytes (take (12 + 8 * k) s) load) (sym e) (is (first ∙ ap discriminant e)))

pub returns-then-case-eq0 : goal.returns-then-case-eq0
returns-then-case-eq0 c =
    let s = c.args.s.now in
    let first = discriminant_of s _ (omega arith) (λ k. omega (arith, c.type_inv.s k)) c.first_number-case.ensures (omega arith) in
    told s _ 0 first (omega arith) (omega arith) (omega arith) (λ e. force_first s e (from s 4 c.first_double-first.ensures))

pub returns-then-case-eq1 : goal.returns-then-case-eq1
returns-then-case-eq1 c =
    let s = c.args.s.now in
    let first = discriminant_of s _ (omega arith) (λ k. omega (arith, c.type_inv.s k)) c.first_number-case.ensures (omega arith) in
    told s _ 1 first (omega arith) (omega arith) (omega arith) (λ e. line_first s e (from s 4 c.first_double-first.ensures) (from s 12 c.first_double-second.ensures))

pub returns : goal.returns
returns c =
    let s = c.args.s.now in
    let first = discriminant_of s _ (omega arith) (λ k. omega (arith, c.type_inv.s k)) c.first_number-case.ensures (omega arith) in
    told s _ 2 first (omega arith) (omega arith) (omega arith)
    (λ e. pressure_first s e (from s 4 c.first_double-first.ensures) (from s 12 c.first_double-second.ensures) (from s 20 c.first_double-third.ensures))
