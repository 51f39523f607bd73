-- Whether a job begins has one answer.
use Prim.Native.Nat.{ℕ}
use native.Mathlib.Omega.{arith}
use mathlib.Core.Path.{◌≡◌, refl, sym, ap, ◌∙◌}
use mathlib.Core.List.{List}
use Rattle.arithmetic.proofs.Cases.{impossible}
use Rattle.rows.specs.refusals.Numbers.{refusal_number}
use Rattle.rows.specs.declared.keys.Key.{Key}
use Rattle.std.specs.Prelude.{Result, Ok, Err}
use Rattle.rows.specs.declared.refusals.Refusal.{Refusal}
use Rattle.rows.specs.keys.Beginning.{BeginningTold, beginning_told, BeginningSays, surplus, reused, unused, BeginningIs}
use Rattle.rows.proofs.refusals.Numbers.{number_one}

beginning_says_one : {ks : List Key} {n : ℕ} {k : Key} {t u : BeginningTold} → BeginningSays ks n k t → BeginningSays ks n k u → t ≡ u
beginning_says_one (surplus l p) (surplus m q) = p ∙ sym q
beginning_says_one (surplus l p) (reused m u q) = absurd (omega arith)
beginning_says_one (surplus l p) (unused m u q) = absurd (omega arith)
beginning_says_one (reused l u p) (surplus m q) = absurd (omega arith)
beginning_says_one (reused l u p) (reused m v q) = p ∙ sym q
beginning_says_one (reused l u p) (unused m v q) = absurd (v u)
beginning_says_one (unused l u p) (surplus m q) = absurd (omega arith)
beginning_says_one (unused l u p) (reused m v q) = absurd (u v)
beginning_says_one (unused l u p) (unused m v q) = p ∙ sym q

-- each of the enum's cases is told in its own way
beginning_told_one : (a b : Result (Unit {0}) Refusal) → beginning_told a ≡ beginning_told b → a ≡ b
beginning_told_one (Ok a) (Ok b) e = refl
beginning_told_one (Ok _) (Err why) e = impossible cc
beginning_told_one (Err why) (Ok _) e = impossible cc
beginning_told_one (Err why) (Err na) e =
    let p : refusal_number why ≡ refusal_number na = cc in
    ap Err (number_one why na p)

pub beginning_one : (ks : List Key) (n : ℕ) (k : Key) (a b : Result (Unit {0}) Refusal) → BeginningIs ks n k a → BeginningIs ks n k b → a ≡ b
beginning_one ks n k a b p q = beginning_told_one a b (beginning_says_one p q)
