-- No key passed is this one.
use Rattle.std.proofs.Common.{ℕ, ◌≡◌, ◌<◌, length, get_or}
use Rattle.rows.specs.keys.Among.{void_key}
use Rattle.rows.proofs.keys.may_begin.Given as goal

abbrev pub invariant-loop-used : goal.invariant-loop-used
invariant-loop-used l = record { few : length l.keys < 64; others : (i : ℕ) → i < l.used-index → get_or l.keys i void_key ≡ l.key → ⊥ }
