-- A set that has the row stays, and one that has it not gets what the row counts.
use native.Mathlib.Omega.{arith}
use native.Mathlib.Nat.{one-mul}
use mathlib.Core.Path.{◌≡◌, sym, ◌∙◌, ap}
use Prim.Native.Nat.{ℕ, ◌+◌, ◌*◌, ◌%◌, ◌^◌, ◌<◌}
use lib.Dec.{lit<}
use lib.Pow.{pow_mono, shl_exact}
use Rattle.arithmetic.proofs.Deciding.{decided, refuted}
use Rattle.worst.proofs.trains.Leaders.{with_had, with_added}
use Rattle.worst.proofs.trains.with_row.Statement.{statement}
use Rattle.worst.proofs.trains.with_row.Tie as tie

-- what a row counts is one shifted by its number
place : (row : ℕ) → row < 16 → 1 * 2 ^ row % 2 ^ 64 ≡ 2 ^ row
place row h = shl_exact 1 row 64 (lit< tt) (omega arith) ∙ one-mul (2 ^ row)

holds-requires : tie.Need-holds-requires
holds-requires c κs = omega (arith, c.requires.0)

returns : tie.Need-returns-then-holds
returns c = sym (with_had _ _ (decided c.holds.result c.if-holds.true c.holds.ensures))

shl-result : tie.Need-overflow_shl-result
shl-result c = omega (arith, c.requires.0)

add-result : tie.Need-overflow_add-result
add-result c =
    omega (arith, c.requires.1, place c.args.row c.requires.0, pow_mono {i = c.args.row} {j = 16} (omega (arith, c.requires.0)))

returns-2 : tie.Need-returns
returns-2 c =
    ap (λ (x : ℕ). c.args.set + x) (place c.args.row c.requires.0) ∙ sym (with_added c.args.set c.args.row (refuted c.holds.result c.if-holds.false c.holds.ensures))

pub with_row_spec : {M : Type 1} → statement M
with_row_spec = tie.close (tie.spec holds-requires returns shl-result add-result returns-2)
