-- There is room for a byte more, and the bytes with it make the number then.
use Prim.Native.Nat.{ℕ, ◌+◌, ◌*◌, ◌<◌}
use mathlib.Core.Path.{◌≡◌, sym, subst, ◌∙◌}
use native.Mathlib.Omega.{arith}
use lib.ListN.{get_or, length-take}
use Rattle.std.proofs.lemmas.List.{get_or-take}
use Rattle.reactions.proofs.xdr.Words.{NumberRead, number_room, number_more}
use Rattle.reactions.proofs.xdr.first_number.Goals as goal

pub overflow_mul-number : goal.overflow_mul-number
overflow_mul-number c =
    omega (arith, number_room _ _ _ _ c.loop-byte.invariant (omega (arith, length-take c.args.count c.args.s.now)) c.requires.0)

-- the byte of this turn
byte : (c : goal.After-from) → c.from.result ≡ get_or c.args.s.now c.loop-byte.byte-index 0
byte c = c.from.ensures ∙ get_or-take c.args.count c.args.s.now c.loop-byte.byte-index 0 (omega (arith, length-take c.args.count c.args.s.now))

pub overflow_add-number : goal.overflow_add-number
overflow_add-number c =
    omega
    (arith, number_room _ _ _ _ c.loop-byte.invariant (omega (arith, length-take c.args.count c.args.s.now)) c.requires.0, byte c, c.type_inv.s c.loop-byte.byte-index)

pub loop-byte-preserved : goal.loop-byte-preserved
loop-byte-preserved c =
    let i = c.loop-byte.byte-index in
    let more : i < c.args.count = omega (arith, length-take c.args.count c.args.s.now) in
    subst (λ (b : ℕ). NumberRead c.args.s.now c.args.count (i + 1) (c.loop-byte.number * 256 + b)) (sym (byte c))
    (number_more c.args.s.now c.args.count i c.loop-byte.number c.loop-byte.invariant more c.requires.0 c.requires.1 (omega (arith, c.type_inv.s i)))
