-- `of_bits` meets its contract: a pattern above that of an infinity, whatever the sign, is not a number, and any other is read as it is.
use mathlib.Core.Path.{◌≡◌, refl, sym, ◌∙◌, subst⁻¹}
use mathlib.Core.Bool.{Bool, true, not}
use Prim.Native.Nat.{◌%◌, ◌^◌}
use native.Mathlib.Omega.{arith}
use lib.Dec.{T}
use lib.Ieee.{Float, nan, inf, fin, binary64, of_bits, div, is_nan}
use lib.Ieee.Bits.{nan_bits_above, nan_bits_is}
use borrow.Author.Tests.{lt-ltb, le-ltb}
use Rattle.arithmetic.proofs.Cases.{impossible}
use Rattle.doubles.proofs.of_bits.Goals as goal

-- zero over zero is not a number, and there is one such double
made : (x : Float) → is_nan x ≡ true → div binary64 (of_bits binary64 0) (of_bits binary64 0) ≡ x
unfolding of_bits div is_nan
made nan e = refl
made (inf s) e = impossible cc
made (fin s m e) h = impossible cc

pub returns-then-bits-gt-ENDLESS : goal.returns-then-bits-gt-ENDLESS
returns-then-bits-gt-ENDLESS c =
    let b = c.args.bits in
    made (of_bits binary64 b) (sym (nan_bits_is binary64 b) ∙ nan_bits_above binary64 b ∙ lt-ltb 0x7FF0000000000000 (b % 2 ^ 63) (omega arith))

pub float_from_bits-result : goal.float_from_bits-result
float_from_bits-result c =
    let b = c.args.bits in
    subst⁻¹ (λ (t : Bool). T (not t)) (nan_bits_above binary64 b ∙ le-ltb 0x7FF0000000000000 (b % 2 ^ 63) (omega arith)) tt
