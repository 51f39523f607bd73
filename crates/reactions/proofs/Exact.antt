-- Where all factors are whole and every partial product is below 2^53 in size, no product is rounded, and so nothing is rounded.
use lib.IntN.{ℤ}
use Rattle.doubles.specs.Doubles.{Exactly}
use Rattle.doubles.proofs.Products.{exact_product}
use Rattle.doubles.proofs.Wholes.{exactly_nearest}
use lib.Ieee.{binary64, mul}
use Rattle.reactions.specs.declared.xdr.FrameLoad.{FrameLoad}
use Rattle.reactions.specs.Force.{kilonewtons}
use Rattle.reactions.specs.Exact.{WholeLoad, force, line, pressure, ExactWhereWhole}

product : (load : FrameLoad) (z : ℤ) → WholeLoad load z → Exactly (kilonewtons load) z
product _ _ (force f) = f
product _ _ (line {q} {l} {a} {b} p s small) = exact_product q l a b p s small
product _ _ (pressure {p} {s} {t} {a} {b} {c} u v w small less) =
    exact_product (mul binary64 p s) t _ c (exact_product p s a b u v small) w less

pub exact_where_whole : ExactWhereWhole
exact_where_whole = record { product = product; rounded = λ load z w. exactly_nearest (kilonewtons load) z (product load z w) }
