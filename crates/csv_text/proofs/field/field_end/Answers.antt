-- A field has one end, so what follows that end decides.
use Rattle.std.proofs.Common.{arith, ◌<◌, length}
use Rattle.csv_text.specs.rfc4180.Rfc4180.{CR, LF}
use Rattle.arithmetic.proofs.Deciding.{decided, refuted, decides_both}
use Rattle.csv_text.proofs.field.Scan.{two_bytes_first, no_stop}
use Rattle.csv_text.proofs.field.Ends.{not_followed}
use Rattle.csv_text.proofs.field.field_end.Goals as goal

pub returns-then-byte_is-2 : goal.returns-then-byte_is-2
returns-then-byte_is-2 c =
    (c.in_ok-end.ensures.field, two_bytes_first c.args.s.now c.in_ok-end.end CR LF (decided _ c.if-byte_is-2.true (decides_both _ _ c.byte_is-2.result c.byte_is-3.result c.byte_is-2.ensures c.byte_is-3.ensures)))

pub returns : goal.returns
returns c =
    let s = c.args.s.now in
    let e = c.in_ok-end.end in
    let h = c.in_ok-end.ensures.field.within in
    let n : e < length s = omega arith in
    let nr = refuted _ c.if-byte_is-2.false (decides_both _ _ c.byte_is-2.result c.byte_is-3.result c.byte_is-2.ensures c.byte_is-3.ensures) in
    not_followed s c.args.at e c.in_ok-end.ensures (no_stop s e n (refuted _ c.if-byte_is.false c.byte_is.ensures) nr)
