-- A quote alone closes what was passed, and a doubled one is passed as two bytes. Where the text can neither go on nor close, no closing quote
-- comes, however it is cut.
use Rattle.std.proofs.Common.{◌+◌, get_or, arith, subst, sym}
use Rattle.csv_text.specs.rfc4180.Rfc4180.{DQUOTE, Inside}
use Rattle.arithmetic.proofs.Deciding.{decided, refuted}
use Rattle.csv_text.proofs.rfc4180.Parts.{first_byte_is, first_byte_lt, past_first_byte}
use Rattle.csv_text.proofs.quoted.Bytes.{inside_decides}
use Rattle.csv_text.proofs.quoted.Scan.{escape_none, escape_more, escape_quotes, never_closes}
use Rattle.csv_text.proofs.quoted.closing.Goals as goal

pub loop-i-init : goal.loop-i-init
loop-i-init c = record { from = omega arith; within = omega arith; so_far = escape_none _ _ }

pub loop-i-preserved-then-byte_is : goal.loop-i-preserved-then-byte_is
loop-i-preserved-then-byte_is c =
    let inv = c.loop-i.invariant in
    let two = decided _ c.if-byte_is.true c.byte_is.ensures in
    let k = first_byte_lt _ (c.loop-i.i + 1) DQUOTE two.behind two.begins in
    record { from = omega arith; within = omega arith; so_far = escape_quotes _ _ _ inv.from c.loop-i-test.true c.if-b-eq34.true two inv.so_far }

pub loop-i-preserved : goal.loop-i-preserved
loop-i-preserved c =
    let s = c.args.s.now in
    let i = c.loop-i.i in
    let inv = c.loop-i.invariant in
    let inside = decided _ c.if-b-is_text.true (inside_decides (get_or s i 0) c.is_text.result c.is_text.ensures) in
    record { from = omega arith; within = omega arith; so_far = escape_more s _ i inv.from c.loop-i-test.true inside inv.so_far }

pub returns-else-b-is_text : goal.returns-else-b-is_text
returns-else-b-is_text c =
    let s = c.args.s.now in
    let i = c.loop-i.i in
    let inv = c.loop-i.invariant in
    let outside = refuted _ c.if-b-is_text.false (inside_decides (get_or s i 0) c.is_text.result c.is_text.ensures) in
    never_closes _ _ _ inv.from (λ b h g. outside (subst Inside (sym (first_byte_is s i b g.behind g.begins)) h)) (λ g. c.if-b-eq34.false (first_byte_is s i _ g.behind g.begins)) inv.so_far

pub returns : goal.returns
returns c =
    let s = c.args.s.now in
    let i = c.loop-i.i in
    let inv = c.loop-i.invariant in
    never_closes s _ i inv.from (λ b h g. past_first_byte s i b g.behind c.loop-i-test.false g.begins) (λ g. past_first_byte s i _ g.behind c.loop-i-test.false g.begins) inv.so_far
