-- Load, arm, load and arm follow each other to the end, and where a test fails the bytes are no record.
use Prim.Native.Nat.{ℕ, ◌+◌}
use mathlib.Core.Path.{sym, subst}
use mathlib.Core.List.{List}
use native.Mathlib.Omega.{arith}
use lib.ListN.{take}
use Rattle.std.specs.Prelude.{Some, None}
use Rattle.reactions.specs.xdr.Record.{Double}
use Rattle.reactions.specs.xdr.steps.Reading.{BeginsWith, RecordIs}
use Rattle.reactions.proofs.xdr.Records.{to_end, behind_arm, whole_length, assembled}
use Rattle.reactions.proofs.xdr.read_record.Goals as goal

pub returns-in_err-vertical : goal.returns-in_err-vertical
returns-in_err-vertical c =
    subst (RecordIs _) (sym c.from_residual.ensures) (λ r p. c.in_err-vertical.ensures p.vertical _ r.vertical p.are p.vertical_is)

pub returns-in_err-horizontal : goal.returns-in_err-horizontal
returns-in_err-horizontal c =
    let s = c.args.s.now in
    let n = c.in_ok-vertical.at in
    subst (RecordIs _) (sym c.from_residual-in_err-horizontal.ensures)
    (λ r p.
    subst (λ (t : List ℕ). BeginsWith t None) (to_end s (n + 8)) c.in_err-horizontal.ensures p.horizontal p.y r.horizontal
    (behind_arm s n c.in_ok-vertical.ensures.2 p) p.horizontal_is)

pub returns-then-s-last : goal.returns-then-s-last
returns-then-s-last c = λ r p.
    let s = c.args.s.now in
    let n = c.in_ok-vertical.at in
    let second = subst (λ (t : List ℕ). BeginsWith t (Some (c.in_ok-horizontal.horizontal, c.in_ok-horizontal.size))) (to_end s (n + 8)) c.in_ok-horizontal.ensures in
    let long = whole_length s n c.in_ok-vertical.ensures.2 c.in_ok-horizontal.size second.2 second.1 p in
    let other = c.if-s-last.true in
    omega arith

pub returns : goal.returns
returns c =
    let s = c.args.s.now in
    let n = c.in_ok-vertical.at in
    let m = c.in_ok-horizontal.size in
    let second = subst (λ (t : List ℕ). BeginsWith t (Some (c.in_ok-horizontal.horizontal, m))) (to_end s (n + 8)) c.in_ok-horizontal.ensures in
    let x = subst (λ (t : List ℕ). Double (take 8 t) c.first_double-x.result) (to_end s n) c.first_double-x.ensures in
    let y = subst (λ (t : List ℕ). Double (take 8 t) c.first_double-y.result) (to_end s (n + 8 + m)) c.first_double-y.ensures in
    assembled s n c.in_ok-vertical.ensures.2 m second.2 second.1 x c.if-s-last.false y
