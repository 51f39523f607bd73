-- A name's first len bytes are put, all 12 where len is above that.
use Prim.Native.Nat.{ℕ, min}
use mathlib.Core.Path.{◌≡◌, sym, ap, ◌∙◌}
use native.Mathlib.Omega.{arith}
use borrow.Author.Rules.{rules}
use lib.ListN.{length, take, length-take}
use Rattle.std.proofs.lemmas.List.{take_min}
use Rattle.printing.specs.line_key.Text.{name_bytes}
use Rattle.block.proofs.Pages.{put_as}
use Rattle.printing.proofs.line_key.put_name.Goals as goal

pub returns : goal.returns
unfolding name_bytes
returns c =
    let bytes = c.args.name.bytes in
    let whole : length bytes ≡ 12 = search rules in
    let same : take c.args.name.len bytes ≡ take c.min-len.result bytes =
    sym (take_min c.args.name.len bytes) ∙ ap (λ (n : ℕ). take (min c.args.name.len n) bytes) whole ∙ ap (λ (n : ℕ). take n bytes) (sym c.min-len.ensures) in
    put_as _ _ _ _ 12 12 same (omega arith) (record { is = c.put.ensures; short = rw length-take (omega (arith, c.min-len.ensures)) })
