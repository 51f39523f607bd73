-- A comma, then the digits; a number of 64 bits has at most 20.
use Prim.Native.Nat.{◌<◌}
use mathlib.Core.List.{[], ◌∷◌}
use native.Mathlib.Omega.{arith}
use borrow.Author.Rules.{rules}
use Rattle.csv_text.specs.rfc4180.Rfc4180.{COMMA}
use Rattle.block.proofs.Numbers.{decimal_length}
use Rattle.block.proofs.Pages.{then}
use Rattle.block.proofs.Block.put_number.Goals as goal

pub returns-clause-adds : goal.returns-clause-adds
returns-clause-adds c = record { is = then _ _ _ (COMMA ∷ []) _ c.push.ensures c.put_decimal.ensures; short = omega arith }

pub returns-clause-n_len_bound : goal.returns-clause-n_len_bound
returns-clause-n_len_bound c = let small : c.args.n < 18446744073709551616 = search rules in decimal_length 19 c.args.n (omega arith)
