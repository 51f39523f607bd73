-- What `lines_of` answers: the bytes of a job's lines in a block, whole.
use Rattle.std.specs.Prelude.{ℕ, ◌≤◌, ◌≡◌, List, length}
use Rattle.jobs.specs.declared.Job.{Job}
use Rattle.earth.specs.coefficients.Coefficients.{Coefficient}
use Rattle.block.specs.Block.{block_of}
use Rattle.block.specs.declared.Block.{Block}
use Rattle.debtarush.specs.Lines.{TextOf}

pub record LinesIn (fill : ℕ → ℕ → Coefficient) (job : Job) (block : Block) : Type 0 where
  pub bytes : List ℕ
  pub lines : TextOf fill job bytes
  pub fits : length bytes ≤ 2048
  pub held : block ≡ block_of bytes
