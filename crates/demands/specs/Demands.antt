-- The four demands, whatever two fill books are lent (02, P4). They are said of `Called` and `BookPrinted`: that each call ends, with an answer as these
-- have it, is the promise of `debtarush::job_lines` and `debtarush::book_lines`, which asks nothing.
use Rattle.demands.specs.Demand1.{Demand1}
use Rattle.demands.specs.Demand2.{Demand2}
use Rattle.demands.specs.Demand3.{Demand3}
use Rattle.demands.specs.Demand4.{Demand4}

pub record Demands : Type 0 where
  -- every string of bytes is a book, whatever two strings are lent as fill books
  pub first : Demand1
  -- each answer is the code's
  pub second : Demand2
  -- while both fill books are accepted, exactly the job books are read; each book has one reading; and a job's lines depend on its own key, kinds and
  -- numbers and on what the fill books hold for its member alone
  pub third : Demand3
  -- what is printed of a book is what the calls for its jobs write
  pub fourth : Demand4
