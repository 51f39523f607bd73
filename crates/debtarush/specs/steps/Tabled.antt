-- What `gather` answers: what the two fill books hold for the member of each job (02, P4), or that one of them is refused.
use Rattle.std.specs.Prelude.{ℕ, ◌<◌, ◌≡◌, Bool, true, false, List, [], length, get_or}
use Rattle.jobs.specs.declared.Job.{Job}
use Rattle.jobs.specs.Blank.{no_job}
use Rattle.earth.specs.coefficients.Lent.{fill_of}
use Rattle.fills.specs.Says.{Accepted, FillFor}

-- a table of what is held for each of the first so many jobs
pub record Tabled (own common : List ℕ) (jobs : List Job) (n : ℕ) (tables : List (List (List ℕ))) : Type 0 where
  pub accepted : Accepted own common
  pub long : length tables ≡ 64
  pub each : (i : ℕ) → i < n → FillFor own common (get_or jobs i no_job).key.member (fill_of (get_or tables i []))

abbrev pub FillsGiven : Bool → List ℕ → List ℕ → List Job → ℕ → List (List (List ℕ)) → Type 0
FillsGiven true own common jobs n tables = Tabled own common jobs n tables
FillsGiven false own common jobs n tables = Accepted own common → ⊥
