-- Document 01, Refusals of a job, and 02, P1, P3, P4 and P5: what the load rows of a job are told, the lowest of 11 and 15 to 20, or the loads.
use Rattle.std.specs.Prelude.{List, ℕ, ◌<◌, take, Result, Ok, Err}
use Rattle.arithmetic.specs.rounding.Least.{Least}
use Rattle.kinds.specs.declared.Row.{Row}
use Rattle.earth.specs.coefficients.Coefficients.{Coefficient}
use Rattle.sets.specs.declared.Loads.{Loads}
use Rattle.kinds.specs.declared.refusals.JobRefusal.{JobRefusal}
use Rattle.kinds.specs.refusals.Refusals.{refusal_number}
use Rattle.loads.specs.LoadRows.{AllRanged, NoneBlank, AllUpright, AllNamed, AllAbove, NoTypeE, optionals, AreLoads}

-- an answer in the paper's numbers
pub data LoadsTold : Type 0 where
  refused : ℕ → LoadsTold
  given : Loads → LoadsTold

abbrev pub loads_told : Result Loads JobRefusal → LoadsTold
loads_told (Err refusal) = refused (refusal_number refusal)
loads_told (Ok loads) = given loads

-- "given exactly when", of the load rows
pub data RowsWhen (fill : ℕ → ℕ → Coefficient) (rows : List Row) : ℕ → Type 0 where
  out_of_range : (AllRanged rows → ⊥) → RowsWhen fill rows 11
  blank : (NoneBlank fill rows → ⊥) → RowsWhen fill rows 15
  too_many : 12 < optionals rows → RowsWhen fill rows 16
  upper_below_lower : (AllUpright rows → ⊥) → RowsWhen fill rows 17
  no_train : (AllNamed rows → ⊥) → RowsWhen fill rows 18
  not_above : (AllAbove rows → ⊥) → RowsWhen fill rows 19
  type_e : (NoTypeE rows → ⊥) → RowsWhen fill rows 20

-- "Order as numbered": the least of their numbers, or the loads
pub data LoadsSays (fill : ℕ → ℕ → Coefficient) (rows : List Row) : LoadsTold → Type 0 where
  refuses : {n : ℕ} → Least (RowsWhen fill rows) n → LoadsSays fill rows (refused n)
  loaded : {loads : Loads} → ((n : ℕ) → RowsWhen fill rows n → ⊥) → AreLoads fill rows loads → LoadsSays fill rows (given loads)

-- the whole answer: the load rows are the first `count` of the 16
abbrev pub LoadsAnswered : (ℕ → ℕ → Coefficient) → List Row → ℕ → Result Loads JobRefusal → Type 0
LoadsAnswered fill rows count taken = LoadsSays fill (take count rows) (loads_told taken)
