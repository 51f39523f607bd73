-- What `first_load` and `read_record` answer.
use Rattle.std.specs.Prelude.{ℕ, ◌≤◌, ◌≡◌, List, ◌++◌, length, take, Option, Some, None}
use Rattle.reactions.specs.declared.xdr.FrameLoad.{FrameLoad}
use Rattle.reactions.specs.declared.xdr.Reaction.{Reaction}
use Rattle.reactions.specs.xdr.Record.{LoadBytes, IsRecord}

-- the load that bytes begin with, and how many they are; or that they begin with none
abbrev pub BeginsWith : List ℕ → Option (FrameLoad × ℕ) → Type 0
BeginsWith s (Some (load, size)) = (size ≤ 28) × (size ≤ length s) × LoadBytes (take size s) load
BeginsWith s None = (a rest : List ℕ) (load : FrameLoad) → s ≡ a ++ rest → LoadBytes a load → ⊥

-- what a record holds, or that the bytes are none
abbrev pub RecordIs : List ℕ → Option Reaction → Type 0
RecordIs s (Some r) = IsRecord s r
RecordIs s None = (r : Reaction) → IsRecord s r → ⊥
