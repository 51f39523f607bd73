-- What `laid` answers: the fills of a member laid over values, each at its soil and slope.
use Rattle.std.specs.Prelude.{ℕ, suc, ◌<◌, ◌≡◌, List, length}
use Rattle.fields.specs.declared.names.Name.{Name}
use Rattle.fills.specs.declared.fill_rows.Fill.{Fill}
use Rattle.fills.specs.declared.digest.FillWords.{FillWords}
use Rattle.fills.specs.FillBook.{Lists}
use Rattle.fills.specs.digest.Digest.{DigestOf}
use Rattle.fills.specs.Values.{cell, FiveByFive}

-- the value that one of the first n fills lists there, or what was held before
pub data LaidAt (fs : List Fill) (n : ℕ) (member : Name) (soil slope before after : ℕ) : Type 0 where
  listed : {value : ℕ} (l : Lists fs member soil slope value) → l.at < n → after ≡ value → LaidAt fs n member soil slope before after
  unlisted : ((value : ℕ) (l : Lists fs member soil slope value) → l.at < n → ⊥) → after ≡ before → LaidAt fs n member soil slope before after

pub record LaidOver (fs : List Fill) (n : ℕ) (member : Name) (before after : List (List ℕ)) : Type 0 where
  pub shape : FiveByFive after
  pub each : (i j : ℕ) → i < 5 → j < 5 → LaidAt fs n member (suc i) (suc j) (cell before i j) (cell after i j)

-- these are some fills in words
pub record Held (ws : List FillWords) : Type 0 where
  pub fills : List Fill
  pub digest : DigestOf fills ws

-- of whatever fills they are
abbrev pub Laid : List FillWords → Name → List (List ℕ) → List (List ℕ) → Type 0
Laid ws member before after = (fs : List Fill) → DigestOf fs ws → LaidOver fs (length ws) member before after
