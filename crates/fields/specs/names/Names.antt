-- Document 01, the job book: "Member and job: 1 to 12 of A-Z, 0-9, hyphen".
use Rattle.std.specs.Prelude.{ℕ, ◌-◌, ◌≤◌, ◌<◌, ◌≡◌, List, [], ◌++◌, length, get_or, replicate}
use Rattle.fields.specs.declared.names.Name.{Name}

-- A-Z, 0-9, hyphen
pub data Letter (b : ℕ) : Type 0 where
  hyphen : b ≡ 0x2D → Letter b
  digit : 0x30 ≤ b → b ≤ 0x39 → Letter b
  upper : 0x41 ≤ b → b ≤ 0x5A → Letter b

-- 1 to 12 of them
pub record IsName (c : List ℕ) : Type 0 where
  pub some : 1 ≤ length c
  pub few : length c ≤ 12
  pub letters : (k : ℕ) → k < length c → Letter (get_or c k 0)

-- a content as a value: its length, and its bytes with zeros behind them
abbrev pub name : List ℕ → Name
name c = record { len = length c; bytes = c ++ replicate (12 - length c) 0 }

-- what stands where there is no name
abbrev pub no_name : Name
no_name = name []

-- the content is a name, and this is its value
pub record NameOf (c : List ℕ) (n : Name) : Type 0 where
  pub is : IsName c
  pub held : n ≡ name c
