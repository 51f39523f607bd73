-- Document 01, the job book: "A job is a B row, at most one S, at most one C (only after S), then 1 to 16 load rows .., all with one key.
-- The next B starts the next job. At most 64 jobs, all keys different." What a job is, and what a book of jobs is.
use Rattle.std.specs.Prelude.{ℕ, suc, ◌≤◌, ◌≡◌, List, [], ◌∷◌, ◌++◌, length}
use Rattle.csv_text.specs.rfc4180.Rfc4180.{Cell, File}
use Rattle.kinds.specs.Table.{role}
use Rattle.kinds.specs.declared.Role.{Role}
use Rattle.kinds.specs.declared.Role.TheVariants.{Base, Scour, Clearance, Load}
use Rattle.rows.specs.Form.{BookRow, Form}

-- what a row is to its job
abbrev pub IsA : Role → BookRow → Type 0
IsA p r = role r.keyed.row.kind ≡ p

-- member and job, together the key
pub record SameKey (a b : BookRow) : Type 0 where
  pub same : a.keyed.key ≡ b.keyed.key

-- at most one S, and at most one C, only after S
pub data River : Type 0 where
  dry : River
  scoured : BookRow → River
  crossed : BookRow → BookRow → River

-- a job as the book writes it: a B row, at most one S, at most one C, then load rows
pub data WrittenJob : Type 0 where
  job : BookRow → River → List BookRow → WrittenJob

abbrev pub base : WrittenJob → BookRow
base (job b v ls) = b

abbrev pub loads : WrittenJob → List BookRow
loads (job b v ls) = ls

abbrev pub river_rows : River → List BookRow
river_rows dry = []
river_rows (scoured s) = s ∷ []
river_rows (crossed s c) = s ∷ c ∷ []

abbrev pub job_rows : WrittenJob → List BookRow
job_rows (job b v ls) = b ∷ (river_rows v ++ ls)

-- load rows, all with the key of the B row
pub data LoadRows (b : BookRow) : List BookRow → Type 0 where
  no_load_row : LoadRows b []
  load : {r : BookRow} {rs : List BookRow} → IsA Load r → SameKey b r → LoadRows b rs → LoadRows b (r ∷ rs)

-- an S row and a C row where there are any, with the key of the B row
pub data Rivers (b : BookRow) : River → Type 0 where
  is_dry : Rivers b dry
  is_scoured : {s : BookRow} → IsA Scour s → SameKey b s → Rivers b (scoured s)
  is_crossed : {s c : BookRow} → IsA Scour s → SameKey b s → IsA Clearance c → SameKey b c → Rivers b (crossed s c)

-- a B row, its river rows, and at most 16 load rows, all with one key. That there is at least one load row is asked for by `Whole`, not here
pub data GoodJob : WrittenJob → Type 0 where
  good : {b : BookRow} {v : River} {ls : List BookRow} → IsA Base b → Rivers b v → LoadRows b ls → length ls ≤ 16 → GoodJob (job b v ls)

-- jobs in the order of the book: none, or jobs and one job more
pub data Jobs : Type 0 where
  none : Jobs
  ◌and◌ : Jobs → WrittenJob → Jobs

infixl 20 ◌and◌
abbrev pub count : Jobs → ℕ
count none = 0
count (js and j) = suc (count js)

-- the rows of the jobs, one job after the other
abbrev pub rows_of : Jobs → List BookRow
rows_of none = []
rows_of (js and j) = rows_of js ++ job_rows j

-- a job among them has the row's key
pub data Used (r : BookRow) : Jobs → Type 0 where
  last : {js : Jobs} {j : WrittenJob} → SameKey (base j) r → Used r (js and j)
  before : {js : Jobs} {j : WrittenJob} → Used r js → Used r (js and j)

-- all keys different
pub data Different : Jobs → Type 0 where
  no_key : Different none
  new_key : {js : Jobs} {j : WrittenJob} → Different js → (Used (base j) js → ⊥) → Different (js and j)

-- the rows of a text, by their forms
pub data Forms : List (List Cell) → List BookRow → Type 0 where
  no_form : Forms [] []
  form : {cs : List Cell} {r : BookRow} {css : List (List Cell)} {rs : List BookRow} → Form cs r → Forms css rs → Forms (cs ∷ css) (r ∷ rs)

-- each job has 1 to 16 load rows
pub data Whole : Jobs → Type 0 where
  no_whole : Whole none
  one_whole : {js : Jobs} {j : WrittenJob} → Whole js → GoodJob j → 1 ≤ length (loads j) → Whole (js and j)

-- the bytes are a book of these jobs: an RFC 4180 text whose rows have forms, and are those of the jobs one after the other
pub record JobBook (s : List ℕ) (js : Jobs) : Type 0 where
  pub size : length s ≤ 65536
  pub rows : List (List Cell)
  pub text : File s rows
  pub typed : List BookRow
  pub forms : Forms rows typed
  pub parts : typed ≡ rows_of js
  pub each : Whole js
  pub few : count js ≤ 64
  pub keys : Different js
