-- Document 01, the job book: "Member and job: 1 to 12 of A-Z, 0-9, hyphen; together the key." The key of a job that a book holds.
use Rattle.std.specs.Prelude.{ℕ, List}
use Rattle.fields.specs.names.Names.{NameOf}
use Rattle.rows.specs.declared.keys.Key.{Key}

pub record IsKey (key : Key) : Type 0 where
  pub member : List ℕ
  pub job : List ℕ
  pub member_named : NameOf member key.member
  pub job_named : NameOf job key.job
