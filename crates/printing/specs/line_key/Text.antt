-- Document 01, The printed answer: the bytes of a line's key.
use Rattle.std.specs.Prelude.{ℕ, List, [], ◌∷◌, ◌++◌, take}
use Rattle.csv_text.specs.rfc4180.Rfc4180.{COMMA}
use Rattle.fields.specs.declared.names.Name.{Name}
use Rattle.rows.specs.declared.keys.Key.{Key}

-- a name's first len bytes, all 12 where len is above that
unfoldable pub name_bytes : Name → List ℕ
name_bytes name = take name.len name.bytes

-- "member, job", each with the comma behind it
unfoldable pub key_text : Key → List ℕ
key_text key = name_bytes key.member ++ (COMMA ∷ (name_bytes key.job ++ (COMMA ∷ [])))
