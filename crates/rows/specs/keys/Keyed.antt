-- A row with its key: member and job (document 01, the job book).
use Rattle.fields.specs.names.Names.{no_name}
use Rattle.kinds.specs.Table.{blank_numbers}
use Rattle.kinds.specs.declared.Kind.TheVariants.{B}
use Rattle.rows.specs.declared.keys.Keyed.{Keyed}

abbrev pub no_row : Keyed
no_row = record { key = record { member = no_name; job = no_name }; row = record { kind = B; numbers = blank_numbers } }
