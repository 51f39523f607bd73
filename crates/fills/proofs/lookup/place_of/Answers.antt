-- What was found in either book, by cases: each is one of what is said of the place.
use Rattle.fills.proofs.lookup.Placing.{has_book, no_common, no_own, own_row, common_row, no_row}
use Rattle.fills.proofs.lookup.place_of.Goals as goal

pub returns-in_default : goal.returns-in_default
returns-in_default c = no_common c.in_default.ensures

pub returns-in_default-find_row : goal.returns-in_default-find_row
returns-in_default-find_row c = no_own c.in_default-find_row.ensures

pub returns-in-Some-default : goal.returns-in-Some-default
returns-in-Some-default c =
    own_row c.name_of.result c.unwrap_or-named.result c.name_of.ensures (rw c.blank_name-nobody.ensures at c.unwrap_or-named.ensures) (rw c.in-Some-default.is-0 at c.in-Ok-find_row.ensures) (has_book _ _ _ _ c.in-Ok.ensures)

pub returns-in-None-Some : goal.returns-in-None-Some
returns-in-None-Some c =
    common_row c.name_of.result c.unwrap_or-named.result c.name_of.ensures (rw c.blank_name-nobody.ensures at c.unwrap_or-named.ensures) (rw c.in-None-Some.is-0 at c.in-Ok-find_row.ensures) (rw (c.in-None-Some.is-1, c.blank_name-nobody.ensures) at c.in-Ok.ensures)

pub returns-in-None-None : goal.returns-in-None-None
returns-in-None-None c =
    no_row c.name_of.result c.unwrap_or-named.result c.name_of.ensures (rw c.blank_name-nobody.ensures at c.unwrap_or-named.ensures) (rw c.in-None-None.is-0 at c.in-Ok-find_row.ensures) (rw (c.in-None-None.is-1, c.blank_name-nobody.ensures) at c.in-Ok.ensures)
