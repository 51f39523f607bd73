-- What `start_of` and `cell_of` promise is met by one answer only.
use Prim.Native.Nat.{ℕ}
use mathlib.Core.Path.{◌≡◌, sym, ap, subst, ◌∙◌}
use mathlib.Core.List.{List}
use Rattle.csv_text.specs.rfc4180.Rfc4180.{Cell}
use Rattle.csv_text.specs.Nth.{Nth}
use Rattle.csv_text.specs.places.Places.{StartsAt, at_row, no_row, FieldIs, field, no_field}
use Rattle.csv_text.proofs.notes.Answers.{nth_one}
use Rattle.csv_text.proofs.places.Starts.{start_is}
use Rattle.csv_text.proofs.places.Picking.{row_one}

pub start_one : {s : List ℕ} {n a b : ℕ} → StartsAt s n a → StartsAt s n b → a ≡ b
start_one (at_row q w e) h = e ∙ sym (start_is q w h)
start_one (no_row m e) (at_row {rows} {cs} q w f) = absurd (m rows cs q w)
start_one (no_row m e) (no_row k f) = e ∙ sym f

pub field_one : {s : List ℕ} {n k : ℕ} {a b : List ℕ} → FieldIs s n k a → FieldIs s n k b → a ≡ b
field_one {k = k} (field q w v l e) (field {f = g} p u t m z) =
    e ∙ ap (λ (x : Cell). x.raw) (nth_one v (subst (λ (cs : List Cell). Nth cs k g) (row_one p u q w) t)) ∙ sym z
field_one (field {rows} {cs} {f} q w v l e) (no_field n z) = absurd (n rows cs f q w v l)
field_one (no_field n z) (field {rows} {cs} {f} q w v l e) = absurd (n rows cs f q w v l)
field_one (no_field n z) (no_field m y) = z ∙ sym y
