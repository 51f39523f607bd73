-- What stands right before a place, with where its field starts, goes on byte by byte: with a byte that may stand there, to what then stands right before
-- the next; and with any other byte to no RFC 4180 text.
use Prim.Native.Nat.{ℕ}
use mathlib.Core.Path.{◌≡◌, refl, sym, ap, subst, ◌∙◌}
use mathlib.Core.Bool.{Bool, true, false}
use mathlib.Core.List.{List, [], ◌∷◌, ◌++◌, append_assoc, append-nil}
use lib.ListN.{length}
use Rattle.arithmetic.specs.decides.Decides.{Decides}
use Rattle.csv_text.specs.rfc4180.Rfc4180.{CR, DQUOTE, LF, Plain, none, text, Escaped, empty, plain, quoted, Readable}
use Rattle.csv_text.specs.strays.Strays.{Begun, FieldStarts, behind_comma, behind_row, Before, field_next, in_plain, in_quotes, behind_quotes, behind_return}
use Rattle.csv_text.specs.steps.NextSpot.{Ends, by_comma, by_return, Takes, opens, begins_plain, ends_empty, more_plain, ends_plain, more_inside, closes, doubles, ends_quoted, ends_row, field_start}
use Rattle.csv_text.specs.declared.strays.Spot.{Spot}
use Rattle.csv_text.specs.declared.strays.Spot.TheVariants as spots
use Rattle.csv_text.proofs.Lists.{nil_cons, heads, not_empty}
use Rattle.csv_text.proofs.field.Scan.{plain_snoc}
use Rattle.csv_text.proofs.quoted.Scan.{escaped_snoc, doubled_snoc}
use Rattle.csv_text.proofs.rfc4180.First.{empty_readable, end_readable}
use Rattle.csv_text.proofs.strays.Going.{from_start, StopsBy, comma_stops, return_stops, start_halts, plain_halts, closed_halts, inside_halts, return_halts}

-- what stands right before a place, and where the field starts that stands in quotes there
pub data Reached (p : List ℕ) (from : ℕ) : Spot → Type 0 where
  at_field : FieldStarts p → Reached p from spots.Start
  at_plain : {q r : List ℕ} → FieldStarts q → Plain r → (r ≡ [] → ⊥) → p ≡ q ++ r → Reached p from spots.Plain
  at_inside : {q e c : List ℕ} → from ≡ length q → FieldStarts q → Escaped e c → p ≡ q ++ DQUOTE ∷ e → Reached p from spots.Inside
  at_closed : {q e c : List ℕ} → from ≡ length q → FieldStarts q → Escaped e c → p ≡ q ++ DQUOTE ∷ (e ++ DQUOTE ∷ []) → Reached p from spots.Closed
  at_return : {q : List ℕ} → Readable q → p ≡ q ++ CR ∷ [] → Reached p from spots.Return

pub reached_before : {p : List ℕ} {from : ℕ} {spot : Spot} → Reached p from spot → Before p spot
reached_before (at_field f) = field_next f
reached_before (at_plain f r n e) = in_plain f r n e
reached_before (at_inside k f x e) = in_quotes f x e
reached_before (at_closed k f x e) = behind_quotes f x e
reached_before (at_return w e) = behind_return w e

pub before_reached : {p : List ℕ} {spot : Spot} → Before p spot → (from : ℕ) × Reached p from spot
before_reached (field_next f) = (0, at_field f)
before_reached (in_plain f r n e) = (0, at_plain f r n e)
before_reached (in_quotes f x e) = (_, at_inside refl f x e)
before_reached (behind_quotes f x e) = (_, at_closed refl f x e)
before_reached (behind_return w e) = (0, at_return w e)

-- where a field starts, the text may end, with an empty field
start_readable : {p : List ℕ} → FieldStarts p → Readable p
start_readable {p} f = subst Readable (append-nil p) ((from_start f []).1 empty_readable)

-- which spots a text may end at
abbrev pub may_end : Spot → Bool
may_end spots.Start = true
may_end spots.Plain = true
may_end spots.Inside = false
may_end spots.Closed = true
may_end spots.Return = false

pub at_end_decides : {p : List ℕ} {spot : Spot} → Before p spot → Decides (may_end spot) (Readable p)
at_end_decides (field_next f) = start_readable f
at_end_decides (in_plain {r} f g n e) = rw e ((from_start f r).1 (end_readable (plain g)))
at_end_decides (in_quotes {q} {e = x} f g e) = λ w.
    inside_halts g [] (λ b v k z. nil_cons z) (λ v z. nil_cons z) ((from_start f _).0 (subst Readable (e ∙ ap (λ (l : List ℕ). q ++ DQUOTE ∷ l) (sym (append-nil x))) w))
at_end_decides (behind_quotes f g e) = rw e ((from_start f _).1 (end_readable (quoted g)))
at_end_decides (behind_return w e) = λ k. return_halts [] (λ v z. nil_cons z) w (subst Readable e k)

-- behind a byte that follows a field
after : {p : List ℕ} {b from : ℕ} {spot : Spot} → Readable p → Ends b spot → Reached (p ++ b ∷ []) from spot
after {p} w (by_comma e) = at_field (behind_comma w (ap (λ (x : ℕ). p ++ x ∷ []) e))
after {p} w (by_return e) = at_return w (ap (λ (x : ℕ). p ++ x ∷ []) e)

-- a byte more, and a text more, behind bytes in two parts
more : (b : ℕ) {p : List ℕ} (q r : List ℕ) → p ≡ q ++ r → p ++ b ∷ [] ≡ q ++ (r ++ b ∷ [])
more b q r e = ap (λ (l : List ℕ). l ++ b ∷ []) e ∙ append_assoc q r (b ∷ [])

split : (b : ℕ) (t : List ℕ) {p : List ℕ} (q r : List ℕ) → p ≡ q ++ r → p ++ b ∷ [] ++ t ≡ q ++ (r ++ b ∷ t)
split b t {p} q r e = append_assoc p (b ∷ []) t ∙ ap (λ (l : List ℕ). l ++ b ∷ t) e ∙ append_assoc q r (b ∷ t)

module _ {b : ℕ} where
  pub onward : {p : List ℕ} {from : ℕ} {spot next : Spot} → Reached p from spot → Takes b spot next → Reached (p ++ b ∷ []) (field_start spot from (length p)) next
  onward {p} (at_field f) (opens h) = at_inside refl f empty (ap (λ (x : ℕ). p ++ x ∷ []) h)
  onward (at_field f) (begins_plain h) = at_plain f (text h none) (λ z. nil_cons (sym z)) refl
  onward (at_field f) (ends_empty h) = after (start_readable f) h
  onward (at_plain {q} {r} f g n e) (more_plain h) = at_plain f (plain_snoc g h) (not_empty r b) (more b q r e)
  onward (at_plain f g n e) (ends_plain h) = after (at_end_decides (in_plain f g n e)) h
  onward (at_inside {q} {e = x} k f g e) (more_inside h) = at_inside k f (escaped_snoc g h) (more b q (DQUOTE ∷ x) e)
  onward (at_inside {q} {e = x} k f g e) (closes h) = at_closed k f g (more b q (DQUOTE ∷ x) e ∙ ap (λ (y : ℕ). q ++ DQUOTE ∷ (x ++ y ∷ [])) h)
  onward (at_closed {q} {e = x} k f g e) (doubles h) =
      at_inside k f (doubled_snoc g)
      (more b q (DQUOTE ∷ (x ++ DQUOTE ∷ [])) e ∙ ap (λ (y : List ℕ). q ++ DQUOTE ∷ y) (append_assoc x (DQUOTE ∷ []) (b ∷ []) ∙ ap (λ (y : ℕ). x ++ DQUOTE ∷ y ∷ []) h))
  onward (at_closed k f g e) (ends_quoted h) = after (at_end_decides (behind_quotes f g e)) h
  onward (at_return {q} w e) (ends_row h) = at_field (behind_row w (more b q (CR ∷ []) e ∙ ap (λ (y : ℕ). q ++ CR ∷ y ∷ []) h))

-- an RFC 4180 text begins one, and so do bytes wherever they stop at a spot
pub readable_begun : {p : List ℕ} → Readable p → Begun p
readable_begun {p} w = record { rest = []; text = subst Readable (sym (append-nil p)) w }

pub before_begun : {p : List ℕ} {spot : Spot} → Before p spot → Begun p
before_begun (field_next f) = readable_begun (at_end_decides (field_next f))
before_begun (in_plain f g n e) = readable_begun (at_end_decides (in_plain f g n e))
before_begun (in_quotes f g e) = record { rest = DQUOTE ∷ []; text = at_end_decides (reached_before (onward (at_inside refl f g e) (closes refl))) }
before_begun (behind_quotes f g e) = readable_begun (at_end_decides (behind_quotes f g e))
before_begun (behind_return w e) = record { rest = LF ∷ []; text = at_end_decides (reached_before (onward {from = 0} (at_return w e) (ends_row refl))) }

-- with a byte that may not stand there they begin none
module _ {b : ℕ} where
  stops_by : {spot : Spot} → ((next : Spot) → Ends b next → Takes b spot next) → ((next : Spot) → Takes b spot next → ⊥) → StopsBy b → ⊥
  stops_by f n (comma_stops e) = n _ (f _ (by_comma e))
  stops_by f n (return_stops e) = n _ (f _ (by_return e))

  pub nowhere : {p : List ℕ} {spot : Spot} → Before p spot → ((next : Spot) → Takes b spot next → ⊥) → Begun (p ++ b ∷ []) → ⊥
  nowhere {p} (field_next f) n w =
      start_halts (λ e. n _ (opens e)) (λ t. n _ (begins_plain t)) (stops_by (λ x h. ends_empty h) n) w.rest
      ((from_start f (b ∷ w.rest)).0 (subst Readable (append_assoc p (b ∷ []) w.rest) w.text))
  nowhere (in_plain {q} {r} f g m e) n w =
      plain_halts (λ t. n _ (more_plain t)) (stops_by (λ x h. ends_plain h) n) g m w.rest
      ((from_start f (r ++ b ∷ w.rest)).0 (subst Readable (split b w.rest q r e) w.text))
  nowhere (in_quotes {q} {e = x} f g e) n w =
      inside_halts g (b ∷ w.rest) (λ c v k z. n _ (more_inside (rw (heads z) k))) (λ v z. n _ (closes (heads z)))
      ((from_start f (DQUOTE ∷ x ++ b ∷ w.rest)).0 (subst Readable (split b w.rest q (DQUOTE ∷ x) e) w.text))
  nowhere (behind_quotes {q} {e = x} f g e) n w =
      closed_halts (λ z. n _ (doubles z)) (stops_by (λ y h. ends_quoted h) n) g w.rest
      ((from_start f (DQUOTE ∷ (x ++ DQUOTE ∷ []) ++ b ∷ w.rest)).0 (subst Readable (split b w.rest q (DQUOTE ∷ (x ++ DQUOTE ∷ [])) e) w.text))
  nowhere (behind_return {q} k e) n w = return_halts (b ∷ w.rest) (λ v z. n _ (ends_row (heads z))) k (subst Readable (split b w.rest q (CR ∷ []) e) w.text)
