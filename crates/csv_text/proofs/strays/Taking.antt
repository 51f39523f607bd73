-- Which bytes may stand at each spot, by the tests of `next_spot`: what none of them takes may not stand there.
use Prim.Native.Nat.{ℕ}
use mathlib.Core.Path.{◌≡◌}
use Rattle.csv_text.specs.rfc4180.Rfc4180.{COMMA, CR, DQUOTE, LF, Textdata, Inside}
use Rattle.csv_text.specs.steps.NextSpot.{Ends, by_comma, by_return, Takes, opens, begins_plain, ends_empty, more_plain, ends_plain, more_inside, closes, doubles, ends_quoted, ends_row, EndedBy, NextSpot}
use Rattle.csv_text.specs.declared.strays.Spot.{Spot}
use Rattle.csv_text.specs.declared.strays.Spot.TheVariants as spots
use Rattle.std.specs.Prelude.{Option, Some, None}

module _ {b : ℕ} where
  pub ends_none : (b ≡ COMMA → ⊥) → (b ≡ CR → ⊥) → (spot : Spot) → Ends b spot → ⊥
  ends_none nc nr spot (by_comma e) = nc e
  ends_none nc nr spot (by_return e) = nr e

  start_none : (b ≡ DQUOTE → ⊥) → (Textdata b → ⊥) → ((spot : Spot) → Ends b spot → ⊥) → (spot : Spot) → Takes b spots.Start spot → ⊥
  start_none nq nt n spot (opens e) = nq e
  start_none nq nt n spot (begins_plain t) = nt t
  start_none nq nt n spot (ends_empty h) = n spot h

  pub start_next : (r : Option Spot) → (b ≡ DQUOTE → ⊥) → (Textdata b → ⊥) → EndedBy b r → NextSpot spots.Start b r
  start_next (Some spot) nq nt h = ends_empty h
  start_next None nq nt h = start_none nq nt h

  plain_none : (Textdata b → ⊥) → ((spot : Spot) → Ends b spot → ⊥) → (spot : Spot) → Takes b spots.Plain spot → ⊥
  plain_none nt n spot (more_plain t) = nt t
  plain_none nt n spot (ends_plain h) = n spot h

  pub plain_next : (r : Option Spot) → (Textdata b → ⊥) → EndedBy b r → NextSpot spots.Plain b r
  plain_next (Some spot) nt h = ends_plain h
  plain_next None nt h = plain_none nt h

  closed_none : (b ≡ DQUOTE → ⊥) → ((spot : Spot) → Ends b spot → ⊥) → (spot : Spot) → Takes b spots.Closed spot → ⊥
  closed_none nq n spot (doubles e) = nq e
  closed_none nq n spot (ends_quoted h) = n spot h

  pub closed_next : (r : Option Spot) → (b ≡ DQUOTE → ⊥) → EndedBy b r → NextSpot spots.Closed b r
  closed_next (Some spot) nq h = ends_quoted h
  closed_next None nq h = closed_none nq h

  pub inside_none : (b ≡ DQUOTE → ⊥) → (Inside b → ⊥) → (spot : Spot) → Takes b spots.Inside spot → ⊥
  inside_none nq ni spot (more_inside h) = ni h
  inside_none nq ni spot (closes e) = nq e

  pub return_none : (b ≡ LF → ⊥) → (spot : Spot) → Takes b spots.Return spot → ⊥
  return_none n spot (ends_row e) = n e
