-- No bytes stop at two spots: the spots differ in whether the text may end there, go on with a letter, and go on with a quote.
use Prim.Native.Nat.{ℕ}
use native.Mathlib.Omega.{arith}
use mathlib.Core.Path.{◌≡◌, refl, sym, ◌∙◌}
use mathlib.Core.Bool.{Bool, true, false}
use mathlib.Core.List.{List, [], ◌∷◌, ◌++◌}
use Rattle.arithmetic.specs.decides.Decides.{Decides}
use Rattle.arithmetic.proofs.Deciding.{decides_one}
use Rattle.csv_text.specs.rfc4180.Rfc4180.{DQUOTE, Textdata, high, is_text, Readable}
use Rattle.csv_text.specs.strays.Strays.{Begun, Before, field_next, in_plain, in_quotes, behind_quotes, behind_return}
use Rattle.csv_text.specs.steps.NextSpot.{by_comma, by_return, Takes, opens, begins_plain, more_plain, ends_plain, more_inside, closes, doubles, ends_quoted, ends_row}
use Rattle.csv_text.specs.declared.strays.Spot.{Spot}
use Rattle.csv_text.specs.declared.strays.Spot.TheVariants as spots
use Rattle.csv_text.proofs.rfc4180.Unique.{text_quote}
use Rattle.csv_text.proofs.strays.Spots.{reached_before, before_reached, may_end, at_end_decides, onward, before_begun, nowhere}

takes_on : {p : List ℕ} {b : ℕ} {spot next : Spot} → Before p spot → Takes b spot next → Begun (p ++ b ∷ [])
takes_on w t = before_begun (reached_before (onward (before_reached w).1 t))

abbrev pub LETTER : ℕ
LETTER = 0x61

pub letter : Textdata LETTER
letter = high (omega arith) (omega arith)

abbrev takes_letter : Spot → Bool
takes_letter spots.Start = true
takes_letter spots.Plain = true
takes_letter spots.Inside = true
takes_letter spots.Closed = false
takes_letter spots.Return = false

pub no_closed_letter : (next : Spot) → Takes LETTER spots.Closed next → ⊥
no_closed_letter next (doubles e) = omega arith
no_closed_letter next (ends_quoted (by_comma e)) = omega arith
no_closed_letter next (ends_quoted (by_return e)) = omega arith

pub no_return_letter : (next : Spot) → Takes LETTER spots.Return next → ⊥
no_return_letter next (ends_row e) = omega arith

letter_decides : {p : List ℕ} {spot : Spot} → Before p spot → Decides (takes_letter spot) (Begun (p ++ LETTER ∷ []))
letter_decides (field_next f) = takes_on (field_next f) (begins_plain letter)
letter_decides (in_plain f g n e) = takes_on (in_plain f g n e) (more_plain letter)
letter_decides (in_quotes f g e) = takes_on (in_quotes f g e) (more_inside (is_text letter))
letter_decides (behind_quotes f g e) = nowhere (behind_quotes f g e) no_closed_letter
letter_decides (behind_return w e) = nowhere (behind_return w e) no_return_letter

abbrev takes_quote : Spot → Bool
takes_quote spots.Start = true
takes_quote spots.Plain = false
takes_quote spots.Inside = true
takes_quote spots.Closed = true
takes_quote spots.Return = false

no_plain_quote : (next : Spot) → Takes DQUOTE spots.Plain next → ⊥
no_plain_quote next (more_plain t) = text_quote t refl
no_plain_quote next (ends_plain (by_comma e)) = omega arith
no_plain_quote next (ends_plain (by_return e)) = omega arith

no_return_quote : (next : Spot) → Takes DQUOTE spots.Return next → ⊥
no_return_quote next (ends_row e) = omega arith

quote_decides : {p : List ℕ} {spot : Spot} → Before p spot → Decides (takes_quote spot) (Begun (p ++ DQUOTE ∷ []))
quote_decides (field_next f) = takes_on (field_next f) (opens refl)
quote_decides (in_plain f g n e) = nowhere (in_plain f g n e) no_plain_quote
quote_decides (in_quotes f g e) = takes_on (in_quotes f g e) (closes refl)
quote_decides (behind_quotes f g e) = takes_on (behind_quotes f g e) (doubles refl)
quote_decides (behind_return w e) = nowhere (behind_return w e) no_return_quote

-- the spot by the three answers
abbrev spot_by : Bool → Bool → Bool → Spot
spot_by true true true = spots.Start
spot_by true true false = spots.Plain
spot_by true false q = spots.Closed
spot_by false true q = spots.Inside
spot_by false false q = spots.Return

told_back : (spot : Spot) → spot_by (may_end spot) (takes_letter spot) (takes_quote spot) ≡ spot
told_back spots.Start = refl
told_back spots.Plain = refl
told_back spots.Inside = refl
told_back spots.Closed = refl
told_back spots.Return = refl

pub spot_one : {p : List ℕ} {x y : Spot} → Before p x → Before p y → x ≡ y
spot_one {p} {x} {y} a b =
    let ends = decides_one (Readable p) (may_end x) (may_end y) (at_end_decides a) (at_end_decides b) in
    let letters = decides_one (Begun (p ++ LETTER ∷ [])) (takes_letter x) (takes_letter y) (letter_decides a) (letter_decides b) in
    let quotes = decides_one (Begun (p ++ DQUOTE ∷ [])) (takes_quote x) (takes_quote y) (quote_decides a) (quote_decides b) in
    sym (told_back x) ∙ (λ i. spot_by (ends i) (letters i) (quotes i)) ∙ told_back y
