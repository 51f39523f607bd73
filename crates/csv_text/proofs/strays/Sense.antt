-- What the definition comes to in small texts: of a CR alone the byte behind it is the stray one, with the CR right before it; so is what stands behind a
-- closed field and ends none. And the two texts that end too soon.
use mathlib.Core.Path.{refl}
use mathlib.Core.List.{[], ◌∷◌}
use Rattle.csv_text.specs.rfc4180.Rfc4180.{COMMA, CR, DQUOTE, none, text, is_text, empty, byte, plain}
use Rattle.csv_text.specs.strays.Strays.{at_start, behind_comma, behind_quotes, behind_return, TextSays, stray, unclosed, ends_in_return}
use Rattle.csv_text.specs.declared.strays.Spot.TheVariants as spots
use Rattle.csv_text.specs.declared.strays.TextFault.TheVariants as faults
use Rattle.std.specs.Prelude.{Some}
use Rattle.csv_text.proofs.rfc4180.First.{empty_readable, end_readable}
use Rattle.csv_text.proofs.strays.Spots.{before_begun, nowhere}
use Rattle.csv_text.proofs.strays.Apart.{LETTER, letter, no_closed_letter, no_return_letter}

pub return_alone : TextSays (CR ∷ LETTER ∷ []) (Some (faults.Stray 1 spots.Return))
return_alone =
    stray {before = CR ∷ []} LETTER [] refl refl (before_begun (behind_return {q = []} empty_readable refl))
    (nowhere (behind_return {q = []} empty_readable refl) no_return_letter)
    (behind_return {q = []} empty_readable refl)

pub behind_closed_field : TextSays (DQUOTE ∷ DQUOTE ∷ LETTER ∷ []) (Some (faults.Stray 2 spots.Closed))
behind_closed_field =
    stray {before = DQUOTE ∷ DQUOTE ∷ []} LETTER [] refl refl (before_begun (behind_quotes {q = []} (at_start refl) empty refl))
    (nowhere (behind_quotes {q = []} (at_start refl) empty refl) no_closed_letter)
    (behind_quotes {q = []} (at_start refl) empty refl)

pub ends_inside : TextSays (COMMA ∷ DQUOTE ∷ LETTER ∷ []) (Some (faults.Unclosed 1))
ends_inside = unclosed {before = COMMA ∷ []} {inside = LETTER ∷ []} refl refl (behind_comma {q = []} empty_readable refl) (byte (is_text letter) empty)

pub ends_with_return : TextSays (LETTER ∷ CR ∷ []) (Some (faults.Return 1))
ends_with_return = ends_in_return {before = LETTER ∷ []} refl refl (end_readable (plain (text letter none)))
