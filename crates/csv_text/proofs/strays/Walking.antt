-- The loop of `text_fault`: the bytes passed stop at a spot; the next byte leads on or is the stray one, and at the text's end the spot says what is told.
use Prim.Native.Nat.{ℕ, ◌+◌, ◌≤◌, ◌<◌}
use native.Mathlib.Numerals.{add-one}
use native.Mathlib.Omega.{arith}
use mathlib.Core.Path.{◌≡◌, refl, sym, ap, subst, ◌∙◌}
use mathlib.Core.Bool.{true}
use mathlib.Core.List.{List, [], ◌∷◌, ◌++◌}
use lib.ListN.{length, get_or, take, drop, length-append}
use lib.Seq.{length-take-le, take-suc, take_all, split_at}
use Rattle.arithmetic.proofs.Deciding.{decided}
use Rattle.csv_text.specs.rfc4180.Rfc4180.{CR}
use Rattle.csv_text.specs.strays.Strays.{at_start, TextSays, sound, stray, unclosed, ends_in_return}
use Rattle.csv_text.specs.steps.NextSpot.{Takes, field_start}
use Rattle.csv_text.specs.declared.strays.Spot.{Spot}
use Rattle.csv_text.specs.declared.strays.Spot.TheVariants as spots
use Rattle.csv_text.specs.declared.strays.TextFault.TheVariants as faults
use Rattle.std.specs.Prelude.{Some, None}
use Rattle.csv_text.proofs.strays.Spots.{Reached, at_field, at_inside, at_return, reached_before, may_end, at_end_decides, onward, before_begun, nowhere}

-- the first i bytes are passed, and what stands right before i is known, with where its field starts
pub record Walked (s : List ℕ) (spot : Spot) (from i : ℕ) : Type 0 where
  pub within : i ≤ length s
  pub reached : Reached (take i s) from spot

pub walked_none : (s : List ℕ) → Walked s spots.Start 0 0
walked_none s = record { within = omega arith; reached = at_field (at_start refl) }

module _ {s : List ℕ} {spot : Spot} {from i : ℕ} (w : Walked s spot from i) where
  module _ (h : i < length s) where
    pub walked_more : {field : ℕ} {next : Spot} → field ≡ field_start spot from i → Takes (get_or s i 0) spot next → Walked s next field (i + 1)
    walked_more {field} {next} e t =
        let m : take (i + 1) s ≡ take i s ++ get_or s i 0 ∷ [] = rw add-one (take-suc s i 0 h) in
        let n : length (take i s) ≡ i = length-take-le i s w.within in
        let f : field ≡ field_start spot from (length (take i s)) = e ∙ ap (field_start spot from) (sym n) in
        record { within = omega arith; reached = rw (m, f) (onward w.reached t) }

    pub walked_stray : {at : ℕ} → at ≡ i → ((next : Spot) → Takes (get_or s i 0) spot next → ⊥) → TextSays s (Some (faults.Stray at spot))
    walked_stray {at} e n =
        let b = reached_before w.reached in
        let k = length-take-le i s w.within in
        stray {before = take i s} (get_or s i 0) (drop (i + 1) s) {at = at} (rw add-one (split_at s i 0 h)) (omega arith) (before_begun b) (nowhere b n) b

  module _ (h : length s ≤ i) where
    all : Reached s from spot
    all = subst (λ (l : List ℕ). Reached l from spot) (take_all i s h) w.reached

    pub walked_sound : may_end spot ≡ true → TextSays s None
    walked_sound e = sound (decided (may_end spot) e (at_end_decides (reached_before all)))

open_quote : {s : List ℕ} {from : ℕ} → Reached s from spots.Inside → {at : ℕ} → at ≡ from → TextSays s (Some (faults.Unclosed at))
open_quote (at_inside {q} h f p e) {at} k = unclosed {before = q} {at = at} e (omega arith) f p

return_some : {s : List ℕ} {from : ℕ} → Reached s from spots.Return → 1 ≤ length s
return_some (at_return {q} w e) = omega (arith, ap length e, length-append q (CR ∷ []))

last_return : {s : List ℕ} {from : ℕ} → Reached s from spots.Return → {at : ℕ} → at + 1 ≡ length s → TextSays s (Some (faults.Return at))
last_return {s} (at_return {q} w e) {at} h =
    let n : length s ≡ length q + 1 = ap length e ∙ length-append q (CR ∷ []) in
    ends_in_return {before = q} {at = at} e (omega arith) w

module _ {s : List ℕ} {spot : Spot} {from i : ℕ} (w : Walked s spot from i) (h : length s ≤ i) where
  pub walked_unclosed : spot ≡ spots.Inside → {at : ℕ} → at ≡ from → TextSays s (Some (faults.Unclosed at))
  walked_unclosed e k = open_quote (subst (Reached s from) e (all w h)) k

  pub walked_some : spot ≡ spots.Return → 1 ≤ i
  walked_some e = let n = return_some (subst (Reached s from) e (all w h)) in omega arith

  pub walked_return : spot ≡ spots.Return → {at : ℕ} → at + 1 ≡ i → TextSays s (Some (faults.Return at))
  walked_return e k = let l = w.within in last_return (subst (Reached s from) e (all w h)) (omega arith)
