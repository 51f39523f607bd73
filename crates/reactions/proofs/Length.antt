-- The length that a call tells lies within the buffer that it hands back. Other crates' proofs cite it.
use Prim.Native.Nat.{ℕ, ◌≤◌}
use native.Mathlib.Omega.{arith}
use mathlib.Core.Path.{◌≡◌, ◌∙◌, ap}
use mathlib.Core.List.{List}
use lib.ListN.{length, drop, length-append}
use Rattle.reactions.specs.Reacts.{RowTold, written, refused, Reacts, no_row, no_record, not_finite, out_of_range, too_short, row}

-- how many bytes are written
abbrev pub count : RowTold → ℕ
count (written n) = n
count (refused n) = 0

none : {t : RowTold} {n : ℕ} (room : ℕ) → t ≡ refused n → count t ≤ room
none room u = let e = ap count u in omega arith

pub told_within : {member job kind : List ℕ} {phase : ℕ} {sent before after : List ℕ} {t : RowTold} → Reacts member job kind phase sent before after t → count t ≤ length after
told_within {after} (no_row _ _ u) = none (length after) u
told_within {after} (no_record _ _ _ u) = none (length after) u
told_within {after} (not_finite _ _ _ _ u) = none (length after) u
told_within {after} (out_of_range _ _ _ _ _ _ u) = none (length after) u
told_within {after} (too_short _ _ _ u) = none (length after) u
told_within {before} {after} (row {row = r} _ _ e u) =
    let n = ap count u in
    let l = ap length e ∙ length-append r (drop (length r) before) in
    omega arith
