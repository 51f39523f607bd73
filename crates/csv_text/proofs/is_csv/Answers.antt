-- A comma or a CRLF carries on to the next field. At the end what is left is readable, and at a bad field it is not.
use Rattle.std.proofs.Common.{ℕ, List, length, drop, ◌≤◌}
use Rattle.std.specs.Prelude.{◌↔◌}
use Rattle.csv_text.specs.rfc4180.Rfc4180.{Readable}
use Rattle.csv_text.proofs.Steps.{FieldStep, step_comma, step_row, step_end, step_bad}
use Rattle.csv_text.proofs.is_csv.Goals as goal

-- what holds of the text from one field on holds of it from the next
again : {s : List ℕ} {at next : ℕ} → FieldStep s at next → Readable s ↔ Readable (drop at s) → (next ≤ length s) × (Readable s ↔ Readable (drop next s))
again st same = (st.within, (λ q. st.same.0 (same.0 q), λ q. same.1 (st.same.1 q)))

pub loop-e-preserved-in-Some-Comma : goal.loop-e-preserved-in-Some-Comma
loop-e-preserved-in-Some-Comma c =
    let w = again (step_comma _ _ _ (rw c.in-Some-Comma.field-0-is at c.in-Some-Comma.ensures)) c.loop-e.invariant.same in
    record { within = w.0; same = w.1 }

pub loop-e-preserved : goal.loop-e-preserved
loop-e-preserved c =
    let w = again (step_row _ _ _ (rw c.in-Some-Row.field-0-is at c.in-Some-Row.ensures)) c.loop-e.invariant.same in
    record { within = w.0; same = w.1 }

pub returns-in-Some-End : goal.returns-in-Some-End
returns-in-Some-End c = c.loop-e.invariant.same.1 (step_end _ _ (rw c.in-Some-End.field-0-is at c.in-Some-End.ensures))

pub returns-in-None : goal.returns-in-None
returns-in-None c = λ q. step_bad c.args.s.now c.loop-e.at c.in-None.ensures (c.loop-e.invariant.same.0 q)
