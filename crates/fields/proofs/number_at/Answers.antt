-- A minus stands first or nowhere, and what stands behind it, or all of the content, is digits of some worth. No number has a quote in it, so the
-- number of the stretch without its quotes is that of the field.
use Rattle.std.proofs.Common.{◌≡◌, ◌<◌, length, get_or, arith, refl, ◌∙◌}
use Rattle.fields.specs.Numbers.{is_positive}
use Rattle.fields.proofs.digits.Numerals.{numeral_unique}
use borrow.Author.Tests.{ltb-true}
use Rattle.std.specs.Prelude.{Some, None}
use Rattle.fields.proofs.Numerals.{behind_minus, signed_number, no_signed_number, no_number, number_field}
use Rattle.fields.proofs.number_at.Goals as goal
use Rattle.fields.proofs.number_at.Goals.{then-content-lt1, else-content-lt1+in_default-1}

pub returns-in_err-size : goal.returns-in_err-size
returns-in_err-size c =
    let b = c.bare-content.result.now in
    let f = behind_minus b (omega arith) (omega arith) in
    rw c.from_residual.ensures (number_field c.bare-content.ensures None (no_signed_number b _ f (λ n d. absurd (c.in_err-size.ensures n d))))

pub returns-then-size-eq0 : goal.returns-then-size-eq0
returns-then-size-eq0 c =
    let b = c.bare-content.result.now in
    let f = behind_minus b (omega arith) (omega arith) in
    number_field c.bare-content.ensures None (no_signed_number b _ f (λ n d. numeral_unique d.numeral c.in_ok-size.ensures.numeral refl ∙ c.if-size-eq0.true))

pub returns-in-45 : goal.returns-in-45
returns-in-45 c =
    let b = c.bare-content.result.now in
    let f = behind_minus b (omega arith) (omega arith) in
    number_field c.bare-content.ensures (Some _) (signed_number b _ f _ c.in_ok-size.ensures c.if-size-eq0.false)

pub returns-in_err-size-2 : goal.returns-in_err-size-2
returns-in_err-size-2 c =
    let b = c.bare-content.result.now in
    let n : 0 < length b → get_or b 0 0 ≡ 0x2D → ⊥ = elim c.if-content-lt1.branch [ then-content-lt1 w ↦ (λ l e. omega (arith, ltb-true)) | else-content-lt1+in_default-1 w ↦ (λ l e. omega arith) ] in
    rw c.from_residual-in_err-size-2.ensures (number_field c.bare-content.ensures None (no_number b n c.in_err-size-2.ensures))

pub returns : goal.returns
returns c = number_field c.bare-content.ensures (Some _) (is_positive c.in_ok-size-2.ensures refl)
