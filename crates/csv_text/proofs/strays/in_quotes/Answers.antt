-- A quote closes the field; what stands for itself between quotes leaves it open.
use Rattle.std.proofs.Common.{ℕ, ◌≡◌, ◌⊎◌, inl, inr}
use Rattle.csv_text.specs.rfc4180.Rfc4180.{COMMA, CR, LF, Inside, is_text, is_comma, is_cr, is_lf}
use Rattle.csv_text.specs.steps.NextSpot.{more_inside, closes}
use Rattle.csv_text.proofs.strays.in_quotes.Goals as goal

pub returns-in-34 : goal.returns-in-34
returns-in-34 c = closes c.in-34.is

stands_inside : {b : ℕ} → (b ≡ LF) ⊎ ((b ≡ CR) ⊎ (b ≡ COMMA)) → Inside b
stands_inside (inl e) = is_lf e
stands_inside (inr (inl e)) = is_cr e
stands_inside (inr (inr e)) = is_comma e

pub returns-in-44 : goal.returns-in-44
returns-in-44 c = more_inside (stands_inside c.in-44.is)

pub returns-in_default : goal.returns-in_default
returns-in_default c = more_inside (is_text c.if-is_text.ensures)
