-- Document 01, The printed answer: the bytes of a line's fields behind its key.
use Rattle.std.specs.Prelude.{ℕ, List, [], ◌∷◌, ◌++◌}
use Rattle.sets.specs.declared.Combination.{Combination}
use Rattle.sets.specs.declared.Combination.TheVariants.{I, II, III, IV}
use Rattle.checks.specs.declared.Check.{Check}
use Rattle.checks.specs.declared.Check.TheVariants.{OP, OM, SL, PR, RK}
use Rattle.lines.specs.Lines.{LineName, VERDICT, check, SC, CL, Value, accepted, not_accepted, none, off, number, minus, NumberField, empty, holds, YesOrNo, unmarked, Y, N, ExactOrRounded, unsaid, E, R}
use Rattle.block.specs.Decimal.{decimal}

abbrev pub HYPHEN : ℕ
HYPHEN = 0x2D

-- I, II, III, IV
unfoldable pub combination_text : Combination → List ℕ
combination_text I = 0x49 ∷ []
combination_text II = 0x49 ∷ 0x49 ∷ []
combination_text III = 0x49 ∷ 0x49 ∷ 0x49 ∷ []
combination_text IV = 0x49 ∷ 0x56 ∷ []

-- OP, OM, SL, PR, RK
unfoldable pub check_text : Check → List ℕ
check_text OP = 0x4F ∷ 0x50 ∷ []
check_text OM = 0x4F ∷ 0x4D ∷ []
check_text SL = 0x53 ∷ 0x4C ∷ []
check_text PR = 0x50 ∷ 0x52 ∷ []
check_text RK = 0x52 ∷ 0x4B ∷ []

-- VERDICT; "named as in I-OP"; SC; CL
unfoldable pub name_text : LineName → List ℕ
name_text VERDICT = 0x56 ∷ 0x45 ∷ 0x52 ∷ 0x44 ∷ 0x49 ∷ 0x43 ∷ 0x54 ∷ []
name_text (check combination of) = combination_text combination ++ (HYPHEN ∷ check_text of)
name_text SC = 0x53 ∷ 0x43 ∷ []
name_text CL = 0x43 ∷ 0x4C ∷ []

-- A, N, none, off, a number
unfoldable pub value_text : Value → List ℕ
value_text accepted = 0x41 ∷ []
value_text not_accepted = 0x4E ∷ []
value_text none = 0x6E ∷ 0x6F ∷ 0x6E ∷ 0x65 ∷ []
value_text off = 0x6F ∷ 0x66 ∷ 0x66 ∷ []
value_text (number n) = decimal n
value_text (minus n) = HYPHEN ∷ decimal n

unfoldable pub number_text : NumberField → List ℕ
number_text empty = []
number_text (holds n) = decimal n

-- Y, N
unfoldable pub mark_text : YesOrNo → List ℕ
mark_text unmarked = []
mark_text Y = 0x59 ∷ []
mark_text N = 0x4E ∷ []

-- 02, P7: "an eighth field, E or R"; "Words, VERDICT and BOOK have it empty."
unfoldable pub exactness_text : ExactOrRounded → List ℕ
exactness_text unsaid = []
exactness_text E = 0x45 ∷ []
exactness_text R = 0x52 ∷ []
