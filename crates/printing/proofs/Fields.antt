-- A field ends at the first comma, the last one at CR, and what a field says is read back from its text.
use Prim.Native.Nat.{ℕ, suc, ◌+◌, ◌*◌, ◌-◌, ◌≤◌, ◌<◌}
use mathlib.Core.Path.{◌≡◌, refl, sym, ap, ◌∙◌}
use mathlib.Core.Bool.{Bool, true, false, cond, not, ◌&&◌}
use mathlib.Core.List.{List, [], ◌∷◌, ◌++◌}
use native.Mathlib.Omega.{arith}
use borrow.Author.Tests.{eqb-false, ne_eqb}
use lib.Dec.{T, eqb}
use lib.ListN.{length, drop, get_or}
use Rattle.csv_text.specs.rfc4180.Rfc4180.{COMMA, CR}
use Rattle.fields.specs.names.Names.{Letter, hyphen, digit, upper, IsName}
use Rattle.fields.specs.digits.Numerals.{Numeral, one, more}
use Rattle.sets.specs.declared.Combination.{Combination}
use Rattle.sets.specs.declared.Combination.TheVariants.{I, II, III, IV}
use Rattle.checks.specs.declared.Check.{Check}
use Rattle.checks.specs.declared.Check.TheVariants.{OP, OM, SL, PR, RK}
use Rattle.lines.specs.Lines.{LineName, VERDICT, check, SC, CL, Value, accepted, not_accepted, none, off, number, minus, NumberField, empty, holds, YesOrNo, unmarked, Y, N, ExactOrRounded, unsaid, E, R}
use Rattle.block.specs.Decimal.{decimal}
use Rattle.printing.specs.line_fields.Text.{HYPHEN, combination_text, check_text, name_text, value_text, number_text, mark_text, exactness_text}
use Rattle.block.proofs.Numbers.{decimal_numeral, decimal_plain, decimal_some}

-- ---- where a field ends

-- no byte of the text is this one
unfoldable pub Without : ℕ → List ℕ → Type 0
Without x [] = Unit {0}
Without x (y ∷ t) = (y ≡ x → ⊥) × Without x t

-- two texts up to the first x are equal, and so is what follows
pub until_first : (x : ℕ) (s t u v : List ℕ) → Without x s → Without x t → s ++ (x ∷ u) ≡ t ++ (x ∷ v) → (s ≡ t) × (u ≡ v)
unfolding Without
until_first x [] [] u v p q e = (refl, cc)
until_first x [] (y ∷ t) u v p q e = absurd (q.0 (cc))
until_first x (y ∷ s) [] u v p q e = absurd (p.0 (cc))
until_first x (y ∷ s) (z ∷ t) u v p q e =
    let r = until_first x s t u v p.1 q.1 (cc) in
    (cc r.0, r.1)

without_at : (x : ℕ) (t : List ℕ) → ((k : ℕ) → k < length t → get_or t k 0 ≡ x → ⊥) → Without x t
unfolding Without
without_at x [] h = tt
without_at x (y ∷ t) h = (h 0 (omega arith), without_at x t (λ k l. h (suc k) (omega arith)))

-- a text that is written out, by a test
apart : ℕ → List ℕ → Bool
apart x [] = true
apart x (y ∷ t) = not (eqb y x) && apart x t

without_test : (x : ℕ) (t : List ℕ) → T (apart x t) → Without x t
unfolding Without apart
without_test x [] h = tt
without_test x (y ∷ t) h = go (eqb y x) refl h (without_test x t)
  where
    go : (b : Bool) → eqb y x ≡ b → T (not b && apart x t) → (T (apart x t) → Without x t) → (y ≡ x → ⊥) × Without x t
    go true e k rest = absurd k
    go false e k rest = (eqb-false y x e, rest k)

without_append : (x : ℕ) (s t : List ℕ) → Without x s → Without x t → Without x (s ++ t)
unfolding Without
without_append x [] t p q = q
without_append x (y ∷ s) t p q = (p.0, without_append x s t p.1 q)

-- ---- fields hold no comma

decimal_without : (x n : ℕ) → x < 0x30 → Without x (decimal n)
decimal_without x n h = without_at x (decimal n) (λ k l e. omega (arith, (decimal_plain n k l).from))

letter_above : {b : ℕ} → Letter b → 0x2D ≤ b
letter_above (hyphen h) = omega arith
letter_above (digit h k) = omega arith
letter_above (upper h k) = omega arith

pub name_without : (c : List ℕ) → IsName c → Without COMMA c
name_without c n = without_at COMMA c (λ k l e. omega (arith, letter_above (n.letters k l)))

combination_without : (c : Combination) → Without COMMA (combination_text c)
unfolding combination_text apart
combination_without I = without_test COMMA (combination_text I) tt
combination_without II = without_test COMMA (combination_text II) tt
combination_without III = without_test COMMA (combination_text III) tt
combination_without IV = without_test COMMA (combination_text IV) tt

check_without : (c : Check) → Without COMMA (HYPHEN ∷ check_text c)
unfolding check_text apart
check_without OP = without_test COMMA (HYPHEN ∷ check_text OP) tt
check_without OM = without_test COMMA (HYPHEN ∷ check_text OM) tt
check_without SL = without_test COMMA (HYPHEN ∷ check_text SL) tt
check_without PR = without_test COMMA (HYPHEN ∷ check_text PR) tt
check_without RK = without_test COMMA (HYPHEN ∷ check_text RK) tt

pub line_name_without : (n : LineName) → Without COMMA (name_text n)
unfolding name_text apart
line_name_without VERDICT = without_test COMMA (name_text VERDICT) tt
line_name_without (check combination of) =
    without_append COMMA (combination_text combination) (HYPHEN ∷ check_text of) (combination_without combination) (check_without of)
line_name_without SC = without_test COMMA (name_text SC) tt
line_name_without CL = without_test COMMA (name_text CL) tt

pub value_without : (v : Value) → Without COMMA (value_text v)
unfolding value_text apart Without
value_without accepted = without_test COMMA (value_text accepted) tt
value_without not_accepted = without_test COMMA (value_text not_accepted) tt
value_without none = without_test COMMA (value_text none) tt
value_without off = without_test COMMA (value_text off) tt
value_without (number n) = decimal_without COMMA n (omega arith)
value_without (minus n) = (λ e. omega arith, decimal_without COMMA n (omega arith))

pub cell_without : (c : NumberField) → Without COMMA (number_text c)
unfolding number_text Without
cell_without empty = tt
cell_without (holds n) = decimal_without COMMA n (omega arith)

pub mark_without : (m : YesOrNo) → Without COMMA (mark_text m)
unfolding mark_text apart
mark_without unmarked = without_test COMMA (mark_text unmarked) tt
mark_without Y = without_test COMMA (mark_text Y) tt
mark_without N = without_test COMMA (mark_text N) tt

-- the last field ends at CR
pub exactness_without : (x : ExactOrRounded) → Without CR (exactness_text x)
unfolding exactness_text apart
exactness_without unsaid = without_test CR (exactness_text unsaid) tt
exactness_without E = without_test CR (exactness_text E) tt
exactness_without R = without_test CR (exactness_text R) tt

-- ---- what a field says, read back

-- what has an inverse is injective
pub read_back : {A : Type 0} (write : A → List ℕ) (read : List ℕ → A) → ((a : A) → read (write a) ≡ a) → (a b : A) → write a ≡ write b → a ≡ b
read_back write read inverse a b e = sym (inverse a) ∙ ap read e ∙ inverse b

-- the number that digits say behind the number a
worth : ℕ → List ℕ → ℕ
worth a [] = a
worth a (d ∷ t) = worth (a * 10 + (d - 0x30)) t

worth_append : (a : ℕ) (s t : List ℕ) → worth a (s ++ t) ≡ worth (worth a s) t
unfolding worth
worth_append a [] t = refl
worth_append a (d ∷ s) t = worth_append (a * 10 + (d - 0x30)) s t

worth_numeral : {s : List ℕ} {n : ℕ} → Numeral s n → worth 0 s ≡ n
unfolding worth
worth_numeral (one h) = omega arith
worth_numeral (more {s} {d} some front h) = worth_append 0 s ((0x30 + d) ∷ []) ∙ rw (worth_numeral front) (omega arith)

worth_decimal : (n : ℕ) → worth 0 (decimal n) ≡ n
worth_decimal n = worth_numeral (decimal_numeral n)

first_byte : List ℕ → ℕ
first_byte t = get_or t 0 0

check_by : ℕ → Check
check_by last = cond (eqb last 0x50) OP (cond (eqb last 0x4D) OM (cond (eqb last 0x4C) SL (cond (eqb last 0x52) PR RK)))

combination_by : List ℕ → Combination
combination_by t = cond (eqb (length t) 4) I (cond (eqb (length t) 6) III (cond (eqb (get_or t 1 0) 0x49) II IV))

pub read_name : List ℕ → LineName
unfolding first_byte combination_by check_by
read_name t =
    cond (eqb (first_byte t) 0x56) VERDICT
    (cond (eqb (first_byte t) 0x53) SC
    (cond (eqb (first_byte t) 0x43) CL (check (combination_by t) (check_by (get_or t (length t - 1) 0)))))

pub name_read : (n : LineName) → read_name (name_text n) ≡ n
unfolding read_name name_text combination_text check_text
name_read VERDICT = refl
name_read SC = refl
name_read CL = refl
name_read (check I OP) = refl
name_read (check I OM) = refl
name_read (check I SL) = refl
name_read (check I PR) = refl
name_read (check I RK) = refl
name_read (check II OP) = refl
name_read (check II OM) = refl
name_read (check II SL) = refl
name_read (check II PR) = refl
name_read (check II RK) = refl
name_read (check III OP) = refl
name_read (check III OM) = refl
name_read (check III SL) = refl
name_read (check III PR) = refl
name_read (check III RK) = refl
name_read (check IV OP) = refl
name_read (check IV OM) = refl
name_read (check IV SL) = refl
name_read (check IV PR) = refl
name_read (check IV RK) = refl

pub read_value : List ℕ → Value
unfolding first_byte worth
read_value t =
    cond (eqb (first_byte t) 0x41) accepted
    (cond (eqb (first_byte t) 0x4E) not_accepted
    (cond (eqb (first_byte t) 0x6E) none
    (cond (eqb (first_byte t) 0x6F) off (cond (eqb (first_byte t) 0x2D) (minus (worth 0 (drop 1 t))) (number (worth 0 t))))))

pub value_read : (v : Value) → read_value (value_text v) ≡ v
unfolding read_value value_text
value_read accepted = refl
value_read not_accepted = refl
value_read none = refl
value_read off = refl
value_read (number n) =
    let d = decimal_plain n 0 (decimal_some n) in
    rw (ne_eqb (first_byte (decimal n)) 0x41 (λ e. omega arith), ne_eqb (first_byte (decimal n)) 0x4E (λ e. omega arith), ne_eqb (first_byte (decimal n)) 0x6E (λ e. omega arith), ne_eqb (first_byte (decimal n)) 0x6F (λ e. omega arith), ne_eqb (first_byte (decimal n)) 0x2D (λ e. omega arith), worth_decimal n)
value_read (minus n) = ap minus (worth_decimal n)

pub read_cell : List ℕ → NumberField
unfolding worth
read_cell t = cond (eqb (length t) 0) empty (holds (worth 0 t))

pub cell_read : (c : NumberField) → read_cell (number_text c) ≡ c
unfolding read_cell number_text
cell_read empty = refl
cell_read (holds n) = rw (ne_eqb (length (decimal n)) 0 (λ e. omega (arith, decimal_some n)), worth_decimal n)

pub read_mark : List ℕ → YesOrNo
unfolding first_byte
read_mark t = cond (eqb (length t) 0) unmarked (cond (eqb (first_byte t) 0x59) Y N)

pub mark_read : (m : YesOrNo) → read_mark (mark_text m) ≡ m
unfolding read_mark mark_text
mark_read unmarked = refl
mark_read Y = refl
mark_read N = refl

pub read_exactness : List ℕ → ExactOrRounded
unfolding first_byte
read_exactness t = cond (eqb (length t) 0) unsaid (cond (eqb (first_byte t) 0x45) E R)

pub exactness_read : (x : ExactOrRounded) → read_exactness (exactness_text x) ≡ x
unfolding read_exactness exactness_text
exactness_read unsaid = refl
exactness_read E = refl
exactness_read R = refl
