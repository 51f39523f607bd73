-- The fields of a line, put one behind the other, are the line; VERDICT, and the lines put behind it, are the answer.
use Prim.Native.Nat.{ℕ, ◌+◌, ◌≤◌}
use mathlib.Core.Path.{◌≡◌, refl, sym, ap, ◌∙◌}
use mathlib.Core.Bool.{Bool, true, false, cond}
use mathlib.Core.List.{List, [], ◌∷◌, ◌++◌, append_assoc, append-nil}
use native.Mathlib.Omega.{arith}
use lib.ListN.{length}
use Rattle.arithmetic.specs.declared.signed.Amount.{Amount}
use Rattle.arithmetic.proofs.Cases.{impossible}
use Rattle.rows.specs.declared.keys.Key.{Key}
use Rattle.sets.specs.declared.Combination.{Combination}
use Rattle.checks.specs.declared.Check.{Check}
use Rattle.checks.specs.declared.Figure.{Figure}
use Rattle.lines.specs.declared.Line.{Line}
use Rattle.lines.specs.declared.Line.TheVariants as line
use Rattle.lines.specs.declared.RiverLine.{RiverLine}
use Rattle.lines.specs.declared.RiverLine.TheVariants as river
use Rattle.lines.specs.Lines.{LineName, PrintedLine, value_of, signed_value, mark_of, exactness_of, figure_exactness, shown_line, river_shown, check_line, river_line, verdict_line, later_lines, unless_refused, lines_of}
use Rattle.lines.specs.Alone.{Alone}
use Rattle.block.specs.declared.Block.{Block}
use Rattle.block.specs.Decimal.{decimal}
use Rattle.block.specs.Block.{puts, Put}
use Rattle.block.specs.Fields.{field}
use Rattle.printing.specs.line_key.Text.{key_text}
use Rattle.printing.specs.line_fields.Text.{HYPHEN, combination_text, check_text, name_text, value_text, number_text, mark_text}
use Rattle.printing.specs.steps.Ending.{ending}
use Rattle.printing.specs.Text.{line_text, texts}
use Rattle.printing.specs.AnswerText.{text}
use Rattle.printing.specs.steps.Room.{line_room}
use Rattle.block.proofs.Pages.{spelled, then_put, put_as, put_nothing}
use Rattle.lines.specs.declared.Verdict.{Verdict}
use Rattle.lines.specs.declared.Answer.{Answer}

-- ---- lists of lines

texts_append : (key : Key) (xs ys : List PrintedLine) → texts key (xs ++ ys) ≡ texts key xs ++ texts key ys
unfolding texts
texts_append key [] ys = refl
texts_append key (x ∷ xs) ys =
    ap (λ (t : List ℕ). line_text key x ++ t) (texts_append key xs ys)
    ∙ sym (append_assoc (line_text key x) (texts key xs) (texts key ys))

texts_one : (key : Key) (l : PrintedLine) → texts key (l ∷ []) ≡ line_text key l
unfolding texts
texts_one key l = append-nil (line_text key l)

-- lines behind lines
pub then_lines : (b m r : Block) (key : Key) (xs ys : List PrintedLine) (i j : ℕ) → Put b (texts key xs) i m → Put m (texts key ys) j r
    → Put b (texts key (xs ++ ys)) (i + j) r
then_lines b m r key xs ys i j p q = put_as b r _ _ _ _ (texts_append key xs ys) (omega arith) (then_put b m r _ _ i j p q)

-- no line
pub no_line : (b : Block) (key : Key) (ls : List PrintedLine) (n : ℕ) → ls ≡ [] → Put b (texts key ls) n b
unfolding texts
no_line b key ls n e = rw e (put_nothing b n)

-- ---- one line

-- SC or CL, by its two letters
pub letters_put : (b r : Block) (name : LineName) (t : List ℕ) → t ≡ name_text name → length t ≡ 2 → r ≡ puts b t → Put b (name_text name) 2 r
letters_put b r name t e two f = record { is = f ∙ ap (puts b) e; short = omega (arith, ap length e) }

-- Y or N
pub mark_put : (b r : Block) (passes : Bool) → Put b (field (cond passes 0x59 0x4E ∷ [])) 2 r → Put b (field (mark_text (mark_of passes))) 2 r
unfolding mark_text mark_of
mark_put b r true p = p
mark_put b r false p = p

module _ (key : Key) (b₀ b₁ b₂ b₃ b₄ b₅ : Block) where
  pub check_printed : (b₆ b₇ b₈ : Block) (of : Combination) (by : Check) (l : Line) (figure : Figure) (limit set : ℕ) (passes exact : Bool)
      → l ≡ line.Shown figure limit set passes exact
      → Put b₀ (key_text key) 26 b₁
      → Put b₁ (combination_text of) 3 b₂
      → Put b₂ (HYPHEN ∷ check_text by) 3 b₃
      → Put b₃ (field (value_text (value_of figure))) 21 b₄
      → Put b₄ (field (decimal limit)) (1 + length (decimal limit)) b₅
      → length (decimal limit) ≤ 20
      → Put b₅ (field (decimal set)) (1 + length (decimal set)) b₆
      → Put b₆ (field (mark_text (mark_of passes))) 2 b₇
      → Put b₇ (ending (figure_exactness figure exact)) 4 b₈
      → Put b₀ (texts key (check_line of by l)) (line_room l) b₈
  unfolding shown_line check_line line_room line_text name_text number_text
  check_printed b₆ b₇ b₈ of by l figure limit set passes exact e p₁ p₂ p₃ p₄ p₅ few p₆ p₇ p₈ =
      rw e
      (put_as b₀ b₈ _ _ _ _ (texts_one key _) (omega (arith, few))
      (then_put b₀ b₁ b₈ _ _ _ _ p₁
      (then_put b₁ b₃ b₈ _ _ _ _ (then_put b₁ b₂ b₃ _ _ _ _ p₂ p₃)
      (then_put b₃ b₄ b₈ _ _ _ _ p₄
      (then_put b₄ b₅ b₈ _ _ _ _ p₅
      (then_put b₅ b₆ b₈ _ _ _ _ p₆
      (then_put b₆ b₇ b₈ _ _ _ _ p₇ p₈)))))))

  pub river_printed : (b₆ b₇ : Block) (name : LineName) (l : RiverLine) (value : Amount) (limit : ℕ) (passes exact : Bool)
      → l ≡ river.Shown value limit passes exact
      → Put b₀ (key_text key) 26 b₁
      → Put b₁ (name_text name) 2 b₂
      → Put b₂ (field (value_text (signed_value value))) 22 b₃
      → Put b₃ (field (decimal limit)) (1 + length (decimal limit)) b₄
      → length (decimal limit) ≤ 20
      → b₅ ≡ puts b₄ (field [])
      → Put b₅ (field (mark_text (mark_of passes))) 2 b₆
      → Put b₆ (ending (exactness_of exact)) 4 b₇
      → Put b₀ (texts key (river_line name l)) 78 b₇
  unfolding river_line river_shown line_text number_text
  river_printed b₆ b₇ name l value limit passes exact e p₁ p₂ p₃ p₄ few p₅ p₆ p₇ =
      rw e
      (put_as b₀ b₇ _ _ _ _ (texts_one key _) (omega (arith, few))
      (then_put b₀ b₁ b₇ _ _ _ _ p₁
      (then_put b₁ b₂ b₇ _ _ _ _ p₂
      (then_put b₂ b₃ b₇ _ _ _ _ p₃
      (then_put b₃ b₄ b₇ _ _ _ _ p₄
      (then_put b₄ b₅ b₇ _ _ 1 _ (spelled _ _ _ _ _ refl p₅ tt)
      (then_put b₅ b₆ b₇ _ _ _ _ p₆ p₇)))))))

pub alone_holds : (verdict : Verdict) (r : Bool) → r ≡ true → Alone r verdict → (later : List PrintedLine) → unless_refused verdict later ≡ []
alone_holds verdict true e h = h
alone_holds verdict false e h = impossible cc

pub alone_fails : (verdict : Verdict) (r : Bool) → r ≡ false → Alone r verdict → (later : List PrintedLine) → unless_refused verdict later ≡ later
alone_fails verdict true e h = impossible cc
alone_fails verdict false e h = h

-- VERDICT, and behind it the other lines, unless the job is refused
pub answer_printed : (key : Key) (answer : Answer) (b m r : Block) (later : List PrintedLine) (n : ℕ)
    → unless_refused answer.verdict (later_lines answer) ≡ later
    → Put b (line_text key (verdict_line answer.verdict)) 43 m → Put m (texts key later) n r → Put b (text key answer) (43 + n) r
unfolding text texts lines_of
answer_printed key answer b m r later n e p q = then_put b m r _ _ 43 n p (rw e q)
