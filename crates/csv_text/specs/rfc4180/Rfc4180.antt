-- RFC 4180, section 2, as a relation between a text's bytes and its rows. Each rule of the ABNF that a text without a header
-- uses stands here, with a constructor for each alternative. Two choices that the ABNF leaves open are the customer's: a final CRLF closes the
-- last row and starts none, and the empty text is one row with one empty field.
use Rattle.std.specs.Prelude.{ℕ, ◌≤◌, ◌≡◌, List, [], ◌∷◌, ◌++◌}

-- COMMA = %x2C, CR = %x0D, DQUOTE = %x22, LF = %x0A
abbrev pub COMMA : ℕ
COMMA = 0x2C

abbrev pub CR : ℕ
CR = 0x0D

abbrev pub DQUOTE : ℕ
DQUOTE = 0x22

abbrev pub LF : ℕ
LF = 0x0A

-- TEXTDATA = %x20-21 / %x23-2B / %x2D-7E
pub data Textdata (b : ℕ) : Type 0 where
  low : 0x20 ≤ b → b ≤ 0x21 → Textdata b
  middle : 0x23 ≤ b → b ≤ 0x2B → Textdata b
  high : 0x2D ≤ b → b ≤ 0x7E → Textdata b

-- non-escaped = *TEXTDATA
pub data Plain : List ℕ → Type 0 where
  none : Plain []
  text : {b : ℕ} {s : List ℕ} → Textdata b → Plain s → Plain (b ∷ s)

-- TEXTDATA / COMMA / CR / LF: what stands for itself between quotes
pub data Inside (b : ℕ) : Type 0 where
  is_text : Textdata b → Inside b
  is_comma : b ≡ COMMA → Inside b
  is_cr : b ≡ CR → Inside b
  is_lf : b ≡ LF → Inside b

-- *(TEXTDATA / COMMA / CR / LF / 2DQUOTE), and what it means: each byte itself, and two quotes one quote
pub data Escaped : List ℕ → List ℕ → Type 0 where
  empty : Escaped [] []
  byte : {b : ℕ} {s c : List ℕ} → Inside b → Escaped s c → Escaped (b ∷ s) (b ∷ c)
  doubled : {s c : List ℕ} → Escaped s c → Escaped (DQUOTE ∷ DQUOTE ∷ s) (DQUOTE ∷ c)

-- field = escaped / non-escaped, and its content; escaped = DQUOTE *(..) DQUOTE
pub data Field : List ℕ → List ℕ → Type 0 where
  plain : {s : List ℕ} → Plain s → Field s s
  quoted : {s c : List ℕ} → Escaped s c → Field (DQUOTE ∷ s ++ DQUOTE ∷ []) c

-- a field of a row: the stretch of the text that it is, quotes included, and its content
pub record Cell : Type 0 where
  pub raw : List ℕ
  pub content : List ℕ

-- record = field *(COMMA field)
pub data Record : List ℕ → List Cell → Type 0 where
  only : {f : Cell} → Field f.raw f.content → Record f.raw (f ∷ [])
  then : {f : Cell} {s : List ℕ} {fs : List Cell} → Field f.raw f.content → Record s fs → Record (f.raw ++ COMMA ∷ s) (f ∷ fs)

-- file = record *(CRLF record) [CRLF]. What follows a CRLF that starts a row is not empty: a CRLF with nothing behind it closes the last row
pub data File : List ℕ → List (List Cell) → Type 0 where
  last : {s : List ℕ} {r : List Cell} → Record s r → File s (r ∷ [])
  closed : {s : List ℕ} {r : List Cell} → Record s r → File (s ++ CR ∷ LF ∷ []) (r ∷ [])
  next : {s t : List ℕ} {r : List Cell} {rs : List (List Cell)} → Record s r → (t ≡ [] → ⊥) → File t rs → File (s ++ CR ∷ LF ∷ t) (r ∷ rs)

-- the text is RFC 4180: some rows are its reading
pub record Readable (s : List ℕ) : Type 0 where
  pub rows : List (List Cell)
  pub reading : File s rows
