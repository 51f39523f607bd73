-- A block of 2,048 bytes: its text grows at its end, and a full block takes no more.
use Rattle.std.specs.Prelude.{ℕ, ◌+◌, ◌-◌, ◌≤◌, ◌≡◌, cond, List, [], ◌∷◌, ◌++◌, ltb, length, take, set, replicate}
use Rattle.block.specs.declared.Block.{Block}

-- bytes, the first so many of which are the text
abbrev pub page : List ℕ → ℕ → Block
page bytes len = record { bytes = bytes; len = len }

-- a text of at most 2,048 bytes, and zeros behind it
unfoldable pub filled : List ℕ → Block
filled t = page (t ++ replicate (2048 - length t) 0) (length t)

-- the block of a text: of a longer one the first 2,048 bytes
unfoldable pub block_of : List ℕ → Block
block_of t = filled (take 2048 t)

-- the text that a block holds
unfoldable pub text_held : Block → List ℕ
text_held block = take block.len block.bytes

-- no text, and zeros
unfoldable pub blank : Block
blank = page (replicate 2048 0) 0

-- one byte behind the text, where there is room
unfoldable pub pushed : Block → ℕ → Block
pushed b x = cond (ltb b.len 2048) (page (set b.bytes b.len x) (b.len + 1)) b

unfoldable pub puts : Block → List ℕ → Block
puts b [] = b
puts b (x ∷ xs) = puts (pushed b x) xs

-- r is b with the text t behind it, and t has at most so many bytes
pub record Put (b : Block) (t : List ℕ) (most : ℕ) (r : Block) : Type 0 where
  pub is : r ≡ puts b t
  pub short : length t ≤ most
