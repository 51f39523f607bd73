-- The fills of a book in words: what `word`, `name_key`, `fill_key` and `find` answer, and words that are those of fills.
use Rattle.std.specs.Prelude.{ℕ, ◌+◌, ◌*◌, ◌≤◌, ◌<◌, ◌^◌, ◌≡◌, List, length, get_or, Option, Some, None}
use Rattle.fields.specs.declared.names.Name.{Name}
use Rattle.fills.specs.declared.fill_rows.Fill.{Fill}
use Rattle.fills.specs.declared.digest.TwoWords.{TwoWords}
use Rattle.fills.specs.declared.digest.FillWords.{FillWords}
use Rattle.fills.specs.FillBook.{no_fill}

-- six bytes in a word
abbrev pub word : ℕ → ℕ → ℕ → ℕ → ℕ → ℕ → ℕ
word a b c d e f = ((((a * 256 + b) * 256 + c) * 256 + d) * 256 + e) * 256 + f

pub record WordIs (a b c d e f r : ℕ) : Type 0 where
  pub is : r ≡ word a b c d e f
  pub bytes : ((a < 256) × (b < 256) × (c < 256)) × ((d < 256) × (e < 256) × (f < 256))
  pub few : r < 2 ^ 48

-- the six bytes of a list that start at a place
abbrev pub word_at : List ℕ → ℕ → ℕ
word_at bs k = word (get_or bs k 0) (get_or bs (k + 1) 0) (get_or bs (k + 2) 0) (get_or bs (k + 3) 0) (get_or bs (k + 4) 0) (get_or bs (k + 5) 0)

abbrev pub high_of : Name → ℕ
high_of n = word_at n.bytes 0

abbrev pub low_of : Name → ℕ
low_of n = word_at n.bytes 6 * 16 + n.len

-- a name that the two words tell: twelve bytes, of which at most twelve count
pub record Proper (n : Name) : Type 0 where
  pub few : n.len ≤ 12
  pub twelve : length n.bytes ≡ 12
  pub bytes : (k : ℕ) → k < 12 → get_or n.bytes k 0 < 256

pub record NameKeyIs (n : Name) (key : TwoWords) : Type 0 where
  pub high : key.high ≡ high_of n
  pub low : key.low ≡ low_of n
  pub proper : Proper n
  pub short : key.low < 2 ^ 53

pub record KeyIs (n : Name) (soil slope : ℕ) (key : TwoWords) : Type 0 where
  pub high : key.high ≡ high_of n
  pub low : key.low ≡ low_of n * 64 + soil * 8 + slope
  pub proper : Proper n

-- what stands in no list
abbrev pub no_words : FillWords
no_words = record { key = record { high = 0; low = 0 }; value = 0 }

-- the words at a place are these
abbrev pub WordsAt : List FillWords → TwoWords → ℕ → Type 0
WordsAt ws key k = (get_or ws k no_words).key ≡ key

-- the first place that has the words, or that none has them
abbrev pub FoundAt : List FillWords → TwoWords → Option ℕ → Type 0
FoundAt ws key (Some r) = (r < length ws) × WordsAt ws key r × ((k : ℕ) → k < r → WordsAt ws key k → ⊥)
FoundAt ws key None = (k : ℕ) → k < length ws → WordsAt ws key k → ⊥

-- a fill whose words tell it
pub record Small (f : Fill) : Type 0 where
  pub member : Proper f.member
  pub soil : (1 ≤ f.soil) × (f.soil ≤ 5)
  pub slope : (1 ≤ f.slope) × (f.slope ≤ 5)
  pub value : (1 ≤ f.value) × (f.value ≤ 40000)

-- a fill in words
pub record InWords (f : Fill) (w : FillWords) : Type 0 where
  pub small : Small f
  pub high_is : w.key.high ≡ high_of f.member
  pub low_is : w.key.low ≡ low_of f.member * 64 + f.soil * 8 + f.slope
  pub value_is : w.value ≡ f.value

-- these fills in words
pub record DigestOf (fs : List Fill) (ws : List FillWords) : Type 0 where
  pub many : length ws ≡ length fs
  pub holds : (k : ℕ) → k < length ws → InWords (get_or fs k no_fill) (get_or ws k no_words)
