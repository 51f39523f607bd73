-- Names: a letter by its bounds, and the bytes of a name as the loop fills them in.
use Prim.Native.Nat.{ℕ, suc, ◌+◌, ◌-◌, ◌≤◌, ◌<◌, suc-le-suc, zero-le}
use native.Mathlib.Numerals.{add-one}
use native.Mathlib.Omega.{arith}
use mathlib.Core.Path.{◌≡◌, refl, ap, ◌∙◌}
use Rattle.std.specs.Prelude.{Option, Some, None}
use mathlib.Core.List.{List, [], ◌∷◌, ◌++◌}
use borrow.Author.Count.{below_more}
use lib.ListN.{length, get_or, take, set, replicate}
use lib.Seq.{take-suc, length-take-le, set_at, append_snoc, take-length}
use Rattle.csv_text.specs.rfc4180.Rfc4180.{Textdata, high, Plain, none, text}
use Rattle.fields.specs.content.Content.{Bare}
use Rattle.fields.specs.names.Names.{Letter, hyphen, digit, upper, IsName, NameOf}
use Rattle.fields.specs.names.NameAt.{ContentNamed, NameAt}
use Rattle.fields.specs.declared.names.Name.{Name}
use Rattle.fields.proofs.content.Contents.{bare_field, content_none}

letter_text : {b : ℕ} → Letter b → Textdata b
letter_text (hyphen h) = high (omega arith) (omega arith)
letter_text (digit h k) = high (omega arith) (omega arith)
letter_text (upper h k) = high (omega arith) (omega arith)

letters_plain : (c : List ℕ) → ((k : ℕ) → k < length c → Letter (get_or c k 0)) → Plain c
letters_plain [] h = none
letters_plain (b ∷ c) h = text (letter_text (h 0 (suc-le-suc zero-le))) (letters_plain c (λ k l. h (suc k) (suc-le-suc l)))

pub name_plain : (c : List ℕ) → IsName c → Plain c
name_plain c n = letters_plain c n.letters

-- a field is a name exactly if the stretch between its quotes is
pub name_field : {raw r : List ℕ} → Bare raw r → (n : Option Name) → ContentNamed r n → NameAt raw n
name_field {raw} {r} h (Some n) w = record { content = r; field = bare_field (name_plain r w.is) h; named = w }
name_field h None w = λ m q. content_none IsName name_plain h w q.content q.field q.named.is

-- the first i bytes, with zeros behind them
abbrev pub filled : ℕ → List ℕ → List ℕ
filled i l = take i l ++ replicate (12 - i) 0

pub filled_more : (l : List ℕ) (i : ℕ) → i < length l → i < 12 → set (filled i l) i (get_or l i 0) ≡ filled (i + 1) l
filled_more l i h k =
    let n : 12 - i ≡ suc (12 - (i + 1)) = omega arith in
    rw (n, set_at (take i l) 0 (replicate (12 - (i + 1)) 0) (get_or l i 0) i (length-take-le i l (omega arith)), add-one, take-suc l i 0 h, append_snoc)

pub filled_all : (l : List ℕ) → filled (length l) l ≡ l ++ replicate (12 - length l) 0
filled_all l = rw take-length

-- the first i bytes of a content are letters, and held
pub record Read (c bytes : List ℕ) (i : ℕ) : Type 0 where
  pub held : bytes ≡ filled i c
  pub letters : (k : ℕ) → k < i → Letter (get_or c k 0)

module _ (c : List ℕ) where
  pub read_start : Read c (replicate 12 0) 0
  read_start = record { held = refl; letters = λ k l. absurd (omega arith) }

  module _ (few : length c ≤ 12) where
    pub read_more : {bytes : List ℕ} {i : ℕ} → Read c bytes i → i < length c → Letter (get_or c i 0) → Read c (set bytes i (get_or c i 0)) (i + 1)
    read_more {i = i} h l p = record { held = ap (λ (s : List ℕ). set s i (get_or c i 0)) h.held ∙ filled_more c i l (omega arith); letters = below_more _ _ h.letters p }

    pub read_name : {bytes : List ℕ} {i : ℕ} → 1 ≤ length c → Read c bytes i → i ≡ length c → NameOf c (record { len = length c; bytes = bytes })
    read_name some h j =
        let w = h.held ∙ ap (λ (m : ℕ). filled m c) j ∙ filled_all c in
        record { is = record { some = some; few = few; letters = λ m q. h.letters m (omega arith) }; held = λ t. record { len = length c; bytes = w t } }
