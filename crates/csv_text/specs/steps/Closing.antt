-- What `byte_is` and `closing` answer: whether a byte stands at a place, and where what stands between quotes closes, in terms of RFC 4180 as `Rfc4180` states it.
use Rattle.std.specs.Prelude.{ℕ, Option, Some, None, ◌+◌, ◌≤◌, ◌<◌, ◌≡◌, List, ◌∷◌, ◌++◌, length, drop}
use Rattle.csv_text.specs.Part.{part}
use Rattle.csv_text.specs.rfc4180.Rfc4180.{DQUOTE, Escaped}

-- the text begins with the byte b
pub record FirstByte (b : ℕ) (t : List ℕ) : Type 0 where
  pub behind : List ℕ
  pub begins : t ≡ b ∷ behind

-- what stands between quotes from `at` on ends at e, where a quote stands alone
pub record EscapedTo (s : List ℕ) (at e : ℕ) : Type 0 where
  pub from : at ≤ e
  pub within : e < length s
  pub content : List ℕ
  pub escaped : Escaped (part at e s) content
  pub quote : drop e s ≡ DQUOTE ∷ drop (e + 1) s
  pub alone : FirstByte DQUOTE (drop (e + 1) s) → ⊥

-- the closing quote of what stands between quotes from `at` on, or that none closes it
abbrev pub ClosedAt : List ℕ → ℕ → Option ℕ → Type 0
ClosedAt s at (Some e) = EscapedTo s at e
ClosedAt s at None =
    (r c t : List ℕ) → Escaped r c → (FirstByte DQUOTE t → ⊥) → drop at s ≡ r ++ DQUOTE ∷ t → ⊥
