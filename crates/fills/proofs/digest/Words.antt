-- The words of a fill tell its member, soil and slope.
use Prim.Native.Nat.{ℕ, zero, suc, ◌+◌, ◌*◌, ◌-◌, ◌≤◌, ◌<◌}
use native.Mathlib.Decide.{dec_lt}
use native.Mathlib.Omega.{arith}
use mathlib.Core.Path.{◌≡◌, sym, ap, subst, ◌∙◌}
use mathlib.Core.List.{List, [], ◌∷◌, ◌++◌}
use lib.ListN.{length, get_or, replicate, length-append, length-replicate, get_or-replicate, get_or-append}
use lib.Seq.{ext_get_or, get_or_at, get_or-append-add}
use Rattle.std.specs.Prelude.{Some, None}
use Rattle.arithmetic.proofs.Cases.{by_cases}
use Rattle.fields.specs.names.Names.{name}
use Rattle.fields.specs.declared.names.Name.{Name}
use Rattle.fills.specs.declared.fill_rows.Fill.{Fill}
use Rattle.fills.specs.declared.digest.TwoWords.{TwoWords}
use Rattle.fills.specs.declared.digest.FillWords.{FillWords}
use Rattle.fills.specs.FillBook.{no_fill, Lists}
use Rattle.fills.specs.Says.{Lacks}
use Rattle.fills.specs.digest.Digest.{word_at, high_of, low_of, Proper, KeyIs, no_words, WordsAt, FoundAt, InWords, DigestOf}

-- one byte more
last_byte : (x y a b : ℕ) → a < 256 → b < 256 → x * 256 + a ≡ y * 256 + b → (x ≡ y) × (a ≡ b)
last_byte x y a b h k e = (omega arith, omega arith)

-- what holds of the first six numbers
six : (P : ℕ → Type 0) → P 0 → P 1 → P 2 → P 3 → P 4 → P 5 → (k : ℕ) → k < 6 → P k
six P a b c d e f zero l = a
six P a b c d e f (suc zero) l = b
six P a b c d e f (suc (suc zero)) l = c
six P a b c d e f (suc (suc (suc zero))) l = d
six P a b c d e f (suc (suc (suc (suc zero)))) l = e
six P a b c d e f (suc (suc (suc (suc (suc zero))))) l = f
six P a b c d e f (suc (suc (suc (suc (suc (suc k)))))) l = absurd (omega arith)

-- a word is that of one list of six bytes
module _ (xs ys : List ℕ) (at : ℕ) (small : (k : ℕ) → k < 6 → get_or xs (at + k) 0 < 256) (low : (k : ℕ) → k < 6 → get_or ys (at + k) 0 < 256) where
  pub word_one : word_at xs at ≡ word_at ys at → (k : ℕ) → k < 6 → get_or xs (at + k) 0 ≡ get_or ys (at + k) 0
  word_one e =
      let f = last_byte _ _ (get_or xs (at + 5) 0) (get_or ys (at + 5) 0) (small 5 (omega arith)) (low 5 (omega arith)) e in
      let g = last_byte _ _ (get_or xs (at + 4) 0) (get_or ys (at + 4) 0) (small 4 (omega arith)) (low 4 (omega arith)) f.0 in
      let h = last_byte _ _ (get_or xs (at + 3) 0) (get_or ys (at + 3) 0) (small 3 (omega arith)) (low 3 (omega arith)) g.0 in
      let i = last_byte _ _ (get_or xs (at + 2) 0) (get_or ys (at + 2) 0) (small 2 (omega arith)) (low 2 (omega arith)) h.0 in
      let j = last_byte _ _ (get_or xs (at + 1) 0) (get_or ys (at + 1) 0) (small 1 (omega arith)) (low 1 (omega arith)) i.0 in
      let z : at + 0 ≡ at = omega arith in
      six (λ (k : ℕ). get_or xs (at + k) 0 ≡ get_or ys (at + k) 0) (ap (λ (k : ℕ). get_or xs k 0) z ∙ j.0 ∙ ap (λ (k : ℕ). get_or ys k 0) (sym z)) j.1 i.1 h.1 g.1 f.1

-- a length below 16 behind a word
behind_word : (x y a b : ℕ) → a ≤ 12 → b ≤ 12 → x * 16 + a ≡ y * 16 + b → (x ≡ y) × (a ≡ b)
behind_word x y a b h k e = (omega arith, omega arith)

pub names_one : {m n : Name} → Proper m → Proper n → high_of m ≡ high_of n → low_of m ≡ low_of n → m ≡ n
names_one {m} {n} p q e f =
    let w = behind_word (word_at m.bytes 6) (word_at n.bytes 6) m.len n.len p.few q.few f in
    let front = word_one m.bytes n.bytes 0 (λ k l. p.bytes (0 + k) (omega arith)) (λ k l. q.bytes (0 + k) (omega arith)) e in
    let back = word_one m.bytes n.bytes 6 (λ k l. p.bytes (6 + k) (omega arith)) (λ k l. q.bytes (6 + k) (omega arith)) w.0 in
    let each : (k : ℕ) → k < 12 → get_or m.bytes k 0 ≡ get_or n.bytes k 0 =
    λ k l.
    by_cases (dec_lt k 6) (λ h. let d : 0 + k ≡ k = omega arith in subst (λ (i : ℕ). get_or m.bytes i 0 ≡ get_or n.bytes i 0) d (front k h))
    (λ h.
    let d : 6 + (k - 6) ≡ k = omega arith in
    subst (λ (i : ℕ). get_or m.bytes i 0 ≡ get_or n.bytes i 0) d (back (k - 6) (omega arith))) in
    let t = p.twelve in
    let b = ext_get_or 0 m.bytes n.bytes (p.twelve ∙ sym q.twelve) (λ i l. each i (omega arith)) in
    let l = w.1 in
    λ i. record { len = l i; bytes = b i }

-- a content of at most twelve bytes is such a name
pub proper_name : (c : List ℕ) → length c ≤ 12 → ((k : ℕ) → k < length c → get_or c k 0 < 256) → Proper (name c)
proper_name c few h = record {
  few = few;
  twelve = let l = length-append c (replicate (12 - length c) 0) in let r = length-replicate {A = ℕ} (12 - length c) 0 in omega arith;
  bytes = λ k l.
      by_cases (dec_lt k (length c)) (λ m. rw (get_or-append c (replicate (12 - length c) 0) 0 k m) (h k m))
      (λ m.
      let d : length c + (k - length c) ≡ k = omega arith in
      let z : get_or (c ++ replicate (12 - length c) 0) k 0 ≡ 0 = ap (λ (i : ℕ). get_or (c ++ replicate (12 - length c) 0) i 0) (sym d) ∙ get_or-append-add c (replicate (12 - length c) 0) (k - length c) 0 ∙ get_or-replicate (12 - length c) (k - length c) 0 0 (omega arith) in
      omega arith);
}

-- member, soil and slope in one word
three : (x y a b c d : ℕ) → a ≤ 5 → b ≤ 5 → c ≤ 5 → d ≤ 5 → x * 64 + a * 8 + b ≡ y * 64 + c * 8 + d → (x ≡ y) × (a ≡ c) × (b ≡ d)
three x y a b c d h i j k e = (omega arith, omega arith, omega arith)

-- the words that are found are those of one member, soil and slope
module _ {fs : List Fill} {ws : List FillWords} (digest : DigestOf fs ws) {member : Name} {soil slope : ℕ} {key : TwoWords} (is : KeyIs member soil slope key) (s : soil ≤ 5) (p : slope ≤ 5) where
  words_tell : (k : ℕ) → k < length ws → WordsAt ws key k → get_or fs k no_fill ≡ record { member = member; soil = soil; slope = slope; value = (get_or ws k no_words).value }
  words_tell k l w =
      let h = digest.holds k l in
      let f = get_or fs k no_fill in
      let high = ap (λ (x : TwoWords). x.high) w in
      let low = ap (λ (x : TwoWords). x.low) w in
      let t = three (low_of f.member) (low_of member) f.soil f.slope soil slope h.small.soil.1 h.small.slope.1 s p (sym h.low_is ∙ low ∙ is.low) in
      let m = names_one h.small.member is.proper (sym h.high_is ∙ high ∙ is.high) t.0 in
      let a = t.1 in
      let b = t.2 in
      let v = sym h.value_is in
      λ i. record { member = m i; soil = a i; slope = b i; value = v i }

  tell_words : {v : ℕ} (w : Lists fs member soil slope v) → WordsAt ws key w.at
  tell_words w =
      let many = digest.many in
      let within = w.within in
      let h = digest.holds w.at (omega arith) in
      let e = w.is in
      let m = ap (λ (f : Fill). f.member) e in
      let high = h.high_is ∙ ap high_of m ∙ sym is.high in
      let low = h.low_is ∙ ap (λ (f : Fill). low_of f.member * 64 + f.soil * 8 + f.slope) e ∙ sym is.low in
      λ i. record { high = high i; low = low i }

  pub found_fill : {r : ℕ} → FoundAt ws key (Some r) → get_or fs r no_fill ≡ record { member = member; soil = soil; slope = slope; value = (get_or ws r no_words).value }
  found_fill {r} found = words_tell r found.0 found.1

  pub not_found : FoundAt ws key None → Lacks fs member soil slope
  not_found found v w =
      let many = digest.many in
      let within = w.within in
      found w.at (omega arith) (tell_words w)

-- one fill more
pub digest_more : {fs : List Fill} {ws : List FillWords} → DigestOf fs ws → (f : Fill) (w : FillWords) → InWords f w → DigestOf (fs ++ f ∷ []) (ws ++ w ∷ [])
digest_more {fs} {ws} digest f w is =
    let many = digest.many in
    record {
      many = let e = length-append fs (f ∷ []) in let d = length-append ws (w ∷ []) in omega arith;
      holds = λ k b.
          by_cases (dec_lt k (length ws))
          (λ a. rw (get_or-append fs (f ∷ []) no_fill k (omega arith), get_or-append ws (w ∷ []) no_words k a) (digest.holds k a))
          (λ a.
          let d = length-append ws (w ∷ []) in
          let e : length ws ≡ k = omega arith in
          rw (get_or_at fs f [] no_fill k (sym many ∙ e), get_or_at ws w [] no_words k e) is);
    }
