-- Text behind text is their join, and a text put into an empty block is the block of that text, whatever its length.
use Prim.Native.Nat.{ℕ, suc, ◌+◌, ◌-◌, ◌/◌, ◌≤◌, ◌<◌}
use mathlib.Core.Path.{◌≡◌, refl, sym, ap, ◌∙◌}
use mathlib.Core.List.{List, [], ◌∷◌, ◌++◌, append_assoc, append-nil}
use native.Mathlib.Numerals.{add-one}
use native.Mathlib.Omega.{arith}
use native.Mathlib.Decide.{dec_le}
use borrow.Author.Tests.{lt-ltb, le-ltb}
use lib.Dec.{T, leb, leb→le}
use lib.ListN.{length, length-append, take, drop, get_or, set, replicate, drop_of_length-le, length-take, take-append-drop}
use lib.Seq.{drop-cons, set-append_seam, append_snoc, take-append_seam, take_all}
use Rattle.block.specs.declared.Block.{Block}
use Rattle.block.specs.Decimal.{decimal, last_digit}
use Rattle.block.specs.Block.{page, blank, filled, block_of, text_held, pushed, puts, Put}
use Rattle.block.proofs.Numbers.{decimal_small, decimal_more}

-- ---- text behind text

pub puts_append : (b : Block) (xs ys : List ℕ) → puts (puts b xs) ys ≡ puts b (xs ++ ys)
unfolding puts
puts_append b [] ys = refl
puts_append b (x ∷ xs) ys = puts_append (pushed b x) xs ys

-- what was put behind m, which is b with text, is put behind b
pub then : (b m r : Block) (xs ys : List ℕ) → m ≡ puts b xs → r ≡ puts m ys → r ≡ puts b (xs ++ ys)
then b m r xs ys e f = f ∙ ap (λ (x : Block). puts x ys) e ∙ puts_append b xs ys

-- a turn of the loop that puts the bytes of s: what is left, put behind r, is what was wanted of b₀
pub put_step : (b₀ b r : Block) (s : List ℕ) (i : ℕ) → i < length s → puts b (drop i s) ≡ puts b₀ s → r ≡ puts b (get_or s i 0 ∷ [])
    → puts r (drop (i + 1) s) ≡ puts b₀ s
unfolding puts
put_step b₀ b r s i h inv e =
    let q : puts b (drop i s) ≡ puts (pushed b (get_or s i 0)) (drop (i + 1) s) = rw (add-one, drop-cons s i 0) in
    ap (λ (x : Block). puts x (drop (i + 1) s)) e ∙ sym q ∙ inv

-- and its end
pub put_done : (b₀ b : Block) (s : List ℕ) (i : ℕ) → length s ≤ i → puts b (drop i s) ≡ puts b₀ s → b ≡ puts b₀ s
unfolding puts
put_done b₀ b s i h inv = ap (puts b) (sym (drop_of_length-le s h)) ∙ inv

-- the last digit is the whole number, where there is only one, and else where the tenth was put first
pub decimal_last : (b r : Block) (n : ℕ) → n < 10 → r ≡ puts b (last_digit n) → r ≡ puts b (decimal n)
decimal_last b r n h e = e ∙ ap (puts b) (sym (decimal_small n h))

pub decimal_next : (b m r : Block) (n : ℕ) → 10 ≤ n → m ≡ puts b (decimal (n / 10)) → r ≡ puts m (last_digit n) → r ≡ puts b (decimal n)
decimal_next b m r n h front e = then b m r _ _ front e ∙ ap (puts b) (sym (decimal_more n h))

-- ---- with a bound on the length

-- a text that is written out, which t' is
pub spelled : (b r : Block) (t t' : List ℕ) (n : ℕ) → t' ≡ t → r ≡ puts b t → T (leb (length t) n) → Put b t' n r
spelled b r t t' n e f h = record { is = f ∙ ap (puts b) (sym e); short = rw e (leb→le (length t) n h) }

-- one text behind another
pub then_put : (b m r : Block) (xs ys : List ℕ) (i j : ℕ) → Put b xs i m → Put m ys j r → Put b (xs ++ ys) (i + j) r
then_put b m r xs ys i j p q = record { is = then b m r xs ys p.is q.is; short = rw length-append (omega (arith, p.short, q.short)) }

-- the same text by another name, and with more room
pub put_as : (b r : Block) (t t' : List ℕ) (i n : ℕ) → t' ≡ t → i ≤ n → Put b t i r → Put b t' n r
put_as b r t t' i n e h p = record { is = p.is ∙ ap (puts b) (sym e); short = rw e (omega (arith, p.short)) }

pub put_nothing : (b : Block) (n : ℕ) → Put b [] n b
unfolding puts
put_nothing b n = record { is = refl; short = omega arith }

-- ---- an empty block with text

room : (t : List ℕ) → length t < 2048 → 2048 - length t ≡ suc (2047 - length t)
room t h = omega arith

bytes_more : (t : List ℕ) (x : ℕ) → length t < 2048
    → set (t ++ replicate (2048 - length t) 0) (length t) x ≡ (t ++ (x ∷ [])) ++ replicate (2048 - length (t ++ (x ∷ []))) 0
bytes_more t x h =
    let e : 2048 - length (t ++ (x ∷ [])) ≡ 2047 - length t = rw length-append (omega arith) in
    rw (room t h, e) (set-append_seam t 0 (replicate (2047 - length t) 0) x ∙ sym (append_snoc t x _))

pushed_more : (t : List ℕ) (x : ℕ) → length t < 2048 → pushed (filled t) x ≡ filled (t ++ (x ∷ []))
unfolding pushed filled
pushed_more t x h = rw (lt-ltb (length t) 2048 h) (λ i. page (bytes_more t x h i) (sym (length-append t (x ∷ [])) i))

puts_more : (t xs : List ℕ) → length t + length xs ≤ 2048 → puts (filled t) xs ≡ filled (t ++ xs)
unfolding puts
puts_more t [] h = ap filled (sym (append-nil t))
puts_more t (x ∷ xs) h =
    ap (λ (b : Block). puts b xs) (pushed_more t x (omega arith))
    ∙ puts_more (t ++ (x ∷ [])) xs (rw length-append (omega arith))
    ∙ ap filled (append_assoc t (x ∷ []) xs)

-- a full block stays as it is
puts_full : (b : Block) (xs : List ℕ) → 2048 ≤ b.len → puts b xs ≡ b
unfolding puts pushed
puts_full b [] h = refl
puts_full b (x ∷ xs) h = simp (le-ltb b.len 2048 h) (puts_full b xs h)

filled_length : (t : List ℕ) → (filled t).len ≡ length t
unfolding filled
filled_length t = refl

puts_filled : (t : List ℕ) → length t ≤ 2048 → puts blank t ≡ filled t
unfolding filled blank
puts_filled t h = puts_more [] t (omega arith)

puts_short : (t : List ℕ) → length t ≤ 2048 → puts blank t ≡ block_of t
unfolding block_of
puts_short t h = rw (take_all 2048 t h) (puts_filled t h)

puts_long : (t : List ℕ) → 2048 ≤ length t → puts blank t ≡ block_of t
unfolding block_of
puts_long t h =
    let cut : length (take 2048 t) ≡ 2048 = rw length-take (omega arith) in
    ap (puts blank) (sym (take-append-drop 2048 t))
    ∙ sym (puts_append blank (take 2048 t) (drop 2048 t))
    ∙ ap (λ (b : Block). puts b (drop 2048 t)) (puts_filled (take 2048 t) (omega arith))
    ∙ puts_full (filled (take 2048 t)) (drop 2048 t) (rw (filled_length, cut) (omega arith))

-- text put into an empty block
pub puts_blank : (t : List ℕ) → puts blank t ≡ block_of t
puts_blank t = elim (dec_le (length t) 2048) [ yes h ↦ puts_short t h | no h ↦ puts_long t (omega arith) ]

-- ---- a text that fits is held whole

pub block_held : (t : List ℕ) → length t ≤ 2048 → text_held (block_of t) ≡ t
unfolding text_held block_of filled
block_held t h = rw (take_all 2048 t h) (take-append_seam t _)
