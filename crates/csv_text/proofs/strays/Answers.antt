-- A text stops being RFC 4180 at one place only, and at none exactly if it is RFC 4180. A stray byte has one place, since what begins a text still does when
-- it is cut short; and a quote that is open at the end has one, since no field starts inside quotes.
use Prim.Native.Nat.{ℕ}
use native.Mathlib.Omega.{arith}
use mathlib.Core.Path.{◌≡◌, refl, sym, ap, subst, ◌∙◌}
use mathlib.Core.List.{List, [], ◌∷◌, ◌++◌, append_assoc}
use lib.ListN.{length}
use Rattle.arithmetic.proofs.Cases.{impossible}
use Rattle.csv_text.specs.rfc4180.Rfc4180.{CR, DQUOTE, Inside, Escaped, empty, byte, doubled, Readable}
use Rattle.csv_text.specs.strays.Strays.{Begun, FieldStarts, Before, field_next, in_quotes, behind_quotes, behind_return, TextSays, sound, stray, unclosed, ends_in_return}
use Rattle.csv_text.specs.declared.strays.Spot.{Spot}
use Rattle.csv_text.specs.declared.strays.TextFault.{TextFault}
use Rattle.csv_text.specs.declared.strays.TextFault.TheVariants as faults
use Rattle.std.specs.Prelude.{Option, Some, None}
use Rattle.csv_text.proofs.Lists.{nil_cons, heads, tails, conses, lasts}
use Rattle.csv_text.proofs.strays.Spots.{at_end_decides, readable_begun, before_begun}
use Rattle.csv_text.proofs.strays.Apart.{spot_one}

-- one list cut twice: at one place, or at one that lies behind the other
data Cut (a : List ℕ) (x : ℕ) (c b : List ℕ) (y : ℕ) (d : List ℕ) : Type 0 where
  same : a ≡ b → Cut a x c b y d
  earlier : (m : List ℕ) → b ≡ a ++ x ∷ m → c ≡ m ++ y ∷ d → Cut a x c b y d
  later : (m : List ℕ) → a ≡ b ++ y ∷ m → d ≡ m ++ x ∷ c → Cut a x c b y d

one_more : {a b c d : List ℕ} {x y z w : ℕ} → z ≡ w → Cut a x c b y d → Cut (z ∷ a) x c (w ∷ b) y d
one_more e (same p) = same (conses e p)
one_more e (earlier m p q) = earlier m (conses (sym e) p) q
one_more e (later m p q) = later m (conses e p) q

cut : (a b c d : List ℕ) (x y : ℕ) → a ++ x ∷ c ≡ b ++ y ∷ d → Cut a x c b y d
cut [] [] c d x y e = same refl
cut [] (w ∷ b) c d x y e = earlier b (conses (sym (heads e)) refl) (tails e)
cut (z ∷ a) [] c d x y e = later a (conses (heads e) refl) (sym (tails e))
cut (z ∷ a) (w ∷ b) c d x y e = one_more (heads e) (cut a b c d x y (tails e))

-- what begins a text still does when it is cut short
begun_short : (p r : List ℕ) → Begun (p ++ r) → Begun p
begun_short p r w = record { rest = r ++ w.rest; text = subst Readable (append_assoc p r w.rest) w.text }

begun_past : {s : List ℕ} (p : List ℕ) (b : ℕ) (r : List ℕ) → s ≡ p ++ b ∷ r → (Begun (p ++ b ∷ []) → ⊥) → Begun s → ⊥
begun_past p b r e n w = n (begun_short (p ++ b ∷ []) r (subst Begun (e ∙ sym (append_assoc p (b ∷ []) r)) w))

-- the first of two stray bytes is none, if the bytes before the second begin a text: so they stand at one place
module _ {a b : List ℕ} {at to : ℕ} {spot other : Spot} (x : ℕ) (c : List ℕ) (y : ℕ) (d : List ℕ) where
  stray_at : Cut a x c b y d → (length a ≡ length b → at ≡ to) → Begun a → (Begun (a ++ x ∷ []) → ⊥) → Begun b → (Begun (b ++ y ∷ []) → ⊥) → Before a spot → Before b other → Some (faults.Stray at spot) ≡ Some (faults.Stray to other)
  stray_at (same e) h w n v m p q =
      let places : at ≡ to = h (ap length e) in
      let spots_same : spot ≡ other = spot_one (subst (λ (l : List ℕ). Before l spot) e p) q in
      λ i. Some (faults.Stray (places i) (spots_same i))
  stray_at (earlier r e f) h w n v m p q = absurd (begun_past a x r e n v)
  stray_at (later r e f) h w n v m p q = absurd (begun_past b y r e m w)

-- what stands between quotes, cut short: it still may stand between quotes, or half of a doubled quote stands last
data Halved (m : List ℕ) : Type 0 where
  whole : {c : List ℕ} → Escaped m c → Halved m
  half : {e c : List ℕ} → Escaped e c → m ≡ e ++ DQUOTE ∷ [] → Halved m

halved_byte : {m : List ℕ} {b x : ℕ} → Inside b → x ≡ b → Halved m → Halved (x ∷ m)
halved_byte {m} h z (whole p) = rw z (whole (byte h p))
halved_byte {m} h z (half p e) = rw z (half (byte h p) (conses refl e))

halved_quotes : {m : List ℕ} {x y : ℕ} → x ≡ DQUOTE → y ≡ DQUOTE → Halved m → Halved (x ∷ y ∷ m)
halved_quotes z w (whole p) = rw (z, w) (whole (doubled p))
halved_quotes z w (half p e) = rw (z, w) (half (doubled p) (conses refl (conses refl e)))

halved : {s c : List ℕ} → Escaped s c → (m r : List ℕ) → s ≡ m ++ r → Halved m
halved empty [] r e = whole empty
halved empty (x ∷ m) r e = absurd (nil_cons e)
halved (byte h p) [] r e = whole empty
halved (byte h p) (x ∷ m) r e = halved_byte h (sym (heads e)) (halved p m r (tails e))
halved (doubled p) [] r e = whole empty
halved (doubled p) (x ∷ []) r e = half empty (conses (sym (heads e)) refl)
halved (doubled p) (x ∷ y ∷ m) r e = halved_quotes (sym (heads e)) (sym (heads (tails e))) (halved p m r (tails (tails e)))

-- so no field starts inside quotes
no_field_inside : {a b m : List ℕ} → FieldStarts a → b ≡ a ++ DQUOTE ∷ m → Halved m → FieldStarts b → ⊥
no_field_inside f e (whole p) g = let z = spot_one (in_quotes f p e) (field_next g) in impossible cc
no_field_inside {a} f e (half p h) g = let z = spot_one (behind_quotes f p (e ∙ ap (λ (l : List ℕ). a ++ DQUOTE ∷ l) h)) (field_next g) in impossible cc

module _ {a b c d x y : List ℕ} {at to : ℕ} where
  quote_at : Cut a DQUOTE c b DQUOTE d → (length a ≡ length b → at ≡ to) → FieldStarts a → FieldStarts b → Escaped c x → Escaped d y → at ≡ to
  quote_at (same e) h f g p q = h (ap length e)
  quote_at (earlier m e r) h f g p q = absurd (no_field_inside f e (halved p m _ r) g)
  quote_at (later m e r) h f g p q = absurd (no_field_inside g e (halved q m _ r) f)

-- what is no RFC 4180 text
pub fault_unreadable : {s : List ℕ} {fault : Option TextFault} → TextSays s fault → (fault ≡ None → ⊥) → Readable s → ⊥
fault_unreadable (sound w) n k = n refl
fault_unreadable (stray {before} b behind e h w m p) n k = begun_past before b behind e m (readable_begun k)
fault_unreadable (unclosed e h f p) n k = at_end_decides (in_quotes f p e) k
fault_unreadable (ends_in_return e h w) n k = at_end_decides (behind_return w e) k

pub sound_readable : {s : List ℕ} → TextSays s None → Readable s
sound_readable (sound w) = w

pub text_one : {s : List ℕ} {a b : Option TextFault} → TextSays s a → TextSays s b → a ≡ b
text_one (sound w) (sound v) = refl
text_one (sound w) (stray b r e h v n p) = absurd (fault_unreadable (stray b r e h v n p) (λ z. impossible cc) w)
text_one (sound w) (unclosed e h f p) = absurd (fault_unreadable (unclosed e h f p) (λ z. impossible cc) w)
text_one (sound w) (ends_in_return e h v) = absurd (fault_unreadable (ends_in_return e h v) (λ z. impossible cc) w)
text_one (stray b r e h v n p) (sound w) = absurd (fault_unreadable (stray b r e h v n p) (λ z. impossible cc) w)
text_one (stray {before = u} x c e h w n p) (stray {before = v} y d f k z m q) = stray_at x c y d (cut u v c d x y (sym e ∙ f)) (λ l. omega arith) w n z m p q
text_one (stray {before = u} x c e h w n p) (unclosed g k f q) = absurd (begun_past u x c e n (before_begun (in_quotes f q g)))
text_one (stray {before = u} x c e h w n p) (ends_in_return g k v) = absurd (begun_past u x c e n (before_begun (behind_return v g)))
text_one (unclosed e h f p) (sound w) = absurd (fault_unreadable (unclosed e h f p) (λ z. impossible cc) w)
text_one (unclosed g k f q) (stray {before = u} x c e h w n p) = absurd (begun_past u x c e n (before_begun (in_quotes f q g)))
text_one (unclosed {before = u} {inside = c} e h f p) (unclosed {before = v} {inside = d} g k m q) =
    ap (λ (k : ℕ). Some (faults.Unclosed k)) (quote_at (cut u v c d DQUOTE DQUOTE (sym e ∙ g)) (λ l. omega arith) f m p q)
text_one (unclosed e h f p) (ends_in_return g k v) = let z = spot_one (in_quotes f p e) (behind_return v g) in impossible cc
text_one (ends_in_return e h v) (sound w) = absurd (fault_unreadable (ends_in_return e h v) (λ z. impossible cc) w)
text_one (ends_in_return g k v) (stray {before = u} x c e h w n p) = absurd (begun_past u x c e n (before_begun (behind_return v g)))
text_one (ends_in_return g k v) (unclosed e h f p) = let z = spot_one (in_quotes f p e) (behind_return v g) in impossible cc
text_one (ends_in_return {before = u} e h w) (ends_in_return {before = v} g k z) =
    let l = ap length (lasts u v CR CR (sym e ∙ g)).0 in
    ap (λ (k : ℕ). Some (faults.Return k)) (omega arith)
