-- Fills laid over values, one by one.
use Prim.Native.Nat.{ℕ, suc, ◌+◌, ◌*◌, ◌-◌, ◌/◌, ◌%◌, ◌≤◌, ◌<◌}
use native.Mathlib.Decide.{dec_lt, ℕ_discrete}
use native.Mathlib.Omega.{arith}
use mathlib.Core.Path.{◌≡◌, refl, sym, ap, subst, ◌∙◌}
use mathlib.Core.List.{List, []}
use lib.ListN.{length, get_or, set, length-set}
use lib.Seq.{get_or-set_same, get_or-set_other}
use Rattle.arithmetic.proofs.Cases.{by_cases}
use Rattle.fields.specs.declared.names.Name.{Name}
use Rattle.fills.specs.declared.fill_rows.Fill.{Fill}
use Rattle.fills.specs.FillBook.{no_fill}
use Rattle.fills.specs.declared.digest.TwoWords.{TwoWords}
use Rattle.fills.specs.declared.digest.FillWords.{FillWords}
use Rattle.fills.specs.digest.Digest.{high_of, low_of, Proper, no_words, InWords, DigestOf}
use Rattle.fills.specs.Values.{cell, FiveByFive}
use Rattle.fills.specs.steps.Laid.{LaidAt, listed, unlisted, LaidOver}
use Rattle.fills.proofs.digest.Words.{names_one}

-- the first i fills of the member with these words are laid over the values
abbrev pub Laying : List FillWords → TwoWords → ℕ → List (List ℕ) → List (List ℕ) → Type 0
Laying ws key i before after =
    (fs : List Fill) → DigestOf fs ws → (m : Name) → Proper m → high_of m ≡ key.high → low_of m ≡ key.low → LaidOver fs i m before after

-- member, soil and slope of one word
decode : (n x a b : ℕ) → a ≤ 5 → b ≤ 5 → n ≡ x * 64 + a * 8 + b → (n / 64 ≡ x) × (n / 8 % 8 ≡ a) × (n % 8 ≡ b)
decode n x a b h k e = (omega arith, omega arith, omega arith)

module _ {fs : List Fill} {m : Name} {before : List (List ℕ)} where
  pub laid_start : FiveByFive before → LaidOver fs 0 m before before
  laid_start shape = record { shape = shape; each = λ i j l k. unlisted (λ v w z. absurd (omega arith)) refl }

  -- no fill names a member with more than twelve letters
  pub laid_none : {ws : List FillWords} → DigestOf fs ws → 12 < m.len → FiveByFive before → LaidOver fs (length ws) m before before
  laid_none digest long shape = record {
    shape = shape;
    each = λ i j h k.
        unlisted
        (λ v w z.
        let few = (digest.holds w.at z).small.member.few in
        let e = ap (λ (f : Fill). f.member.len) w.is in
        omega arith) refl;
  }

-- a number put at a soil and a slope
abbrev pub put_at : List (List ℕ) → ℕ → ℕ → ℕ → List (List ℕ)
put_at held i j v = set held i (set (get_or held i []) j v)

module _ {held : List (List ℕ)} (shape : FiveByFive held) (i j v : ℕ) (a : i < 5) (b : j < 5) where
  row_at : get_or (put_at held i j v) i [] ≡ set (get_or held i []) j v
  row_at = get_or-set_same held i (set (get_or held i []) j v) [] (let n = shape.soils in omega arith)

  put_here : cell (put_at held i j v) i j ≡ v
  put_here = ap (λ (l : List ℕ). get_or l j 0) row_at ∙ get_or-set_same (get_or held i []) j v 0 (let n = shape.slopes i a in omega arith)

  put_beside : (y : ℕ) → (y ≡ j → ⊥) → cell (put_at held i j v) i y ≡ cell held i y
  put_beside y n = ap (λ (l : List ℕ). get_or l y 0) row_at ∙ get_or-set_other (get_or held i []) j y v 0 n

  put_apart : (x y : ℕ) → (x ≡ i → ⊥) → cell (put_at held i j v) x y ≡ cell held x y
  put_apart x y n = ap (λ (l : List ℕ). get_or l y 0) (get_or-set_other held i x (set (get_or held i []) j v) [] n)

  put_shape : FiveByFive (put_at held i j v)
  put_shape = record {
    soils = length-set held i (set (get_or held i []) j v) ∙ shape.soils;
    slopes = λ x l.
        by_cases (ℕ_discrete x i)
        (λ e. ap (λ (k : ℕ). length (get_or (put_at held i j v) k [])) e ∙ ap length row_at ∙ length-set (get_or held i []) j v ∙ shape.slopes i a)
        (λ e. ap length (get_or-set_other held i x (set (get_or held i []) j v) [] e) ∙ shape.slopes x l);
  }

-- one fill more
module _ {fs : List Fill} {ws : List FillWords} (digest : DigestOf fs ws) (i : ℕ) (l : i < length ws) where
  abbrev these : FillWords
  these = get_or ws i no_words

  abbrev this : Fill
  this = get_or fs i no_fill

  told : InWords this these
  told = digest.holds i l

  parts : (these.key.low / 64 ≡ low_of this.member) × (these.key.low / 8 % 8 ≡ this.soil) × (these.key.low % 8 ≡ this.slope)
  parts = decode these.key.low (low_of this.member) this.soil this.slope told.small.soil.1 told.small.slope.1 told.low_is

  pub soil_told : (1 ≤ these.key.low / 8 % 8) × (these.key.low / 8 % 8 ≤ 5)
  soil_told = subst (λ (k : ℕ). (1 ≤ k) × (k ≤ 5)) (sym parts.1) told.small.soil

  pub slope_told : (1 ≤ these.key.low % 8) × (these.key.low % 8 ≤ 5)
  slope_told = subst (λ (k : ℕ). (1 ≤ k) × (k ≤ 5)) (sym parts.2) told.small.slope

  module _ {m : Name} {before after : List (List ℕ)} (laid : LaidOver fs i m before after) where
    -- where the fill is not this member's at this soil and slope, what is laid there stays
    stays : (soil slope x y z : ℕ) → LaidAt fs i m soil slope x y → z ≡ y → ((v : ℕ) → this ≡ record { member = m; soil = soil; slope = slope; value = v } → ⊥) → LaidAt fs (i + 1) m soil slope x z
    stays soil slope x y z (listed w k e) q other = listed w (omega arith) (q ∙ e)
    stays soil slope x y z (unlisted none e) q other =
        unlisted
        (λ v w k.
        by_cases (dec_lt w.at i) (none v w)
        (λ h.
        let z : i ≡ w.at = omega arith in
        other v (ap (λ (k : ℕ). get_or fs k no_fill) z ∙ w.is))) (q ∙ e)

    pub laid_skip : (this.member ≡ m → ⊥) → LaidOver fs (i + 1) m before after
    laid_skip other = record {
      shape = laid.shape;
      each = λ a b h k. stays (suc a) (suc b) _ _ _ (laid.each a b h k) refl (λ v e. other (ap (λ (f : Fill). f.member) e));
    }

    module _ (own : this.member ≡ m) where
      abbrev row : ℕ
      row = these.key.low / 8 % 8 - 1

      abbrev place : ℕ
      place = these.key.low % 8 - 1

      within : (row < 5) × (place < 5)
      within =
          let s = soil_told in
          let p = slope_told in
          (omega arith, omega arith)

      here : LaidAt fs (i + 1) m (suc row) (suc place) (cell before row place) (cell (put_at after row place these.value) row place)
      here =
          let s = soil_told in
          let p = slope_told in
          let many = digest.many in
          let a : this.soil ≡ suc row = sym parts.1 ∙ (let z : these.key.low / 8 % 8 ≡ suc row = omega arith in z) in
          let b : this.slope ≡ suc place = sym parts.2 ∙ (let z : these.key.low % 8 ≡ suc place = omega arith in z) in
          listed {value = this.value} (record { at = i; within = omega arith; is = λ t. record { member = own t; soil = a t; slope = b t; value = this.value } }) (omega arith)
          (put_here laid.shape row place these.value within.0 within.1 ∙ told.value_is)

      pub laid_put : LaidOver fs (i + 1) m before (put_at after row place these.value)
      laid_put = record {
        shape = put_shape laid.shape row place these.value within.0 within.1;
        each = λ a b h k.
            by_cases (ℕ_discrete a row)
            (λ e.
            by_cases (ℕ_discrete b place)
            (λ f. subst (λ (x : ℕ). LaidAt fs (i + 1) m (suc x) (suc b) (cell before x b) (cell (put_at after row place these.value) x b)) (sym e)
            (subst (λ (y : ℕ). LaidAt fs (i + 1) m (suc row) (suc y) (cell before row y) (cell (put_at after row place these.value) row y)) (sym f) here))
            (λ f.
            stays (suc a) (suc b) _ _ _ (laid.each a b h k)
            (subst (λ (x : ℕ). cell (put_at after row place these.value) x b ≡ cell after x b) (sym e) (put_beside laid.shape row place these.value within.0 within.1 b f))
            (λ v q. let z : suc b ≡ these.key.low % 8 = sym (ap (λ (g : Fill). g.slope) q) ∙ sym parts.2 in f (omega arith))))
            (λ e.
            stays (suc a) (suc b) _ _ _ (laid.each a b h k) (put_apart laid.shape row place these.value within.0 within.1 a b e)
            (λ v q. let z : suc a ≡ these.key.low / 8 % 8 = sym (ap (λ (g : Fill). g.soil) q) ∙ sym parts.1 in e (omega arith)));
      }

-- the fills of a book, passed one by one
module _ {ws : List FillWords} {key : TwoWords} {i : ℕ} {before after : List (List ℕ)} (laying : Laying ws key i before after) (l : i < length ws) where
  pub laying_put : (get_or ws i no_words).key.high ≡ key.high → (get_or ws i no_words).key.low / 64 ≡ key.low
      → Laying ws key (i + 1) before (put_at after ((get_or ws i no_words).key.low / 8 % 8 - 1) ((get_or ws i no_words).key.low % 8 - 1) (get_or ws i no_words).value)
  laying_put e f fs d m p a b =
      let t = told d i l in
      laid_put d i l (laying fs d m p a b) (names_one t.small.member p (sym t.high_is ∙ e ∙ sym a) (sym (parts d i l).0 ∙ f ∙ sym b))

  pub laying_skip : ((get_or ws i no_words).key.high ≡ key.high → (get_or ws i no_words).key.low / 64 ≡ key.low → ⊥) → Laying ws key (i + 1) before after
  laying_skip other fs d m p a b =
      let t = told d i l in
      laid_skip d i l (laying fs d m p a b) (λ e. other (t.high_is ∙ ap high_of e ∙ a) ((parts d i l).0 ∙ ap low_of e ∙ b))
