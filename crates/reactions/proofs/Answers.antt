-- A call has one answer, and leaves one state of the buffer; no two answers are told alike; and the row that it writes is a load row of the job book.
use Prim.Native.Nat.{ℕ}
use native.Mathlib.Omega.{arith}
use mathlib.Core.Path.{◌≡◌, refl, sym, ap, subst, ◌∙◌}
use mathlib.Core.Bool.{cond}
use mathlib.Core.List.{List, ◌++◌}
use lib.Dec.{eqb}
use lib.ListN.{length, drop}
use Rattle.doubles.proofs.Wholes.{nearest_one}
use Rattle.kinds.specs.declared.Kind.{Kind}
use Rattle.kinds.specs.ranges.Range.{Ranged}
use Rattle.kinds.proofs.letters.Letters.{letters_one}
use Rattle.rows.specs.declared.keys.Key.{Key}
use Rattle.std.specs.Prelude.{Result, Ok, Err}
use Rattle.reactions.specs.declared.RowRefusal.{RowRefusal}
use Rattle.reactions.specs.declared.RowRefusal.TheVariants.{NoRow, NoRecord, NotFinite, OutOfRange, TooShort}
use Rattle.reactions.specs.declared.xdr.Reaction.{Reaction}
use Rattle.reactions.specs.xdr.Record.{IsRecord}
use Rattle.reactions.specs.Force.{kilonewtons, AllFinite}
use Rattle.reactions.specs.row.Text.{Rounded, row_numbers, row_text}
use Rattle.reactions.specs.row.Reads.{IsLoadRow}
use Rattle.reactions.specs.Asked.{Asked}
use Rattle.reactions.specs.Reacts.{RowTold, written, refused, row_told, Rounds, GivesRow, Reacts, no_row, no_record, not_finite, out_of_range, too_short, row}
use Rattle.reactions.specs.RowsOfRecords.{RowsOfRecords}
use Rattle.reactions.proofs.xdr.Records.{record_one}
use Rattle.reactions.proofs.row.Written.{row_is_load}
use Rattle.reactions.proofs.Exact.{exact_where_whole}

-- a record goes to one row of whole numbers
rounds_one : (r : Reaction) {q p : Rounded} → Rounds r q → Rounds r p → q ≡ p
rounds_one r {q} {p} a b i = record {
  v = nearest_one (kilonewtons r.vertical) q.v p.v a.v b.v i;
  x = nearest_one r.x q.x p.x a.x b.x i;
  h = nearest_one (kilonewtons r.horizontal) q.h p.h a.h b.h i;
  y = nearest_one r.y q.y p.y a.y b.y i;
}

kind_one : {member job kind : List ℕ} {phase : ℕ} {k m : Key} {of on : Kind} → Asked member job kind phase k of → Asked member job kind phase m on → of ≡ on
kind_one {of = of} {on = on} a b = letters_one of on (sym a.lettered ∙ b.lettered)

-- whatever record and numbers are found, they are the same
numbers_one : {sent : List ℕ} {r t : Reaction} {q p : Rounded} → IsRecord sent r → IsRecord sent t → Rounds r q → Rounds t p → q ≡ p
numbers_one {r = r} {p = p} i j a b = rounds_one r a (subst (λ (s : Reaction). Rounds s p) (record_one j i) b)

module _ {member job kind : List ℕ} {phase : ℕ} {sent : List ℕ} where
  gives_one : {x y : List ℕ} → GivesRow member job kind phase sent x → GivesRow member job kind phase sent y → x ≡ y
  gives_one a b = a.text ∙ ap (λ (q : Rounded). row_text member job kind (row_numbers q phase)) (numbers_one a.is b.is a.rounds b.rounds) ∙ sym b.text

  -- numbers out of range give no row
  still_outside : {k : Key} {of : Kind} {r : Reaction} {q : Rounded} {x : List ℕ} → Asked member job kind phase k of → IsRecord sent r → Rounds r q
      → (Ranged of (row_numbers q phase) → ⊥) → GivesRow member job kind phase sent x → ⊥
  still_outside {of = of} {q = q} a i near out g =
      let e : g.rounded ≡ q = numbers_one g.is i g.rounds near in
      let k : g.of ≡ of = kind_one g.asked a in
      out (subst (λ (p : Rounded). Ranged of (row_numbers p phase)) e (subst (λ (m : Kind). Ranged m (row_numbers g.rounded phase)) k g.ranged))

  -- the row that is written is a load row of the job book, with this key, kind and numbers
  pub gives_load_row : {x : List ℕ} (g : GivesRow member job kind phase sent x)
      → IsLoadRow x (record { key = g.key; row = record { kind = g.of; numbers = row_numbers g.rounded phase } })
  gives_load_row g =
      subst (λ (t : List ℕ). IsLoadRow t (record { key = g.key; row = record { kind = g.of; numbers = row_numbers g.rounded phase } })) (sym g.text)
      (row_is_load g.rounded g.asked g.ranged)

module _ {member job kind : List ℕ} {phase : ℕ} {sent before : List ℕ} where
  pub reacts_one : {x y : List ℕ} {t u : RowTold} → Reacts member job kind phase sent before x t → Reacts member job kind phase sent before y u → (x ≡ y) × (t ≡ u)
  reacts_one (no_row n e f) (no_row n' e' f') = (e ∙ sym e', f ∙ sym f')
  reacts_one (no_row n e f) (no_record a' n' e' f') = absurd (n _ _ a')
  reacts_one (no_row n e f) (not_finite a' i' n' e' f') = absurd (n _ _ a')
  reacts_one (no_row n e f) (out_of_range a' i' t' q' n' e' f') = absurd (n _ _ a')
  reacts_one (no_row n e f) (too_short g' l' e' f') = absurd (n _ _ g'.asked)
  reacts_one (no_row n e f) (row g' l' e' f') = absurd (n _ _ g'.asked)
  reacts_one (no_record a n e f) (no_row n' e' f') = absurd (n' _ _ a)
  reacts_one (no_record a n e f) (no_record a' n' e' f') = (e ∙ sym e', f ∙ sym f')
  reacts_one (no_record a n e f) (not_finite a' i' n' e' f') = absurd (n _ i')
  reacts_one (no_record a n e f) (out_of_range a' i' t' q' n' e' f') = absurd (n _ i')
  reacts_one (no_record a n e f) (too_short g' l' e' f') = absurd (n _ g'.is)
  reacts_one (no_record a n e f) (row g' l' e' f') = absurd (n _ g'.is)
  reacts_one (not_finite a i n e f) (no_row n' e' f') = absurd (n' _ _ a)
  reacts_one (not_finite a i n e f) (no_record a' n' e' f') = absurd (n' _ i)
  reacts_one (not_finite a i n e f) (not_finite a' i' n' e' f') = (e ∙ sym e', f ∙ sym f')
  reacts_one (not_finite a i n e f) (out_of_range a' i' t' q' n' e' f') = absurd (n (subst AllFinite (record_one i' i) t'))
  reacts_one (not_finite a i n e f) (too_short g' l' e' f') = absurd (n (subst AllFinite (record_one g'.is i) g'.finite))
  reacts_one (not_finite a i n e f) (row g' l' e' f') = absurd (n (subst AllFinite (record_one g'.is i) g'.finite))
  reacts_one (out_of_range a i t q n e f) (no_row n' e' f') = absurd (n' _ _ a)
  reacts_one (out_of_range a i t q n e f) (no_record a' n' e' f') = absurd (n' _ i)
  reacts_one (out_of_range a i t q n e f) (not_finite a' i' n' e' f') = absurd (n' (subst AllFinite (record_one i i') t))
  reacts_one (out_of_range a i t q n e f) (out_of_range a' i' t' q' n' e' f') = (e ∙ sym e', f ∙ sym f')
  reacts_one (out_of_range a i t q n e f) (too_short g' l' e' f') = absurd (still_outside a i q n g')
  reacts_one (out_of_range a i t q n e f) (row g' l' e' f') = absurd (still_outside a i q n g')
  reacts_one (too_short g l e f) (no_row n' e' f') = absurd (n' _ _ g.asked)
  reacts_one (too_short g l e f) (no_record a' n' e' f') = absurd (n' _ g.is)
  reacts_one (too_short g l e f) (not_finite a' i' n' e' f') = absurd (n' (subst AllFinite (record_one g.is i') g.finite))
  reacts_one (too_short g l e f) (out_of_range a' i' t' q' n' e' f') = absurd (still_outside a' i' q' n' g)
  reacts_one (too_short g l e f) (too_short g' l' e' f') = (e ∙ sym e', f ∙ sym f')
  reacts_one (too_short g l e f) (row g' l' e' f') = let z = ap length (gives_one g g') in absurd (omega arith)
  reacts_one (row g l e f) (no_row n' e' f') = absurd (n' _ _ g.asked)
  reacts_one (row g l e f) (no_record a' n' e' f') = absurd (n' _ g.is)
  reacts_one (row g l e f) (not_finite a' i' n' e' f') = absurd (n' (subst AllFinite (record_one g.is i') g.finite))
  reacts_one (row g l e f) (out_of_range a' i' t' q' n' e' f') = absurd (still_outside a' i' q' n' g)
  reacts_one (row g l e f) (too_short g' l' e' f') = let z = ap length (gives_one g' g) in absurd (omega arith)
  reacts_one (row g l e f) (row g' l' e' f') =
      let z = gives_one g g' in
      (e ∙ ap (λ (t : List ℕ). t ++ drop (length t) before) z ∙ sym e', f ∙ ap (λ (t : List ℕ). written (length t)) z ∙ sym f')

-- no two answers are told alike: what is told tells the answer
unfoldable answer_of : RowTold → Result ℕ RowRefusal
answer_of (written n) = Ok n
answer_of (refused n) = Err (cond (eqb n 26) NoRow (cond (eqb n 21) NoRecord (cond (eqb n 22) NotFinite (cond (eqb n 23) OutOfRange TooShort))))

told_back : (a : Result ℕ RowRefusal) → answer_of (row_told a) ≡ a
unfolding answer_of
told_back (Ok n) = refl
told_back (Err NoRow) = refl
told_back (Err NoRecord) = refl
told_back (Err NotFinite) = refl
told_back (Err OutOfRange) = refl
told_back (Err TooShort) = refl

pub row_told_one : (a b : Result ℕ RowRefusal) → row_told a ≡ row_told b → a ≡ b
row_told_one a b e = sym (told_back a) ∙ ap answer_of e ∙ told_back b

pub rows_of_records : RowsOfRecords
rows_of_records = record {
  one_reading = λ sent r t. record_one;
  one_answer = λ member job kind phase sent before x y t u. reacts_one;
  told_apart = row_told_one;
  load_row = λ member job kind phase sent bytes. gives_load_row;
  exact = exact_where_whole;
}
