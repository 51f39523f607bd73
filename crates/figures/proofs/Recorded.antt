-- The rows that two records give with 01's key. A record's loads and arms are the doubles at their places among its bytes; that they are finite, and go
-- to these whole numbers, which are in their ranges, are tests that are computed.
use mathlib.Core.Path.{◌≡◌, refl, subst⁻¹}
use mathlib.Core.List.{List, [], ◌∷◌}
use Prim.Native.Nat.{ℕ, zero, suc, ◌≤◌, ◌<◌, zero-le}
use native.Mathlib.Omega.{arith}
use lib.Dec.{T, leb, lit≤, leb→le}
use lib.IntN.{ℤ, pos, negsuc, neg_ℤ, nat_abs}
use lib.Ieee.{Float, of_bits, mul}
use lib.ListN.{length, get_or, take, drop}
use Rattle.arithmetic.proofs.Deciding.{not_both}
use Rattle.block.specs.Decimal.{digits, decimal}
use Rattle.fields.specs.names.Names.{Letter, hyphen, digit, upper, name, NameOf}
use Rattle.kinds.specs.Table.{columns, letters, load_columns}
use Rattle.kinds.specs.ranges.Range.{Around, InColumns, Ranged}
use Rattle.kinds.specs.declared.Kind.{Kind}
use Rattle.kinds.specs.declared.Kind.TheVariants.{DL, WL}
use Rattle.kinds.specs.declared.Columns.{Columns}
use Rattle.kinds.specs.declared.Column.TheVariants.{Empty}
use Rattle.reactions.specs.declared.xdr.FrameLoad.TheVariants.{Force, Line, Pressure}
use Rattle.reactions.specs.declared.xdr.Reaction.{Reaction}
use Rattle.reactions.specs.xdr.Record.{behind, Double, force, line, pressure, IsRecord}
use Rattle.reactions.specs.Force.{kilonewtons, AllFinite}
use Rattle.reactions.specs.row.Text.{Rounded, entry, row_numbers, fields_text, row_text}
use Rattle.reactions.specs.Asked.{Taken, dl, wl, Asked}
use Rattle.reactions.specs.Reacts.{Rounds, GivesRow}
use Rattle.figures.specs.Figures.{double, K7, P_12, dead_sent, dead_row, wind_sent, wind_row}
use Rattle.figures.proofs.Sent.{is_nearest, nearest_test}
use Rattle.figures.proofs.Trained.{around}

-- ---- the key

abbrev Spelt : List ℕ → Type 0
Spelt [] = Unit {0}
Spelt (b ∷ c) = Letter b × Spelt c

letter_at : (c : List ℕ) → Spelt c → (k : ℕ) → k < length c → Letter (get_or c k 0)
letter_at [] s k h = absurd (omega arith)
letter_at (b ∷ c) s zero h = s.0
letter_at (b ∷ c) s (suc k) h = letter_at c s.1 k (omega arith)

named : (c : List ℕ) → 1 ≤ length c → length c ≤ 12 → Spelt c → NameOf c (name c)
named c some few s = record { is = record { some = some; few = few; letters = letter_at c s }; held = refl }

asked : {of : Kind} → Taken of → (phase : ℕ) → phase ≤ 2 → Asked K7 P_12 (letters of) phase (record { member = name K7; job = name P_12 }) of
asked taken phase h =
    record {
      member_named = named K7 (lit≤ tt) (lit≤ tt) (upper (lit≤ tt) (lit≤ tt), (digit (lit≤ tt) (lit≤ tt), tt));
      job_named = named P_12 (lit≤ tt) (lit≤ tt) (upper (lit≤ tt) (lit≤ tt), (hyphen refl, (digit (lit≤ tt) (lit≤ tt), (digit (lit≤ tt) (lit≤ tt), tt))));
      lettered = refl;
      taken = taken;
      phased = h;
    }

-- ---- the whole numbers

around_entry : (limit : ℕ) (z : ℤ) → T (leb (nat_abs z) limit) → Around limit limit (entry z)
around_entry limit (pos n) t = around n limit (leb→le n limit t)
around_entry limit (negsuc n) t = record { filled = refl; under = λ _. leb→le (suc n) limit t; over = λ e. absurd (not_both refl e) }

module _ (of : Kind) (taken : Taken of) (load : columns of ≡ load_columns Empty) (phase : ℕ) (r : Reaction) (v x h : ℤ) (y : ℕ) where
  abbrev whole : Rounded
  whole = record { v = v; x = x; h = h; y = pos y }

  abbrev Near : Type 0
  Near = T (is_nearest (kilonewtons r.vertical) v) × T (is_nearest r.x x) × T (is_nearest (kilonewtons r.horizontal) h) × T (is_nearest r.y (pos y))

  abbrev Within : Type 0
  Within = T (leb (nat_abs v) 50000) × T (leb (nat_abs x) 30000) × T (leb (nat_abs h) 50000) × T (leb y 60000) × T (leb phase 2)

  rounds : Near → Rounds r whole
  rounds t =
      record {
        v = nearest_test (kilonewtons r.vertical) v t.0;
        x = nearest_test r.x x t.1;
        h = nearest_test (kilonewtons r.horizontal) h t.2;
        y = nearest_test r.y (pos y) t.3;
      }

  ranged : Within → Ranged of (row_numbers whole phase)
  ranged t =
      subst⁻¹ (λ (c : Columns). InColumns c (row_numbers whole phase)) load
      (record {
        n1 = around_entry 50000 v t.0;
        n2 = around_entry 30000 x t.1;
        n3 = around_entry 50000 h t.2;
        n4 = record { filled = refl; plain = refl; from = zero-le; to = leb→le y 60000 t.3 };
        n5 = record { filled = refl; plain = refl; from = zero-le; to = leb→le phase 2 t.4 };
        n6 = tt;
      })

  row_test : {sent row : List ℕ} → IsRecord sent r → AllFinite r → Near → Within → row ≡ row_text K7 P_12 (letters of) (row_numbers whole phase)
      → GivesRow K7 P_12 (letters of) phase sent row
  row_test is finite near within text =
      record {
        key = record { member = name K7; job = name P_12 };
        of = of;
        reaction = r;
        rounded = whole;
        asked = asked taken phase (leb→le phase 2 within.4);
        is = is;
        finite = finite;
        rounds = rounds near;
        ranged = ranged within;
        text = text;
      }

-- ---- the records

-- the eight bytes from a place, and the double that they are
abbrev eight : ℕ → List ℕ → List ℕ
eight at s = take 8 (drop at s)

abbrev number : ℕ → List ℕ → Float
number at s = double (behind 0 (eight at s))

double_at : (at : ℕ) (s : List ℕ) → length (eight at s) ≡ 8 → Double (eight at s) (number at s)
double_at at s h = record { eight = h; is = refl }

abbrev dead : Reaction
dead = record { vertical = Force (number 4 dead_sent); x = number 12 dead_sent; horizontal = Force (number 24 dead_sent); y = number 32 dead_sent }

dead_record : IsRecord dead_sent dead
dead_record =
    record {
      vertical = take 12 dead_sent;
      x = eight 12 dead_sent;
      horizontal = take 12 (drop 20 dead_sent);
      y = eight 32 dead_sent;
      are = refl;
      vertical_is = force refl (double_at 4 dead_sent refl) refl;
      x_is = double_at 12 dead_sent refl;
      horizontal_is = force refl (double_at 24 dead_sent refl) refl;
      y_is = double_at 32 dead_sent refl;
    }

pub dead_given : GivesRow K7 P_12 (letters DL) 0 dead_sent dead_row
unfolding of_bits row_text fields_text decimal digits
dead_given =
    row_test DL dl refl 0 dead (pos 6000) (pos 0) (pos 0) 0 dead_record (record { vertical = tt; x = tt; horizontal = tt; y = tt }) (tt, tt, tt, tt) (tt, tt, tt, tt, tt) refl

abbrev wind : Reaction
wind =
    record {
      vertical = Pressure (number 4 wind_sent) (number 12 wind_sent) (number 20 wind_sent);
      x = number 28 wind_sent;
      horizontal = Line (number 40 wind_sent) (number 48 wind_sent);
      y = number 56 wind_sent;
    }

wind_record : IsRecord wind_sent wind
wind_record =
    record {
      vertical = take 28 wind_sent;
      x = eight 28 wind_sent;
      horizontal = take 20 (drop 36 wind_sent);
      y = eight 56 wind_sent;
      are = refl;
      vertical_is = pressure refl (double_at 4 wind_sent refl) (double_at 12 wind_sent refl) (double_at 20 wind_sent refl) refl;
      x_is = double_at 28 wind_sent refl;
      horizontal_is = line refl (double_at 40 wind_sent refl) (double_at 48 wind_sent refl) refl;
      y_is = double_at 56 wind_sent refl;
    }

pub wind_given : GivesRow K7 P_12 (letters WL) 2 wind_sent wind_row
unfolding of_bits mul row_text fields_text decimal digits
wind_given =
    row_test WL wl refl 2 wind (pos 32) (neg_ℤ (pos 251)) (pos 40) 4500 wind_record
    (record { vertical = (tt, tt, tt, tt, tt); x = tt; horizontal = (tt, tt, tt); y = tt })
    (tt, tt, tt, tt)
    (tt, tt, tt, tt, tt)
    refl
