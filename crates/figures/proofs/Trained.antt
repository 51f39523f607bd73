-- Which positions of an LF row are in range, and which of them name an LL row; and which sets of DL, LL and LF are permitted: LF with its train, and not without.
use mathlib.Core.Path.{◌≡◌, refl, sym, ◌∙◌}
use mathlib.Core.Logic.{inl}
use mathlib.Core.Bool.{true, false}
use mathlib.Core.List.{◌∷◌}
use Prim.Native.Nat.{ℕ, zero, suc, ◌≤◌, ◌<◌}
use native.Mathlib.Nat.{not-le_of_lt}
use native.Mathlib.Omega.{arith}
use lib.Dec.{lit≤, lit<}
use lib.ListN.{replicate}
use Rattle.arithmetic.specs.signed.Whole.{signed}
use Rattle.arithmetic.proofs.Cases.{impossible, unlike}
use Rattle.arithmetic.proofs.Deciding.{not_both}
use Rattle.fields.specs.Numbers.{positive}
use Rattle.kinds.specs.declared.Kind.TheVariants.{LF}
use Rattle.kinds.specs.ranges.Range.{Around, Ranged}
use Rattle.kinds.specs.classes.Classes.{class_of, source}
use Rattle.earth.specs.table2.Table2.{table2_fill}
use Rattle.sets.specs.declared.Class.{Class}
use Rattle.sets.specs.declared.Class.TheVariants.{Permanent, Free, Wind, Earthquake}
use Rattle.sets.specs.declared.Combination.TheVariants.{I}
use Rattle.sets.specs.declared.Loads.{Loads}
use Rattle.sets.specs.Sets.{blank_load, row, bit, own_phase, Acts, Has, Mixed, HasTrain, Permitted}
use Rattle.sets.proofs.Bits.{first_bit}
use Rattle.loads.specs.forces.Exerts.{Forces}
use Rattle.loads.specs.LoadRows.{Every, LiveAt, NamesLive, AllNamed, Laid, AreLoads}
use Rattle.figures.specs.Figures.{braking, braked, Permits}
use Rattle.figures.proofs.Loaded.{exerted, exerts, no_more}

pub around : (n limit : ℕ) → n ≤ limit → Around limit limit (positive n)
around n limit h = record { filled = refl; under = λ e. absurd (not_both e refl); over = λ _. h }

pub braking_ranged : (n : ℕ) → 1 ≤ n → n ≤ 16 → Ranged LF (braking n).numbers
braking_ranged n from to =
    record {
      n1 = around 0 50000 (lit≤ tt);
      n2 = around 0 30000 (lit≤ tt);
      n3 = around 300 50000 (lit≤ tt);
      n4 = record { filled = refl; plain = refl; from = lit≤ tt; to = lit≤ tt };
      n5 = record { filled = refl; plain = refl; from = lit≤ tt; to = lit≤ tt };
      n6 = record { filled = refl; plain = refl; from = from; to = to };
    }

pub position_0 : Ranged LF (braking 0).numbers → ⊥
position_0 r = not-le_of_lt (lit< tt) r.n6.from

pub position_17 : Ranged LF (braking 17).numbers → ⊥
position_17 r = not-le_of_lt (lit< tt) r.n6.to

pub first_named : AllNamed (braked 1) → ⊥
unfolding Every LiveAt NamesLive
first_named all = let e = all.1.1.0 in impossible cc

pub second_named : AllNamed (braked 2)
unfolding Every LiveAt NamesLive
second_named = (tt, (tt, (refl, tt)))

pub itself_named : AllNamed (braked 3) → ⊥
unfolding Every LiveAt NamesLive
itself_named all = let e = all.1.1.0 in impossible cc

pub past_named : AllNamed (braked 4) → ⊥
unfolding Every LiveAt NamesLive
past_named all = all.1.1.0

-- ---- the sets of I
-- of three rows, one by one
of_three : (P : ℕ → Type 0) → P 0 → P 1 → P 2 → (i : ℕ) → i < 3 → P i
of_three P a b c zero h = a
of_three P a b c (suc zero) h = b
of_three P a b c (suc (suc zero)) h = c
of_three P a b c (suc (suc (suc i))) h = absurd (omega arith)

-- a dead load in the middle of the base and two free rows of H alone, the last with its train
module _ (v h₁ y₁ train h₂ y₂ : ℕ) where
  abbrev pub dead_and_free : Loads
  dead_and_free = record { count = 3; loads = exerted Permanent 0 v 0 0 0 ∷ exerted Free 0 0 0 h₁ y₁ ∷ exerted Free train 0 0 h₂ y₂ ∷ replicate 13 blank_load }

  -- a set with the dead load, in which the last row has its train
  pub permitted_with : (set : ℕ) → set < 8 → bit set 0 ≡ 1 → (bit set 2 ≡ 1 → HasTrain train set) → Permitted I dead_and_free set
  unfolding row Acts own_phase Has Mixed HasTrain
  permitted_with set low dead led =
      record {
        some = omega (arith, sym (first_bit set) ∙ dead);
        within = low;
        permanent = of_three (λ i. (row dead_and_free i).class ≡ Permanent → Acts I (row dead_and_free i).phase → bit set i ≡ 1) (λ e a. dead) (λ e a. impossible cc) (λ e a. impossible cc);
        acting = of_three (λ i. bit set i ≡ 1 → Acts I (row dead_and_free i).phase) (λ b. inl refl) (λ b. inl refl) (λ b. inl refl);
        mixed = (none_of Wind (λ e. impossible cc) (λ e. impossible cc), none_of Earthquake (λ e. impossible cc) (λ e. impossible cc));
        trained = of_three (λ i. bit set i ≡ 1 → HasTrain (row dead_and_free i).train set) (λ b. tt) (λ b. tt) led;
        erection = λ e. impossible cc;
      }
    where
      none_of : (class : Class) → (Permanent ≡ class → ⊥) → (Free ≡ class → ⊥) → Has class dead_and_free set → ⊥
      none_of class p f w = of_three (λ i. (row dead_and_free i).class ≡ class → ⊥) p f f w.0 w.1 w.3

braked_loads : Loads
braked_loads = dead_and_free 6000 0 0 2 300 6000

braked_are : AreLoads table2_fill (braked 2) braked_loads
unfolding braked_loads Laid class_of source Forces signed
braked_are =
    record {
      count = refl;
      places = refl;
      laid = (
        exerts 6000 0 0 0,
        (
          record { class = refl; phase = refl; train = refl; forces = record { v = refl; x = refl; h = refl; twist = refl } },
          (record { class = refl; phase = refl; train = refl; forces = record { v = refl; x = refl; h = refl; twist = refl } }, no_more 13),
        ),
      );
    }

pub braked_permitted : (set : ℕ) → set < 8 → bit set 0 ≡ 1 → (bit set 2 ≡ 1 → bit set 1 ≡ 1) → Permits (braked 2) set true
unfolding braked_loads HasTrain
braked_permitted set low dead led = record { loads = braked_loads; its_loads = braked_are; decides = permitted_with 6000 0 0 2 300 6000 set low dead led }

pub without_train : Permits (braked 2) 5 false
unfolding row bit HasTrain braked_loads
without_train = record { loads = braked_loads; its_loads = braked_are; decides = λ p. unlike 0 1 refl (p.trained 2 (lit< tt) refl) }
