-- The row that is named, by its place. The row there is LL, or it is not; and where each row that names one names an LL row, the loads of the rows are led.
use mathlib.Core.Path.{◌≡◌, sym, ◌∙◌, ap, subst, subst⁻¹}
use mathlib.Core.Bool.{Bool, false}
use mathlib.Core.List.{List, [], ◌∷◌}
use Prim.Native.Nat.{ℕ, zero, suc, ◌-◌, ◌≤◌, ◌<◌}
use native.Mathlib.Omega.{arith}
use lib.Dec.{eqb}
use lib.ListN.{length, take}
use lib.Seq.{length-take-le, get_or-take}
use denote.Enum.Declared.{tag_of}
use Rattle.arithmetic.specs.decides.Decides.{Decides}
use Rattle.arithmetic.proofs.Deciding.{unrefuted, decides_same}
use Rattle.kinds.specs.declared.Kind.{Kind}
use Rattle.kinds.specs.declared.Kind.TheVariants.{LL}
use Rattle.kinds.specs.declared.Row.{Row}
use Rattle.kinds.specs.Table.{train}
use Rattle.kinds.specs.classes.Classes.{class_of}
use Rattle.kinds.specs.contracts.Kind.{the_type}
use Rattle.kinds.proofs.Arms.{kind_decides}
use Rattle.kinds.proofs.Trains.{train_free}
use Rattle.earth.specs.coefficients.Coefficients.{Coefficient}
use Rattle.sets.specs.declared.Loads.{Loads}
use Rattle.sets.specs.Sets.{row}
use Rattle.sets.specs.Led.{Names, Led}
use Rattle.loads.specs.forces.Exerts.{Exerts}
use Rattle.loads.specs.LoadRows.{LiveAt, NamesLive, AllNamed, AreLoads}
use Rattle.loads.proofs.FirstRows.{load_row, every_at, laid_at}
use Rattle.loads.proofs.InRange.{all_unless}

-- ---- by its place
live_row : (rows : List Row) (i : ℕ) → LiveAt rows i → (i < length rows) × ((load_row rows i).kind ≡ LL)
unfolding LiveAt load_row
live_row [] i l = absurd l
live_row (x ∷ rows) zero l = (omega arith, l)
live_row (x ∷ rows) (suc i) l = let w = live_row rows i l in (omega (arith, w.0), w.1)

row_live : (rows : List Row) (i : ℕ) → i < length rows → (load_row rows i).kind ≡ LL → LiveAt rows i
unfolding LiveAt load_row
row_live [] i h e = absurd (omega arith)
row_live (x ∷ rows) zero h e = e
row_live (x ∷ rows) (suc i) h e = row_live rows i (omega arith) e

module _ (rows : List Row) where
  pub live_none : (train : ℕ) → train ≡ 0 → NamesLive rows train
  unfolding NamesLive
  live_none train e = subst⁻¹ (NamesLive rows) e tt

  -- a position past the last row
  pub live_past : (train : ℕ) → length rows < train → NamesLive rows train → ⊥
  unfolding NamesLive
  live_past zero h l = omega arith
  live_past (suc i) h l = omega (arith, (live_row rows i l).0)

  -- one of the rows: the row that is one place lower is LL
  pub live_here : (train : ℕ) → 0 < train → NamesLive rows train → (load_row rows (train - 1)).kind ≡ LL
  unfolding NamesLive
  live_here zero some l = absurd (omega arith)
  live_here (suc i) some l = let e : suc i - 1 ≡ i = omega arith in subst⁻¹ (λ (j : ℕ). (load_row rows j).kind ≡ LL) e (live_row rows i l).1

  pub here_live : (train : ℕ) → 0 < train → train ≤ length rows → (load_row rows (train - 1)).kind ≡ LL → NamesLive rows train
  unfolding NamesLive
  here_live zero some h l = tt
  here_live (suc i) some h l = let e : suc i - 1 ≡ i = omega arith in row_live rows i (omega arith) (subst (λ (j : ℕ). (load_row rows j).kind ≡ LL) e l)

module _ (rows : List Row) (n : ℕ) (there : n ≤ length rows) where
  pub names_none : (train : ℕ) → train ≡ 0 → NamesLive (take n rows) train
  unfolding NamesLive
  names_none train e = subst⁻¹ (NamesLive (take n rows)) e tt

  -- a position past the last row
  pub names_past : (train : ℕ) → n < train → NamesLive (take n rows) train → ⊥
  unfolding NamesLive
  names_past zero h l = omega arith
  names_past (suc i) h l = omega (arith, (live_row (take n rows) _ l).0, length-take-le n rows there)

  -- one of the n: by the row that is one place lower
  pub names_by : (train i : ℕ) → train ≡ suc i → i < n → (r : Bool) → Decides r ((load_row rows i).kind ≡ LL) → Decides r (NamesLive (take n rows) train)
  unfolding NamesLive load_row
  names_by train i e h r d =
      let same = ap (λ (x : Row). x.kind) (get_or-take n rows i _ h) in
      subst⁻¹ (λ (t : ℕ). Decides r (NamesLive (take n rows) t)) e
      (decides_same r (λ l. row_live (take n rows) i (omega (arith, length-take-le n rows there)) (same ∙ l)) (λ l. sym same ∙ (live_row (take n rows) i l).1) d)

-- ---- it is LL, or it is not
live_known : (rows : List Row) (i : ℕ) → (r : Bool) × Decides r (LiveAt rows i)
unfolding LiveAt
live_known [] i = (false, λ l. l)
live_known (x ∷ rows) zero = (eqb (tag_of the_type x.kind) (tag_of the_type LL), kind_decides LL x.kind)
live_known (x ∷ rows) (suc i) = live_known rows i

pub named_unless : (rows : List Row) (train : ℕ) → ((NamesLive rows train → ⊥) → ⊥) → NamesLive rows train
unfolding NamesLive
named_unless rows zero n = tt
named_unless rows (suc i) n = let known = live_known rows i in unrefuted known.0 known.1 n

pub all_named : (rows : List Row) → ((AllNamed rows → ⊥) → ⊥) → AllNamed rows
all_named rows = all_unless (λ row. NamesLive rows (train row.kind row.numbers)) (λ row. named_unless rows (train row.kind row.numbers)) rows

-- ---- a load that comes with a train is free, and so is the load that it names, which comes with none
module _ (fill : ℕ → ℕ → Coefficient) (rows : List Row) (loads : Loads) (are : AreLoads fill rows loads) (named : AllNamed rows) where
  there : (i : ℕ) → i < loads.count → i < length rows
  there i = subst (λ (m : ℕ). i < m) are.count

  exerts : (i : ℕ) → i < length rows → Exerts fill (load_row rows i) (row loads i)
  unfolding row
  exerts = laid_at fill rows loads.loads are.laid

  train_is : (i n : ℕ) → Names loads i n → let r = load_row rows i in train r.kind r.numbers ≡ suc n
  unfolding Names
  train_is i n s = sym (exerts i (there i s.0)).train ∙ s.1

  leader : (i n : ℕ) → Names loads i n → (n < length rows) × ((load_row rows n).kind ≡ LL)
  unfolding Names NamesLive
  leader i n s =
      let w = every_at (λ row. NamesLive rows (train row.kind row.numbers)) rows named i (there i s.0) in
      live_row rows n (subst (NamesLive rows) (train_is i n s) w)

  pub loads_led : Led loads
  unfolding Names class_of
  loads_led =
      record {
        follows = λ i n s. let r = load_row rows i in (exerts i (there i s.0)).class ∙ train_free r.kind r.numbers (train_is i n s);
        there = λ i n s. subst⁻¹ (λ (m : ℕ). n < m) are.count (leader i n s).0;
        leads = λ i n s. let w = leader i n s in (exerts n w.0).class ∙ ap class_of w.1;
        alone = λ i n s. let w = leader i n s in (exerts n w.0).train ∙ ap (λ (k : Kind). train k (load_row rows n).numbers) w.1;
      }
