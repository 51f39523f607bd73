-- A load by the bytes that it begins: its discriminant tells which doubles it has, so that bytes begin with one load at most, and a record has one
-- reading.
use Prim.Native.Nat.{ℕ, zero, suc, ◌+◌, ◌-◌, ◌*◌, ◌≤◌, ◌<◌}
use native.Mathlib.Omega.{arith}
use mathlib.Core.Path.{◌≡◌, refl, sym, ap, ap₂, ◌∙◌}
use mathlib.Core.List.{List, [], ◌∷◌, ◌++◌, append_assoc}
use lib.Ieee.{Float, binary64, of_bits}
use lib.ListN.{length, length-append, length-drop, get_or, take, drop, take-append-drop}
use lib.Seq.{take-add, drop-drop, take_at, drop_at, take_all}
use Rattle.reactions.specs.declared.xdr.FrameLoad.{FrameLoad}
use Rattle.reactions.specs.declared.xdr.FrameLoad.TheVariants.{Force, Line, Pressure}
use Rattle.reactions.specs.declared.xdr.Reaction.{Reaction}
use Rattle.reactions.specs.xdr.Record.{behind, Double, discriminant, LoadBytes, force, line, pressure, IsRecord}

-- ---- what bytes begin with

-- four bytes that make a number of at most 2 are its discriminant
pub discriminant_of : (s : List ℕ) (n : ℕ) → 4 ≤ length s → ((k : ℕ) → get_or s k 0 < 256) → n ≡ behind 0 (take 4 s) → n ≤ 2 → take 4 s ≡ discriminant n
discriminant_of [] n l h e m = absurd (omega arith)
discriminant_of (a ∷ []) n l h e m = absurd (omega arith)
discriminant_of (a ∷ b ∷ []) n l h e m = absurd (omega arith)
discriminant_of (a ∷ b ∷ c ∷ []) n l h e m = absurd (omega arith)
discriminant_of (a ∷ b ∷ c ∷ d ∷ s) n l h e m =
    let p : a ≡ 0 = omega arith in
    let q : b ≡ 0 = omega arith in
    let r : c ≡ 0 = omega arith in
    let t : d ≡ n = omega arith in
    cc

-- the bytes of a load, from its discriminant and its doubles
module _ (s : List ℕ) where
  pub force_first : {x : Float} → take 4 s ≡ discriminant 0 → Double (take 8 (drop 4 s)) x → LoadBytes (take 12 s) (Force x)
  force_first e d = force (take-add 4 8 s ∙ ap (λ (t : List ℕ). t ++ take 8 (drop 4 s)) e) d refl

  two : take 16 (drop 4 s) ≡ take 8 (drop 4 s) ++ take 8 (drop 12 s)
  two = take-add 8 8 (drop 4 s) ∙ ap (λ (t : List ℕ). take 8 (drop 4 s) ++ take 8 t) (drop-drop 8 4 s)

  pub line_first : {x y : Float} → take 4 s ≡ discriminant 1 → Double (take 8 (drop 4 s)) x → Double (take 8 (drop 12 s)) y → LoadBytes (take 20 s) (Line x y)
  line_first e d f = line (take-add 4 16 s ∙ ap (λ (t : List ℕ). t ++ take 16 (drop 4 s)) e ∙ ap (λ (t : List ℕ). discriminant 1 ++ t) two) d f refl

  three : take 24 (drop 4 s) ≡ take 8 (drop 4 s) ++ (take 8 (drop 12 s) ++ take 8 (drop 20 s))
  three =
      take-add 8 16 (drop 4 s)
      ∙ ap (λ (t : List ℕ). take 8 (drop 4 s) ++ take 16 t) (drop-drop 8 4 s)
      ∙ ap (λ (t : List ℕ). take 8 (drop 4 s) ++ t) (take-add 8 8 (drop 12 s) ∙ ap (λ (t : List ℕ). take 8 (drop 12 s) ++ take 8 t) (drop-drop 8 12 s))

  pub pressure_first : {x y z : Float} → take 4 s ≡ discriminant 2 → Double (take 8 (drop 4 s)) x → Double (take 8 (drop 12 s)) y → Double (take 8 (drop 20 s)) z
      → LoadBytes (take 28 s) (Pressure x y z)
  pressure_first e d f g =
      pressure (take-add 4 24 s ∙ ap (λ (t : List ℕ). t ++ take 24 (drop 4 s)) e ∙ ap (λ (t : List ℕ). discriminant 2 ++ t) three) d f g refl

-- ---- one load at most

-- the double that the first eight bytes are, and the load of a discriminant behind which bytes stand
abbrev double : List ℕ → Float
double s = of_bits binary64 (behind 0 (take 8 s))

abbrev load_of : ℕ → List ℕ → FrameLoad
load_of zero t = Force (double t)
load_of (suc zero) t = Line (double t) (double (drop 8 t))
load_of (suc (suc n)) t = Pressure (double t) (double (drop 8 t)) (double (drop 16 t))

-- bytes that begin with a double
first_is : {d : List ℕ} {x : Float} → Double d x → (u : List ℕ) → x ≡ double (d ++ u)
first_is {d} e u = e.is ∙ ap (λ (t : List ℕ). of_bits binary64 (behind 0 t)) (sym (take_at d u 8 e.eight))

behind_double : {d : List ℕ} {x : Float} → Double d x → (u : List ℕ) → drop 8 (d ++ u) ≡ u
behind_double {d} e u = drop_at d u 8 e.eight

-- bytes that begin with a load: its discriminant, the load, and what stands behind it
pub record Begun (s u : List ℕ) (load : FrameLoad) : Type 0 where
  pub case : ℕ
  pub few : case ≤ 2
  pub first : take 4 s ≡ discriminant case
  pub long : length s ≡ 12 + 8 * case + length u
  pub is : load ≡ load_of case (drop 4 s)
  pub rest : u ≡ drop (12 + 8 * case) s

pub begun : {a : List ℕ} {load : FrameLoad} → LoadBytes a load → (s u : List ℕ) → s ≡ a ++ u → Begun s u load
begun (force {a = d} e p q) s u h =
    let t : s ≡ discriminant 0 ++ (d ++ u) = h ∙ ap (λ (a : List ℕ). a ++ u) e in
    let b : drop 4 s ≡ d ++ u = ap (drop 4) t in
    record {
      case = 0;
      few = omega arith;
      first = ap (take 4) t;
      long = rw (t, length-append d u) (omega (arith, p.eight));
      is = q ∙ ap Force (first_is p u) ∙ ap (load_of 0) (sym b);
      rest = sym (behind_double p u) ∙ ap (drop 8) (sym b) ∙ drop-drop 8 4 s;
    }
begun (line {a = d} {b = f} e p o q) s u h =
    let t : s ≡ discriminant 1 ++ (d ++ (f ++ u)) = h ∙ ap (λ (a : List ℕ). a ++ u) e ∙ ap (λ (v : List ℕ). discriminant 1 ++ v) (append_assoc d f u) in
    let b : drop 4 s ≡ d ++ (f ++ u) = ap (drop 4) t in
    let n = behind_double p (f ++ u) in
    record {
      case = 1;
      few = omega arith;
      first = ap (take 4) t;
      long = rw (t, length-append d (f ++ u), length-append f u) (omega (arith, p.eight, o.eight));
      is = q ∙ ap₂ Line (first_is p (f ++ u)) (first_is o u ∙ ap double (sym n)) ∙ ap (load_of 1) (sym b);
      rest = sym (behind_double o u) ∙ ap (drop 8) (sym n ∙ ap (drop 8) (sym b)) ∙ ap (drop 8) (drop-drop 8 4 s) ∙ drop-drop 8 12 s;
    }
begun (pressure {a = d} {b = f} {c = g} e p o m q) s u h =
    let t : s ≡ discriminant 2 ++ (d ++ (f ++ (g ++ u))) =
    h ∙ ap (λ (a : List ℕ). a ++ u) e ∙ ap (λ (v : List ℕ). discriminant 2 ++ v) (append_assoc d (f ++ g) u ∙ ap (λ (v : List ℕ). d ++ v) (append_assoc f g u)) in
    let b : drop 4 s ≡ d ++ (f ++ (g ++ u)) = ap (drop 4) t in
    let n = behind_double p (f ++ (g ++ u)) in
    let k : drop 16 (d ++ (f ++ (g ++ u))) ≡ g ++ u = sym (drop-drop 8 8 (d ++ (f ++ (g ++ u)))) ∙ ap (drop 8) n ∙ behind_double o (g ++ u) in
    record {
      case = 2;
      few = omega arith;
      first = ap (take 4) t;
      long = rw (t, length-append d (f ++ (g ++ u)), length-append f (g ++ u), length-append g u) (omega (arith, p.eight, o.eight, m.eight));
      is =
          q
          ∙ (λ i. Pressure (first_is p (f ++ (g ++ u)) i) ((first_is o (g ++ u) ∙ ap double (sym n)) i) ((first_is m u ∙ ap double (sym k)) i))
          ∙ ap (load_of 2) (sym b);
      rest = sym (behind_double m u) ∙ ap (drop 8) (sym k ∙ ap (drop 16) (sym b)) ∙ ap (drop 8) (drop-drop 16 4 s) ∙ drop-drop 8 20 s;
    }

case_one : (m n : ℕ) (t : List ℕ) → t ≡ discriminant m → t ≡ discriminant n → m ≡ n
case_one m n t p q = let e : discriminant m ≡ discriminant n = sym p ∙ q in cc

-- bytes begin with one load at most
pub load_one : {a b : List ℕ} {l m : FrameLoad} → LoadBytes a l → LoadBytes b m → (u v : List ℕ) → a ++ u ≡ b ++ v → (l ≡ m) × (u ≡ v)
load_one {a} p q u v e =
    let s = a ++ u in
    let x = begun p s u refl in
    let y = begun q s v e in
    let k = case_one x.case y.case (take 4 s) x.first y.first in
    (x.is ∙ ap (λ (n : ℕ). load_of n (drop 4 s)) k ∙ sym y.is, x.rest ∙ ap (λ (n : ℕ). drop (12 + 8 * n) s) k ∙ sym y.rest)

-- and with one double
double_one : {a b : List ℕ} {x y : Float} → Double a x → Double b y → (u v : List ℕ) → a ++ u ≡ b ++ v → (x ≡ y) × (u ≡ v)
double_one p q u v e =
    (first_is p u ∙ ap double e ∙ sym (first_is q v), sym (behind_double p u) ∙ ap (drop 8) e ∙ behind_double q v)

reaction_is : {r t : Reaction} → r.vertical ≡ t.vertical → r.x ≡ t.x → r.horizontal ≡ t.horizontal → r.y ≡ t.y → r ≡ t
reaction_is v x h y i = record { vertical = v i; x = x i; horizontal = h i; y = y i }

-- a record has one reading
pub record_one : {s : List ℕ} {r t : Reaction} → IsRecord s r → IsRecord s t → r ≡ t
record_one p q =
    let v = load_one p.vertical_is q.vertical_is _ _ (sym p.are ∙ q.are) in
    let x = double_one p.x_is q.x_is _ _ v.1 in
    let h = load_one p.horizontal_is q.horizontal_is _ _ x.1 in
    let y = double_one p.y_is q.y_is [] [] (ap (λ (u : List ℕ). u ++ []) h.1) in
    reaction_is v.0 x.0 h.0 y.0

-- ---- a record by its places

-- what stands from a place to the end
pub to_end : (s : List ℕ) (n : ℕ) → take (length s - n) (drop n s) ≡ drop n s
to_end s n = take_all (length s - n) (drop n s) (rw length-drop (omega arith))

-- where bytes begin with the vertical load, which has n of them
module _ (s : List ℕ) (n : ℕ) {load : FrameLoad} (v : LoadBytes (take n s) load) where
  pub behind_vertical : {r : Reaction} (p : IsRecord s r) → drop n s ≡ p.x ++ (p.horizontal ++ p.y)
  behind_vertical p = (load_one v p.vertical_is (drop n s) _ (take-append-drop n s ∙ p.are)).1

  pub arm_room : {r : Reaction} → IsRecord s r → n + 8 ≤ length s
  arm_room p =
      let l : length s - n ≡ length p.x + length (p.horizontal ++ p.y) = sym (length-drop n s) ∙ ap length (behind_vertical p) ∙ length-append p.x _ in
      omega (arith, p.x_is.eight)

  pub behind_arm : {r : Reaction} (p : IsRecord s r) → drop (n + 8) s ≡ p.horizontal ++ p.y
  behind_arm p = sym (drop-drop 8 n s) ∙ ap (drop 8) (behind_vertical p) ∙ behind_double p.x_is _

  -- and behind the arm with the horizontal one, which has m
  module _ (m : ℕ) {second : FrameLoad} (h : LoadBytes (take m (drop (n + 8) s)) second) (fits : m ≤ length (drop (n + 8) s)) where
    rest : {r : Reaction} (p : IsRecord s r) → drop m (drop (n + 8) s) ≡ p.y
    rest p = (load_one h p.horizontal_is _ p.y (take-append-drop m (drop (n + 8) s) ∙ behind_arm p)).1

    pub whole_length : {r : Reaction} → IsRecord s r → length s ≡ n + 8 + m + 8
    whole_length p =
        let l : length s - (n + 8) - m ≡ length p.y = rw (sym (length-drop (n + 8) s), sym (length-drop m (drop (n + 8) s))) (ap length (rest p)) in
        let f : m ≤ length s - (n + 8) = rw (sym (length-drop (n + 8) s)) fits in
        omega (arith, arm_room p, p.y_is.eight)

    pub assembled : {x y : Float} → Double (take 8 (drop n s)) x → length s ≡ n + 8 + m + 8 → Double (take 8 (drop (n + 8 + m) s)) y
        → IsRecord s (record { vertical = load; x = x; horizontal = second; y = y })
    assembled d l e =
        let last : drop m (drop (n + 8) s) ≡ take 8 (drop (n + 8 + m) s) =
        drop-drop m (n + 8) s ∙ sym (take_all 8 (drop (n + 8 + m) s) (rw length-drop (omega arith))) in
        let later : drop (n + 8) s ≡ take m (drop (n + 8) s) ++ take 8 (drop (n + 8 + m) s) =
        sym (take-append-drop m (drop (n + 8) s)) ∙ ap (λ (t : List ℕ). take m (drop (n + 8) s) ++ t) last in
        let arm : drop n s ≡ take 8 (drop n s) ++ (take m (drop (n + 8) s) ++ take 8 (drop (n + 8 + m) s)) =
        sym (take-append-drop 8 (drop n s)) ∙ ap (λ (t : List ℕ). take 8 (drop n s) ++ t) (drop-drop 8 n s ∙ later) in
        record {
          vertical = take n s;
          x = take 8 (drop n s);
          horizontal = take m (drop (n + 8) s);
          y = take 8 (drop (n + 8 + m) s);
          are = sym (take-append-drop n s) ∙ ap (λ (t : List ℕ). take n s ++ t) arm;
          vertical_is = v;
          x_is = d;
          horizontal_is = h;
          y_is = e;
        }
