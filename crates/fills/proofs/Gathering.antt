-- What is laid for all, and over it what is laid for a member, is what the two books say.
use Prim.Native.Nat.{ℕ, ◌+◌, ◌<◌}
use native.Mathlib.Omega.{arith}
use native.Mathlib.Numerals.{add-one}
use mathlib.Core.Path.{◌≡◌, refl, ap, subst, ◌∙◌}
use mathlib.Core.List.{List, []}
use lib.ListN.{length, get_or, set, replicate, get_or-replicate, length-replicate}
use Rattle.fields.specs.names.Names.{no_name}
use Rattle.fields.specs.declared.names.Name.{Name}
use Rattle.std.proofs.Common.{None, Some}
use Rattle.fills.specs.declared.fill_rows.Fill.{Fill}
use Rattle.fills.specs.declared.digest.FillWords.{FillWords}
use Rattle.fills.specs.declared.fill_rows.Whose.{Whose}
use Rattle.fills.specs.declared.fill_rows.Whose.TheVariants.{Own, Common}
use Rattle.fills.specs.FillBook.{Lists, FillBook}
use Rattle.fills.specs.Says.{Lacks, own, common, neither}
use Rattle.fills.specs.Values.{cell, FiveByFive, Marked, ValuesFor, void_name, Gathered}
use Rattle.fills.specs.digest.Digest.{DigestOf}
use Rattle.fills.specs.reading.Rows.{Digested}
use Rattle.fills.specs.steps.Laid.{LaidAt, listed, unlisted, LaidOver, Held, Laid}
use Rattle.fills.proofs.OneReading.{fills_one}

-- nothing is held
abbrev pub blank : List (List ℕ)
blank = replicate 5 (replicate 5 0)

pub blank_shape : FiveByFive blank
blank_shape = record { soils = length-replicate 5 (replicate {A = ℕ} 5 0); slopes = λ i l. ap length (get_or-replicate 5 i (replicate {A = ℕ} 5 0) [] l) ∙ length-replicate {A = ℕ} 5 0 }

blank_cell : (i j : ℕ) → i < 5 → j < 5 → cell blank i j ≡ 0
blank_cell i j l k = ap (λ (r : List ℕ). get_or r j 0) (get_or-replicate 5 i (replicate {A = ℕ} 5 0) [] l) ∙ get_or-replicate {A = ℕ} 5 j 0 0 k

all_laid : {fs : List Fill} {ws : List FillWords} → DigestOf fs ws → {m : Name} {s p : ℕ} → ((v : ℕ) (l : Lists fs m s p v) → l.at < length ws → ⊥) → Lacks fs m s p
all_laid d none v l =
    let many = d.many in
    let within = l.within in
    none v l (omega arith)

module _ {owns commons : List Fill} {ws vs : List FillWords} (mine : DigestOf owns ws) (all : DigestOf commons vs) where
  module _ {member : Name} {s p : ℕ} where
    marks : {x y z : ℕ} → LaidAt commons (length vs) no_name s p x y → x ≡ 0 → LaidAt owns (length ws) member s p y z → Marked owns commons member s p z
    marks a e (listed {value = u} q t f) = record { held = Some u; says = own q refl; is = f }
    marks (listed {value = u} q t f) e (unlisted none g) = record { held = Some u; says = common (all_laid mine none) q refl; is = g ∙ f }
    marks (unlisted lacks f) e (unlisted none g) = record { held = None; says = neither (all_laid mine none) (all_laid all lacks) refl; is = g ∙ f ∙ e }

  laid_values : {member : Name} {shared held : List (List ℕ)} → LaidOver commons (length vs) no_name blank shared → LaidOver owns (length ws) member shared held → ValuesFor owns commons member held
  laid_values a b = record { shape = b.shape; each = λ i j x y. marks (a.each i j x y) (blank_cell i j x y) (b.each i j x y) }

-- for whatever fills the books have
pub member_values : {own common : List ℕ} {ws vs : List FillWords} {member : Name} {shared held : List (List ℕ)}
    → Digested Own own ws → Digested Common common vs → Laid vs no_name blank shared → Laid ws member shared held
    → (owns commons : List Fill) → FillBook Own own owns → FillBook Common common commons → ValuesFor owns commons member held
member_values {member = member} {shared} {held} mine all a b owns commons p q =
    subst (λ (x : List Fill). ValuesFor x commons member held) (fills_one mine.book p)
    (subst (λ (x : List Fill). ValuesFor mine.fills x member held) (fills_one all.book q) (laid_values mine.digest all.digest (a all.fills all.digest) (b mine.fills mine.digest)))

-- what is held, for what laying asks
pub digested_held : {whose : Whose} {s : List ℕ} {ws : List FillWords} → Digested whose s ws → Held ws
digested_held d = record { fills = d.fills; digest = d.digest }

-- the values of one member more
pub gathered_more : (owns commons : List Fill) (members : List Name) (before : List (List (List ℕ))) (values : List (List (List ℕ))) (k : ℕ) {held : List (List ℕ)}
    → Gathered owns commons members before k values → ValuesFor owns commons (get_or members k void_name) held → Gathered owns commons members before (k + 1) (set values k held)
unfolding Gathered
gathered_more owns commons members before values k {held} g w = rw (add-one k) (record { values = values; earlier = g; held = held; own_values = w; are = refl })

pub gathered_none : (owns commons : List Fill) (members : List Name) (before : List (List (List ℕ))) → Gathered owns commons members before 0 before
unfolding Gathered
gathered_none owns commons members before = refl
