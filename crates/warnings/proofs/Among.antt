-- One of the rows has a property, or none has: what a search for the first such row answers, said of the rows.
use Rattle.std.proofs.Common.{ℕ, zero, suc, ◌<◌, Bool, true, false, List, [], ◌∷◌, length, refl, subst, arith}
use Rattle.std.specs.Bool.{MatchBool}
use Rattle.std.specs.List.{HoldsAt, AllWithin}
use mathlib.Core.List.Memᴰ.{Memᴰ, head, tail}
use Rattle.arithmetic.specs.decides.Decides.{Decides}
use Rattle.kinds.specs.declared.Row.{Row}
use Rattle.warnings.specs.Warnings.{Among}

module _ (P : Row → Type 0) where
  none_in : (rows : List Row) → AllWithin (λ row. P row → ⊥) rows 0 (length rows) → (row : Row) → Memᴰ row rows → P row → ⊥
  none_in [] f row m h = elim m [ ]
  none_in (first ∷ rows) f row (head e) h = f 0 row (omega arith) (omega arith) (subst P e h)
  none_in (first ∷ rows) f row (tail m) h = none_in rows (λ k d l m. f (suc k) d (omega arith) (omega (arith, m))) row m h

  among_rest : {row : Row} {rows : List Row} → Among P rows → Among P (row ∷ rows)
  among_rest a = record { row = a.row; among = Memᴰ.tail a.among; has = a.has }

  among_at : (rows : List Row) (k : ℕ) → k < length rows → HoldsAt P rows k → Among P rows
  among_at [] k l h = absurd (omega arith)
  among_at (row ∷ rows) zero l h = record { row = row; among = Memᴰ.head refl; has = h row }
  among_at (row ∷ rows) (suc k) l h = among_rest (among_at rows k (omega (arith, l)) h)

  pub among_decides : (rows : List Row) (r : Bool) → MatchBool r ((k : ℕ) × (k < length rows) × HoldsAt P rows k) (AllWithin (λ row. P row → ⊥) rows 0 (length rows)) → Decides r (Among P rows)
  among_decides rows true t = among_at rows t.0 t.1 t.2
  among_decides rows false f = λ a. none_in rows f a.row a.among a.has
