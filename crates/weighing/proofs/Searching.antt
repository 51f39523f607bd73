-- The search by weights: the worst so far comes before every permitted set gone through, whatever the order, and at the end it is the set that the line names.
use mathlib.Core.Path.{◌≡◌, refl, sym, ◌∙◌, ap, subst}
use mathlib.Core.Logic.{◌⊎◌, inl, inr, ⊎_elim}
use Prim.Native.Nat.{ℕ, ◌+◌, ◌*◌, ◌-◌, ◌^◌, ◌≤◌, ◌<◌}
use native.Mathlib.Omega.{arith}
use native.Mathlib.Nat.{le_trans, le_refl}
use lib.Count.{ones}
use Rattle.checks.specs.declared.Figure.{Figure}
use Rattle.checks.specs.Order.{Side}
use Rattle.checks.specs.steps.Ranks.{HasRank, rank, Ranks}
use Rattle.checks.proofs.Ranking.{rank_worse, rank_low, rank_one}
use Rattle.weighing.specs.declared.ranked.RankedSet.{RankedSet}
use Rattle.weighing.specs.steps.Ranked.{order_of_ties, weight, weight_of, Offered}
use Rattle.weighing.proofs.ranked.Weights.{tie_order_none, tie_order_some, tie_order_low, some_low}
use Rattle.weighing.specs.Named.{Named}

-- ---- from the worst so far to the worst of it and of a family of sets
module _ (s : Side) (P : ℕ → Type 0) (Shown : ℕ → Figure → Type 0) where
  -- r is a permitted set with the rank of its figure
  pub record Reached (r : RankedSet) : Type 0 where
    pub permitted : P r.set
    pub ranks : Ranks s (Shown r.set) r.rank

  -- r does not come after t
  pub record NotAfter (r : RankedSet) (t : ℕ) : Type 0 where
    pub rank : ℕ
    pub ranks : Ranks s (Shown t) rank
    pub weighs : weight_of r ≤ weight rank t

  -- r is the worst of b and of the permitted sets of F
  pub record Extends (F : ℕ → Type 0) (b r : RankedSet) : Type 0 where
    pub from : (r ≡ b) ⊎ Reached r
    pub kept : weight_of r ≤ weight_of b
    pub first : (t : ℕ) → F t → P t → NotAfter r t

  pub nothing_yet : {F : ℕ → Type 0} {b : RankedSet} → ((t : ℕ) → F t → ⊥) → Extends F b b
  nothing_yet none = record { from = inl refl; kept = le_refl _; first = λ t f. absurd (none t f) }

  -- over fewer sets
  pub smaller : {F H : ℕ → Type 0} {b r : RankedSet} → ((t : ℕ) → H t → F t) → Extends F b r → Extends H b r
  smaller f e = record { from = e.from; kept = e.kept; first = λ t h. e.first t (f t h) }

  later : {c r : RankedSet} {t : ℕ} → weight_of r ≤ weight_of c → NotAfter c t → NotAfter r t
  later h w = record { rank = w.rank; ranks = w.ranks; weighs = le_trans h w.weighs }

  module _ {F H : ℕ → Type 0} {b c : RankedSet} (u : ℕ) (so_far : Extends F b c) (split : (t : ℕ) → H t → F t ⊎ (t ≡ u)) where
    -- one permitted set more,
    pub offer : {r : RankedSet} → P u → Offered s (Shown u) c u r → Extends H b r
    offer {r} h w =
        record {
          from = ⊎_elim (λ e. ⊎_elim (λ d. inl (e ∙ d)) (λ k. inr (subst Reached (sym e) k)) so_far.from) (λ e. inr (here e)) w.worse.from;
          kept = le_trans w.worse.kept so_far.kept;
          first = λ t f k. ⊎_elim (λ x. later w.worse.kept (so_far.first t x k)) (λ e. subst (NotAfter r) (sym e) own) (split t f);
        }
      where
        here : (r.rank ≡ w.rank) × (r.set ≡ u) → Reached r
        here e =
            record {
              permitted = subst P (sym e.1) h;
              ranks = subst (λ (n : ℕ). Ranks s (Shown n) r.rank) (sym e.1) (subst (Ranks s (Shown u)) (sym e.0) w.ranks);
            }

        own : NotAfter r u
        own = record { rank = w.rank; ranks = w.ranks; weighs = w.worse.first }

    -- or a set more that is not permitted
    pub skip : (P u → ⊥) → Extends H b c
    skip n =
        record {
          from = so_far.from;
          kept = so_far.kept;
          first = λ t f k. ⊎_elim (λ x. so_far.first t x k) (λ e. absurd (n (subst P e k))) (split t f);
        }

  -- ---- the end: from nothing, over a family that has every permitted set
  module _ {F : ℕ → Type 0} {b r : RankedSet} (all : Extends F b r) (whole : (t : ℕ) → P t → F t) (some : (t : ℕ) → P t → 0 < t) (rows : (t : ℕ) → P t → t < 65536)
      (one : (t : ℕ) (v w : Figure) → Shown t v → Shown t w → v ≡ w) (none : b.set ≡ 0) (last : b.rank ≡ 2 ^ 64 - 1) where
    -- no set is named where there is none,
    pub ends_empty : r.set ≡ 0 → (t : ℕ) → P t → ⊥
    unfolding weight_of weight
    ends_empty e t h = ⊎_elim start (λ k. omega (arith, some r.set k.permitted)) all.from
      where
        w : NotAfter r t
        w = all.first t (whole t h) h

        start : r ≡ b → ⊥
        start d =
            let p : order_of_ties r.set ≡ 17 * 65536 = ap order_of_ties e ∙ tie_order_none in
            let q : r.rank ≡ 2 ^ 64 - 1 = ap (λ (m : RankedSet). m.rank) d ∙ last in
            let n : w.rank < 2 ^ 64 = subst (λ (x : ℕ). x < 2 ^ 64) w.ranks.ranked (rank_low s w.ranks.figure w.ranks.has_rank) in
            omega (arith, w.weighs, some_low t (some t h) (rows t h))

    -- and else the one that the tie rule names.
    module _ (v : Figure) (has_rank : HasRank s v) (ranked : rank s v ≡ r.rank) (found : r.set ≡ 0 → ⊥) where
      reached : Reached r
      reached = ⊎_elim (λ d. absurd (found (ap (λ (m : RankedSet). m.set) d ∙ none))) (λ k. k) all.from

      shown : Shown r.set v
      shown =
          subst (Shown r.set) (rank_one s reached.ranks.figure v reached.ranks.has_rank has_rank (reached.ranks.ranked ∙ sym ranked)) reached.ranks.holds

      before : (t : ℕ) → P t → NotAfter r t
      before t h = all.first t (whole t h) h

      at : (t : ℕ) (w : Figure) (h : P t) → Shown t w → rank s w ≡ (before t h).rank
      at t w h k = ap (rank s) (one t w (before t h).ranks.figure k (before t h).ranks.holds) ∙ (before t h).ranks.ranked

      has_rank_at : (t : ℕ) (w : Figure) (h : P t) → Shown t w → HasRank s w
      has_rank_at t w h k = subst (HasRank s) (sym (one t w (before t h).ranks.figure k (before t h).ranks.holds)) (before t h).ranks.has_rank

      low : r.set < 65536
      low = rows r.set reached.permitted

      -- a set with the same figure does not come earlier
      no_earlier : (t : ℕ) → P t → Shown t v → ones r.set * 65536 + r.set ≤ ones t * 65536 + t
      unfolding weight_of weight
      no_earlier t h k =
          omega (arith, (before t h).weighs, at t v h k, tie_order_some r.set (some r.set reached.permitted), tie_order_some t (some t h))

      pub ends_named : Named s P Shown v r.set
      unfolding weight_of weight
      ends_named =
          record {
            permitted = reached.permitted;
            reaches = shown;
            no_worse = λ t w h k x. omega (arith, (before t h).weighs, at t w h k, rank_worse s w v (has_rank_at t w h k) has_rank x, tie_order_low r.set low, tie_order_low t (rows t h));
            fewest = λ t h k. omega (arith, no_earlier t h k, low, rows t h);
            smallest = λ t h k e. omega (arith, no_earlier t h k);
          }
