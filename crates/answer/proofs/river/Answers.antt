-- A job has one line SC, and one line CL.
use Prim.Native.Nat.{ℕ, ◌≤◌}
use mathlib.Core.Path.{◌≡◌, refl, sym, ap, subst, ◌∙◌}
use mathlib.Core.Bool.{Bool}
use lib.IntN.{pos}
use Rattle.arithmetic.specs.declared.signed.Amount.{Amount}
use Rattle.arithmetic.specs.signed.Whole.{amount}
use Rattle.arithmetic.specs.decides.Decides.{Decides}
use Rattle.arithmetic.proofs.Deciding.{decides_one}
use Rattle.jobs.specs.declared.Job.{Job}
use Rattle.scour.proofs.Scours.{scour_rule_one}
use Rattle.clearance.proofs.Clearances.{cleared_one}
use Rattle.lines.specs.declared.RiverLine.{RiverLine}
use Rattle.lines.specs.declared.RiverLine.TheVariants as line
use Rattle.clearance.specs.Clear.{AtLeast}
use Rattle.answer.specs.river.River.{Founded, DepthShown, DepthIs, ClearIs}

module _ (job : Job) where
  founded : {depth : Amount} {found : ℕ} {passes exact : Bool} → DepthShown job depth found passes exact → Founded job
  founded p = record { soil = p.soil; has = p.gives.has }

  pub depth_one : (d e : RiverLine) → DepthIs job d → DepthIs job e → d ≡ e
  depth_one line.Missing line.Missing p q = refl
  depth_one line.Missing (line.Shown v f y x) p q = absurd (p (founded q))
  depth_one (line.Shown v f y x) line.Missing p q = absurd (q (founded p))
  depth_one (line.Shown v f y x) (line.Shown w g z t) p q =
      let s = scour_rule_one p.gives.rule q.gives.rule in
      let a : p.needed ≡ q.needed = cc in
      let k : x ≡ t = cc in
      let u : v ≡ w = p.value ∙ ap (λ (n : ℕ). amount (pos n)) a ∙ sym q.value in
      let b : f ≡ g = p.limit ∙ sym q.limit in
      let c = decides_one (p.needed ≤ f) y z p.mark (subst (λ (x : ℕ). Decides z (p.needed ≤ x)) (sym b) (subst (λ (x : ℕ). Decides z (x ≤ g)) (sym a) q.mark)) in
      cc

  pub clear_one : (d e : RiverLine) → ClearIs job d → ClearIs job e → d ≡ e
  clear_one line.Missing line.Missing p q = refl
  clear_one line.Missing (line.Shown b y v n) p q = absurd (p q.gives.has)
  clear_one (line.Shown a x u m) line.Missing p q = absurd (q p.gives.has)
  clear_one (line.Shown a x u m) (line.Shown b y v n) p q =
      let t = cleared_one p.gives.rule q.gives.rule in
      let e : a ≡ b = cc in
      let f : x ≡ y = cc in
      let g : m ≡ n = cc in
      let k = decides_one (AtLeast a x) u v p.mark (subst (λ (c : Amount). Decides v (AtLeast c x)) (sym e) (subst (λ (n : ℕ). Decides v (AtLeast b n)) (sym f) q.mark)) in
      cc
