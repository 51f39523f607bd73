-- The kinds of the pattern are those that are taken, whichever of them it is.
use mathlib.Core.Path.{◌≡◌, subst⁻¹}
use mathlib.Core.Logic.{◌⊎◌, inl, inr}
use Rattle.kinds.specs.declared.Kind.{Kind}
use Rattle.kinds.specs.declared.Kind.TheVariants.{DL, EP, LL, WC, BU, TM, EX, WL, SF}
use Rattle.reactions.specs.Asked.{Taken, dl, ep, ll, wc, bu, tm, ex, wl, sf}
use Rattle.reactions.proofs.is_taken.Goals as goal

one_of : (k : Kind) → (k ≡ DL) ⊎ ((k ≡ EP) ⊎ ((k ≡ LL) ⊎ ((k ≡ WC) ⊎ ((k ≡ BU) ⊎ ((k ≡ TM) ⊎ ((k ≡ EX) ⊎ ((k ≡ WL) ⊎ (k ≡ SF)))))))) → Taken k
one_of k (inl e) = subst⁻¹ Taken e dl
one_of k (inr (inl e)) = subst⁻¹ Taken e ep
one_of k (inr (inr (inl e))) = subst⁻¹ Taken e ll
one_of k (inr (inr (inr (inl e)))) = subst⁻¹ Taken e wc
one_of k (inr (inr (inr (inr (inl e))))) = subst⁻¹ Taken e bu
one_of k (inr (inr (inr (inr (inr (inl e)))))) = subst⁻¹ Taken e tm
one_of k (inr (inr (inr (inr (inr (inr (inl e))))))) = subst⁻¹ Taken e ex
one_of k (inr (inr (inr (inr (inr (inr (inr (inl e)))))))) = subst⁻¹ Taken e wl
one_of k (inr (inr (inr (inr (inr (inr (inr (inr e)))))))) = subst⁻¹ Taken e sf

pub returns-in-DL : goal.returns-in-DL
returns-in-DL c = one_of _ c.in-DL.is
