-- What `bare` promises is met by one answer only.
use Prim.Native.Nat.{ℕ}
use mathlib.Core.Path.{◌≡◌, sym, ◌∙◌}
use mathlib.Core.List.{List}
use Rattle.fields.specs.content.Content.{Bare, between, all}
use Rattle.fields.proofs.content.Contents.{between_one}

pub bare_one : {raw r s : List ℕ} → Bare raw r → Bare raw s → r ≡ s
bare_one (between p) (between q) = between_one (sym p ∙ q)
bare_one {r = r} (between p) (all e n) = absurd (n r p)
bare_one {s = s} (all e n) (between q) = absurd (n s q)
bare_one (all p n) (all q m) = p ∙ sym q
