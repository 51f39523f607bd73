-- Member, comma, job and comma, one behind the other.
use mathlib.Core.Path.{refl}
use Rattle.printing.specs.line_key.Text.{key_text}
use Rattle.block.proofs.Pages.{spelled, then_put}
use Rattle.printing.proofs.line_key.put_key.Goals as goal

pub returns : goal.returns
unfolding key_text
returns c =
    then_put _ _ _ _ _ 12 14 c.put_name.ensures
    (then_put _ _ _ _ _ 1 13 (spelled _ _ _ _ 1 refl c.push.ensures tt)
    (then_put _ _ _ _ _ 12 1 c.put_name-2.ensures (spelled _ _ _ _ 1 refl c.push-2.ensures tt)))
