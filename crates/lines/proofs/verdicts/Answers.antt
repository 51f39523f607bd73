-- Lines have one verdict.
use mathlib.Core.Path.{◌≡◌, refl, sym, subst, ◌∙◌}
use Rattle.lines.specs.declared.Lines.{Lines}
use Rattle.lines.specs.declared.Verdict.{Verdict}
use Rattle.lines.specs.declared.Verdict.TheVariants.{Accepted, NotAccepted, Refused}
use Rattle.lines.specs.declared.RiverLine.{RiverLine}
use Rattle.lines.specs.declared.Answer.{Answer}
use Rattle.lines.specs.verdicts.Verdict.{LinesYes, RiverYes, AllYes, VerdictIs}
use Rattle.lines.specs.verdicts.Judged.{Judged}

-- the verdict goes by the lines alone
verdict_one : (v w : Verdict) (a b : Answer) → (AllYes a → AllYes b) → (AllYes b → AllYes a) → VerdictIs v a → VerdictIs w b → v ≡ w
verdict_one Accepted Accepted a b f g p q = refl
verdict_one Accepted NotAccepted a b f g p q = absurd (q (f p))
verdict_one Accepted (Refused n) a b f g p q = absurd q
verdict_one NotAccepted Accepted a b f g p q = absurd (p (g q))
verdict_one NotAccepted NotAccepted a b f g p q = refl
verdict_one NotAccepted (Refused n) a b f g p q = absurd q
verdict_one (Refused n) w a b f g p q = absurd p

-- all lines alike
pub record Alike (a b : Answer) : Type 0 where
  pub one : a.one ≡ b.one
  pub two : a.two ≡ b.two
  pub three : a.three ≡ b.three
  pub four : a.four ≡ b.four
  pub depth : a.depth ≡ b.depth
  pub clear : a.clear ≡ b.clear

alike_back : {a b : Answer} → Alike a b → Alike b a
alike_back k = record { one = sym k.one; two = sym k.two; three = sym k.three; four = sym k.four; depth = sym k.depth; clear = sym k.clear }

alike_yes : {a b : Answer} → Alike a b → AllYes a → AllYes b
alike_yes k w = record {
  one = subst LinesYes k.one w.one;
  two = subst LinesYes k.two w.two;
  three = subst LinesYes k.three w.three;
  four = subst LinesYes k.four w.four;
  depth = subst RiverYes k.depth w.depth;
  clear = subst RiverYes k.clear w.clear;
}

pub alike_one : (a b : Answer) → Alike a b → VerdictIs a.verdict a → VerdictIs b.verdict b → a ≡ b
alike_one a b k p q =
    let v = verdict_one a.verdict b.verdict a b (alike_yes k) (alike_yes (alike_back k)) p q in
    λ i. record { verdict = v i; one = k.one i; two = k.two i; three = k.three i; four = k.four i; depth = k.depth i; clear = k.clear i }

-- the answer of lines is one
pub judged_one : {l1 l2 l3 l4 : Lines} {d c : RiverLine} (a b : Answer) → Judged l1 l2 l3 l4 d c a → Judged l1 l2 l3 l4 d c b → a ≡ b
judged_one a b p q =
    alike_one a b
    (record {
      one = p.one ∙ sym q.one;
      two = p.two ∙ sym q.two;
      three = p.three ∙ sym q.three;
      four = p.four ∙ sym q.four;
      depth = p.depth ∙ sym q.depth;
      clear = p.clear ∙ sym q.clear;
    })
    p.verdict q.verdict
