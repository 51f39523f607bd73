-- Every line says Y, from the answers for the lines.
use mathlib.Core.Bool.{Bool, ◌&&◌}
use Rattle.arithmetic.specs.decides.Decides.{Decides}
use Rattle.arithmetic.proofs.Deciding.{decides_same, decides_both}
use Rattle.lines.specs.declared.Lines.{Lines}
use Rattle.lines.specs.declared.Answer.{Answer}
use Rattle.lines.specs.verdicts.Verdict.{LineYes, LinesYes, RiverYes, AllYes}

module _ (l : Lines) where
  abbrev Two : Type 0
  Two = LineYes l.op × LineYes l.om

  abbrev Three : Type 0
  Three = Two × LineYes l.sl

  abbrev Four : Type 0
  Four = Three × LineYes l.pr

  pub lines_decided : (a b c d e : Bool) → Decides a (LineYes l.op) → Decides b (LineYes l.om) → Decides c (LineYes l.sl) → Decides d (LineYes l.pr) → Decides e (LineYes l.rk)
      → Decides ((((a && b) && c) && d) && e) (LinesYes l)
  lines_decided a b c d e p q r s t =
      decides_same {P = Four × LineYes l.rk} {Q = LinesYes l} ((((a && b) && c) && d) && e)
      (λ w. record { op = w.0.0.0.0; om = w.0.0.0.1; sl = w.0.0.1; pr = w.0.1; rk = w.1 })
      (λ w. ((((w.op, w.om), w.sl), w.pr), w.rk))
      (decides_both Four (LineYes l.rk) (((a && b) && c) && d) e
      (decides_both Three (LineYes l.pr) ((a && b) && c) d
      (decides_both Two (LineYes l.sl) (a && b) c (decides_both (LineYes l.op) (LineYes l.om) a b p q) r) s) t)

module _ (x : Answer) where
  abbrev OneTwo : Type 0
  OneTwo = LinesYes x.one × LinesYes x.two

  abbrev ToThree : Type 0
  ToThree = OneTwo × LinesYes x.three

  abbrev ToFour : Type 0
  ToFour = ToThree × LinesYes x.four

  abbrev ToDepth : Type 0
  ToDepth = ToFour × RiverYes x.depth

  pub all_decided : (a b c d e f : Bool) → Decides a (LinesYes x.one) → Decides b (LinesYes x.two) → Decides c (LinesYes x.three) → Decides d (LinesYes x.four)
      → Decides e (RiverYes x.depth) → Decides f (RiverYes x.clear) → Decides (((((a && b) && c) && d) && e) && f) (AllYes x)
  all_decided a b c d e f p q r s t u =
      decides_same {P = ToDepth × RiverYes x.clear} {Q = AllYes x} (((((a && b) && c) && d) && e) && f)
      (λ w. record { one = w.0.0.0.0.0; two = w.0.0.0.0.1; three = w.0.0.0.1; four = w.0.0.1; depth = w.0.1; clear = w.1 })
      (λ w. (((((w.one, w.two), w.three), w.four), w.depth), w.clear))
      (decides_both ToDepth (RiverYes x.clear) ((((a && b) && c) && d) && e) f
      (decides_both ToFour (RiverYes x.depth) (((a && b) && c) && d) e
      (decides_both ToThree (LinesYes x.four) ((a && b) && c) d
      (decides_both OneTwo (LinesYes x.three) (a && b) c (decides_both (LinesYes x.one) (LinesYes x.two) a b p q) r) s) t) u)
