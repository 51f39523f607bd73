-- The bytes are the text of the job's own answer, and they fit the block whole, since its sets are numbered below 65,536.
use mathlib.Core.Path.{refl}
use Rattle.printing.specs.AnswerText.{text}
use Rattle.debtarush.proofs.Fitting.{numbered}
use Rattle.debtarush.proofs.lines_of.Goals as goal

pub returns : goal.returns
unfolding text
returns c =
    let is = c.answer_of.ensures in
    record {
      bytes = _;
      lines = record { lines = _; is = record { answer = _; is = is; are = refl }; are = refl };
      fits = c.answer_text.ensures.whole (numbered is);
      held = c.answer_text.ensures.value;
    }
