-- A fault is the refusal that demand 1 puts in its order, and each place is one by the laws of its room.
use mathlib.Core.List.{List}
use Prim.Native.Nat.{ℕ}
use Rattle.book.proofs.faults.Answers.{lies_said, lies_one}
use Rattle.fills.proofs.faults.Lying.{fill_lies_one, accepted_sound}
use Rattle.job_faults.proofs.Lying.{job_lies_one, lies_refuses}
use Rattle.debtarush.specs.CallTold.{CallTold}
use Rattle.debtarush.specs.Called.{Called}
use Rattle.demands.proofs.Demand1.{demand1}
use Rattle.explained.specs.Explained.{CallExplained, Explained}
use Rattle.explained.proofs.Written.{row_written}

call : {own common b : List ℕ} {place : ℕ} {before after : List ℕ} {t : CallTold} → Called own common b place before after t → CallExplained own common b place before after t
call c =
    let told = demand1.in_order c in
    record {
      book = λ f lies faulty. told.book_first _ _ (lies_said lies faulty);
      fills = λ js f g b x y faulty. told.then_fills js b (λ accepted. let sound = accepted_sound accepted x y in faulty sound.0 sound.1);
      job = λ len js job fill f e b at filled lies faulty. told.alone len _ js job fill e b at filled (lies_refuses fill job f lies faulty);
    }

pub explained : Explained
explained = record {
  call = call;
  row = row_written;
  one_book = lies_one;
  one_own = fill_lies_one;
  one_common = fill_lies_one;
  one_job = job_lies_one;
}
