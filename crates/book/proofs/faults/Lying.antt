-- Where the walk over the rows stopped, the refusal of the book lies: at the row behind those passed, by how it is bad.
use Prim.Native.Nat.{ℕ, suc, ◌+◌, ◌≤◌}
use native.Mathlib.Omega.{arith}
use mathlib.Core.Path.{◌≡◌, refl, sym, ap, subst, ◌∙◌}
use mathlib.Core.Logic.{◌⊎◌, ⊎_elim}
use mathlib.Core.List.{List, ◌∷◌, ◌++◌}
use lib.ListN.{length}
use Rattle.arithmetic.proofs.Cases.{impossible}
use Rattle.csv_text.specs.rfc4180.Rfc4180.{Cell}
use Rattle.kinds.specs.Table.{role}
use Rattle.rows.specs.Form.{BookRow}
use Rattle.rows.specs.faults.Place.{FaultAt}
use Rattle.rows.specs.declared.faults.RowFault.{RowFault}
use Rattle.rows.proofs.faults.Answers.{sound_form}
use Rattle.rows.specs.declared.refusals.Refusal.{Refusal}
use Rattle.rows.specs.declared.refusals.Refusal.TheVariants.{TooLong, NotCsv, NoForm, Misplaced, TooManyJobs, UsedKey}
use Rattle.jobs.specs.declared.Job.{Job}
use Rattle.jobs.specs.misplaced.Rules.{FirstRule}
use Rattle.jobs.specs.misplaced.Placing.{Broken}
use Rattle.jobs.specs.declared.misplaced.Misplaced as mis
use Rattle.jobs.specs.declared.misplaced.Misplaced.TheVariants.{NoLoad}
use Rattle.std.specs.Prelude.{Option, Some, None, Ok, Err}
use Rattle.jobs.proofs.misplaced.Ruling.{unbroken_fits}
use Rattle.book.specs.JobBook.{Forms, no_form, form}
use Rattle.book.specs.steps.Stop.{Reached, StopIs, through, formless, misplaced, surplus, reused}
use Rattle.book.specs.steps.Faulted.{RuleAt, UsedAmong}
use Rattle.book.specs.faults.Rules.{UsedAt}
use Rattle.book.specs.faults.Faults as lies
use Rattle.book.specs.faults.Faults.{Behind, RowsLie, BookLies}
use Rattle.book.specs.declared.faults.BookFault.{BookFault}
use Rattle.book.specs.declared.faults.BookFault.TheVariants as fault
use Rattle.book.specs.declared.walk.Stop.{Stop}
use Rattle.book.proofs.Answers.{begins_book}
use Rattle.book.proofs.Stopping.{lacks, has_load}
use Rattle.book.proofs.faults.Ruling.{first_rule, base_unruled}

-- rows and their forms are as many
forms_many : {css : List (List Cell)} {rs : List BookRow} → Forms css rs → length css ≡ length rs
forms_many no_form = refl
forms_many (form f fs) = ap suc (forms_many fs)

module _ {s : List ℕ} (t : Stop) (size : length s ≤ 65536) where
  -- a row was refused
  pub stop_reached : (why : Refusal) → t.ending ≡ Err why → StopIs s t → Reached s t
  stop_reached why q (through p f b m n l c v j) = impossible cc
  stop_reached why q (formless p b h) = b
  stop_reached why q (misplaced p b f j h) = b
  stop_reached why q (surplus p b f k l m) = b
  stop_reached why q (reused p b f k l m u e) = b

  abbrev behind_of : (b : Reached s t) → Behind (b.passed ++ b.this ∷ b.behind) t.row
  behind_of b = record { row = b.this; at = record { before = b.passed; behind = b.behind; are = refl; number = b.number }; typed = b.typed; jobs = b.written; begins = b.begins }

  lie : {f : Option BookFault} (b : Reached s t) → RowsLie (b.passed ++ b.this ∷ b.behind) f → BookLies s f
  lie b l = lies.rows size b.text l

  -- it is refused with 3 to 6 alone
  pub stop_late : (why : Refusal) → t.ending ≡ Err why → (why ≡ TooLong) ⊎ (why ≡ NotCsv) → StopIs s t → ⊥
  stop_late why q o (through p g b m n l c v j) = impossible cc
  stop_late why q o (formless p b h) = ⊎_elim (λ e. impossible cc) (λ e. impossible cc) o
  stop_late why q o (misplaced p b g j h) = ⊎_elim (λ e. impossible cc) (λ e. impossible cc) o
  stop_late why q o (surplus p b g k l m) = ⊎_elim (λ e. impossible cc) (λ e. impossible cc) o
  stop_late why q o (reused p b g k l m u e) = ⊎_elim (λ e. impossible cc) (λ e. impossible cc) o

  -- 3: the row has no form
  module _ (q : t.ending ≡ Err NoForm) where
    pub formless_lies : (f : RowFault) → FaultAt s t.at (Some f) → StopIs s t → BookLies s (Some (fault.Row t.row f))
    formless_lies f a (through p g b m n l c v j) = impossible cc
    formless_lies f a (formless p b h) = lie b (lies.row (behind_of b) (a b.this b.behind b.here))
    formless_lies f a (misplaced p b g j h) = impossible cc
    formless_lies f a (surplus p b g k l m) = impossible cc
    formless_lies f a (reused p b g k l m u e) = impossible cc

    pub formless_found : FaultAt s t.at None → StopIs s t → ⊥
    formless_found a (through p g b m n l c v j) = impossible cc
    formless_found a (formless p b h) = let x = sound_form (a b.this b.behind b.here) in h x.0 x.1
    formless_found a (misplaced p b g j h) = impossible cc
    formless_found a (surplus p b g k l m) = impossible cc
    formless_found a (reused p b g k l m u e) = impossible cc

  -- 4: a rule holds of it
  module _ (q : t.ending ≡ Err Misplaced) where
    pub misplaced_lies : (rule : mis.Misplaced) → RuleAt s t.at t.job (Some rule) → StopIs s t → BookLies s (Some (fault.Misplaced t.row rule))
    misplaced_lies rule a (through x g b m n l c v j) = impossible cc
    misplaced_lies rule a (formless x b h) = impossible cc
    misplaced_lies rule a (misplaced {r} x b g j h) =
        lie b (lies.misplaced (behind_of b) g (first_rule (subst (λ (x : Job). FirstRule (Broken x r.keyed) rule) j (a b.this b.behind r b.here g))))
    misplaced_lies rule a (surplus x b g k l m) = impossible cc
    misplaced_lies rule a (reused x b g k l m u e) = impossible cc

    pub misplaced_found : RuleAt s t.at t.job None → StopIs s t → ⊥
    misplaced_found a (through x g b m n l c v j) = impossible cc
    misplaced_found a (formless x b h) = impossible cc
    misplaced_found a (misplaced {r} x b g j h) =
        unbroken_fits t.job.count (t.job.key ≡ r.keyed.key) (role r.keyed.row.kind) t.job.stage (a b.this b.behind r b.here g) h
    misplaced_found a (surplus x b g k l m) = impossible cc
    misplaced_found a (reused x b g k l m u e) = impossible cc

  -- 5: it begins a 65th job
  pub surplus_lies : t.ending ≡ Err TooManyJobs → StopIs s t → BookLies s (Some (fault.TooManyJobs t.row))
  surplus_lies q (through x g b m n l c v j) = impossible cc
  surplus_lies q (formless x b h) = impossible cc
  surplus_lies q (misplaced x b g j h) = impossible cc
  surplus_lies q (surplus {r} x b g k l m) =
      let n = b.many in
      let few = b.begins.few in
      lie b (lies.too_many (record { behind = behind_of b; typed = r; form = g; is_base = k; placed = base_unruled b.written k l }) (omega arith))
  surplus_lies q (reused x b g k l m u e) = impossible cc

  -- 6: its key was used before
  pub reused_among : t.ending ≡ Err UsedKey → StopIs s t → UsedAmong t.jobs t.count t.row t.job.key
  reused_among q (through x g b m n l c v j) = impossible cc
  reused_among q (formless x b h) = impossible cc
  reused_among q (misplaced x b g j h) = impossible cc
  reused_among q (surplus x b g k l m) = impossible cc
  reused_among q (reused {r} x b g k l m u e) =
      let n = b.number in
      let o = forms_many b.begins.forms ∙ ap length b.begins.placed.are in
      record { of = r; written = b.written; many = b.many; few = omega arith; held = b.held; past = omega arith; is = e; used = u }

  pub reused_lies : (m : ℕ) → t.ending ≡ Err UsedKey → ((w : UsedAmong t.jobs t.count t.row t.job.key) → UsedAt w.of w.written m) → StopIs s t → BookLies s (Some (fault.UsedKey t.row m))
  reused_lies m q a (through x g b o n l c v j) = impossible cc
  reused_lies m q a (formless x b h) = impossible cc
  reused_lies m q a (misplaced x b g j h) = impossible cc
  reused_lies m q a (surplus x b g k l o) = impossible cc
  reused_lies m q a (reused {r} x b g k l o u e) =
      let n = b.many in
      let z = b.number in
      let y = forms_many b.begins.forms ∙ ap length b.begins.placed.are in
      let w : UsedAmong t.jobs t.count t.row t.job.key = record { of = r; written = b.written; many = b.many; few = omega arith; held = b.held; past = omega arith; is = e; used = u } in
      lie b (lies.used_key (record { behind = behind_of b; typed = r; form = g; is_base = k; placed = base_unruled b.written k l }) (omega arith) (a w))

  -- behind the last row
  pub short_lies : t.ending ≡ Ok tt → t.job.count ≡ 0 → StopIs s t → BookLies s (Some (fault.Misplaced (t.row + 1) NoLoad))
  short_lies q z (through {js = js} p f b m n l c v j) =
      lies.rows size f (lies.unfinished (record { typed = _; jobs = js; begins = b; missing = lacks js m (sym (ap (λ (x : Job). x.count) j) ∙ z) }) (ap (λ (k : ℕ). k + 1) n))
  short_lies q z (formless p b h) = impossible cc
  short_lies q z (misplaced p b f j h) = impossible cc
  short_lies q z (surplus p b f k l m) = impossible cc
  short_lies q z (reused p b f k l m u e) = impossible cc

  pub whole_lies : t.ending ≡ Ok tt → (t.job.count ≡ 0 → ⊥) → StopIs s t → BookLies s None
  whole_lies q z (through {js = js} p f b m n l c v j) = lies.sound (begins_book size f b (has_load js m (λ e. z (ap (λ (x : Job). x.count) j ∙ e))))
  whole_lies q z (formless p b h) = impossible cc
  whole_lies q z (misplaced p b f j h) = impossible cc
  whole_lies q z (surplus p b f k l m) = impossible cc
  whole_lies q z (reused p b f k l m u e) = impossible cc
