-- The members of jobs by their places, and so what the fill books hold for each job.
use Prim.Native.Nat.{ℕ, ◌+◌, ◌≤◌, ◌<◌, min}
use native.Mathlib.Decide.{dec_lt}
use native.Mathlib.Omega.{arith}
use mathlib.Core.Path.{◌≡◌, sym, ap, subst, ◌∙◌}
use mathlib.Core.Bool.{Bool}
use mathlib.Core.List.{List, []}
use lib.ListN.{length, get_or, set, length-set}
use lib.Seq.{get_or-set_same, get_or-set_other}
use Rattle.arithmetic.proofs.Cases.{by_cases}
use Rattle.fields.specs.declared.names.Name.{Name}
use Rattle.jobs.specs.declared.Job.{Job}
use Rattle.jobs.specs.Blank.{no_job}
use Rattle.earth.specs.coefficients.Lent.{fill_of}
use Rattle.fills.specs.Says.{FillFor}
use Rattle.fills.specs.Values.{void_name, Gathered, ValuesGiven, given, refused}
use Rattle.fills.proofs.Holding.{fill_held, gathered_long, gathered_at}
use Rattle.debtarush.specs.steps.Tabled.{FillsGiven}
use Rattle.debtarush.proofs.InOrder.{same_there}

-- the members of the first i jobs, in 64 places
pub record Named (jobs : List Job) (members : List Name) (i : ℕ) : Type 0 where
  pub long : length members ≡ 64
  pub each : (k : ℕ) → k < i → get_or members k void_name ≡ (get_or jobs k no_job).key.member

pub named_more : {jobs : List Job} {members : List Name} {i : ℕ} → Named jobs members i → i < 64 → i < length jobs → (d : Job) → Named jobs (set members i (get_or jobs i d).key.member) (i + 1)
named_more {jobs} {members} {i} w few there d =
    let long = w.long in
    let m = (get_or jobs i d).key.member in
    record {
      long = length-set members i m ∙ w.long;
      each = λ k l.
          by_cases (dec_lt k i) (λ a. get_or-set_other members i k m void_name (λ e. omega arith) ∙ w.each k a)
          (λ a.
          let e : k ≡ i = omega arith in
          ap (λ (x : ℕ). get_or (set members i m) x void_name) e ∙ get_or-set_same members i m void_name (omega arith) ∙ ap (λ (j : Job). j.key.member) (same_there jobs i d no_job there) ∙ ap (λ (x : ℕ). (get_or jobs x no_job).key.member) (sym e));
    }

pub tabled : {own common : List ℕ} {jobs : List Job} {members : List Name} {n : ℕ} {before after : List (List (List ℕ))} {r : Bool}
    → Named jobs members n → n ≤ 64 → length before ≡ 64 → ValuesGiven own common members n before after r → FillsGiven r own common jobs n after
tabled {own} {common} {members = members} {n} {before} {after} w few long (given books g) =
    let m : min n 64 ≡ n = omega arith in
    let all : Gathered books.owns books.commons members before n after = subst (λ (k : ℕ). Gathered books.owns books.commons members before k after) m g in
    record {
      accepted = books;
      long = gathered_long books.owns books.commons members before n after all ∙ long;
      each = λ i l.
          subst (λ (m : Name). FillFor own common m (fill_of (get_or after i []))) (w.each i l)
          (fill_held books (gathered_at books.owns books.commons members before n after all (omega arith) i l));
    }
tabled w few long (refused none e) = none
