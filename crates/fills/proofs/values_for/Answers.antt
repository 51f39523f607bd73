-- Each book is read once; the values of a member are laid over those for all, and the loop puts them at the members' places.
use Rattle.std.proofs.Common.{◌≡◌, arith, min, refl, sym, ◌∙◌}
use Rattle.fills.specs.Values.{given, refused}
use Rattle.fills.proofs.Gathering.{member_values, gathered_none, gathered_more}
use Rattle.fills.proofs.faults.Lying.{refused_of, given_of}
use Rattle.fills.proofs.values_for.Goals as goal

pub returns-then-is_err : goal.returns-then-is_err
returns-then-is_err c =
    let none = refused_of _ c.read_rows.result c.read_rows.ensures (sym c.is_err.ensures.value ∙ c.if-is_err.true) in
    refused (λ b. none b.commons b.is_common) refl

pub returns-then-is_err-2 : goal.returns-then-is_err-2
returns-then-is_err-2 c =
    let none = refused_of _ c.read_rows-2.result c.read_rows-2.ensures (sym c.is_err-2.ensures.value ∙ c.if-is_err-2.true) in
    refused (λ b. none b.owns b.is_own) refl

pub loop-k-init : goal.loop-k-init
loop-k-init c = λ os cs p q. gathered_none os cs _ _

pub loop-k-preserved : goal.loop-k-preserved
loop-k-preserved c = λ os cs p q.
    let mine = given_of c.read_rows-2.result c.read_rows-2.ensures (sym c.is_err-2.ensures.value ∙ c.if-is_err-2.false) in
    let all = given_of c.read_rows.result c.read_rows.ensures (sym c.is_err.ensures.value ∙ c.if-is_err.false) in
    gathered_more os cs _ _ _ _ (c.loop-k.invariant os cs p q) (member_values mine all (rw c.blank_name-nobody.ensures at c.laid-shared.ensures) c.laid.ensures os cs p q)

pub returns : goal.returns
returns c =
    let mine = given_of c.read_rows-2.result c.read_rows-2.ensures (sym c.is_err-2.ensures.value ∙ c.if-is_err-2.false) in
    let all = given_of c.read_rows.result c.read_rows.ensures (sym c.is_err.ensures.value ∙ c.if-is_err.false) in
    let done : c.loop-k.k ≡ min c.args.n 64 = let m = c.min-k-end.ensures in let left = c.loop-k-test.false in let end = c.loop-k.auto.k-end in omega arith in
    given (record { owns = mine.fills; commons = all.fills; is_own = mine.book; is_common = all.book }) (rw (← done) (c.loop-k.invariant mine.fills all.fills mine.book all.book))
