-- A read takes the next of the bytes that a reader has left, where these are known, and stands behind the reads before it.
use Rattle.std.proofs.Common.{◌≡◌, ℕ, ◌+◌, ◌≤◌, List, ◌++◌, None, Some, sym, ap, subst, ◌∙◌, append_assoc, length, take, drop, length-take-le, take-append-drop}
use Rattle.std.proofs.Math.Seq.{take-append-add}
use Rattle.std.specs.Io.KnownBytes.{Consumes}
use Rattle.std.specs.declared.option.Option.{Option}

-- what is taken in two turns
consumes_both : (a b c : Option (List ℕ)) (bs cs : List ℕ) → Consumes a b bs → Consumes b c cs → Consumes a c (bs ++ cs)
consumes_both None b c bs cs p q = tt
consumes_both (Some x) None c bs cs p q = absurd p
consumes_both (Some x) (Some y) None bs cs p q = absurd q
consumes_both (Some x) (Some y) (Some z) bs cs p q = p ∙ ap (λ l. bs ++ l) q ∙ sym (append_assoc bs cs z)

-- the first f bytes, and n behind them
takes_both : (f n : ℕ) (ys : List ℕ) → f ≤ length ys → take f ys ++ take n (drop f ys) ≡ take (f + n) ys
takes_both f n ys within =
    sym (take-append-add (take f ys) (drop f ys) n)
    ∙ ap (λ k. take (k + n) (take f ys ++ drop f ys)) (length-take-le f ys within)
    ∙ ap (take (f + n)) (take-append-drop f ys)

-- a buffer xs held the first f bytes, and ys holds n more behind them
pub consumes_on : (a b c : Option (List ℕ)) (xs ys : List ℕ) (f n : ℕ) → f ≤ length ys → take f ys ≡ take f xs
    → Consumes a b (take f xs) → Consumes b c (take n (drop f ys)) → Consumes a c (take (f + n) ys)
consumes_on a b c xs ys f n within front before read =
    subst (Consumes a c) (takes_both f n ys within) (consumes_both a b c _ _ (subst (Consumes a b) (sym front) before) read)
