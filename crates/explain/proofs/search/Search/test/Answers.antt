use Rattle.std.proofs.Common.{get_or, ◌∙◌, subst, arith, below_more}
use Rattle.rules.specs.Steps.{given, no_edge}
use Rattle.explain.specs.Working.{card_of, Tested}
use Rattle.explain.proofs.search.Search.test.Goals as goal

pub loop-number-preserved : goal.loop-number-preserved
loop-number-preserved c =
    let i = c.loop-number.invariant in
    let v = c.in_ok-test_edge.ensures in
    (v.0 ∙ i.0, below_more _ _ i.1 (subst (λ s. Tested (card_of s) s.work.best (get_or (given (card_of s)) c.loop-number.number no_edge)) i.0 v.1))

pub returns : goal.returns
returns c = let i = c.loop-number.invariant in (i.0, λ k lt. i.1 k (omega (arith, c.loop-number-test.false, c.given_count-number-end.ensures, lt)))
