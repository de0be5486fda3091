use Rattle.std.proofs.Common.{arith}
use Rattle.std.proofs.lemmas.Bool.Decides.{nat_tests}
use Rattle.network.proofs.Parts.{span_count_is}
use Rattle.rules.specs.Card.{span_at, least_of}
use Rattle.steps.proofs.Numbers.{least_none}
use Rattle.steps.proofs.joins.least_of.Goals as goal

pub returns : goal.returns
unfolding span_at least_of
returns c =
    let e = c.span.ensures in let n = span_count_is c.args.network.now in let p = least_none c.args.network.now c.args.span in
    let m = c.map_or.ensures in grind (arith, nat_tests)
