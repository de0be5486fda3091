use Rattle.std.proofs.Common.{arith}
use Rattle.std.proofs.lemmas.Bool.Decides.{nat_tests}
use Rattle.rules.specs.Card.{span_at, span_count}
use Rattle.network.proofs.network.Network.span.Goals as goal

pub returns : goal.returns
unfolding span_at span_count
returns c = let e = c.spans.ensures in grind (arith, nat_tests)
