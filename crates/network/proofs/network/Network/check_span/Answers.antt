use Rattle.std.proofs.Common.{arith}
use Rattle.std.proofs.lemmas.Bool.Decides.{nat_tests}
use Rattle.network.proofs.Parts.{span_count_is}
use Rattle.network.proofs.network.Network.check_span.Goals as goal

pub returns-then-self-ge-MAX_SPANS : goal.returns-then-self-ge-MAX_SPANS
returns-then-self-ge-MAX_SPANS c = let n = span_count_is c.args.self.now in grind (arith, nat_tests)

pub returns : goal.returns
returns c = let n = span_count_is c.args.self.now in grind (arith, nat_tests)
