use Rattle.std.proofs.Common.{arith}
use Rattle.std.proofs.lemmas.Bool.Decides.{nat_tests}
use Rattle.rules.specs.Card.{tie_at, tie_count}
use Rattle.network.proofs.network.Network.tie.Goals as goal

pub returns : goal.returns
unfolding tie_at tie_count
returns c = let e = c.ties.ensures in grind (arith, nat_tests)
