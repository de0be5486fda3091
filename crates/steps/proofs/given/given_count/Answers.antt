use Rattle.std.proofs.Common.{arith}
use Rattle.network.specs.Model.{model}
use Rattle.network.proofs.Parts.{span_count_is, tie_count_is}
use Rattle.steps.proofs.Numbers.{given_length}
use Rattle.steps.proofs.given.given_count.Goals as goal

pub returns : goal.returns
returns c = let n = c.args.network.now in omega (arith, given_length (model n.content), span_count_is n, tie_count_is n)
