use Rattle.std.proofs.Common.{sym, arith}
use Rattle.std.proofs.lemmas.Int.{ints}
use Rattle.steps.proofs.Making.{chained_is}
use Rattle.steps.proofs.joins.chain.Goals as goal

pub returns : goal.returns
returns c = sym (chained_is c.args.kind c.args.left c.args.right _ (omega (arith, ints)) c.if-left-right.false (omega (arith, ints), omega (arith, ints)))
