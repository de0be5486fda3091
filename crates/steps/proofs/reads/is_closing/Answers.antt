use Rattle.std.proofs.Common.{arith}
use Rattle.rules.specs.Steps.{step_at}
use Rattle.steps.proofs.reads.is_closing.Goals as goal

pub returns : goal.returns
unfolding step_at
returns c = let l = c.last.ensures in let s = c.is_some_and.ensures in grind arith
