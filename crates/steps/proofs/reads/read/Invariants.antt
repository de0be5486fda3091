use Rattle.rules.specs.Steps.{LawfulTo}
use Rattle.network.specs.Model.{model}
use Rattle.steps.proofs.reads.read.Given as goal

abbrev pub invariant-loop-place : goal.invariant-loop-place
invariant-loop-place l = LawfulTo (model l.network.content) l.steps l.place
