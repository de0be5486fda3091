use Rattle.std.proofs.Common.{take}
use Rattle.rules.specs.Steps.{given as given_edges}
use Rattle.network.specs.Model.{model}
use Rattle.distances.specs.Distances.{Holds}
use Rattle.distances.proofs.weights.given_weights.Given as goal

abbrev pub invariant-loop-number : goal.invariant-loop-number
invariant-loop-number l = Holds l.table (take l.number (given_edges (model l.network.content)))
