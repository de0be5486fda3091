use Rattle.std.proofs.Common.{◌≡◌}
use Rattle.network.specs.Model.{model}
use Rattle.explain.specs.Working.{Loaded}
use Rattle.explain.proofs.work.Work.load.Given as goal

abbrev pub invariant-loop-number : goal.invariant-loop-number
invariant-loop-number l = (l.work.count ≡ 0) × Loaded (model l.network.content) l.work.best l.number
