use Rattle.std.proofs.Common.{◌≡◌}
use Rattle.network.specs.Model.{model}
use Rattle.explain.proofs.Loading.{Begun}
use Rattle.explain.proofs.work.Work.empty.Given as goal

abbrev pub invariant-loop-x : goal.invariant-loop-x
invariant-loop-x l = (l.work.count ≡ 0) × Begun (model l.network.content) l.work.best l.x
