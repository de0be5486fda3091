use Rattle.explain.specs.Columns.{height}
use Rattle.explain.specs.Working.{Ready, Follows}
use Rattle.explain.proofs.search.Search.saturate.Given as goal

abbrev pub invariant-loop-self : goal.invariant-loop-self
invariant-loop-self l = Ready l.self × Follows l.initial.self l.self

abbrev pub decreases-loop-self : goal.decreases-loop-self
decreases-loop-self l = height l.self.work.best
