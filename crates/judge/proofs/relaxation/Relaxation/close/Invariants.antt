use Rattle.judge.specs.Closing.{height}
use Rattle.judge.specs.Falling.{Onward}
use Rattle.judge.proofs.relaxation.Relaxation.close.Given as goal

abbrev pub invariant-loop : goal.invariant-loop
invariant-loop l = Onward l.initial.self l.self

abbrev pub decreases-loop : goal.decreases-loop
decreases-loop l = height l.self.closure
