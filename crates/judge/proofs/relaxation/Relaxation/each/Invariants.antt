use Rattle.judge.specs.Closing.{Below}
use Rattle.judge.specs.Falling.{Went, Idle}
use Rattle.judge.proofs.relaxation.Relaxation.each.Given as goal

abbrev pub invariant-loop-k : goal.invariant-loop-k
invariant-loop-k g l = Went l.initial.self l.self (Below l.k (Idle (goal.F-post g l.rule) l.initial.self)) l.fell
