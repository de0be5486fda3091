use Rattle.explain.specs.Working.{Went, Within, Idle}
use Rattle.explain.proofs.search.Search.each.Given as goal

abbrev pub invariant-loop-k : goal.invariant-loop-k
invariant-loop-k g l = Went l.initial.self l.self (Within l.fn.places.start l.k (Idle (goal.F-post g l.rule) l.initial.self)) l.lowered
