use Rattle.std.proofs.Common.{ℕ, ◌^◌, ◌<◌}
use Rattle.walks.specs.Tables.{cell, Beyond}
use Rattle.walks.specs.Walks.{Best}
use Rattle.walks.proofs.closure.best_walks.Given as goal

-- after d turns, the best over the walks of up to 2 ^ d edges
abbrev pub invariant-loop-d : goal.invariant-loop-d
invariant-loop-d g l =
    let m = g.W.Weight in
    ((p q : ℕ) → p < l.n → q < l.n → Best m.joined m.chosen (cell m.meaning m.absent l.edges) l.n (2 ^ l._d) p q (cell m.meaning m.absent l.out p q))
    × Beyond m.absent l.n l.initial.out l.out
    × Beyond m.absent l.n l.initial.scratch l.scratch
