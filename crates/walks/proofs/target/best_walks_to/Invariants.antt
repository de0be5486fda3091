use Rattle.std.proofs.Common.{ℕ, ◌<◌}
use Rattle.walks.specs.Tables.{at, cell, BeyondRow}
use Rattle.walks.specs.Walks.{Best, toward}
use Rattle.walks.proofs.target.best_walks_to.Given as goal

-- the best over the walks of up to j edges
abbrev pub invariant-loop-j : goal.invariant-loop-j
invariant-loop-j g l =
    let m = g.W.Weight in
    ((p : ℕ) → p < l.n → Best m.joined m.chosen (toward l.n (cell m.meaning m.absent l.edges) (at m.meaning m.absent l.last)) l.n l._j p l.n (at m.meaning m.absent l.out p))
    × BeyondRow m.absent l.n l.initial.out l.out
