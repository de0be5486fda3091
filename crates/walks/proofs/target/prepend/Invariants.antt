use Rattle.std.proofs.Common.{◌≡◌, ℕ, ◌<◌}
use Rattle.walks.specs.Tables.{at, cell, BeyondRow}
use Rattle.walks.proofs.target.prepend.Given as goal

-- the entries below p are chosen, and the others stand
abbrev pub invariant-loop-p : goal.invariant-loop-p
invariant-loop-p g l =
    let m = g.W.Weight in
    ((k : ℕ) → k < l.p → at m.meaning m.absent l.into k ≡ m.chosen (at m.meaning m.absent l.initial.into k) (m.joined (cell m.meaning m.absent l.edges k l.r) (m.meaning l.last)))
    × BeyondRow m.absent l.p l.initial.into l.into
