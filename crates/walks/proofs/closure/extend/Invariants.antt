use Rattle.std.proofs.Common.{◌≡◌, ℕ, ◌<◌}
use Rattle.walks.specs.Tables.{at, BeyondRow}
use Rattle.walks.proofs.closure.extend.Given as goal

-- the entries below q are chosen, and the others stand as they did
abbrev pub invariant-loop-q : goal.invariant-loop-q
invariant-loop-q g l =
    let m = g.W.Weight in
    ((k : ℕ) → k < l.q → at m.meaning m.absent l.into k ≡ m.chosen (at m.meaning m.absent l.initial.into k) (m.joined (m.meaning l.first) (at m.meaning m.absent l.row k)))
    × BeyondRow m.absent l.q l.initial.into l.into
