use Rattle.std.proofs.Common.{◌≡◌, ℕ, ◌<◌, length}
use Rattle.walks.specs.Tables.{at, cell}
use Rattle.walks.specs.Walks.{through}
use Rattle.walks.proofs.closure.double_row.Given as goal

-- each entry is chosen with the ways through the points passed so far
abbrev pub invariant-loop-first : goal.invariant-loop-first
invariant-loop-first g l =
    let m = g.W.Weight in
    (q : ℕ) → q < length l.row → at m.meaning m.absent l.row q ≡ through m.joined m.chosen (at m.meaning m.absent l.initial.row q) (at m.meaning m.absent l.firsts) (λ r. cell m.meaning m.absent l.best r q) (length l.yielded)
