use Rattle.std.proofs.Common.{◌≡◌, ℕ, ◌<◌}
use Rattle.walks.specs.Tables.{at, cell}
use Rattle.walks.specs.Walks.{through}
use Rattle.walks.proofs.target.lengthen.Given as goal

-- each entry is chosen with the ways through the points below r
abbrev pub invariant-loop-r : goal.invariant-loop-r
invariant-loop-r g l =
    let m = g.W.Weight in
    let best = at m.meaning m.absent l.fn.best in
    (p : ℕ) → p < l.n → at m.meaning m.absent l.best p ≡ through m.joined m.chosen (best p) (cell m.meaning m.absent l.edges p) best l.r
