use Rattle.std.proofs.Common.{◌≡◌, ℕ, ◌<◌}
use Rattle.walks.specs.Tables.{entry, cell}
use Rattle.walks.specs.Walks.{twice}
use Rattle.walks.proofs.closure.double.Given as goal

-- the rows below p are done, and all else stands
abbrev pub invariant-loop-p : goal.invariant-loop-p
invariant-loop-p g l =
    let m = g.W.Weight in
    ((k : ℕ) → k < l.p → (q : ℕ) → q < l.n → cell m.meaning m.absent l.into k q ≡ twice m.joined m.chosen (cell m.meaning m.absent l.best) l.n k q)
    × ((k q : ℕ) → (k < l.p → q < l.n → ⊥) → entry m.absent l.into k q ≡ entry m.absent l.initial.into k q)
