use Rattle.std.proofs.Common.{◌≡◌, ℕ, ◌<◌}
use Rattle.walks.specs.Tables.{entry}
use Rattle.walks.proofs.table.copy.Given as goal

-- the rows below p are copied, and all else stands
abbrev pub invariant-loop-p : goal.invariant-loop-p
invariant-loop-p g l =
    let d = g.W.Weight.absent in
    ((k : ℕ) → k < l.p → (q : ℕ) → q < l.n → entry d l.into k q ≡ entry d l.from k q)
    × ((k q : ℕ) → (k < l.p → q < l.n → ⊥) → entry d l.into k q ≡ entry d l.initial.into k q)
