use Rattle.std.proofs.Common.{◌≡◌, ℕ, ◌<◌, ◌≤◌, length}
use Rattle.walks.specs.Tables.{at, cell}
use Rattle.walks_bench.proofs.fill.Given as goal

-- of a row the places below q are filled
abbrev pub invariant-loop-q : goal.invariant-loop-q
invariant-loop-q g l =
    let m = g.W.Weight in
    (j : ℕ) → j < l.q → m.size (at m.meaning m.absent l.row j) ≤ 1440

-- the rows below p are filled
abbrev pub invariant-loop-p : goal.invariant-loop-p
invariant-loop-p g l =
    let m = g.W.Weight in
    (length l.table ≡ 32) × ((i : ℕ) → i < l.p → (j : ℕ) → j < 32 → m.size (cell m.meaning m.absent l.table i j) ≤ 1440)
