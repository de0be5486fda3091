use Rattle.std.proofs.Common.{ℕ, ◌<◌, [], slice_index_or}
use Rattle.judge.proofs.tables.fill_table.Given as goal

abbrev pub invariant-loop-i : goal.invariant-loop-i
invariant-loop-i g l = (d : _) (j k : ℕ) → j < l.i → k < l.m → goal.F-post g l.item j k (slice_index_or (slice_index_or l.row-items j []) k d)

abbrev pub invariant-loop-k : goal.invariant-loop-k
invariant-loop-k g l = (d : _) (k : ℕ) → k < l.k → goal.F-post g l.item l.i k (slice_index_or l.place-items k d)
