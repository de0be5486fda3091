use Rattle.std.proofs.Common.{ℕ, ◌<◌, slice_index_or}
use Rattle.judge.proofs.tables.fill_row.Given as goal

abbrev pub invariant-loop-k : goal.invariant-loop-k
invariant-loop-k g l = (d : _) (j : ℕ) → j < l.k → goal.F-post g l.item j (slice_index_or l.place-items j d)
