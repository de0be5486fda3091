use Rattle.std.proofs.Common.{map}
use Rattle.kitchen.proofs.Made.{Sofar}
use Rattle.kitchen.proofs.row.RowTryFromRefSlice.try_from.Given as goal

abbrev pub invariant-loop-bounded : goal.invariant-loop-bounded
invariant-loop-bounded g l = Sofar (map g.B.Bounded.bounds l.given) l.bounded-index l.row
