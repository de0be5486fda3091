use Rattle.std.proofs.Common.{arith}
use Rattle.network.proofs.Made.{span_in}
use Rattle.explain.specs.Columns.{wait_of}
use Rattle.explain.proofs.tables.wait_column.Goals as goal

pub overflow_add-result : goal.overflow_add-result
overflow_add-result c = let n = c.args.network.now in omega (arith, c.points.ensures, span_in n c.args.s c.requires, n.counts.1.1)

pub returns : goal.returns
unfolding wait_of
returns c = omega (arith, c.points.ensures)
