use Rattle.std.proofs.Common.{arith}
use Rattle.network.proofs.Parts.{span_count_is}
use Rattle.explain.specs.Columns.{columns}
use Rattle.explain.proofs.tables.width.Goals as goal

pub overflow_add-result : goal.overflow_add-result
overflow_add-result c = let n = c.args.network.now in omega (arith, c.points.ensures, c.span_count.ensures, span_count_is n, n.counts.1.1, n.counts.2.0)

pub returns : goal.returns
unfolding columns
returns c = omega (arith, c.points.ensures, c.span_count.ensures)
