use Rattle.std.proofs.Common.{sym, ap, ◌∙◌, arith}
use Rattle.network.specs.Model.{model}
use Rattle.network.proofs.Parts.{span_count_is}
use Rattle.explain.specs.Columns.{columns, wait_of, kind_of}
use Rattle.explain.proofs.Columns.{target_point, target_start, kind_point, kind_wait}
use Rattle.explain.proofs.tables.kind.Goals as goal

pub returns-in-Point : goal.returns-in-Point
returns-in-Point c = let m = model c.args.network.now.content in sym (kind_point m c.args.x (target_point m _ _ c.in-Point.ensures).0)

pub returns-in-Start : goal.returns-in-Start
returns-in-Start c = let m = model c.args.network.now.content in sym (ap (kind_of m) (target_start m _ _ c.in-Start.ensures) ∙ kind_wait m _)

pub overflow_cast-result : goal.overflow_cast-result
unfolding columns wait_of
overflow_cast-result c = let n = c.args.network.now in omega (arith, span_count_is n, c.requires, target_start (model n.content) _ _ c.in-Start.ensures, n.counts.2.0)
