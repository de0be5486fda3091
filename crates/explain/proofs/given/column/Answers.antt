use Rattle.std.proofs.Common.{Some, sym, ap, ◌∙◌, arith}
use Rattle.network.specs.Model.{model}
use Rattle.explain.specs.Columns.{wait_of}
use Rattle.explain.specs.Working.{column_at}
use Rattle.explain.proofs.given.column.Goals as goal

pub returns-in-Wait : goal.returns-in-Wait
unfolding wait_of
returns-in-Wait c = ap Some (omega (arith, c.points.ensures, c.from-in-Wait.ensures)) ∙ sym (ap (λ k. column_at (model c.args.network.now.content) k c.args.edge.target) c.in-Wait.is)
