use Rattle.std.proofs.Common.{of_calls, arith}
use Rattle.explain.specs.Columns.{columns}
use Rattle.explain.specs.Working.{Below, RuleN}
use Rattle.explain.proofs.Chaining.{each_tells, told_as}
use Rattle.explain.proofs.search.Search.chain_all.Goals as goal

pub returns : goal.returns
returns c =
    told_as c.args.self.now c.each.new.self c.each.result
    (each_tells _ (λ card e k. Below card.points (λ p. Below (columns card) (RuleN card e p k))) c.args.self.now c.each.new.self 1 c.points.result c.each.result c.each.ensures (λ before after k ready follows high post. search (of_calls, post)))
    (λ f k high low. f k low (omega (arith, c.points.ensures)))
