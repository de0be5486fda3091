use Rattle.std.proofs.Common.{of_calls, arith}
use Rattle.explain.specs.Columns.{columns}
use Rattle.explain.specs.Working.{Below, RuleL, RuleR}
use Rattle.explain.proofs.Chaining.{each_tells, told_as}
use Rattle.explain.proofs.search.Search.span_all.Goals as goal

pub returns : goal.returns
returns c =
    told_as c.args.self.now c.each.new.self c.each.result
    (each_tells _ (λ card e k. Below (columns card) (RuleL card e k) × Below card.points (RuleR card e k)) c.args.self.now c.each.new.self 0 c.span_count.result c.each.result c.each.ensures (λ before after k ready follows high post. search (of_calls, post)))
    (λ f k high. f k (omega arith) (omega (arith, c.span_count.ensures)))
