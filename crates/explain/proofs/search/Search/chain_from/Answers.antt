use Rattle.std.proofs.Common.{of_calls, arith}
use Rattle.explain.specs.Working.{RuleN}
use Rattle.explain.proofs.Chaining.{each_tells, told_as}
use Rattle.explain.proofs.search.Search.chain_from.Goals as goal

pub returns : goal.returns
returns c =
    told_as c.args.self.now c.each.new.self c.each.result
    (each_tells _ (λ card e k. RuleN card e c.args.p c.args.q k) c.args.self.now c.each.new.self 0 c.width.result c.each.result c.each.ensures (λ before after k ready follows high post. search (of_calls, post)))
    (λ f k high. f k (omega arith) (omega (arith, c.width.ensures)))
