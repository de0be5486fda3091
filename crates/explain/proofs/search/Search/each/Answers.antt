use Rattle.std.proofs.Common.{Ok, subst, arith}
use Rattle.explain.specs.Working.{Told}
use Rattle.explain.proofs.Chaining.{each_more, told_as}
use Rattle.explain.proofs.search.Search.each.Goals as goal

pub loop-k-preserved : goal.loop-k-preserved
loop-k-preserved g c = each_more _ c.args.places.start c.loop-k.k _ _ c.loop-k.invariant c.in_ok-lowered.ensures
    (subst (Told c.loop-k.self c.rule.new.arg2 (Unit {0})) c.in_ok-lowered.was (c.requires.told _ c.loop-k.invariant.ready c.loop-k.invariant.follows c.loop-k.k (omega arith) (omega arith) _ _ c.rule.ensures))

pub returns : goal.returns
returns g c = told_as c.args.self.now c.loop-k.self (Ok c.loop-k.lowered) c.loop-k.invariant (λ f k low high. f k low (omega (arith, c.loop-k-test.false)))
