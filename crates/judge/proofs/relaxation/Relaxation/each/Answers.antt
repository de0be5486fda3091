use Rattle.std.proofs.Common.{subst, arith}
use Rattle.judge.specs.Falling.{Told, Idle}
use Rattle.judge.proofs.Holding.{went_more, went_as, went_idle, told_err}
use Rattle.judge.proofs.relaxation.Relaxation.each.Goals as goal

pub loop-k-preserved : goal.loop-k-preserved
loop-k-preserved g c =
    went_more (Idle _) c.loop-k.k c.loop-k.invariant
    (went_idle _ _ _ c.loop-k.k (subst (Told c.loop-k.self c.rule.new.arg2 (Unit {0})) c.in_ok-fell.was (c.requires.tells _ c.loop-k.invariant.onward c.loop-k.k (omega arith) _ _ c.rule.ensures)) c.in_ok-fell.ensures)

pub returns-in_err-fell : goal.returns-in_err-fell
returns-in_err-fell g c =
    told_err c.args.self.now c.loop-k.self c.rule.new.arg2 _ c.from_residual.result c.from_residual.ensures.0 c.loop-k.invariant.onward
    (subst (Told c.loop-k.self c.rule.new.arg2 (Unit {0})) c.in_err-fell.was (c.requires.tells _ c.loop-k.invariant.onward c.loop-k.k (omega arith) _ _ c.rule.ensures))

pub returns : goal.returns
returns g c = went_as c.loop-k.invariant (λ below k lk. below k (omega arith))
