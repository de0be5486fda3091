use Rattle.std.proofs.Common.{sym, subst}
use Rattle.judge.specs.Closures.{Winning}
use Rattle.judge.specs.Falling.{card_of}
use Rattle.judge.proofs.Beginning.{winning}
use Rattle.judge.proofs.Holding.{before}
use Rattle.judge.proofs.relaxation.Relaxation.close.Goals as goal

pub returns : goal.returns
returns c =
    let r = c.loop.self in
    let still = c.in_ok-pass.ensures.same c.if-branch.false in
    subst (λ z. Winning (card_of c.args.self) z.closure) (sym still.0) (before c.loop.invariant (λ card. Winning card r.closure) (winning r.network.now r.closure c.loop.invariant.sound still.1))
