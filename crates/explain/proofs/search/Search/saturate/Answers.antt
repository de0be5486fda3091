use Rattle.std.proofs.Common.{sym, ◌∙◌, subst}
use Rattle.rules.specs.Game.{Good}
use Rattle.network.specs.Model.{model}
use Rattle.explain.specs.Working.{card_of, Rounded}
use Rattle.explain.proofs.Closed.{good}
use Rattle.explain.proofs.search.Search.saturate.Goals as goal

pub returns : goal.returns
returns c =
    let t = c.round.new.self in
    let u = c.in_ok-round.ensures in
    let r = u.same c.if-branch.false in
    let all : Rounded (card_of t) t.work.best = subst (λ n. Rounded (model n.content) t.work.best) (sym u.follows.network) (subst (Rounded (card_of c.loop-self.self)) (sym r.0) r.1) in
    subst (λ n. Good (model n.content)) (u.follows.network ∙ c.loop-self.invariant.1.network)
    (good t.network.now t.work t.list.now u.ready all (c.in_ok-chain_by.ensures.same c.if-branch-2.false).1)
