use Rattle.std.proofs.Common.{◌≡◌, refl, ap, ◌∙◌, arith}
use Rattle.std.proofs.lemmas.Int.{ints}
use Rattle.rules.specs.Card.{finish_of}
use Rattle.network.specs.Model.{model}
use Rattle.network.proofs.Made.{well_made}
use Rattle.judge.specs.Closures.{entry}
use Rattle.judge.proofs.Deriving.{proposed_as, offer_lowered, least_in, low_at}
use Rattle.judge.proofs.Holding.{start_on, finish_on, told_as, point_room, target_room}
use Rattle.judge.proofs.relaxation.Relaxation.lower.Goals as goal

pub at-weight-requires : goal.at-weight-requires
at-weight-requires c =
    let n = c.args.self.now.network.now in
    (point_room n c.from.result (omega (arith, c.from.ensures, finish_on n c.args.s c.span_of-span.ensures c.requires.span)), target_room n c.args.x c.requires.target.0)

pub relax-requires-clause-point : goal.relax-requires-clause-point
relax-requires-clause-point c = omega (arith, c.from-2.ensures, start_on c.args.self.now.network.now c.args.s c.span_of-span.ensures c.requires.span)

pub relax-requires-clause-proposed : goal.relax-requires-clause-proposed
relax-requires-clause-proposed c =
    let n = c.args.self.now.network.now in
    let s = c.args.s in
    let x = c.args.x in
    let t = c.args.self.now.closure in
    let card = model n.content in
    let is = c.span_of-span.ensures in
    let l = least_in n s c.requires.span in
    let a : c.at-weight.result ≡ entry t (finish_of card s) x = c.at-weight.ensures ∙ ap (λ p. entry t p x) (c.from.ensures ∙ is.finish_is) in
    let low = low_at n t c.requires.sound (finish_of card s) x ((well_made n).finish_in s c.requires.span) c.requires.target.0 in
    proposed_as (c.from-2.ensures ∙ is.start_is) refl (omega (arith, ints, is.least_is)) (offer_lowered n t c.requires.sound s x c.requires.span c.requires.target.0 c.requires.target.1 (omega (arith, ints)))

pub returns : goal.returns
returns c =
    let n = c.args.self.now.network.now in
    let s = c.args.s in
    let x = c.args.x in
    let t = c.args.self.now.closure in
    let card = model n.content in
    let is = c.span_of-span.ensures in
    let l = least_in n s c.requires.span in
    let a : c.at-weight.result ≡ entry t (finish_of card s) x = c.at-weight.ensures ∙ ap (λ p. entry t p x) (c.from.ensures ∙ is.finish_is) in
    let low = low_at n t c.requires.sound (finish_of card s) x ((well_made n).finish_in s c.requires.span) c.requires.target.0 in
    told_as c.args.self.now c.relax.new.self c.relax.result c.relax.ensures (λ h _ _. omega (arith, ints, h, is.least_is, ap (λ p. entry t p x) (c.from-2.ensures ∙ is.start_is)))
