use Rattle.std.proofs.Common.{◌<◌, pos, neg_ℤ, ◌≤ℤ◌, refl, ap, ap₂, arith}
use Rattle.std.proofs.lemmas.Int.{ints}
use Rattle.rules.specs.Card.{start_of, finish_of, least_of, most_of}
use Rattle.network.specs.Model.{model}
use Rattle.network.proofs.Made.{most_in}
use Rattle.judge.specs.declared.relaxation.Relaxation.{Relaxation}
use Rattle.judge.specs.Closing.{Holds}
use Rattle.judge.specs.declared.target.Target.TheVariants.{Point}
use Rattle.judge.specs.Closures.{distance, wait}
use Rattle.judge.proofs.Deriving.{proposed_as, offer_most, offer_least, offer_wait, least_in}
use Rattle.judge.proofs.Holding.{span_as, start_on, finish_on, onward_then, along, before, proposed_along, went_as, went_both}
use Rattle.judge.proofs.relaxation.Relaxation.hold_span.Goals as goal

pub relax-requires-clause-point : goal.relax-requires-clause-point
relax-requires-clause-point c = start_on c.args.self.now.network.now c.args.s (span_as c.from-start.ensures c.from-finish.ensures c.span_of-span.ensures) c.requires.span

pub relax-requires-clause-target : goal.relax-requires-clause-target
relax-requires-clause-target c = finish_on c.args.self.now.network.now c.args.s (span_as c.from-start.ensures c.from-finish.ensures c.span_of-span.ensures) c.requires.span

pub relax-requires-clause-proposed : goal.relax-requires-clause-proposed
relax-requires-clause-proposed c =
    let n = c.args.self.now.network.now in
    let is = span_as c.from-start.ensures c.from-finish.ensures c.span_of-span.ensures in
    let u = most_in n c.args.s c.requires.span in
    proposed_as is.start_is (ap Point is.finish_is) (omega (arith, ints, is.most_is)) (offer_most n c.args.self.now.closure c.requires.sound c.args.s c.requires.span)

pub relax-requires-2-clause-point : goal.relax-requires-2-clause-point
relax-requires-2-clause-point c = along c.in_ok-later.ensures.onward (λ card. c.from-finish.result < card.points) (finish_on c.args.self.now.network.now c.args.s (span_as c.from-start.ensures c.from-finish.ensures c.span_of-span.ensures) c.requires.span)

pub relax-requires-2-clause-target : goal.relax-requires-2-clause-target
relax-requires-2-clause-target c = along c.in_ok-later.ensures.onward (λ card. c.from-start.result < card.points) (start_on c.args.self.now.network.now c.args.s (span_as c.from-start.ensures c.from-finish.ensures c.span_of-span.ensures) c.requires.span)

pub relax-requires-2-clause-proposed : goal.relax-requires-2-clause-proposed
relax-requires-2-clause-proposed c =
    let n = c.args.self.now.network.now in
    let is = span_as c.from-start.ensures c.from-finish.ensures c.span_of-span.ensures in
    let l = least_in n c.args.s c.requires.span in
    let t = c.relax.new.self.closure in
    let o = c.in_ok-later.ensures.onward in
    proposed_along o is.finish_is (ap Point is.start_is) (omega (arith, ints, is.least_is)) (offer_least n t (before o (λ card. Holds card t) o.sound) c.args.s c.requires.span)

pub relax-requires-3-clause-point : goal.relax-requires-3-clause-point
relax-requires-3-clause-point c =
    let o = onward_then c.in_ok-later.ensures.onward c.in_ok-sooner.ensures.onward in
    along o (λ card. c.from-finish.result < card.points) (finish_on c.args.self.now.network.now c.args.s (span_as c.from-start.ensures c.from-finish.ensures c.span_of-span.ensures) c.requires.span)

pub relax-requires-3-clause-proposed : goal.relax-requires-3-clause-proposed
relax-requires-3-clause-proposed c =
    let n = c.args.self.now.network.now in
    let is = span_as c.from-start.ensures c.from-finish.ensures c.span_of-span.ensures in
    let u = most_in n c.args.s c.requires.span in
    let t = c.relax-2.new.self.closure in
    let o = onward_then c.in_ok-later.ensures.onward c.in_ok-sooner.ensures.onward in
    proposed_along o is.finish_is refl (omega (arith, ints, is.most_is)) (offer_wait n t (before o (λ card. Holds card t) o.sound) c.args.s c.requires.span)

pub returns : goal.returns
returns c =
    let n = c.args.self.now.network.now in
    let s = c.args.s in
    let card = model n.content in
    let is = span_as c.from-start.ensures c.from-finish.ensures c.span_of-span.ensures in
    let u = most_in n s c.requires.span in
    let l = least_in n s c.requires.span in
    let Later : Relaxation → Type 0 = λ r. distance r.closure (start_of card s) (finish_of card s) ≤ℤ pos (most_of card s) in
    let Sooner : Relaxation → Type 0 = λ r. distance r.closure (finish_of card s) (start_of card s) ≤ℤ neg_ℤ (pos (least_of card s)) in
    let Waiting : Relaxation → Type 0 = λ r. wait r.closure s (finish_of card s) ≤ℤ neg_ℤ (pos (most_of card s)) in
    went_as
    (went_both (λ r. Later r × Sooner r) Waiting
    (went_both Later Sooner
    (went_as c.in_ok-later.ensures (λ h. omega (arith, ints, h, is.most_is, ap₂ (distance c.args.self.now.closure) is.start_is is.finish_is)))
    (went_as c.in_ok-sooner.ensures (λ h. omega (arith, ints, h, is.least_is, ap₂ (distance c.relax.new.self.closure) is.finish_is is.start_is))))
    (went_as c.in_ok-waiting.ensures (λ h. omega (arith, ints, h, is.most_is, ap (wait c.relax-2.new.self.closure s) is.finish_is))))
    (λ h. record { most = h.0.0; least = h.0.1; wait = h.1 })
