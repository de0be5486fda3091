use Rattle.std.proofs.Common.{refl, ap, ◌∙◌, arith}
use Rattle.std.proofs.lemmas.Int.{ints}
use Rattle.judge.specs.declared.target.Target.TheVariants.{Point, Start}
use Rattle.judge.proofs.Deriving.{proposed_as, offer_freed, least_in, low_at, high_at}
use Rattle.judge.proofs.Holding.{point_room, span_room, start_on}
use Rattle.judge.proofs.relaxation.Relaxation.free.Goals as goal

pub at-weight-requires : goal.at-weight-requires
at-weight-requires c =
    let n = c.args.self.now.network.now in
    (point_room n _ c.requires.point, span_room n _ c.requires.span)

pub relax-requires-clause-target : goal.relax-requires-clause-target
relax-requires-clause-target c = omega (arith, c.from-2.ensures, start_on c.args.self.now.network.now c.args.s c.span_of-span.ensures c.requires.span)

pub relax-requires-clause-proposed : goal.relax-requires-clause-proposed
relax-requires-clause-proposed c =
    let n = c.args.self.now.network.now in
    let s = c.args.s in
    let p = c.args.p in
    let t = c.args.self.now.closure in
    let is = c.span_of-span.ensures in
    let l = least_in n s c.requires.span in
    let low = low_at n t c.requires.sound p (Start s) c.requires.point c.requires.span in
    let high = high_at n t c.requires.sound p (Start s) c.requires.point c.requires.span in
    proposed_as refl (ap Point (c.from-2.ensures ∙ is.start_is)) (omega (arith, ints, c.at-weight.ensures)) (offer_freed n t c.requires.sound s p c.requires.span c.requires.point (omega (arith, ints, is.least_is, c.at-weight.ensures)))
