use Rattle.std.proofs.Common.{ap, ◌∙◌, arith}
use Rattle.std.proofs.lemmas.Int.{ints}
use Rattle.network.proofs.Made.{well_made}
use Rattle.judge.specs.declared.target.Target.TheVariants.{Point}
use Rattle.judge.proofs.Deriving.{proposed_as, offer_tie}
use Rattle.judge.proofs.relaxation.Relaxation.hold_tie.Goals as goal

pub relax-requires-clause-point : goal.relax-requires-clause-point
relax-requires-clause-point c = omega (arith, c.tie_of-tie.ensures.from_is, (well_made c.args.self.now.network.now).from_in c.args.i c.requires.tie)

pub relax-requires-clause-target : goal.relax-requires-clause-target
relax-requires-clause-target c = omega (arith, c.tie_of-tie.ensures.to_is, (well_made c.args.self.now.network.now).to_in c.args.i c.requires.tie)

pub relax-requires-clause-proposed : goal.relax-requires-clause-proposed
relax-requires-clause-proposed c =
    let is = c.tie_of-tie.ensures in
    proposed_as (c.from-2.ensures ∙ is.from_is) (ap Point (c.from.ensures ∙ is.to_is)) (omega (arith, ints, is.gap_is)) (offer_tie c.args.self.now.network.now c.args.self.now.closure c.requires.sound c.args.i c.requires.tie)
