use Rattle.network.specs.Model.{model}
use Rattle.card.proofs.Room.{few_ties, ties_few, tied_few}
use Rattle.card.proofs.open.OpenCard.add_tie.Goals as goal

pub invariant_of-self : goal.invariant_of-self
invariant_of-self c =
    let n = c.args.self.now.network in
    record { room = few_ties c.add_tie.new.self _ c.add_tie.ensures.card (tied_few (model n.content) (ties_few n c.args.self.now.room) c.args.tie) }
