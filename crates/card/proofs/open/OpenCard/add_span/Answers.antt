use Rattle.network.specs.Model.{model}
use Rattle.card.proofs.Room.{few_ties, ties_few, spanned_few}
use Rattle.card.proofs.open.OpenCard.add_span.Goals as goal

pub invariant_of-self : goal.invariant_of-self
invariant_of-self c =
    let n = c.args.self.now.network in
    record { room = few_ties c.add_span.new.self _ c.add_span.ensures.card (spanned_few (model n.content) (ties_few n c.args.self.now.room) c.args.start c.args.least c.args.most) }
