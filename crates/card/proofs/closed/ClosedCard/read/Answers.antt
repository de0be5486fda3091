use Rattle.network.specs.Model.{model}
use Rattle.network.proofs.Made.{well_made}
use Rattle.card.proofs.Telling.{passing_tells}
use Rattle.card.proofs.closed.ClosedCard.read.Goals as goal

pub returns-clause-tells : goal.returns-clause-tells
returns-clause-tells c =
    let n = c.args.self.now.network in
    passing_tells (model n.content) (well_made n) c.args.steps.now c.read.result c.read.ensures
