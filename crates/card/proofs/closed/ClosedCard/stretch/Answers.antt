use Rattle.network.specs.Model.{model}
use Rattle.judge.specs.Marks.{Stretched}
use Rattle.card.proofs.Telling.{for_built}
use Rattle.card.proofs.closed.ClosedCard.stretch.Goals as goal

pub returns-clause-built : goal.returns-clause-built
returns-clause-built c = for_built (model c.args.self.now.network.content) (λ card. Stretched card c.stretch.result) c.stretch.ensures
