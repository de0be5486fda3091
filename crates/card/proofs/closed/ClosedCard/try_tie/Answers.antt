use Rattle.std.proofs.Common.{◌∙◌}
use Rattle.network.proofs.Growing.{restored}
use Rattle.card.proofs.closed.ClosedCard.try_tie.Goals as goal

pub returns-in_err-check_among-clause-kept : goal.returns-in_err-check_among-clause-kept
returns-in_err-check_among-clause-kept c = c.drop-trial.ensures ∙ restored c.args.self.now.network.content _

pub returns-clause-kept : goal.returns-clause-kept
returns-clause-kept c = c.drop-trial-2.ensures ∙ restored c.args.self.now.network.content _
