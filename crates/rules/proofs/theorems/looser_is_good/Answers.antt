use Rattle.rules.proofs.Looser.{looser_good}
use Rattle.rules.proofs.theorems.looser_is_good.Goals as goal

pub returns : goal.returns
returns c = looser_good
