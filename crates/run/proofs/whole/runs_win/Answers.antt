use Rattle.run.proofs.History.{runs_win}
use Rattle.run.proofs.whole.runs_win.Goals as goal

pub returns : goal.returns
returns c = runs_win
