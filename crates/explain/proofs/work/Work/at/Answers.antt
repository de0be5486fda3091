use Rattle.std.proofs.Common.{refl}
use Rattle.explain.specs.Columns.{best}
use Rattle.explain.proofs.work.Work.at.Goals as goal

pub returns : goal.returns
unfolding best
returns c = refl
