use Rattle.std.proofs.Common.{refl}
use Rattle.explain.specs.Columns.{with_entry}
use Rattle.explain.proofs.work.Work.put.Goals as goal

pub returns-clause-table : goal.returns-clause-table
unfolding with_entry
returns-clause-table c = refl
