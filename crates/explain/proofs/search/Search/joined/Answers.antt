use Rattle.std.proofs.Common.{arith}
use Rattle.network.specs.Model.{model}
use Rattle.network.proofs.Made.{well_made}
use Rattle.explain.proofs.Columns.{head_in}
use Rattle.explain.proofs.search.Search.joined.Goals as goal

pub overflow_cast-result-2 : goal.overflow_cast-result-2
overflow_cast-result-2 c = let n = c.args.self.now.network.now in omega (arith, c.head.ensures, head_in (model n.content) (well_made n) c.args.x c.requires.place.1, n.counts.1.1)
