use Rattle.explain.proofs.Holding.{point_room, column_room}
use Rattle.explain.proofs.search.Search.edge.Goals as goal

pub at-best-requires : goal.at-best-requires
at-best-requires c = let n = c.args.self.now.network.now in (point_room n c.args.p c.requires.0, column_room n c.args.x c.requires.1)
