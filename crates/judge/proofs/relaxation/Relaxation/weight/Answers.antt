use Rattle.judge.proofs.Holding.{point_room, target_room}
use Rattle.judge.proofs.relaxation.Relaxation.weight.Goals as goal

pub at-requires : goal.at-requires
at-requires c = (point_room c.args.self.now.network.now _ c.requires.place.0, target_room c.args.self.now.network.now _ c.requires.place.1)
