use Rattle.std.proofs.Common.{sym}
use Rattle.network.proofs.Parts.{tie_count_is}
use Rattle.network.proofs.network.Network.tie_count.Goals as goal

pub returns : goal.returns
returns c = sym (tie_count_is c.args.self.now)
