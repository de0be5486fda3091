use Rattle.std.proofs.Common.{sym}
use Rattle.network.proofs.Parts.{span_count_is}
use Rattle.network.proofs.network.Network.span_count.Goals as goal

pub returns : goal.returns
returns c = sym (span_count_is c.args.self.now)
