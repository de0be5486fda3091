use Rattle.std.proofs.Common.{arith}
use Rattle.minute.proofs.Arrays.{at_set}
use Rattle.minute.proofs.position.Position.set.Goals as goal

pub returns : goal.returns
returns c = at_set c.args.self.now.minutes c.args.p c.args.t (omega arith) c.requires.1
