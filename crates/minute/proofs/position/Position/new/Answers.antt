use Rattle.minute.proofs.Arrays.{unhappened}
use Rattle.minute.proofs.position.Position.new.Goals as goal

pub returns : goal.returns
returns c = unhappened 32
