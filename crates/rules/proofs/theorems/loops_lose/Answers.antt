use Rattle.rules.proofs.Marks.{loops_lose}
use Rattle.rules.proofs.Listed.{lists_tell}
use Rattle.rules.proofs.theorems.loops_lose.Goals as goal

pub returns : goal.returns
returns c = record { loops = loops_lose; lists = lists_tell }
