use Rattle.rules.proofs.Listed.{one_answer}
use Rattle.rules.proofs.Deciding.{some_answer}
use Rattle.rules.proofs.theorems.lists_are_read.Goals as goal

pub returns : goal.returns
returns c = record { answered = some_answer; once = one_answer }
