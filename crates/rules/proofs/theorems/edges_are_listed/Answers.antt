use Rattle.rules.proofs.Numbered.{given_numbered}
use Rattle.rules.proofs.Listed.{edges_listed, loops_listed}
use Rattle.rules.proofs.theorems.edges_are_listed.Goals as goal

pub returns : goal.returns
returns c = record { numbers = given_numbered; edges = edges_listed; loops = loops_listed }
