use Rattle.std.proofs.Common.{rules, subst}
use Rattle.explain.specs.Working.{Ended}
use Rattle.explain.proofs.Answering.{explained}
use Rattle.explain.proofs.explaining.explain.Goals as goal

pub returns-in-Err-Loop : goal.returns-in-Err-Loop
returns-in-Err-Loop c = let told = explained _ c.run.new.self c.load.ensures.count (subst (Ended _ c.run.new.self) c.in-Err-Loop.field-0-is c.in-Err-Loop.ensures) in search rules
