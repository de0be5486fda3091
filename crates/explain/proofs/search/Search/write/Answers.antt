use Rattle.std.proofs.Common.{refl, arith}
use Rattle.explain.proofs.Ending.{follows_put}
use Rattle.explain.proofs.search.Search.write.Goals as goal

pub returns-clause-follows : goal.returns-clause-follows
returns-clause-follows c = follows_put c.args.self.now _ c.args.step (omega arith, refl, omega arith, refl) refl refl
