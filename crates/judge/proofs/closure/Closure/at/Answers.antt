use Rattle.std.proofs.Common.{ap, arith}
use Rattle.std.proofs.lemmas.Int.{ints}
use Rattle.judge.specs.Closures.{distance, wait, entry}
use Rattle.judge.proofs.closure.Closure.at.Goals as goal

pub returns-in-Point : goal.returns-in-Point
unfolding distance
returns-in-Point c = omega (arith, ints, ap (entry c.args.self.now c.args.p) c.in-Point.is)

pub returns-in-Start : goal.returns-in-Start
unfolding wait
returns-in-Start c = omega (arith, ints, ap (entry c.args.self.now c.args.p) c.in-Start.is)
