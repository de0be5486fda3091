use Rattle.std.proofs.Common.{w32}
use Rattle.std.proofs.lemmas.Int.{to_z-of_z}
use Rattle.judge.proofs.Writing.{put_distance, put_wait}
use Rattle.judge.proofs.closure.Closure.put.Goals as goal

pub returns-in-Point : goal.returns-in-Point
returns-in-Point c =
    put_distance c.args.self.now c.set_weight.new.rows c.args.p c.args.weight c.args.x c.in-Point.q c.in-Point.is (to_z-of_z w32 c.args.weight c.ranges.weight) c.set_weight.ensures

pub returns-in-Start : goal.returns-in-Start
returns-in-Start c =
    put_wait c.args.self.now c.set_weight-in-Start.new.rows c.args.p c.args.weight c.args.x c.in-Start.s c.in-Start.is (to_z-of_z w32 c.args.weight c.ranges.weight) c.set_weight-in-Start.ensures
