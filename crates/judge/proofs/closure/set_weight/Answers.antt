use Rattle.std.proofs.Common.{◌<◌, [], length, get_or, arith}
use Rattle.walks.proofs.Tables.{put_same, put_other}
use Rattle.judge.proofs.closure.set_weight.Goals as goal

pub returns : goal.returns
returns g c =
    let rows = c.args.rows.now in
    let within : c.args.k < length (get_or rows c.args.i []) = omega arith in
    record {
      here = λ d. put_same d rows c.args.i c.args.k c.args.weight within;
      others = λ d. put_other d rows c.args.i c.args.k c.args.weight within;
    }
