use Rattle.std.proofs.Common.{sym, ap, ◌∙◌}
use Rattle.network.specs.Model.{model}
use Rattle.explain.specs.Columns.{letter_of}
use Rattle.explain.proofs.Columns.{target_point, target_start, letter_point, letter_wait}
use Rattle.explain.proofs.tables.letter.Goals as goal

pub returns-in-Point : goal.returns-in-Point
returns-in-Point c = let m = model c.args.network.now.content in sym (letter_point m c.args.x (target_point m _ _ c.in-Point.ensures).0)

pub returns-in-Start : goal.returns-in-Start
returns-in-Start c = let m = model c.args.network.now.content in sym (ap (letter_of m) (target_start m _ _ c.in-Start.ensures) ∙ letter_wait m _)
