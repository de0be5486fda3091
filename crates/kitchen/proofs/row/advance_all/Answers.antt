use Rattle.std.proofs.Common.{rules}
use Rattle.std.proofs.lemmas.List.Edits.{map_over_more}
use Rattle.kitchen.specs.Endings.{next_track}
use Rattle.kitchen.proofs.row.advance_all.Goals as goal

pub loop-track-preserved : goal.loop-track-preserved
loop-track-preserved c = search (rules, map_over_more (next_track c.args.early))
