use Rattle.network.specs.Model.{model}
use Rattle.network.proofs.Made.{well_made}
use Rattle.judge.proofs.Telling.{marks_good, marks_bad}
use Rattle.judge.proofs.marking.mark_of.Goals as goal

pub returns-in-Some : goal.returns-in-Some
returns-in-Some c = marks_good (model c.args.network.now.content) (well_made c.args.network.now) c.in-Some.field-0 c.in-Some.ensures

pub returns-in-None : goal.returns-in-None
returns-in-None c = marks_bad (model c.args.network.now.content) (well_made c.args.network.now) c.in-None.ensures
