use Rattle.network.specs.Model.{model}
use Rattle.minute.specs.Minutes.{at}
use Rattle.minute.specs.Played.{meaning, starting, Starts}
use Rattle.minute.proofs.playing.Minute.start_spans.Given as goal

abbrev pub invariant-loop-s : goal.invariant-loop-s
invariant-loop-s g l = Starts (meaning g.K.Kitchen.spans g.K.Kitchen.starts g.K.Kitchen.advances) (starting (model l.self.network.now.content) (at l.position.minutes) l.self.t) l.s l.initial.kitchen l.kitchen
