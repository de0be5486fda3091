use Rattle.std.proofs.Common.{◌≡◌}
use Rattle.rules.specs.Game.{after}
use Rattle.network.specs.Model.{model}
use Rattle.minute.specs.Minutes.{at}
use Rattle.minute.specs.Played.{ended}
use Rattle.minute.proofs.Hearing.{found}
use Rattle.minute.proofs.playing.Minute.record_finishes.Given as goal

abbrev pub invariant-loop-s : goal.invariant-loop-s
invariant-loop-s g l =
    let card = model l.self.network.now.content in
    let before = at l.initial.position.minutes in
    at l.position.minutes ≡ after l.self.t (found card (ended card before (g.K.Kitchen.spans l.kitchen)) l.s) before
