use Rattle.std.proofs.Common.{◌≡◌, length}
use Rattle.network.specs.Model.{model}
use Rattle.minute.specs.Minutes.{at, marked}
use Rattle.minute.proofs.Deciding.{Deciding}
use Rattle.minute.proofs.playing.Minute.decide.Given as goal

abbrev pub invariant-loop-q : goal.invariant-loop-q
invariant-loop-q l = (length l.late ≡ 32) × Deciding (model l.self.network.now.content) l.closure l.self.t (at l.initial.position.minutes) (at l.position.minutes) (marked l.late) l.q
