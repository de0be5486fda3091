use Rattle.std.proofs.Common.{◌≡◌, length}
use Rattle.std.proofs.lemmas.Iterator.{YieldsList}
use Rattle.network.specs.Model.{model}
use Rattle.minute.specs.Minutes.{at}
use Rattle.minute.specs.Events.{written}
use Rattle.minute.proofs.Listing.{passing}
use Rattle.minute.proofs.playing.Minute.write_events.Given as goal

-- the iterator goes through the minute's events
abbrev pub invariant-loop-p : goal.invariant-loop-p
invariant-loop-p l =
    (goal.iterator-loop-p).can_next l.p-iterator
    × (goal.iterator-loop-p).is_finite l.p-iterator
    × (l.count ≡ length l.yielded)
    × (l.list ≡ written l.initial.list 0 l.yielded)
    × YieldsList (goal.iterator-loop-p).next_gives (λ p. p) l.initial.p-iterator (passing (model l.self.network.now.content) (at l.position.minutes) l.self.t)
