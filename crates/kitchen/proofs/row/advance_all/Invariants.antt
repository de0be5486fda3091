use Rattle.std.proofs.Common.{◌≡◌, ◌++◌, map, take, drop}
use Rattle.kitchen.specs.Endings.{next_track}
use Rattle.kitchen.proofs.row.advance_all.Given as goal

abbrev pub invariant-loop-track : goal.invariant-loop-track
invariant-loop-track l = l.tracks ≡ map (next_track l.early) (take l.track-index l.initial.tracks) ++ drop l.track-index l.initial.tracks
