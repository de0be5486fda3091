use Rattle.std.proofs.Common.{◌≡◌, ℕ, ◌<◌, ◌≤◌, length, get_or}
use Rattle.kitchen.specs.Tracks.{no_track}
use Rattle.kitchen.specs.Rests.{no_rest, rest_next}
use Rattle.kitchen.proofs.rest.count_advance.Given as goal

abbrev pub invariant-loop-span : goal.invariant-loop-span
invariant-loop-span g l =
    (length l.rests ≡ 8)
    × ((k : ℕ) → k < l.span → get_or l.rests k no_rest ≡ rest_next (get_or (g.K.Kitchen.spans l.kitchen) k no_track).status (get_or l.initial.rests k no_rest))
    × ((k : ℕ) → l.span ≤ k → get_or l.rests k no_rest ≡ get_or l.initial.rests k no_rest)
