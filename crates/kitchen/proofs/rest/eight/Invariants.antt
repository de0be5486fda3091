use Rattle.std.proofs.Common.{◌≡◌, ℕ, ◌<◌, ◌≤◌, length, get_or}
use Rattle.kitchen.specs.Rests.{no_rest, fresh}
use Rattle.kitchen.proofs.rest.eight.Given as goal

abbrev pub invariant-loop-span : goal.invariant-loop-span
invariant-loop-span l =
    (length l.rest-items ≡ 8)
    × ((k : ℕ) → k < l.span → get_or l.rest-items k no_rest ≡ fresh (get_or l.rests k 0))
    × ((k : ℕ) → l.span ≤ k → get_or l.rest-items k no_rest ≡ no_rest)
