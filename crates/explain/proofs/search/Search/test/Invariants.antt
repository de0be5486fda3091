use Rattle.std.proofs.Common.{◌≡◌, ℕ, ◌<◌, get_or}
use Rattle.rules.specs.Steps.{given, no_edge}
use Rattle.explain.specs.Working.{card_of, Tested}
use Rattle.explain.proofs.search.Search.test.Given as given'

abbrev pub invariant-loop-number : given'.invariant-loop-number
invariant-loop-number l = (l.self ≡ l.initial.self) × ((i : ℕ) → i < l.number → Tested (card_of l.initial.self) l.initial.self.work.best (get_or (given (card_of l.initial.self)) i no_edge))
