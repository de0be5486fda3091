-- The list of a minute's events.
use Rattle.std.specs.Prelude.{ℕ, zero, suc, ◌+◌, Bool, true, false, cond, not, ◌&&◌, List, [], ◌∷◌, ◌++◌, length, take, drop}
use Rattle.rules.specs.Card.{Card, is_finish}
use Rattle.rules.specs.Game.{Position}
use Rattle.minute.specs.Minutes.{is_at}

-- the numbers below n that pass, in rising order
abbrev pub listed : (ℕ → Bool) → ℕ → List ℕ
listed these zero = []
listed these (suc n) = cond (these n) (listed these n ++ (n ∷ [])) (listed these n)

-- p happens in minute t, and is a finish or, if `finish` is false, an order
unfoldable pub picks : Card → Position → ℕ → Bool → ℕ → Bool
picks card then t finish p = is_at t (then p) && cond (is_finish card p) finish (not finish)

-- the finishes of minute t, then its orders, each in rising number
abbrev pub events : Card → Position → ℕ → List ℕ
events card then t = listed (picks card then t true) card.points ++ listed (picks card then t false) card.points

-- the list with these written from place k on; the other places stay
unfoldable pub written : List ℕ → ℕ → List ℕ → List ℕ
written list k items = take k list ++ (items ++ drop (k + length items) list)
