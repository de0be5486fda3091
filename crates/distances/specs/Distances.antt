-- The best plain weights between points over given edges.
use Rattle.std.specs.Prelude.{◌≡◌, ℕ, ◌<◌, Bool, true, false, cond, ◌&&◌, List, [], ◌∷◌, pos, negsuc, ◌≤ℤ◌, Some, None, ◌==◌}
use Rattle.rules.specs.declared.edges.Kind.{Kind}
use Rattle.rules.specs.declared.edges.Kind.TheVariants.{Plain, Lower, Wait, AllMost}
use Rattle.rules.specs.declared.edges.Edge.{Edge}
use Rattle.rules.specs.Card.{Card}
use Rattle.rules.specs.Steps.{given}
use Rattle.walks.specs.declared.minutes.Minutes.{Minutes}
use Rattle.walks.specs.Minutes.{Whole, lesser, of_minutes, absent_minutes}
use Rattle.walks.specs.Tables.{cell}

abbrev pub is_plain : Kind → Bool
is_plain Plain = true
is_plain (Lower s) = false
is_plain (Wait s) = false
is_plain AllMost = false

-- the weight of an edge, if it is plain and leads from p to q
abbrev pub weight_of : Edge → ℕ → ℕ → Whole
weight_of e p q = cond (is_plain e.kind && (e.source == p && e.target == q)) (Some e.weight) None

-- the least weight of the plain edges from p to q among these, if there are any
abbrev pub lightest : List Edge → ℕ → ℕ → Whole
lightest [] p q = None
lightest (e ∷ es) p q = lesser (weight_of e p q) (lightest es p q)

-- among the given edges of a card
unfoldable pub between : Card → ℕ → ℕ → Whole
between card = lightest (given card)

-- a table has the lightest weights of these edges
abbrev pub Holds : List (List Minutes) → List Edge → Type 0
Holds table edges = (p q : ℕ) → cell of_minutes absent_minutes table p q ≡ lightest edges p q

-- an edge between points below n, whose weight is that of a given edge
pub record Near (n : ℕ) (e : Edge) : Type 0 where
  pub source : e.source < n
  pub target : e.target < n
  pub low : negsuc 1439 ≤ℤ e.weight
  pub high : e.weight ≤ℤ pos 1440
