-- Small cards to work through, with their marks, and a list of steps that passes.
use Rattle.std.specs.Prelude.{ℕ, List, [], ◌∷◌, ℤ, pos, negsuc}
use Rattle.rules.specs.declared.parts.Span.{Span}
use Rattle.rules.specs.declared.parts.Tie.{Tie}
use Rattle.rules.specs.declared.edges.Kind.{Kind}
use Rattle.rules.specs.declared.edges.Kind.TheVariants.{Plain, Wait}
use Rattle.rules.specs.declared.edges.Step.{Step}
use Rattle.rules.specs.Card.{Card, WellMade}
use Rattle.rules.specs.Edges.{edge}
use Rattle.rules.specs.Game.{Good}
use Rattle.rules.specs.Steps.{Answer, passes, Reads}

abbrev pub span : ℕ → ℕ → ℕ → ℕ → Span
span a c l u = record { start = a; finish = c; least = l; most = u }

abbrev pub tie : ℕ → ℕ → ℤ → Tie
tie x y d = record { from = x; to = y; gap = d }

abbrev pub step : ℕ → ℕ → ℕ → Kind → ℕ → ℕ → ℤ → Step
step letter a b kind p q w = record { letter = letter; left = a; right = b; makes = edge kind p q w }

-- point 0 alone
abbrev pub alone : Card
alone = record { horizon = 1; points = 1; spans = []; ties = [] }

-- order 1, a span from it of 2 to 5
abbrev pub one_span : ℕ → Card
one_span h = record { horizon = h; points = 3; spans = span 1 2 2 5 ∷ []; ties = [] }

-- a span from 0 of 2 to 3 with finish 1, order 2
abbrev pub with_order : List Tie → Card
with_order ties = record { horizon = 4; points = 3; spans = span 0 1 2 3 ∷ []; ties = ties }

-- orders 1 and 2 that are too far apart
abbrev pub far_orders : Card
far_orders = record { horizon = 3; points = 3; spans = []; ties = tie 1 2 (negsuc 1) ∷ tie 2 1 (pos 1) ∷ [] }

-- order 1 dough, a span from it of 20 to 30 with finish 2 risen, orders 3 bake and 4 heat
abbrev pub bread : ℕ → Card
bread d = record {
  horizon = 60;
  points = 5;
  spans = span 1 2 20 30 ∷ [];
  ties = tie 2 3 (pos 5) ∷ tie 3 2 (pos 0) ∷ tie 3 4 (negsuc 14) ∷ tie 4 3 (pos d) ∷ [];
}

-- N 12 14, L 10 16, U 13 11, U 15 18, R 19 19, N 17 20: the last edge is plain 1 to 1 of -1
abbrev pub bread_steps : List Step
bread_steps =
    step 78 12 14 Plain 2 4 (negsuc 9)
    ∷ step 76 10 16 Plain 1 4 (pos 10)
    ∷ step 85 13 11 (Wait 0) 3 1 (negsuc 29)
    ∷ step 85 15 18 (Wait 0) 4 1 (negsuc 10)
    ∷ step 82 19 19 Plain 4 1 (negsuc 10)
    ∷ step 78 17 20 Plain 1 1 (negsuc 0)
    ∷ []

pub data Example : Type 0 where
  -- this card is good, or bad
  good : Card → Example
  bad : Card → Example
  -- the reader answers this to a list of steps
  reads : Card → List Step → Answer → Example

-- what an example says
abbrev pub Stands : Example → Type 0
Stands (good card) = WellMade card × Good card
Stands (bad card) = WellMade card × (Good card → ⊥)
Stands (reads card steps answer) = Reads card steps answer

-- point 0 alone; a span that the horizon has room for, or not; an order together with a finish, before it, just one minute before it, one or
-- two minutes before it; two orders; bread, and its steps
abbrev pub examples : List Example
examples =
    good alone
    ∷ good (one_span 5)
    ∷ bad (one_span 4)
    ∷ good (with_order (tie 1 2 (pos 0) ∷ tie 2 1 (pos 0) ∷ []))
    ∷ good (with_order (tie 1 2 (negsuc 0) ∷ []))
    ∷ bad (with_order (tie 1 2 (negsuc 0) ∷ tie 2 1 (pos 1) ∷ []))
    ∷ good (with_order (tie 1 2 (negsuc 0) ∷ tie 2 1 (pos 2) ∷ []))
    ∷ bad far_orders
    ∷ good (bread 20)
    ∷ bad (bread 19)
    ∷ reads (bread 19) bread_steps passes
    ∷ []
