-- The table of best weights: a row for each point, and in it a column for each point and then for each span.
use Rattle.std.specs.Prelude.{◌≡◌, ℕ, ◌+◌, ◌-◌, ◌<◌, cond, List, [], ◌∷◌, length, ℤ, pos, negsuc, nat_lt, slice_index_or, slice_set}
use Rattle.rules.specs.declared.edges.Kind.{Kind}
use Rattle.rules.specs.declared.edges.Kind.TheVariants.{Plain, Wait}
use Rattle.rules.specs.declared.edges.Edge.{Edge}
use Rattle.rules.specs.Card.{Card, span_count, start_of}
use Rattle.rules.specs.Edges.{edge}
use Rattle.judge.specs.declared.target.Target.{Target}
use Rattle.judge.specs.declared.target.Target.TheVariants.{Point, Start}
use Rattle.explain.specs.declared.work.Best.{Best}

-- what stands past the end of the table; no meaning hangs on it
abbrev pub no_best : Best
no_best = record { weight = pos 0; number = 0 }

-- the table: a row for each point
abbrev pub Rows : Type 0
Rows = List (List Best)

-- the entry at row p and column x, and its weight
unfoldable pub best : Rows → ℕ → ℕ → Best
best e p x = slice_index_or (slice_index_or e p []) x no_best

abbrev pub at : Rows → ℕ → ℕ → ℤ
at e p x = (best e p x).weight

-- the table with another entry there
unfoldable pub with_entry : Rows → ℕ → ℕ → Best → Rows
with_entry e p x b = slice_set e p (slice_set (slice_index_or e p []) x b)

-- it has 32 rows of 40 columns
pub record Sized (e : Rows) : Type 0 where
  pub rows : length e ≡ 32
  pub columns : (p : ℕ) → p < 32 → length (slice_index_or e p []) ≡ 40

-- how many columns stand for something
unfoldable pub columns : Card → ℕ
columns card = card.points + span_count card

-- the column of the waits for span s
unfoldable pub wait_of : Card → ℕ → ℕ
wait_of card s = card.points + s

-- what a column stands for
abbrev pub target_of : Card → ℕ → Target
target_of card x = cond (nat_lt x card.points) (Point x) (Start (x - card.points))

-- the point to which the edges of a column lead, and their kind
unfoldable pub head_of : Card → ℕ → ℕ
head_of card x = cond (nat_lt x card.points) x (start_of card (x - card.points))

unfoldable pub kind_of : Card → ℕ → Kind
kind_of card x = cond (nat_lt x card.points) Plain (Wait (x - card.points))

-- the letter of the rule that puts a plain edge before an edge of the column: N or U
unfoldable pub letter_of : Card → ℕ → ℕ
letter_of card x = cond (nat_lt x card.points) 78 85

-- the letter of the rule that puts a lower edge before it: L or X
unfoldable pub lower_of : Card → ℕ → ℕ
lower_of card x = cond (nat_lt x card.points) 76 88

-- the edge from p of a column and a weight
abbrev pub way : Card → ℕ → ℕ → ℤ → Edge
way card p x w = edge (kind_of card x) p (head_of card x) w

-- how far the entries can fall
abbrev pub lift : ℤ → ℕ
lift (pos n) = 1440 + n
lift (negsuc n) = 1439 - n

unfoldable pub row_height : List Best → ℕ
row_height [] = 0
row_height (b ∷ bs) = lift b.weight + row_height bs

unfoldable pub height : Rows → ℕ
height [] = 0
height (r ∷ rs) = row_height r + height rs
