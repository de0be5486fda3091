-- Step lists: the numbers of edges, lawful steps, and what the reader of a list answers. A list that passes shows that nobody can win.
use Rattle.std.specs.Prelude.{◌≡◌, ℕ, zero, suc, ◌-◌, ◌<◌, cond, List, [], ◌∷◌, ◌++◌, length, pos, neg_ℤ, ◌<ℤ◌, Some, None, Option, nat_lt, slice_index_or}
use Rattle.rules.specs.Card.{Card, span_count, tie_count, start_of, finish_of, least_of, most_of, from_of, to_of, gap_of}
use Rattle.rules.specs.declared.edges.Kind.TheVariants.{Plain, Lower, Wait}
use Rattle.rules.specs.declared.edges.Edge.{Edge}
use Rattle.rules.specs.declared.edges.Step.{Step}
use Rattle.rules.specs.Edges.{edge, Rule, InRange}

-- ---- the numbers of edges: first the given ones, counted from 0, then those that the steps make

-- of a point after 0: it happens in the minutes 0 to H
abbrev pub of_point : Card → ℕ → List Edge
of_point card p = edge Plain 0 p (pos card.horizon) ∷ edge Plain p 0 (pos 0) ∷ []

-- of a span: it lasts at most its most, and at least its least; its lower edge, and its wait
abbrev pub of_span : Card → ℕ → List Edge
of_span card s =
    edge Plain (start_of card s) (finish_of card s) (pos (most_of card s))
    ∷ edge Plain (finish_of card s) (start_of card s) (neg_ℤ (pos (least_of card s)))
    ∷ edge (Lower s) (start_of card s) (finish_of card s) (pos (least_of card s))
    ∷ edge (Wait s) (finish_of card s) (start_of card s) (neg_ℤ (pos (most_of card s)))
    ∷ []

-- of a tie
abbrev pub of_tie : Card → ℕ → List Edge
of_tie card i = edge Plain (from_of card i) (to_of card i) (gap_of card i) ∷ []

-- of the points 1 to n, of the first n spans, of the first n ties
unfoldable pub point_edges : Card → ℕ → List Edge
point_edges card zero = []
point_edges card (suc n) = point_edges card n ++ of_point card (suc n)

unfoldable pub span_edges : Card → ℕ → List Edge
span_edges card zero = []
span_edges card (suc s) = span_edges card s ++ of_span card s

unfoldable pub tie_edges : Card → ℕ → List Edge
tie_edges card zero = []
tie_edges card (suc i) = tie_edges card i ++ of_tie card i

-- the given edges: of the points, the spans, the ties; the number of each is its place here
unfoldable pub given : Card → List Edge
given card = point_edges card (card.points - 1) ++ (span_edges card (span_count card) ++ tie_edges card (tie_count card))

-- what stands past the end of a list of edges; no meaning hangs on it
abbrev pub no_edge : Edge
no_edge = edge Plain 0 0 (pos 0)

-- the edge of this number, where there is one
unfoldable pub edge_at : List Edge → ℕ → Option Edge
edge_at edges i = cond (nat_lt i (length edges)) (Some (slice_index_or edges i no_edge)) None

-- the step at place i of a list, counted from 0; beyond its end one that is never lawful
unfoldable pub step_at : List Step → ℕ → Step
step_at steps i = slice_index_or steps i (record { letter = 0; left = 0; right = 0; makes = no_edge })

-- the edges known when the step at i is read: the given ones, then those that the steps before it make
unfoldable pub known : Card → List Step → ℕ → List Edge
known card steps zero = given card
known card steps (suc i) = known card steps i ++ ((step_at steps i).makes ∷ [])

-- the edges known at the end of the list
abbrev pub all_known : Card → List Step → List Edge
all_known card steps = known card steps (length steps)

-- ---- lawful steps

pub record LawfulStep (card : Card) (edges : List Edge) (step : Step) : Type 0 where
  -- the left and the right edge are known
  pub left_known : step.left < length edges
  pub right_known : step.right < length edges
  -- the rule of its letter makes its edge of them
  pub by_rule : Rule card step.letter (slice_index_or edges step.left step.makes) (slice_index_or edges step.right step.makes) step.makes
  -- R and M repeat the left number as the right
  pub repeats_r : step.letter ≡ 82 → step.right ≡ step.left
  pub repeats_m : step.letter ≡ 77 → step.right ≡ step.left
  -- the weight is in range
  pub in_range : InRange step.makes

-- the step at i is lawful
abbrev pub LawfulAt : Card → List Step → ℕ → Type 0
LawfulAt card steps i = LawfulStep card (known card steps i) (step_at steps i)

-- the first n steps are lawful
abbrev pub LawfulTo : Card → List Step → ℕ → Type 0
LawfulTo card steps n = (i : ℕ) → i < n → LawfulAt card steps i

-- every step is lawful
abbrev pub AllLawful : Card → List Step → Type 0
AllLawful card steps = LawfulTo card steps (length steps)

-- there is a last step, and its edge leads from a point to itself and weighs less than 0
pub record Closing (steps : List Step) : Type 0 where
  pub some_step : 0 < length steps
  pub itself : (step_at steps (length steps - 1)).makes.source ≡ (step_at steps (length steps - 1)).makes.target
  pub negative : (step_at steps (length steps - 1)).makes.weight <ℤ pos 0

-- ---- the reader

-- what the reader of a list answers
pub data Answer : Type 0 where
  -- the list passes
  passes : Answer
  -- the first unlawful step stands at this place, counted from 0
  unlawful : ℕ → Answer
  -- every step is lawful, but the list does not close
  no_loop : Answer

-- `Reads card steps answer`: this is the answer to the list.
abbrev pub Reads : Card → List Step → Answer → Type 0
Reads card steps passes = AllLawful card steps × Closing steps
Reads card steps (unlawful i) = (i < length steps) × LawfulTo card steps i × (LawfulAt card steps i → ⊥)
Reads card steps no_loop = AllLawful card steps × (Closing steps → ⊥)
