-- A card, over numbers without a limit. (In the field: a simple temporal network with uncertainty, in whole minutes.) It says what has to happen
-- within a number of minutes, what is up to the controller, who gives orders, and what to the kitchen, which lets spans take their time.
use Rattle.std.specs.Prelude.{◌≡◌, ℕ, zero, suc, ◌<◌, ◌≤◌, Bool, true, false, cond, ◌&&◌, ◌||◌, List, length, ℤ, pos, Some, None, Option, ◌==◌, nat_lt, slice_index_or}
use Rattle.rules.specs.declared.parts.Span.{Span}
use Rattle.rules.specs.declared.parts.Tie.{Tie}

-- The minutes 0 to `horizon` are played. The points (time-points) are the numbers below `points`; point 0 is the start. Spans and ties are
-- numbered by their places.
pub record Card : Type 0 where
  pub horizon : ℕ
  pub points : ℕ
  pub spans : List Span
  pub ties : List Tie

-- ---- the parts of a card by number

-- what stands past the end of a list; no meaning hangs on it
abbrev pub no_span : Span
no_span = record { start = 0; finish = 0; least = 0; most = 0 }

abbrev pub no_tie : Tie
no_tie = record { from = 0; to = 0; gap = pos 0 }

-- how many spans there are
unfoldable pub span_count : Card → ℕ
span_count card = length card.spans

-- how many ties there are
unfoldable pub tie_count : Card → ℕ
tie_count card = length card.ties

-- the point that starts span s
unfoldable pub start_of : Card → ℕ → ℕ
start_of card s = (slice_index_or card.spans s no_span).start

-- the point that is the finish of span s
unfoldable pub finish_of : Card → ℕ → ℕ
finish_of card s = (slice_index_or card.spans s no_span).finish

-- how many minutes span s lasts at least
unfoldable pub least_of : Card → ℕ → ℕ
least_of card s = (slice_index_or card.spans s no_span).least

-- how many minutes span s lasts at most
unfoldable pub most_of : Card → ℕ → ℕ
most_of card s = (slice_index_or card.spans s no_span).most

-- the first point of tie i
unfoldable pub from_of : Card → ℕ → ℕ
from_of card i = (slice_index_or card.ties i no_tie).from

-- the second point of tie i
unfoldable pub to_of : Card → ℕ → ℕ
to_of card i = (slice_index_or card.ties i no_tie).to

-- how far the second point of tie i may come after the first
unfoldable pub gap_of : Card → ℕ → ℤ
gap_of card i = (slice_index_or card.ties i no_tie).gap

-- span s, and tie i, where there is one
unfoldable pub span_at : Card → ℕ → Option Span
span_at card s = cond (nat_lt s (span_count card)) (Some (slice_index_or card.spans s no_span)) None

unfoldable pub tie_at : Card → ℕ → Option Tie
tie_at card i = cond (nat_lt i (tie_count card)) (Some (slice_index_or card.ties i no_tie)) None

-- ---- finishes and orders

-- does `these` hold of some number below n?
unfoldable pub any_below : ℕ → (ℕ → Bool) → Bool
any_below zero these = false
any_below (suc n) these = these n || any_below n these

-- is p the finish of a span for which `these` holds?
unfoldable pub finish_among : Card → (ℕ → Bool) → ℕ → Bool
finish_among card these p = any_below (span_count card) (λ s. these s && finish_of card s == p)

-- is p a finish? Every other point is an order.
unfoldable pub is_finish : Card → ℕ → Bool
is_finish card = finish_among card (λ s. true)

-- ---- what building a card keeps

pub record WellMade (card : Card) : Type 0 where
  -- point 0 is there
  pub some_point : 0 < card.points
  -- a span lasts a minute or more, and its least is at most its most
  pub one_least : (s : ℕ) → s < span_count card → 1 ≤ least_of card s
  pub least_most : (s : ℕ) → s < span_count card → least_of card s ≤ most_of card s
  -- spans lead from points to points; no finish is point 0, and no two spans have the same finish
  pub start_in : (s : ℕ) → s < span_count card → start_of card s < card.points
  pub finish_in : (s : ℕ) → s < span_count card → finish_of card s < card.points
  pub finish_later : (s : ℕ) → s < span_count card → 0 < finish_of card s
  pub finish_apart : (s r : ℕ) → s < span_count card → r < span_count card → finish_of card s ≡ finish_of card r → s ≡ r
  -- ties lead from points to points
  pub from_in : (i : ℕ) → i < tie_count card → from_of card i < card.points
  pub to_in : (i : ℕ) → i < tie_count card → to_of card i < card.points
