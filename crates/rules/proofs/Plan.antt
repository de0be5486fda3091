-- A plan gives, for durations of the spans, a minute to each point: what a way to win comes to.
-- It is over a cut: points that have happened at the minutes of `past`, the minute `now`, and `first`, the first minute in which a running span may still end.
use Rattle.std.proofs.Common.{◌≡◌, ℕ, suc, ◌+◌, ◌<◌, ◌≤◌, min, ◌≢◌, ℤ, pos, ◌+ℤ◌, ◌≤ℤ◌, Some, None}
use Rattle.rules.specs.Card.{Card, span_count, tie_count, start_of, finish_of, least_of, most_of, from_of, to_of, gap_of}
use Rattle.rules.specs.declared.edges.Kind.TheVariants.{Plain, Wait}
use Rattle.rules.specs.declared.edges.Edge.{Edge}
use Rattle.rules.specs.Edges.{edge}
use Rattle.rules.specs.Game.{Position}

-- every span lasts from its least to its most
pub record Lasts (card : Card) (d : ℕ → ℕ) : Type 0 where
  pub low : (s : ℕ) → s < span_count card → least_of card s ≤ d s
  pub high : (s : ℕ) → s < span_count card → d s ≤ most_of card s

-- finished spans took their durations, and unfinished ones end at t or later
pub record Fine (card : Card) (d : ℕ → ℕ) (t : ℕ) (at : Position) : Type 0 where
  pub over : (s c : ℕ) → s < span_count card → at (finish_of card s) ≡ Some c → (a : ℕ) × (at (start_of card s) ≡ Some a) × (c ≡ a + d s)
  pub under : (s a : ℕ) → s < span_count card → at (start_of card s) ≡ Some a → at (finish_of card s) ≡ None → t ≤ a + d s

pub record Consistent (card : Card) (past : Position) (first : ℕ) (d : ℕ → ℕ) : Type 0 where
  pub lasts : Lasts card d
  pub fine : Fine card d first past

pub record Plan (card : Card) (past : Position) (now first : ℕ) : Type 0 where
  pub at : (d : ℕ → ℕ) → Consistent card past first d → ℕ → ℕ
  pub on : (d : ℕ → ℕ) (v : Consistent card past first d) (p a : ℕ) → past p ≡ Some a → at d v p ≡ a
  pub off : (d : ℕ → ℕ) (v : Consistent card past first d) (p : ℕ) → p < card.points → past p ≡ None → now ≤ at d v p
  pub origin : (d : ℕ → ℕ) (v : Consistent card past first d) → at d v 0 ≡ 0
  pub horizon : (d : ℕ → ℕ) (v : Consistent card past first d) (p : ℕ) → p < card.points → at d v p ≤ card.horizon
  pub ended : (d : ℕ → ℕ) (v : Consistent card past first d) (s : ℕ) → s < span_count card → at d v (finish_of card s) ≡ at d v (start_of card s) + d s
  pub tied : (d : ℕ → ℕ) (v : Consistent card past first d) (i : ℕ) → i < tie_count card → pos (at d v (to_of card i)) ≤ℤ (pos (at d v (from_of card i)) +ℤ gap_of card i)
  -- causality: what happens before a span can end in one of two ways, happens in both at the same minute
  pub causal : (d e : ℕ → ℕ) (v : Consistent card past first d) (w : Consistent card past first e) (s : ℕ) → s < span_count card → ((r : ℕ) → r ≢ s → d r ≡ e r)
      → (p : ℕ) → p < card.points → at d v p < at d v (start_of card s) + min (d s) (e s) → at e w p ≡ at d v p

-- The cut fits the edges for which `Within` holds: between points that have happened they hold, and none is overdue.
pub record Cut (card : Card) (Within : Edge → Type 0) (past : Position) (now first : ℕ) : Type 0 where
  pub soon : first ≤ suc now
  pub before : (p a : ℕ) → past p ≡ Some a → a ≤ now
  pub both : (p q : ℕ) (w : ℤ) → Within (edge Plain p q w) → (a b : ℕ) → past p ≡ Some a → past q ≡ Some b → pos b ≤ℤ (pos a +ℤ w)
  pub one : (p q : ℕ) (w : ℤ) → Within (edge Plain p q w) → q < card.points → (a : ℕ) → past p ≡ Some a → past q ≡ None → pos now ≤ℤ (pos a +ℤ w)
  -- of the wait edges of a span that has not finished: it has started, or not
  pub running : (s p : ℕ) (w : ℤ) → s < span_count card → Within (edge (Wait s) p (start_of card s) w) → past (finish_of card s) ≡ None
      → (a b : ℕ) → past p ≡ Some a → past (start_of card s) ≡ Some b → pos b ≤ℤ (pos a +ℤ w)
  pub waiting : (s p : ℕ) (w : ℤ) → s < span_count card → Within (edge (Wait s) p (start_of card s) w) → past (finish_of card s) ≡ None
      → (a : ℕ) → past p ≡ Some a → past (start_of card s) ≡ None → pos now ≤ℤ (pos a +ℤ w)
