-- What a live run keeps from minute to minute.
use Rattle.std.specs.Prelude.{◌≡◌, ℕ, ◌<◌, Some, None}
use Rattle.rules.specs.Card.{Card, span_count, start_of, finish_of}
use Rattle.rules.specs.Game.{Position, no_point}
use Rattle.rules.specs.Tables.{Closed, Traced, SoundAtStart, Fits}
use Rattle.judge.specs.declared.closure.Closure.{Closure}
use Rattle.judge.specs.Closures.{distance, wait}

-- the position makes sense before minute t
pub record Sensible (card : Card) (t : ℕ) (at : Position) : Type 0 where
  -- before minute 0 nothing has happened, and later what has happened came before t
  pub nothing : t ≡ 0 → (p : ℕ) → at p ≡ None
  pub past : (p a : ℕ) → at p ≡ Some a → a < t
  -- a span that has not started has not finished
  pub begun : (s : ℕ) → s < span_count card → at (start_of card s) ≡ None → at (finish_of card s) ≡ None

-- the tables are closed and sound at the start, and their entries are derived, in whatever way
pub record Tight (card : Card) (closure : Closure) : Type 0 where
  pub closed : Closed card (distance closure) (wait closure)
  pub traced : ∥ Traced card (distance closure) (wait closure) ∥₁
  pub sound : SoundAtStart card (distance closure) (wait closure)

-- the tables are such, and after minute 0 the position fits them
pub record Standing (card : Card) (closure : Closure) (t : ℕ) (at : Position) : Type 0 where
  pub tight : Tight card closure
  pub sensible : Sensible card t at
  pub fits : 0 < t → Fits card (distance closure) (wait closure) t no_point at
