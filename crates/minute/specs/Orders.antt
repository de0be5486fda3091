-- What the controller decides in a minute, once it has heard the finishes.
use Rattle.std.specs.Prelude.{◌≡◌, ℕ, ◌-◌, ◌<◌, ◌≤◌, Bool, cond, ◌&&◌, T, ◌⊎◌, Some, None, nat_lt}
use Rattle.rules.specs.Card.{Card, is_finish}
use Rattle.rules.specs.Game.{Position, CanGive}
use Rattle.minute.specs.Minutes.{is_none}

-- the position with the points before q as they are then, and the others as they were heard
unfoldable pub decided : Position → Position → ℕ → Position
decided middle then q p = cond (nat_lt p q) (then p) (middle p)

-- the points before q that do not happen in this minute: the orders among them are held
unfoldable pub passed : Position → ℕ → ℕ → Bool
passed then q p = nat_lt p q && is_none (then p)

-- the controller can win with q given at t, the orders before it as decided, and the later ones free
abbrev pub CanStill : Card → ℕ → Position → Position → ℕ → Type 0
CanStill card t middle then q = CanGive card (card.horizon - t) t (decided middle then q) (passed then q) q

-- In minute t the position goes from `middle`, the finishes heard, to `then`.
pub record Ordered (card : Card) (t : ℕ) (middle then : Position) : Type 0 where
  -- an order not given is given exactly if the controller can still win with it, and is held past t otherwise
  pub rule : (q : ℕ) → q < card.points → (T (is_finish card q) → ⊥) → middle q ≡ None
      → ((then q ≡ Some t) × CanStill card t middle then q) ⊎ ((then q ≡ None) × (CanStill card t middle then q → ⊥))
  -- and nothing else happens
  pub given : (q a : ℕ) → middle q ≡ Some a → then q ≡ Some a
  pub finishes : (q : ℕ) → T (is_finish card q) → then q ≡ middle q
  pub beyond : (q : ℕ) → card.points ≤ q → then q ≡ middle q
