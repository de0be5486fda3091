-- What the mark of a card says of the minute game, and what stretching its horizon finds.
use Rattle.std.specs.Prelude.{◌≡◌, ℕ, ◌≤◌, ◌↔◌, List, Some, None, Option}
use Rattle.rules.specs.declared.edges.Step.{Step}
use Rattle.rules.specs.Card.{Card}
use Rattle.rules.specs.Calls.{with_horizon}
use Rattle.rules.specs.Game.{Good}
use Rattle.rules.specs.Steps.{passes, Reads}
use Rattle.judge.specs.declared.marking.Mark.{Mark}
use Rattle.judge.specs.declared.marking.Mark.TheVariants as mark

-- The mark is right: a card is marked good exactly if the controller can win; and exactly if the controller cannot, some list of steps passes.
pub record Marks (card : Card) (m : Mark) : Type 0 where
  pub good : (m ≡ mark.Good) ↔ Good card
  pub listed : (Good card → ⊥) ↔ ((steps : List Step) × Reads card steps passes)

-- The horizon lies between the card's own and 1,440, and with it the card would be good; none is answered if there is no such horizon.
abbrev pub Stretched : Card → Option ℕ → Type 0
Stretched card (Some h) = (card.horizon ≤ h) × (h ≤ 1440) × Good (with_horizon card h)
Stretched card None = (h : ℕ) → card.horizon ≤ h → h ≤ 1440 → Good (with_horizon card h) → ⊥
