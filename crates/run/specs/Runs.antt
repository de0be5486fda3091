-- A run as the rules see it.
use Rattle.std.specs.Prelude.{◌≡◌, ℕ, Bool, true, cond, Ok, Err, Decides, Option, Result, is_some, nat_lt}
use Rattle.rules.specs.declared.refusal.Refusal.{Refusal}
use Rattle.rules.specs.declared.refusal.Refusal.TheVariants.{NoPoint}
use Rattle.rules.specs.Card.{Card}
use Rattle.rules.specs.Game.{Position, Good}
use Rattle.network.specs.Model.{model}
use Rattle.minute.specs.Minutes.{at, nothing_yet}
use Rattle.run.specs.declared.run.Run.{Run}

-- the card, whether the run is live or barred, the minute that is played next, and the position before it
pub record Stage : Type 0 where
  pub card : Card
  pub live : Bool
  pub next : ℕ
  pub position : Position

abbrev pub stage : Run → Stage
stage r = record { card = model r.card.network.content; live = is_some r.closure; next = r.next; position = at r.position.minutes }

-- a live run of the card before minute t, at this position
abbrev pub live_at : Card → ℕ → Position → Stage
live_at card t at = record { card = card; live = true; next = t; position = at }

-- a run of the card that has just begun: it is live exactly if the card is good, and nothing has happened
pub record Begun (card : Card) (s : Stage) : Type 0 where
  pub card_is : s.card ≡ card
  pub live : Decides s.live (Good card)
  pub next : s.next ≡ 0
  pub nothing : s.position ≡ nothing_yet

-- a point's minute, or that there is no such point
abbrev pub asked : Stage → ℕ → Result (Option ℕ) Refusal
asked s p = cond (nat_lt p s.card.points) (Ok (s.position p)) (Err NoPoint)
