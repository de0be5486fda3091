-- Whole runs: what can have become of a run since it began, and what then holds.
use Rattle.std.specs.Prelude.{◌≡◌, ℕ, suc, ◌-◌, ◌<◌, ◌≤◌, List, Some}
use Rattle.rules.specs.declared.refusal.Refusal.{Refusal}
use Rattle.rules.specs.Card.{Card, WellMade}
use Rattle.rules.specs.Game.{Position, Good, Win, Done}
use Rattle.kitchen.specs.declared.track.Track.{Track}
use Rattle.kitchen.specs.Kitchens.{Lawful}
use Rattle.minute.specs.Minutes.{nothing_yet}
use Rattle.minute.specs.Meets.{FitsCard, Agrees}
use Rattle.minute.specs.Played.{Meaning, meaning, Minute}
use Rattle.run.specs.Runs.{Stage, live_at}
use Rattle.run.specs.Plays.{Fault}

-- a kitchen of which only the spans are known
abbrev pub bare : Meaning (List Track)
bare = meaning (λ spans. spans) (λ spans s answer left. Unit {0}) (λ spans left. Unit {0})

-- a kitchen of these spans can take part in minute t: its spans are lawful, it fits, and it agrees
pub record Partner (card : Card) (t : ℕ) (at : Position) (spans : List Track) : Type 0 where
  pub lawful : Lawful spans
  pub fits : FitsCard card spans
  pub agrees : Agrees card at t spans

-- A run of the card stands before minute t at this position: it has just begun, or a minute more was played by the rules, with whatever kitchen
-- that could take part in it.
pub data History (card : Card) : ℕ → Position → Type 0 where
  begun : History card 0 nothing_yet
  more : (t : ℕ) (at then : Position) (spans left : List Track) → History card t at → t ≤ card.horizon → Partner card t at spans
      → Minute bare card t at then spans left → History card (suc t) then

abbrev pub HistoryOf : Stage → Type 0
HistoryOf s = History s.card s.next s.position

-- What holds before minute t of a run on a good card:
pub record Kept (card : Card) (t : ℕ) (at : Position) : Type 0 where
  pub in_time : t ≤ suc card.horizon
  -- points happened in minutes that were played
  pub past : (p a : ℕ) → at p ≡ Some a → a < t
  -- the controller can win
  pub wins : 0 < t → Win card (suc card.horizon - t) t at
  -- after the last minute every point has happened and every tie holds
  pub done : t ≡ suc card.horizon → Done card at
  -- a kitchen that takes part in minute t can take part in the next
  pub partner : (then : Position) (spans left : List Track) → t ≤ card.horizon → Partner card t at spans → Minute bare card t at then spans left → Partner card (suc t) then left
  -- and no minute up to the last is refused for it, with room for the list
  pub accepted : (spans : List Track) (places : ℕ) → t ≤ card.horizon → Partner card t at spans → 32 ≤ places
      → (why : Refusal) → Fault (live_at card t at) spans places why → ⊥

-- However a run on a good card has gone, this holds.
abbrev pub RunsWin : Type 0
RunsWin = (card : Card) → WellMade card → Good card → (t : ℕ) (at : Position) → History card t at → Kept card t at
