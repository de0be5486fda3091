-- A minute played by the rules, with whatever kitchen.
use Rattle.std.specs.Prelude.{◌≡◌, ℕ, zero, suc, ◌+◌, ◌-◌, ◌<◌, Bool, true, false, ◌&&◌, List, Ok, Result}
use Rattle.rules.specs.declared.refusal.Refusal.{Refusal}
use Rattle.rules.specs.Card.{Card, span_count, start_of, finish_of}
use Rattle.rules.specs.Game.{Position, opening, heard, Win, Done}
use Rattle.kitchen.specs.declared.track.Track.{Track}
use Rattle.kitchen.specs.Tracks.{is_done}
use Rattle.kitchen.specs.Kitchens.{Started, Advanced}
use Rattle.minute.specs.Minutes.{is_none, is_at}
use Rattle.minute.specs.Meets.{track_at, Agrees}
use Rattle.minute.specs.Orders.{Ordered}

-- What a kitchen means: the spans that it tells, and what a start and an advance make of it as a whole.
pub record Meaning (K : Type 0) : Type 1 where
  pub spans : K → List Track
  pub starts : K → ℕ → Result (Unit {0}) Refusal → K → Type 0
  pub advances : K → K → Type 0

abbrev pub meaning : {K : Type 0} → (K → List Track) → (K → ℕ → Result (Unit {0}) Refusal → K → Type 0) → (K → K → Type 0) → Meaning K
meaning spans starts advances = record { spans = spans; starts = starts; advances = advances }

-- the kitchen has advanced, as its meaning says
abbrev pub Advance : {K : Type 0} → Meaning K → K → K → Type 0
Advance means k m = Advanced (means.spans k) (means.spans m) × means.advances k m

-- span s has been started, as the kitchen's meaning says
abbrev pub Start : {K : Type 0} → Meaning K → ℕ → K → K → Type 0
Start means s k m = Started (means.spans k) s (Ok tt) (means.spans m) × means.starts k s (Ok tt) m

-- span s has been started if `new` holds
abbrev pub StartIf : {K : Type 0} → Meaning K → Bool → ℕ → K → K → Type 0
StartIf means true s k m = Start means s k m
StartIf means false s k m = m ≡ k

-- those of the first n spans for which `new` holds have been started, one after the other
abbrev pub Starts : {K : Type 0} → Meaning K → (ℕ → Bool) → ℕ → K → K → Type 0
Starts means new zero k m = m ≡ k
Starts {K = K} means new (suc n) k m = (l : K) × Starts means new n k l × StartIf means (new n) n l m

-- the spans that a kitchen has ended: it tells that they are done, and their finishes have not happened
unfoldable pub ended : Card → Position → List Track → ℕ → Bool
ended card at spans s = is_done (track_at spans s).status && is_none (at (finish_of card s))

-- In minute 0 point 0 is given, and the kitchen waits. In a later one the kitchen advances, and the finishes of the spans that it has ended happen.
pub record Heard {K : Type 0} (means : Meaning K) (card : Card) (t : ℕ) (at middle : Position) (k m : K) : Type 0 where
  pub first : t ≡ 0 → (middle ≡ opening) × (m ≡ k)
  pub later : 0 < t → Advance means k m × (middle ≡ heard card t (ended card at (means.spans m)) at)

-- the spans whose start happens at t
unfoldable pub starting : Card → Position → ℕ → ℕ → Bool
starting card then t s = is_at t (then (start_of card s))

-- Minute t by the rules: the position goes from `at` to `then`, and the kitchen from `k` to `l`.
pub record Minute {K : Type 0} (means : Meaning K) (card : Card) (t : ℕ) (at then : Position) (k l : K) : Type 0 where
  -- the kitchen moves, and the controller hears it
  pub middle : Position
  pub moved : K
  pub heard : Heard means card t at middle k moved
  -- the controller decides, order by order
  pub ordered : Ordered card t middle then
  -- the spans whose starts happen are started
  pub started : Starts means (starting card then t) (span_count card) moved l

-- Minute t is played: it goes by the rules, and leaves a position from which the controller can win, and a kitchen that agrees.
pub record Played {K : Type 0} (means : Meaning K) (card : Card) (t : ℕ) (at then : Position) (k l : K) : Type 0 where
  pub rules : Minute means card t at then k l
  pub agrees : Agrees card then (t + 1) (means.spans l)
  pub wins : Win card (card.horizon - t) (suc t) then
  -- after the last minute every point has happened and every tie holds
  pub done : t ≡ card.horizon → Done card then
