-- A kitchen beside a run: when it fits the card, and when it agrees with the run.
use Rattle.std.specs.Prelude.{◌≡◌, ℕ, ◌+◌, ◌<◌, ◌≤◌, List, length, Some, None, Option, slice_index_or}
use Rattle.rules.specs.Card.{Card, span_count, start_of, finish_of, least_of, most_of}
use Rattle.rules.specs.Game.{Position}
use Rattle.kitchen.specs.declared.track.Track.{Track}
use Rattle.kitchen.specs.declared.track.Status.{Status}
use Rattle.kitchen.specs.declared.track.Status.TheVariants.{Cold, On, Done}
use Rattle.kitchen.specs.Tracks.{no_track}

-- the kitchen's span s
abbrev pub track_at : List Track → ℕ → Track
track_at spans s = slice_index_or spans s no_track

-- the bounds of a kitchen's span are inside these
pub record Within (least most : ℕ) (track : Track) : Type 0 where
  pub low : least ≤ track.least
  pub high : track.most ≤ most

-- A kitchen with these spans fits: it has at least the card's spans, and for each its bounds are inside the card's.
pub record FitsCard (card : Card) (spans : List Track) : Type 0 where
  pub enough : span_count card ≤ length spans
  pub each : (s : ℕ) → s < span_count card → Within (least_of card s) (most_of card s) (track_at spans s)

-- Before minute t, the last played being the one before it, a span whose start and finish have these minutes has this status: cold exactly if
-- its start has not happened, on(e) if it has, e minutes before the last played one, and its finish has not, done(d) if they are d apart.
abbrev pub Tells : ℕ → Option ℕ → Option ℕ → Status → Type 0
Tells t None finish Cold = Unit {0}
Tells t None finish (On e) = ⊥
Tells t None finish (Done d) = ⊥
Tells t (Some a) None Cold = ⊥
Tells t (Some a) None (On e) = a + e + 1 ≡ t
Tells t (Some a) None (Done d) = ⊥
Tells t (Some a) (Some c) Cold = ⊥
Tells t (Some a) (Some c) (On e) = ⊥
Tells t (Some a) (Some c) (Done d) = a + d ≡ c

-- A kitchen with these spans agrees with the position before minute t.
abbrev pub Agrees : Card → Position → ℕ → List Track → Type 0
Agrees card at t spans = (s : ℕ) → s < span_count card → Tells t (at (start_of card s)) (at (finish_of card s)) (track_at spans s).status

-- Minute t can be played with a kitchen of these spans and a list of so many places.
pub record Ready (card : Card) (t : ℕ) (at : Position) (spans : List Track) (places : ℕ) : Type 0 where
  pub in_time : t ≤ card.horizon
  pub room : 32 ≤ places
  pub fits : FitsCard card spans
  pub agrees : Agrees card at t spans
