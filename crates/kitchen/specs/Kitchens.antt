-- What a kitchen is by the list of its spans: what it keeps, and what its functions answer and change.
use Rattle.std.specs.Prelude.{◌≡◌, ℕ, ◌+◌, ◌<◌, ◌≤◌, true, ◌⊎◌, List, length, Ok, Err, Result, ◌≢◌, slice_index_or, slice_set}
use Rattle.rules.specs.declared.refusal.Refusal.{Refusal}
use Rattle.rules.specs.declared.refusal.Refusal.TheVariants.{NoSpan, NotCold}
use Rattle.kitchen.specs.declared.track.Track.{Track}
use Rattle.kitchen.specs.declared.track.Status.{Status}
use Rattle.kitchen.specs.declared.track.Status.TheVariants.{Cold, On, Done}
use Rattle.kitchen.specs.Tracks.{no_track, fit}

-- the first n spans are lawful
abbrev pub AllFit : List Track → ℕ → Type 0
AllFit ts n = (i : ℕ) → i < n → fit (slice_index_or ts i no_track) ≡ true

-- at most eight spans, each lawful
abbrev pub Lawful : List Track → Type 0
Lawful ts = (length ts ≤ 8) × AllFit ts (length ts)

-- the least and the most of span i, or that there is no such span
abbrev pub Bounds : List Track → ℕ → Result (ℕ × ℕ) Refusal → Type 0
Bounds ts i (Ok b) = (i < length ts) × (b ≡ ((slice_index_or ts i no_track).least, (slice_index_or ts i no_track).most))
Bounds ts i (Err e) = (length ts ≤ i) × (e ≡ NoSpan)

-- the status of span i, or that there is no such span
abbrev pub Tells : List Track → ℕ → Result Status Refusal → Type 0
Tells ts i (Ok s) = (i < length ts) × (s ≡ (slice_index_or ts i no_track).status)
Tells ts i (Err e) = (length ts ≤ i) × (e ≡ NoSpan)

-- the span has just been started
abbrev pub begun : Track → Track
begun t = record { least = t.least; most = t.most; status = On 0 }

-- a start of span i turns it from cold to on(0) and touches no other; it is refused exactly if there is no such span
-- or it is not cold, and then nothing changes
abbrev pub Started : List Track → ℕ → Result (Unit {0}) Refusal → List Track → Type 0
Started ts i (Ok _) us = (i < length ts) × ((slice_index_or ts i no_track).status ≡ Cold) × (us ≡ slice_set ts i (begun (slice_index_or ts i no_track)))
Started ts i (Err e) us = (((length ts ≤ i) × (e ≡ NoSpan)) ⊎ ((i < length ts) × ((slice_index_or ts i no_track).status ≢ Cold) × (e ≡ NotCold))) × (us ≡ ts)

-- what an advance may make of a status under the bounds least and most
abbrev pub Next : ℕ → ℕ → Status → Status → Type 0
Next least most Cold s = s ≡ Cold
Next least most (On e) s = ((s ≡ On (e + 1)) × (e + 1 < most)) ⊎ ((s ≡ Done (e + 1)) × (least ≤ e + 1))
Next least most (Done d) s = s ≡ Done d

-- a span keeps its bounds, and its status goes on as it may
pub record Stepped (t u : Track) : Type 0 where
  pub least : u.least ≡ t.least
  pub most : u.most ≡ t.most
  pub status : Next t.least t.most t.status u.status

-- an advance: the same spans, each one minute on
pub record Advanced (ts us : List Track) : Type 0 where
  pub long : length us ≡ length ts
  pub each : (i : ℕ) → i < length ts → Stepped (slice_index_or ts i no_track) (slice_index_or us i no_track)
