-- What a resting kitchen tells of the spans below it.
use Rattle.std.specs.Prelude.{◌≡◌, ℕ, ◌+◌, ◌-◌, ◌<◌, min, cond, List, [], ◌∷◌, ◌++◌, length, take, drop, replicate, nat_lt, slice_index_or}
use Rattle.kitchen.specs.declared.track.Track.{Track}
use Rattle.kitchen.specs.declared.track.Status.{Status}
use Rattle.kitchen.specs.declared.track.Status.TheVariants.{Cold, On, Done}
use Rattle.kitchen.specs.declared.rest.Rest.{Rest}
use Rattle.kitchen.specs.Tracks.{no_track, is_done}

-- the rest that counts for a span of this most: no more than 240, and cut so that the span lasts at most 10,000
abbrev pub rest_for : ℕ → ℕ → ℕ
rest_for rest most = min (min rest 240) (10000 - most)

-- a least and a most under a rest
abbrev pub rested_bounds : ℕ → ℕ × ℕ → ℕ × ℕ
rested_bounds rest b = (b.0 + rest_for rest b.1, b.1 + rest_for rest b.1)

-- how a status is told under a rest that counts, c advances after the span was first seen done
abbrev pub told_status : ℕ → ℕ → Status → Status
told_status rest c Cold = Cold
told_status rest c (On e) = On e
told_status rest c (Done d) = cond (nat_lt c rest) (On (d + c)) (Done (d + rest))

-- how a span is told under a rest
abbrev pub told : Rest → Track → Track
told r t =
    let b = rested_bounds r.minutes (t.least, t.most) in
    record { least = b.0; most = b.1; status = told_status (rest_for r.minutes t.most) r.count t.status }

-- what stands past the last rest
abbrev pub no_rest : Rest
no_rest = record { minutes = 0; count = 0 }

-- a rest of this many minutes, with no advance counted yet
abbrev pub fresh : ℕ → Rest
fresh minutes = record { minutes = minutes; count = 0 }

-- how all spans are told, each under its rest; a missing rest is 0
abbrev pub rested : List Track → List Rest → List Track
rested [] rests = []
rested (t ∷ ts) rests = told (slice_index_or rests 0 no_rest) t ∷ rested ts (drop 1 rests)

-- one advance more since a span was first seen done, if it was done before that advance; more than 240 are not counted
abbrev pub count_next : Status → ℕ → ℕ
count_next before c = cond (is_done before) (min (c + 1) 240) 0

-- a rest after an advance, by the status of its span before it
abbrev pub rest_next : Status → Rest → Rest
rest_next before r = record { minutes = r.minutes; count = count_next before r.count }

-- the rests after an advance, by the spans and the rests before it
pub record Counted (ts : List Track) (rests after : List Rest) : Type 0 where
  pub long : length after ≡ 8
  pub each : (i : ℕ) → i < 8 → slice_index_or after i no_rest ≡ rest_next (slice_index_or ts i no_track).status (slice_index_or rests i no_rest)

-- the rests of eight spans, where a missing one is 0
abbrev pub first_eight : List ℕ → List ℕ
first_eight rests = take 8 (rests ++ replicate 8 0)

-- bounds 2 and 3 under a rest of 4 are 6 and 7
abbrev pub RestExample : Type 0
RestExample = rested_bounds 4 (2, 3) ≡ (6, 7)
