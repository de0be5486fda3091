-- Which spans end at an advance of a kitchen that holds its spans itself.
use Rattle.std.specs.Prelude.{ℕ, ◌+◌, Bool, true, cond, ◌&&◌, ◌||◌, Ok, Err, Result, nat_le}
use Rattle.rules.specs.declared.refusal.Refusal.{Refusal}
use Rattle.kitchen.specs.declared.track.Track.{Track}
use Rattle.kitchen.specs.declared.track.Status.{Status}
use Rattle.kitchen.specs.declared.track.Status.TheVariants.{Cold, On, Done}

-- a span that is on for e minutes ends at the next if it must, or, where spans end early, if it may
abbrev pub ends : Bool → ℕ → ℕ → ℕ → Bool
ends early least most e = nat_le most (e + 1) || (early && nat_le least (e + 1))

-- its status one minute on
abbrev pub next_status : Bool → ℕ → ℕ → Status → Status
next_status early least most Cold = Cold
next_status early least most (On e) = cond (ends early least most e) (Done (e + 1)) (On (e + 1))
next_status early least most (Done d) = Done d

-- a span one minute on
abbrev pub next_track : Bool → Track → Track
next_track early t = record { least = t.least; most = t.most; status = next_status early t.least t.most t.status }

-- whether some span was started since the last advance, after a start with this answer
abbrev pub noticed : Result (Unit {0}) Refusal → Bool → Bool
noticed (Ok _) before = true
noticed (Err e) before = before
