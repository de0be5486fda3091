-- One span of a kitchen: when its bounds and its status are lawful, and what is read of its status.
use Rattle.std.specs.Prelude.{ℕ, Bool, true, false, ◌&&◌, nat_le, nat_lt}
use Rattle.kitchen.specs.declared.track.Track.{Track}
use Rattle.kitchen.specs.declared.track.Status.{Status}
use Rattle.kitchen.specs.declared.track.Status.TheVariants.{Cold, On, Done}

-- what stands past the last span
abbrev pub no_track : Track
no_track = record { least = 0; most = 0; status = Cold }

-- a least and a most are lawful bounds: 1 ≤ least ≤ most ≤ 10,000
abbrev pub in_range : ℕ × ℕ → Bool
in_range b = nat_le 1 b.0 && (nat_le b.0 b.1 && nat_le b.1 10000)

-- a status is within the bounds least and most
abbrev pub within : ℕ → ℕ → Status → Bool
within least most Cold = true
within least most (On e) = nat_lt e most
within least most (Done d) = nat_le least d && nat_le d most

-- a span is lawful
abbrev pub fit : Track → Bool
fit t = in_range (t.least, t.most) && within t.least t.most t.status

-- a span with these bounds that has not started
abbrev pub cold : ℕ × ℕ → Track
cold b = record { least = b.0; most = b.1; status = Cold }

-- the span has ended
abbrev pub is_done : Status → Bool
is_done Cold = false
is_done (On e) = false
is_done (Done d) = true

-- the minutes from its start to its end, or until now
abbrev pub elapsed : Status → ℕ
elapsed Cold = 0
elapsed (On e) = e
elapsed (Done d) = d
