-- What a lawful span has, fact by fact.
use Rattle.std.specs.Prelude.{◌≡◌, ◌≤◌, true}
use Rattle.std.proofs.Common.{arith}
use Rattle.std.proofs.lemmas.Bool.Decides.{nat_tests}
use Rattle.kitchen.specs.declared.track.Track.{Track}
use Rattle.kitchen.specs.Tracks.{fit, within}

pub record Parts (t : Track) : Type 0 where
  pub low : 1 ≤ t.least
  pub wide : t.least ≤ t.most
  pub high : t.most ≤ 10000
  pub is : within t.least t.most t.status ≡ true

pub parts : (t : Track) → fit t ≡ true → Parts t
parts t h = record { low = grind (arith, nat_tests); wide = grind (arith, nat_tests); high = grind (arith, nat_tests); is = grind (arith, nat_tests) }

pub whole : (t : Track) → Parts t → fit t ≡ true
whole t p = grind (arith, nat_tests, p.low, p.wide, p.high, p.is)
