-- A row of spans in an array: its first places are in use, and all past them are the same.
use Rattle.std.specs.Prelude.{◌≡◌, ℕ, ◌-◌, ◌≤◌, List, ◌++◌, length, take, drop, replicate}
use Rattle.std.proofs.Common.{arith, ap, sym, ◌∙◌, length-take-le}
use Rattle.std.proofs.lemmas.List.{take-append-drop}
use Rattle.kitchen.specs.declared.track.Track.{Track}
use Rattle.kitchen.specs.Tracks.{no_track}

-- eight places, of which the first n are in use
pub record Filled (places : List Track) (n : ℕ) : Type 0 where
  pub long : length places ≡ 8
  pub few : n ≤ 8
  pub rest : drop n places ≡ replicate (8 - n) no_track

-- the places in use give all places, and their number
pub filled_again : (places : List Track) (n : ℕ) → Filled places n → (take n places ++ replicate (8 - length (take n places)) no_track ≡ places) × (length (take n places) ≡ n)
filled_again places n h =
    let long : length (take n places) ≡ n = length-take-le n places (omega (arith, h.long, h.few)) in
    (ap (λ k. take n places ++ replicate (8 - k) no_track) long ∙ ap (λ ys. take n places ++ ys) (sym h.rest) ∙ take-append-drop n places, long)
