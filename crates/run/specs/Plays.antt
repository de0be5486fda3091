-- What playing a minute answers, and leaves.
use Rattle.std.specs.Prelude.{◌≡◌, ℕ, ◌+◌, ◌<◌, ◌≤◌, true, false, List, length, Ok, Err, Result}
use Rattle.rules.specs.declared.refusal.Refusal.{Refusal}
use Rattle.rules.specs.declared.refusal.Refusal.TheVariants.{Barred, HorizonPlayed, ShortBuffer, KitchenUnfit, KitchenDisagrees}
use Rattle.kitchen.specs.declared.track.Track.{Track}
use Rattle.minute.specs.Meets.{FitsCard, Agrees, Ready}
use Rattle.minute.specs.Events.{events, written}
use Rattle.minute.specs.Played.{Meaning, Played}
use Rattle.run.specs.declared.run.Run.{Run}
use Rattle.run.specs.Runs.{Stage, stage}

-- Why the next minute is refused, with a kitchen of these spans and a list of so many places: the first of these reasons that applies.
pub data Fault (s : Stage) (spans : List Track) (places : ℕ) : Refusal → Type 0 where
  barred : s.live ≡ false → Fault s spans places Barred
  played : s.live ≡ true → s.card.horizon < s.next → Fault s spans places HorizonPlayed
  short : s.live ≡ true → s.next ≤ s.card.horizon → places < 32 → Fault s spans places ShortBuffer
  unfit : s.live ≡ true → s.next ≤ s.card.horizon → 32 ≤ places → (FitsCard s.card spans → ⊥) → Fault s spans places KitchenUnfit
  disagrees : s.live ≡ true → s.next ≤ s.card.horizon → 32 ≤ places → FitsCard s.card spans → (Agrees s.card s.position s.next spans → ⊥)
      → Fault s spans places KitchenDisagrees

-- The minute was played: no reason against it applies, the run and the kitchen go on by the rules, and the list begins with the minute's events.
pub record Accepted {K : Type 0} (means : Meaning K) (r r' : Run) (k l : K) (list list' : List ℕ) (count : ℕ) : Type 0 where
  pub was_live : (stage r).live ≡ true
  pub ready : Ready (stage r).card (stage r).next (stage r).position (means.spans k) (length list)
  pub card : r'.card ≡ r.card
  pub live : (stage r').live ≡ (stage r).live
  pub next : r'.next ≡ r.next + 1
  pub played : Played means (stage r).card (stage r).next (stage r).position (stage r').position k l
  pub listed : list' ≡ written list 0 (events (stage r).card (stage r').position (stage r).next)
  pub counted : count ≡ length (events (stage r).card (stage r').position (stage r).next)

-- The minute was refused, and nothing has changed.
pub record Refused {K : Type 0} (means : Meaning K) (r r' : Run) (k l : K) (list list' : List ℕ) (why : Refusal) : Type 0 where
  pub first : Fault (stage r) (means.spans k) (length list) why
  pub run : r' ≡ r
  pub kitchen : l ≡ k
  pub list_same : list' ≡ list

-- the run goes from r to r', the kitchen from k to l, and the list from `list` to `list'`, with this answer
abbrev pub Plays : {K : Type 0} → Meaning K → Run → Run → K → K → List ℕ → List ℕ → Result ℕ Refusal → Type 0
Plays means r r' k l list list' (Ok count) = Accepted means r r' k l list list' count
Plays means r r' k l list list' (Err why) = Refused means r r' k l list list' why
