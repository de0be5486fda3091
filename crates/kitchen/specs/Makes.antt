-- Making a kitchen of given bounds.
use Rattle.std.specs.Prelude.{◌≡◌, ℕ, Bool, true, false, cond, ◌&&◌, List, [], ◌∷◌, ◌++◌, length, Some, None, Ok, Err, Option, Result, nat_lt}
use Rattle.rules.specs.declared.refusal.Refusal.{Refusal}
use Rattle.rules.specs.declared.refusal.Refusal.TheVariants.{SpansFull, BoundsRange}
use Rattle.kitchen.specs.declared.track.Track.{Track}
use Rattle.kitchen.specs.Tracks.{in_range, cold}

-- all of these bounds are lawful
abbrev pub all_in_range : List (ℕ × ℕ) → Bool
all_in_range [] = true
all_in_range (b ∷ bs) = in_range b && all_in_range bs

-- why no kitchen is made of these bounds: more than eight of them, then bounds out of range
abbrev pub fault : List (ℕ × ℕ) → Option Refusal
fault bs = cond (nat_lt 8 (length bs)) (Some SpansFull) (cond (all_in_range bs) None (Some BoundsRange))

-- a kitchen is made of these bounds, as Fresh says, exactly if they have no fault
abbrev pub Made : {K : Type 0} → List (ℕ × ℕ) → (K → Type 0) → Result K Refusal → Type 0
Made bounds Fresh (Ok k) = (fault bounds ≡ None) × Fresh k
Made bounds Fresh (Err e) = fault bounds ≡ Some e

-- a cold span with these bounds is put after the others, exactly if the bounds are in range
abbrev pub Pushed : List Track → ℕ × ℕ → Result (Unit {0}) Refusal → List Track → Type 0
Pushed ts b (Ok _) us = (in_range b ≡ true) × (us ≡ ts ++ (cold b ∷ []))
Pushed ts b (Err e) us = (in_range b ≡ false) × (e ≡ BoundsRange) × (us ≡ ts)

-- a duration as bounds
abbrev pub exactly : ℕ → ℕ × ℕ
exactly d = (d, d)
