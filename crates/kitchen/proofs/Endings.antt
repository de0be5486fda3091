-- An advance of a kitchen that holds its spans itself leaves each of them lawful.
use Rattle.std.proofs.Common.{◌≡◌, ℕ, ◌≤◌, Bool, true, List, map, length, get_or, refl, ap, ◌∙◌, arith}
use Rattle.std.proofs.lemmas.List.{length-map, get_or-map}
use Rattle.std.proofs.lemmas.Bool.Decides.{nat_tests}
use Rattle.kitchen.specs.declared.track.Track.{Track}
use Rattle.kitchen.specs.declared.track.Status.{Status}
use Rattle.kitchen.specs.declared.track.Status.TheVariants.{Cold, On, Done}
use Rattle.kitchen.specs.Tracks.{no_track, fit, within}
use Rattle.kitchen.specs.Kitchens.{AllFit, Lawful}
use Rattle.kitchen.specs.Endings.{next_status, next_track}
use Rattle.kitchen.specs.Parts.{parts, whole}

next_within : (b : Bool) (l m : ℕ) (s : Status) → l ≤ m → within l m s ≡ true → within l m (next_status b l m s) ≡ true
next_within b l m Cold h w = refl
next_within b l m (On e) h w = grind (arith, nat_tests)
next_within b l m (Done d) h w = w

fit_next : (b : Bool) (t : Track) → fit t ≡ true → fit (next_track b t) ≡ true
fit_next b t h =
    let p = parts t h in
    whole (next_track b t) (record { low = p.low; wide = p.wide; high = p.high; is = next_within b _ _ t.status p.wide p.is })

all_fit_next : (b : Bool) (ts : List Track) (n : ℕ) → n ≡ length ts → AllFit ts n → AllFit (map (next_track b) ts) n
all_fit_next b ts n e h i lt = ap fit (get_or-map (next_track b) ts i no_track no_track (omega arith)) ∙ fit_next b (get_or ts i no_track) (h i lt)

pub lawful_next : (b : Bool) (ts us : List Track) → Lawful ts → us ≡ map (next_track b) ts → Lawful us
lawful_next b ts us l e =
    let long = ap length e ∙ length-map ts (next_track b) in
    (omega (arith, l.0), λ i lt. ap (λ xs. fit (get_or xs i no_track)) e ∙ all_fit_next b ts (length ts) refl l.1 i (omega arith))
