-- A resting kitchen keeps spans lawful, as the kitchen below it does.
use Rattle.std.specs.Prelude.{◌≡◌, ℕ, zero, suc, ◌+◌, ◌<◌, ◌≤◌, true, List, [], ◌∷◌, length, drop, slice_index_or, refl}
use Rattle.std.proofs.Common.{ap, ◌∙◌, arith, get_or-drop}
use Rattle.std.proofs.lemmas.Bool.Decides.{nat_tests}
use Rattle.kitchen.specs.declared.track.Track.{Track}
use Rattle.kitchen.specs.declared.track.Status.{Status}
use Rattle.kitchen.specs.declared.track.Status.TheVariants.{Cold, On, Done}
use Rattle.kitchen.specs.declared.rest.Rest.{Rest}
use Rattle.kitchen.specs.Tracks.{no_track, fit, within}
use Rattle.kitchen.specs.Kitchens.{Lawful}
use Rattle.kitchen.specs.Rests.{rest_for, told_status, told, rested, no_rest}
use Rattle.kitchen.specs.Parts.{parts, whole}

pub rested_long : (ts : List Track) (rs : List Rest) → length (rested ts rs) ≡ length ts
rested_long [] rs = refl
rested_long (t ∷ ts) rs = ap suc (rested_long ts (drop 1 rs))

pub rested_at : (ts : List Track) (rs : List Rest) (i : ℕ) → i < length ts → slice_index_or (rested ts rs) i no_track ≡ told (slice_index_or rs i no_rest) (slice_index_or ts i no_track)
rested_at [] rs i h = absurd (omega arith)
rested_at (t ∷ ts) rs zero h = refl
rested_at (t ∷ ts) rs (suc i) h =
    let lt : i < length ts = omega arith in
    let more : 1 + i ≡ suc i = omega arith in
    rested_at ts (drop 1 rs) i lt
    ∙ ap (λ r. told r (slice_index_or ts i no_track)) (get_or-drop 1 rs i no_rest ∙ ap (λ k. slice_index_or rs k no_rest) more)

told_within : (l m r c : ℕ) (s : Status) → l ≤ m → within l m s ≡ true → within (l + r) (m + r) (told_status r c s) ≡ true
told_within l m r c Cold h w = refl
told_within l m r c (On e) h w = grind (arith, nat_tests)
told_within l m r c (Done d) h w = grind (arith, nat_tests)

pub fit_told : (r : Rest) (t : Track) → fit t ≡ true → fit (told r t) ≡ true
fit_told r t h =
    let p = parts t h in
    whole (told r t) (record { low = omega (arith, p.low); wide = omega (arith, p.wide); high = omega (arith, p.high); is = told_within _ _ (rest_for r.minutes t.most) r.count t.status p.wide p.is })

pub rested_lawful : (ts : List Track) (rs : List Rest) → Lawful ts → Lawful (rested ts rs)
rested_lawful ts rs h =
    let n = rested_long ts rs in
    (omega (arith, h.0), λ i lt. let l : i < length ts = omega arith in ap fit (rested_at ts rs i l) ∙ fit_told (slice_index_or rs i no_rest) (slice_index_or ts i no_track) (h.1 i l))
