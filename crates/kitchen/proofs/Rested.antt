-- What a rest keeps, and how a resting kitchen tells what lies below it.
use Rattle.std.specs.Prelude.{◌≡◌, ℕ, zero, suc, ◌+◌, ◌<◌, ◌≤◌, min, true, List, [], ◌∷◌, ◌++◌, map, length, get_or, drop, replicate, Ok, Err, Result, slice_index, slice_index_or, slice_set, refl}
use Rattle.std.proofs.Common.{ap, sym, subst, ◌∙◌, arith}
use Rattle.std.proofs.lemmas.Bool.Decides.{nat_tests}
use Rattle.std.proofs.lemmas.List.{places, ext_get_or, length-take-le, length-append}
use Rattle.rules.specs.declared.refusal.Refusal.{Refusal}
use Rattle.kitchen.specs.declared.track.Track.{Track}
use Rattle.kitchen.specs.declared.track.Status.{Status}
use Rattle.kitchen.specs.declared.track.Status.TheVariants.{Cold, On, Done}
use Rattle.kitchen.specs.declared.rest.Rest.{Rest}
use Rattle.kitchen.specs.Tracks.{no_track, fit, within}
use Rattle.kitchen.specs.Kitchens.{Lawful, Started, begun, Next, Stepped, Advanced}
use Rattle.kitchen.specs.Rests.{rest_for, told_status, told, rested, no_rest, fresh, rest_next, count_next, Counted, first_eight}
use Rattle.kitchen.specs.Parts.{parts}
use Rattle.kitchen.specs.Rested.{rested_long, rested_at}

pub first_long : (rs : List ℕ) → length (first_eight rs) ≡ 8
first_long rs = length-take-le 8 (rs ++ replicate 8 0) (omega (arith, length-append rs (replicate 8 0)))

-- a missing rest is 0
pub first_at : (rs : List ℕ) (i : ℕ) → i < 8 → slice_index (first_eight rs) i ≡ slice_index rs i
first_at rs i h = grind (arith, places)

pub fresh_at : (ms : List ℕ) (i : ℕ) → slice_index_or (map fresh ms) i no_rest ≡ fresh (slice_index ms i)
fresh_at [] i = refl
fresh_at (m ∷ ms) zero = refl
fresh_at (m ∷ ms) (suc i) = fresh_at ms i

-- only the rests of the first eight spans are told
pub rested_first : (ts : List Track) (ms : List ℕ) → length ts ≤ 8 → rested ts (map fresh (first_eight ms)) ≡ rested ts (map fresh ms)
rested_first ts ms few =
    let rs = map fresh (first_eight ms) in
    let ss = map fresh ms in
    let n = rested_long ts rs in
    let m = rested_long ts ss in
    ext_get_or no_track _ _ (omega arith)
    (λ i h. let lt : i < length ts = omega arith in rested_at ts rs i lt ∙ ap (λ r. told r (slice_index_or ts i no_track)) (fresh_at (first_eight ms) i ∙ ap fresh (first_at ms i (omega arith)) ∙ sym (fresh_at ms i)) ∙ sym (rested_at ts ss i lt))

done_next : (l m r c d : ℕ) → r ≤ 240 → within l m (Done d) ≡ true → Next (l + r) (m + r) (told_status r c (Done d)) (told_status r (min (c + 1) 240) (Done d))
done_next l m r c d k w = grind (arith, nat_tests)

told_next : (l m r c : ℕ) (s u : Status) → l ≤ m → r ≤ 240 → within l m s ≡ true → Next l m s u → Next (l + r) (m + r) (told_status r c s) (told_status r (count_next s c) u)
told_next l m r c Cold u h k w n = grind (arith, nat_tests)
told_next l m r c (On e) u h k w n = grind (arith, nat_tests)
told_next l m r c (Done d) u h k w n = rw n (done_next l m r c d k w)

pub stepped_told : (r : Rest) (t u : Track) → fit t ≡ true → Stepped t u → Stepped (told r t) (told (rest_next t.status r) u)
stepped_told r t u h s =
    let p = parts t h in
    let same : rest_for r.minutes u.most ≡ rest_for r.minutes t.most = ap (rest_for r.minutes) s.most in
    let few : rest_for r.minutes t.most ≤ 240 = omega arith in
    record {
      least = (λ i. s.least i + same i);
      most = (λ i. s.most i + same i);
      status = rw same (told_next _ _ (rest_for r.minutes t.most) r.count t.status u.status p.wide few p.is s.status);
    }

-- every span below steps, and so does every span as told
pub advanced_rested : (ts us : List Track) (rs ds : List Rest) → Lawful ts → Advanced ts us → Counted ts rs ds → Advanced (rested ts rs) (rested us ds)
advanced_rested ts us rs ds l a d =
    let n = rested_long ts rs in
    let m = rested_long us ds in
    record {
      long = m ∙ a.long ∙ sym n;
      each = λ k h.
          let lt : k < length ts = omega arith in
          let lu : k < length us = omega (arith, a.long) in
          let r = slice_index_or rs k no_rest in
          let t = slice_index_or ts k no_track in
          let u = slice_index_or us k no_track in
          let s = stepped_told r t u (l.1 k lt) (a.each k lt) in
          let e : told (rest_next t.status r) u ≡ get_or (rested us ds) k no_track = ap (λ q. told q u) (sym (d.each k (omega (arith, l.0)))) ∙ sym (rested_at us ds k lu) in
          subst (λ v. Stepped v (slice_index_or (rested us ds) k no_track)) (sym (rested_at ts rs k lt)) (subst (Stepped (told r t)) e s);
    }

rested_set : (ts : List Track) (rs : List Rest) (i : ℕ) → i < length ts → rested (slice_set ts i (begun (slice_index_or ts i no_track))) rs ≡ slice_set (rested ts rs) i (begun (slice_index_or (rested ts rs) i no_track))
rested_set [] rs i h = absurd (omega arith)
rested_set (t ∷ ts) rs zero h = refl
rested_set (t ∷ ts) rs (suc i) h = ap (λ us. told (slice_index_or rs 0 no_rest) t ∷ us) (rested_set ts (drop 1 rs) i (omega arith))

cold_told : (r c : ℕ) (s : Status) → told_status r c s ≡ Cold → s ≡ Cold
cold_told r c Cold e = refl
cold_told r c (On d) e = e
cold_told r c (Done d) e = grind arith

-- a start below is a start as told
pub started_rested : (ts us : List Track) (rs : List Rest) (i : ℕ) (r : Result (Unit {0}) Refusal) → Started ts i r us → Started (rested ts rs) i r (rested us rs)
started_rested ts us rs i (Ok _) h =
    let n = rested_long ts rs in
    let at = ap (λ (t : Track). t.status) (rested_at ts rs i h.0) in
    (omega (arith, h.0), at ∙ ap (told_status _ (slice_index_or rs i no_rest).count) h.1, ap (λ ws. rested ws rs) h.2 ∙ rested_set ts rs i h.0)
started_rested ts us rs i (Err e) h =
    let n = rested_long ts rs in
    let at : i < length ts → slice_index_or (rested ts rs) i no_track ≡ told (slice_index_or rs i no_rest) (slice_index_or ts i no_track) = rested_at ts rs i in
    let cold = cold_told (rest_for (slice_index_or rs i no_rest).minutes (get_or ts i no_track).most) (slice_index_or rs i no_rest).count (get_or ts i no_track).status in
    (grind arith, ap (λ ws. rested ws rs) h.1)
