-- Making a row of given bounds, one span at a time.
use Rattle.std.proofs.Common.{◌≡◌, ℕ, zero, suc, ◌+◌, ◌<◌, ◌≤◌, true, false, cond, List, [], ◌∷◌, ◌++◌, map, length, get_or, take, Some, None, Ok, Err, sym, ap, ◌∙◌, add-one, arith}
use Rattle.std.proofs.lemmas.Bool.{le-ltb, cond-false}
use Rattle.std.proofs.lemmas.List.{length-map, map_more, get_or-map}
use Rattle.std.proofs.lemmas.Bool.Decides.{nat_tests}
use Rattle.rules.specs.declared.refusal.Refusal.{Refusal}
use Rattle.rules.specs.declared.refusal.Refusal.TheVariants.{BoundsRange}
use Rattle.kitchen.specs.declared.track.Track.{Track}
use Rattle.kitchen.specs.Tracks.{no_track, fit, in_range, cold}
use Rattle.kitchen.specs.Kitchens.{Lawful}
use Rattle.kitchen.specs.Makes.{all_in_range, fault, Pushed}

in_range_more : (bs : List (ℕ × ℕ)) (i : ℕ) → i < length bs → all_in_range (take i bs) ≡ true → in_range (get_or bs i (0, 0)) ≡ true → all_in_range (take (suc i) bs) ≡ true
in_range_more [] i lt h k = absurd (omega arith)
in_range_more (b ∷ bs) zero lt h k = grind arith
in_range_more (b ∷ bs) (suc i) lt h k =
    let some : all_in_range (take i bs) ≡ true = grind arith in
    let more = in_range_more bs i (omega arith) some k in
    grind arith

out_of_range : (bs : List (ℕ × ℕ)) (i : ℕ) → i < length bs → in_range (get_or bs i (0, 0)) ≡ false → all_in_range bs ≡ false
out_of_range [] i lt k = absurd (omega arith)
out_of_range (b ∷ bs) zero lt k = grind arith
out_of_range (b ∷ bs) (suc i) lt k = let later = out_of_range bs i (omega arith) k in grind arith

module _ (bs : List (ℕ × ℕ)) where
  few : (length bs ≤ 8) → fault bs ≡ cond (all_in_range bs) None (Some BoundsRange)
  few h = cond-false _ _ _ (le-ltb 8 (length bs) h)

  -- a row of the first i bounds
  abbrev pub Sofar : ℕ → List Track → Type 0
  Sofar i ts = (ts ≡ map cold (take i bs)) × (all_in_range (take i bs) ≡ true)

  pub sofar_more : (i : ℕ) (b : ℕ × ℕ) (ts us : List Track) → i < length bs → b ≡ get_or bs i (0, 0) → Sofar i ts → Pushed ts b (Ok tt) us → Sofar (i + 1) us
  sofar_more i b ts us lt e s p = (
    p.1 ∙ ap (λ x. x ++ (cold b ∷ [])) s.0 ∙ ap (λ x. map cold (take i bs) ++ (cold x ∷ [])) e ∙ sym (map_more cold bs i (0, 0) lt),
    rw add-one (in_range_more bs i lt s.1 (sym (ap in_range e) ∙ p.0)),
  )

  pub sofar_bad : (i : ℕ) (b : ℕ × ℕ) (ts us : List Track) (r : Refusal) → length bs ≤ 8 → i < length bs → b ≡ get_or bs i (0, 0) → Pushed ts b (Err r) us → fault bs ≡ Some r
  sofar_bad i b ts us r h lt e p = few h ∙ cond-false _ _ _ (out_of_range bs i lt (sym (ap in_range e) ∙ p.0)) ∙ ap Some (sym p.1)

all_fit : (bs : List (ℕ × ℕ)) (i : ℕ) → all_in_range bs ≡ true → i < length bs → fit (cold (get_or bs i (0, 0))) ≡ true
all_fit [] i h lt = absurd (omega arith)
all_fit (b ∷ bs) zero h lt = grind (arith, nat_tests)
all_fit (b ∷ bs) (suc i) h lt = let k : all_in_range bs ≡ true = grind arith in all_fit bs i k (omega arith)

few_made : (bs : List (ℕ × ℕ)) → fault bs ≡ None → length bs ≤ 8
few_made bs h = grind (arith, nat_tests)

range_made : (bs : List (ℕ × ℕ)) → fault bs ≡ None → all_in_range bs ≡ true
range_made bs h = grind (arith, nat_tests)

-- what is made of bounds without a fault is lawful
pub lawful_made : (bs : List (ℕ × ℕ)) (ts : List Track) → fault bs ≡ None → ts ≡ map cold bs → Lawful ts
lawful_made bs ts h e =
    let long = ap length e ∙ length-map bs cold in
    let few = few_made bs h in
    (omega arith, λ i lt. let l : i < length bs = omega arith in ap (λ xs. fit (get_or xs i no_track)) e ∙ ap fit (get_or-map cold bs i (0, 0) no_track l) ∙ all_fit bs i (range_made bs h) l)
