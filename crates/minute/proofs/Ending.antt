-- One span over an advance of the kitchen.
use Rattle.std.proofs.Common.{◌≡◌, ℕ, ◌+◌, ◌≤◌, true, false, ◌&&◌, leb, Some, None, Option, sym, refl, ap, ◌∙◌, subst, ⊎_elim, arith}
use Rattle.std.proofs.lemmas.Bool.{false≢true, and_parts, leb-true}
use Rattle.rules.proofs.Basics.{clash}
use Rattle.kitchen.specs.declared.track.Status.{Status}
use Rattle.kitchen.specs.declared.track.Status.TheVariants.{Cold, On, Done}
use Rattle.kitchen.specs.Tracks.{within, is_done}
use Rattle.kitchen.specs.Kitchens.{Next}
use Rattle.minute.specs.Minutes.{is_none}
use Rattle.minute.specs.Meets.{Tells}

done_by : (l m d : ℕ) (s : Status) → s ≡ Done d → within l m s ≡ true → d ≤ m
done_by l m d s e w = let h : (leb l d && leb d m) ≡ true = subst (λ x. within l m x ≡ true) e w in leb-true d m (and_parts (leb l d) (leb d m) h).1

not_done : {X : Type 0} (s s' : Status) → s ≡ s' → is_done s' ≡ false → is_done s ≡ true → X
not_done s s' e n d = absurd (false≢true (sym n ∙ sym (ap is_done e) ∙ d))

module _ (least most t l m : ℕ) (low : least ≤ l) (high : m ≤ most) (s' : Status) (ok : within l m s' ≡ true) where
  -- a span that ends now was started, and may end
  pub may_end : (o f : Option ℕ) (s : Status) → Tells t o f s → Next l m s s' → is_done s' ≡ true → f ≡ None → (a : ℕ) × (o ≡ Some a) × (a + least ≤ t) × (t ≤ a + most)
  may_end None f Cold u n d e = not_done s' Cold n refl d
  may_end None f (On x) u n d e = absurd u
  may_end None f (Done x) u n d e = absurd u
  may_end (Some a) None Cold u n d e = absurd u
  may_end (Some a) None (On x) u n d e = ⊎_elim (λ k. not_done s' (On (x + 1)) k.0 refl d) (λ k. (a, refl, omega arith, omega (arith, done_by l m (x + 1) s' k.0 ok))) n
  may_end (Some a) None (Done x) u n d e = absurd u
  may_end (Some a) (Some b) Cold u n d e = absurd u
  may_end (Some a) (Some b) (On x) u n d e = absurd u
  may_end (Some a) (Some b) (Done x) u n d e = clash refl e

  -- one that must end now ends
  pub must_end : (o f : Option ℕ) (s : Status) (a : ℕ) → Tells t o f s → Next l m s s' → o ≡ Some a → f ≡ None → t ≡ a + most → is_done s' ≡ true
  must_end None f Cold a u n e g h = clash e refl
  must_end None f (On x) a u n e g h = absurd u
  must_end None f (Done x) a u n e g h = absurd u
  must_end (Some b) None Cold a u n e g h = absurd u
  must_end (Some b) None (On x) a u n e g h = let same : b ≡ a = cc in ⊎_elim (λ k. absurd (omega (arith, k.1))) (λ k. ap is_done k.0) n
  must_end (Some b) None (Done x) a u n e g h = absurd u
  must_end (Some b) (Some c) Cold a u n e g h = absurd u
  must_end (Some b) (Some c) (On x) a u n e g h = absurd u
  must_end (Some b) (Some c) (Done x) a u n e g h = clash refl g

-- the span as it is told then, once its finish f is recorded as f'
pub told_on : (l m t : ℕ) (s' : Status) (f' : Option ℕ) (o f : Option ℕ) (s : Status) → Tells t o f s → Next l m s s' → ((is_done s' && is_none f) ≡ true → f' ≡ Some t) → ((is_done s' && is_none f) ≡ false → f' ≡ f) → Tells (t + 1) o f' s'
told_on l m t s' f' None f Cold u n yes' no' = subst (Tells (t + 1) None f') (sym n) tt
told_on l m t s' f' None f (On x) u n yes' no' = absurd u
told_on l m t s' f' None f (Done x) u n yes' no' = absurd u
told_on l m t s' f' (Some a) None Cold u n yes' no' = absurd u
told_on l m t s' f' (Some a) None (On x) u n yes' no' =
    ⊎_elim
    (λ k.
    let e = no' (ap (λ z. is_done z && true) k.0) in
    let v : Tells (t + 1) (Some a) None (On (x + 1)) = omega arith in
    subst (λ z. Tells (t + 1) (Some a) z s') (sym e) (subst (Tells (t + 1) (Some a) None) (sym k.0) v))
    (λ k.
    let e = yes' (ap (λ z. is_done z && true) k.0) in
    let v : Tells (t + 1) (Some a) (Some t) (Done (x + 1)) = omega arith in
    subst (λ z. Tells (t + 1) (Some a) z s') (sym e) (subst (Tells (t + 1) (Some a) (Some t)) (sym k.0) v))
    n
told_on l m t s' f' (Some a) None (Done x) u n yes' no' = absurd u
told_on l m t s' f' (Some a) (Some c) Cold u n yes' no' = absurd u
told_on l m t s' f' (Some a) (Some c) (On x) u n yes' no' = absurd u
told_on l m t s' f' (Some a) (Some c) (Done x) u n yes' no' =
    let e = no' (ap (λ z. is_done z && false) n) in
    subst (λ z. Tells (t + 1) (Some a) z s') (sym e) (subst (Tells (t + 1) (Some a) (Some c)) (sym n) u)

-- a span that has not started is cold, in whatever minute
pub cold_told : (t : ℕ) (o f : Option ℕ) (s : Status) → o ≡ None → Tells t o f s → s ≡ Cold
cold_told t None f Cold e u = refl
cold_told t None f (On x) e u = absurd u
cold_told t None f (Done x) e u = absurd u
cold_told t (Some a) f s e u = clash refl e
