-- The tests of one order are exact.
use Rattle.std.proofs.Common.{◌≡◌, ℕ, suc, ◌-◌, ◌<◌, ◌≤◌, Bool, true, false, T, eqb, ◌≢◌, ◌⊎◌, pos, ◌+ℤ◌, ◌≤ℤ◌, Some, None, Option, sym, refl, ap, ◌∙◌, subst, inl, inr, ⊎_elim, arith}
use mathlib.Core.Path.{fun_ext}
use mathlib.Core.Logic.{∥∥₁_elim}
use native.Mathlib.Decide.{ℕ_discrete}
use Rattle.std.proofs.lemmas.Int.{ints}
use Rattle.rules.specs.Card.{Card, WellMade, span_count, start_of, is_finish}
use Rattle.rules.specs.Game.{Position, after, only, also, CanGive, CanHold}
use Rattle.rules.specs.Tables.{Traced, Fits, late}
use Rattle.rules.specs.Theorems.{ChoiceExact}
use Rattle.rules.proofs.Flags.{so, not_so}
use Rattle.rules.proofs.Basics.{clash, same, known_by, decide, or_left, late_cases, held_late}
use Rattle.rules.proofs.Closure.{Rulewise, rulewise}
use Rattle.rules.proofs.Exact.{choices_exact}
use Rattle.rules.proofs.Strategy.{fits_wins}
use Rattle.rules.proofs.Locally.{Givable, fits_given, fits_held}
use Rattle.judge.specs.declared.closure.Closure.{Closure}
use Rattle.judge.specs.Closures.{distance, wait}
use Rattle.minute.specs.Deciding.{WithinMinute, Open, soonest, PointsAllow, SpansAllow, HoldAllows}
use Rattle.minute.proofs.Props.{fits_prop}

soon_some : (t a : ℕ) (o : Option ℕ) (l : Bool) → o ≡ Some a → soonest t o l ≡ a
soon_some t a (Some b) l e = same refl e
soon_some t a None l e = clash e refl

soon_late : (t : ℕ) (o : Option ℕ) (l : Bool) → o ≡ None → T l → soonest t o l ≡ suc t
soon_late t None true e h = refl
soon_late t None false e h = absurd h
soon_late t (Some a) l e h = clash refl e

soon_free : (t : ℕ) (o : Option ℕ) (l : Bool) → o ≡ None → (T l → ⊥) → soonest t o l ≡ t
soon_free t None false e h = refl
soon_free t None true e h = absurd (h tt)
soon_free t (Some a) l e h = clash refl e

-- where the late points have the finishes among them
pub late_is : (card : Card) (l : ℕ → Bool) → ((p : ℕ) → T (is_finish card p) → T (l p)) → late card l ≡ l
late_is card l has = fun_ext (λ p. by p (decide (l p)))
  where
    by : (p : ℕ) → T (l p) ⊎ (T (l p) → ⊥) → late card l p ≡ l p
    by p (inl h) = so (held_late card l p h) ∙ sym (so h)
    by p (inr n) = not_so (λ x. n (⊎_elim (has p) (λ y. y) (late_cases card l p x))) ∙ sym (not_so n)

module _ (card : Card) (made : WellMade card) (closure : Closure) (t : ℕ) (l : ℕ → Bool) (at : Position) (q : ℕ)
    (w : WithinMinute card closure t l at) (o : Open card l at q) where
  c : Rulewise card (distance closure) (wait closure)
  c = rulewise card (distance closure) (wait closure) made w.tight.closed

  is_late : late card l ≡ l
  is_late = late_is card l w.finishes

  order : T (is_finish card q) → ⊥
  order h = o.free (w.finishes q h)

  pub fits : Fits card (distance closure) (wait closure) t (late card l) at
  fits = subst (λ x. Fits card (distance closure) (wait closure) t x at) (sym is_late) w.fits

  -- what the choices are, if the entries' derivations are at hand
  exact : Traced card (distance closure) (wait closure) → ChoiceExact card (distance closure) (wait closure) (card.horizon - t) t at l q
  exact traced =
      choices_exact card (distance closure) (wait closure) made w.tight.closed traced (card.horizon - t) t at l q
      (omega (arith, w.in_time)) fits o.point order o.unhappened

  give_fits : CanGive card (card.horizon - t) t at l q → Fits card (distance closure) (wait closure) t (late card l) (after t (only q) at)
  give_fits g = ∥∥₁_elim w.tight.traced (fits_prop card (distance closure) (wait closure) t (late card l) (after t (only q) at)) (λ traced. (exact traced).give.0 g)

  hold_fits : CanHold card (card.horizon - t) t at l q → Fits card (distance closure) (wait closure) t (late card (also l q)) at
  hold_fits g = ∥∥₁_elim w.tight.traced (fits_prop card (distance closure) (wait closure) t (late card (also l q)) at) (λ traced. (exact traced).hold.0 g)

  fits_give : Fits card (distance closure) (wait closure) t (late card l) (after t (only q) at) → CanGive card (card.horizon - t) t at l q
  fits_give f = fits_wins card (distance closure) (wait closure) made w.tight.closed (card.horizon - t) t (after t (only q) at) l (omega (arith, w.in_time)) f

  fits_hold : Fits card (distance closure) (wait closure) t (late card (also l q)) at → CanHold card (card.horizon - t) t at l q
  fits_hold f = fits_wins card (distance closure) (wait closure) made w.tight.closed (card.horizon - t) t at (also l q) (omega (arith, w.in_time)) f

  -- the earliest minute of any point that has not happened is t or the next
  from_now : (p : ℕ) → at p ≡ None → t ≤ soonest t (at p) (l p)
  from_now p n = ⊎_elim (λ h. omega (arith, soon_late t (at p) (l p) n h)) (λ h. omega (arith, soon_free t (at p) (l p) n h)) (decide (l p))

  allowed : PointsAllow (distance closure) t l at q card.points → SpansAllow card (wait closure) t l at q (span_count card) → Givable card (distance closure) (wait closure) t l at q
  allowed ps ss = record {
    behind = λ p a h. omega (arith, ints, ps p (w.fits.point p a h), soon_some t a (at p) (l p) h);
    ahead = λ r lt n d. omega (arith, ints, ps r lt, from_now r n);
    ahead_late = λ r lt n d z. omega (arith, ints, ps r lt, soon_late t (at r) (l r) n (subst (λ f. T (f r)) is_late z));
    started = λ s b lt e k. omega (arith, ints, ss s lt e, soon_some t b (at (start_of card s)) (l (start_of card s)) k);
    starting = λ s lt e k. omega (arith, ints, ss s lt e, from_now (start_of card s) (ap at k ∙ o.unhappened));
    waiting = λ s lt e n d. omega (arith, ints, ss s lt e, from_now (start_of card s) n);
  }

  module _ (g : Givable card (distance closure) (wait closure) t l at q) where
    -- the distance to a point that has not happened
    points_late : (p : ℕ) → p < card.points → at p ≡ None → p ≢ q → pos (soonest t (at p) (l p)) ≤ℤ (pos t +ℤ distance closure q p)
    points_late p lt n d = ⊎_elim
        (λ h. omega (arith, ints, soon_late t (at p) (l p) n h, g.ahead_late p lt n d (held_late card l p h)))
        (λ h. omega (arith, ints, soon_free t (at p) (l p) n h, g.ahead p lt n d))
        (decide (l p))

    points_ok : PointsAllow (distance closure) t l at q card.points
    points_ok p lt = ⊎_elim
        (λ n. elim (ℕ_discrete p q) [
          | yes e ↦ omega (arith, ints, c.N q q q o.point o.point o.point, ap (distance closure q) e, soon_free t (at p) (l p) n (λ h. o.free (subst (λ x. T (l x)) e h)))
          | no d ↦ points_late p lt n d
        ])
        (λ x. omega (arith, ints, soon_some t x.0 (at p) (l p) x.1, g.behind p x.0 x.1))
        (known_by (at p))

    spans_ok : SpansAllow card (wait closure) t l at q (span_count card)
    spans_ok s lt e =
        let a = start_of card s in
        ⊎_elim
        (λ n. elim (ℕ_discrete a q) [
          | yes k ↦ omega (arith, ints, g.starting s lt e k, soon_free t (at a) (l a) n (λ h. o.free (subst (λ x. T (l x)) k h)))
          | no d ↦ omega (arith, ints, points_late a (made.start_in s lt) n d, c.R s q lt o.point (g.waiting s lt e n d))
        ])
        (λ x. omega (arith, ints, soon_some t x.0 (at a) (l a) x.1, g.started s x.0 lt e x.1))
        (known_by (at a))

  pub give : PointsAllow (distance closure) t l at q card.points → SpansAllow card (wait closure) t l at q (span_count card) → CanGive card (card.horizon - t) t at l q
  give ps ss =
      fits_give ((fits_given card (distance closure) (wait closure) made w.tight.closed t l at q fits o.point order o.unhappened).1 (allowed ps ss))

  given : CanGive card (card.horizon - t) t at l q → Givable card (distance closure) (wait closure) t l at q
  given g = (fits_given card (distance closure) (wait closure) made w.tight.closed t l at q fits o.point order o.unhappened).0 (give_fits g)

  pub points_given : CanGive card (card.horizon - t) t at l q → PointsAllow (distance closure) t l at q card.points
  points_given g = points_ok (given g)

  pub spans_given : CanGive card (card.horizon - t) t at l q → SpansAllow card (wait closure) t l at q (span_count card)
  spans_given g = spans_ok (given g)

  pub hold : HoldAllows (distance closure) t at q card.points → CanHold card (card.horizon - t) t at l q
  hold hs =
      fits_hold ((fits_held card (distance closure) (wait closure) made w.tight.closed t l at q fits o.point order o.unhappened).1
      (λ p a h. hs p a (w.fits.point p a h) h))

  pub held_needs : CanHold card (card.horizon - t) t at l q → HoldAllows (distance closure) t at q card.points
  held_needs g p a lt h =
      (fits_held card (distance closure) (wait closure) made w.tight.closed t l at q fits o.point order o.unhappened).0 (hold_fits g) p a h

  -- what is decided fits again
  pub gave_fits : CanGive card (card.horizon - t) t at l q → WithinMinute card closure t l (after t (only q) at)
  gave_fits g = record {
    tight = w.tight;
    in_time = w.in_time;
    fits = subst (λ x. Fits card (distance closure) (wait closure) t x (after t (only q) at)) is_late (give_fits g);
    finishes = w.finishes;
  }

  more_late : (p : ℕ) → T (is_finish card p) → T (also l q p)
  unfolding also
  more_late p h = or_left (l p) (eqb p q) (w.finishes p h)

  pub held_fits : (CanGive card (card.horizon - t) t at l q → ⊥) → WithinMinute card closure t (also l q) at
  held_fits never = record {
    tight = w.tight;
    in_time = w.in_time;
    fits = ∥∥₁_elim w.tight.traced (fits_prop card (distance closure) (wait closure) t (also l q) at) (λ traced. ⊎_elim
        (λ x. absurd (never (fits_give x)))
        (λ x. subst (λ y. Fits card (distance closure) (wait closure) t y at) (late_is card (also l q) more_late) x)
        (exact traced).either);
    finishes = more_late;
  }
