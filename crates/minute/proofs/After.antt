-- From the middle of a minute to its end: the kitchen agrees again, and the run stands.
use Rattle.std.proofs.Common.{◌≡◌, ℕ, suc, ◌+◌, ◌-◌, ◌<◌, ◌≤◌, Bool, true, false, ◌⊎◌, List, Some, None, sym, refl, ap, ◌∙◌, subst, inl, inr, ⊎_elim, add-one, arith}
use Rattle.std.proofs.lemmas.Bool.{false≢true, cases_lt, eq-eqb}
use Rattle.rules.specs.Card.{Card, WellMade, span_count, start_of, finish_of, is_finish}
use Rattle.rules.specs.Game.{Position, Win, Done, no_point}
use Rattle.rules.specs.Tables.{Fits}
use Rattle.rules.proofs.Basics.{clash, same, known_by, decide, is_finish_of}
use Rattle.rules.proofs.Closure.{rulewise}
use Rattle.rules.proofs.Strategy.{win, end_done}
use Rattle.kitchen.specs.declared.track.Track.{Track}
use Rattle.kitchen.specs.declared.track.Status.TheVariants.{Cold, On}
use Rattle.judge.specs.declared.closure.Closure.{Closure}
use Rattle.judge.specs.Closures.{distance, wait}
use Rattle.minute.specs.Minutes.{is_at}
use Rattle.minute.specs.Meets.{track_at, Tells, Agrees}
use Rattle.minute.specs.Standing.{Sensible, Tight, Standing}
use Rattle.minute.specs.Orders.{Ordered}
use Rattle.minute.specs.Played.{Meaning, Starts, starting}
use Rattle.minute.proofs.Meeting.{tells_from}
use Rattle.minute.proofs.Ending.{cold_told}
use Rattle.minute.proofs.Starting.{kindled, starts_each}
use Rattle.minute.proofs.Middle.{Midway}

module _ (card : Card) (made : WellMade card) (t : ℕ) (mid then : Position) (ms : List Track) (m : Midway card t mid ms)
    (r : Ordered card t mid then) where
  finish_same : (s : ℕ) → s < span_count card → then (finish_of card s) ≡ mid (finish_of card s)
  finish_same s lt = r.finishes (finish_of card s) (is_finish_of card s lt)

  -- a start that had not happened happens now, or has not happened then
  settled : (p : ℕ) → p < card.points → mid p ≡ None → (then p ≡ Some t) ⊎ (then p ≡ None)
  settled p lt n = ⊎_elim (λ f. inr (r.finishes p f ∙ n)) (λ f. ⊎_elim (λ x. inl x.0) (λ x. inr x.0) (r.rule p lt f n)) (decide (is_finish card p))

  -- what starts now is cold
  pub cold_then : (s : ℕ) → s < span_count card → starting card then t s ≡ true → (track_at ms s).status ≡ Cold
  unfolding starting
  cold_then s lt e =
      ⊎_elim
      (λ x. ⊎_elim
      (λ n. cold_told (t + 1) (mid (start_of card s)) (mid (finish_of card s)) (track_at ms s).status n x.0)
      (λ a. absurd (false≢true (sym x.1 ∙ ap (is_at t) (a.1 ∙ sym (r.given (start_of card s) a.0 a.1)) ∙ e)))
      (known_by (mid (start_of card s))))
      (λ x. x.0)
      (m.seen s lt)

  -- what has happened by now
  by_now : (p a : ℕ) → then p ≡ Some a → a ≤ t
  by_now p a h =
      ⊎_elim
      (λ n. ⊎_elim
      (λ lt. ⊎_elim (λ x. let z : a ≡ t = same h x in omega arith) (λ x. clash h x) (settled p lt n))
      (λ le. clash h (r.beyond p le ∙ n))
      (cases_lt p card.points))
      (λ b. let z : a ≡ b.0 = same h (r.given p b.0 b.1) in omega (arith, m.past p b.0 b.1))
      (known_by (mid p))

  pub sensible_again : Sensible card (t + 1) then
  sensible_again = record {
    nothing = λ e. absurd (omega arith);
    past = λ p a h. omega (arith, by_now p a h);
    begun = λ s lt h. finish_same s lt ∙ m.begun s lt (⊎_elim (λ n. n) (λ a. clash (r.given (start_of card s) a.0 a.1) h) (known_by (mid (start_of card s))));
  }

  pub stands_again : (closure : Closure) → Tight card closure → Fits card (distance closure) (wait closure) (suc t) no_point then → Standing card closure (t + 1) then
  stands_again closure tight f = record {
    tight = tight;
    sensible = sensible_again;
    fits = λ _. subst (λ n. Fits card (distance closure) (wait closure) n no_point then) (sym (add-one t)) f;
  }

  module _ {K : Type 0} (means : Meaning K) (k l : K) (is : means.spans k ≡ ms) (begins : Starts means (starting card then t) (span_count card) k l) where
    status_then : (s : ℕ) → s < span_count card → (b : Bool) → is_at t (then (start_of card s)) ≡ b → track_at (means.spans l) s ≡ kindled b (track_at ms s)
    unfolding starting
    status_then s lt b e = starts_each means (starting card then t) (span_count card) k l begins s lt ∙ ap (λ ts. kindled (is_at t (then (start_of card s))) (track_at ts s)) is ∙ ap (λ x. kindled x (track_at ms s)) e

    lit_now : (s : ℕ) → s < span_count card → then (start_of card s) ≡ Some t → then (finish_of card s) ≡ None → Tells (t + 1) (then (start_of card s)) (then (finish_of card s)) (track_at (means.spans l) s).status
    lit_now s lt o f =
        let e = ap (λ x. x.status) (status_then s lt true (ap (is_at t) o ∙ eq-eqb t t refl)) in
        let v : Tells (t + 1) (Some t) None (On 0) = omega arith in
        tells_from (t + 1) _ _ (Some t) None _ (On 0) o f e v

    as_was : (s : ℕ) → s < span_count card → Tells (t + 1) (mid (start_of card s)) (mid (finish_of card s)) (track_at ms s).status → is_at t (mid (start_of card s)) ≡ false → then (start_of card s) ≡ mid (start_of card s)
        → Tells (t + 1) (then (start_of card s)) (then (finish_of card s)) (track_at (means.spans l) s).status
    as_was s lt v n o = tells_from (t + 1) _ _ _ _ _ _ o (finish_same s lt) (ap (λ x. x.status) (status_then s lt false (ap (is_at t) o ∙ n))) v

    pub agrees_again : Agrees card then (t + 1) (means.spans l)
    agrees_again s lt =
        ⊎_elim
        (λ x. ⊎_elim
        (λ n. ⊎_elim
        (λ o. lit_now s lt o (finish_same s lt ∙ m.begun s lt n))
        (λ o. as_was s lt x.0 x.1 (o ∙ sym n))
        (settled (start_of card s) (made.start_in s lt) n))
        (λ a. as_was s lt x.0 x.1 (r.given (start_of card s) a.0 a.1 ∙ sym a.1))
        (known_by (mid (start_of card s))))
        (λ x. lit_now s lt (r.given (start_of card s) t x.1) (finish_same s lt ∙ x.2))
        (m.seen s lt)

-- the controller can win then
pub wins_then : (card : Card) → WellMade card → (closure : Closure) → Tight card closure → (t : ℕ) (then : Position) → t ≤ card.horizon → Fits card (distance closure) (wait closure) (suc t) no_point then → Win card (card.horizon - t) (suc t) then
wins_then card made closure tight t then time f = win card (distance closure) (wait closure) made (rulewise card (distance closure) (wait closure) made tight.closed) (card.horizon - t) (suc t) then (omega arith) f

pub done_then : (card : Card) → WellMade card → (closure : Closure) → Tight card closure → (t : ℕ) (then : Position) → t ≡ card.horizon → Fits card (distance closure) (wait closure) (suc t) no_point then → Done card then
done_then card made closure tight t then e f = end_done card (distance closure) (wait closure) made tight.closed then (subst (λ n. Fits card (distance closure) (wait closure) (suc n) no_point then) e f)
