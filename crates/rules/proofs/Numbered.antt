-- The numbered edges are the given edges.
use Rattle.std.proofs.Common.{ℕ, zero, suc, ◌-◌, ◌<◌, ◌≤◌, refl, subst, arith}
use native.Mathlib.Decide.{ℕ_discrete}
use Rattle.std.specs.List.{ContainsAt as Has, AllByRecursion}
use Rattle.std.proofs.ByRecursion.{All-append, all-has, has_append_left, has_append_right}
use Rattle.rules.specs.Card.{Card, WellMade, span_count, tie_count}
use Rattle.rules.specs.declared.edges.Edge.{Edge}
use Rattle.rules.specs.Edges.{Given, given_late, given_early, given_most, given_least, given_lower, given_wait, given_tie}
use Rattle.rules.specs.Steps.{of_point, of_span, of_tie, point_edges, span_edges, tie_edges, given}
use Rattle.rules.specs.Theorems.{GivenNumbered}

module _ (card : Card) where
  -- ---- each numbered edge is given

  points_given : (n : ℕ) → n < card.points → AllByRecursion (Given card) (point_edges card n)
  unfolding point_edges
  points_given zero h = tt
  points_given (suc n) h = All-append (Given card) (point_edges card n) _ (points_given n (omega arith)) (given_late (suc n) (omega arith) h, (given_early (suc n) (omega arith) h, tt))

  spans_given : (n : ℕ) → n ≤ span_count card → AllByRecursion (Given card) (span_edges card n)
  unfolding span_edges
  spans_given zero h = tt
  spans_given (suc s) h = All-append (Given card) (span_edges card s) _ (spans_given s (omega arith)) (given_most s h, (given_least s h, (given_lower s h, (given_wait s h, tt))))

  ties_given : (n : ℕ) → n ≤ tie_count card → AllByRecursion (Given card) (tie_edges card n)
  unfolding tie_edges
  ties_given zero h = tt
  ties_given (suc i) h = All-append (Given card) (tie_edges card i) _ (ties_given i (omega arith)) (given_tie i h, tt)

  pub all_given : WellMade card → AllByRecursion (Given card) (given card)
  unfolding given
  all_given made =
      All-append (Given card) (point_edges card (card.points - 1)) _ (points_given (card.points - 1) (omega (arith, made.some_point)))
      (All-append (Given card) (span_edges card (span_count card)) _ (spans_given (span_count card) (omega arith)) (ties_given (tie_count card) (omega arith)))

  -- ---- each given edge is numbered

  point_has : (e : Edge) (p : ℕ) → Has (of_point card p) e → (n : ℕ) → 0 < p → p ≤ n → Has (point_edges card n) e
  unfolding point_edges
  point_has e p h zero low high = absurd (omega arith)
  point_has e p h (suc n) low high =
      elim (ℕ_discrete p (suc n)) [
        | yes q ↦ has_append_right (point_edges card n) _ e (subst (λ r. Has (of_point card r) e) q h)
        | no q ↦ has_append_left (point_edges card n) _ e (point_has e p h n low (omega arith))
      ]

  span_has : (e : Edge) (s : ℕ) → Has (of_span card s) e → (n : ℕ) → s < n → Has (span_edges card n) e
  unfolding span_edges
  span_has e s h zero high = absurd (omega arith)
  span_has e s h (suc n) high =
      elim (ℕ_discrete s n) [
        | yes q ↦ has_append_right (span_edges card n) _ e (subst (λ r. Has (of_span card r) e) q h)
        | no q ↦ has_append_left (span_edges card n) _ e (span_has e s h n (omega arith))
      ]

  tie_has : (e : Edge) (i : ℕ) → Has (of_tie card i) e → (n : ℕ) → i < n → Has (tie_edges card n) e
  unfolding tie_edges
  tie_has e i h zero high = absurd (omega arith)
  tie_has e i h (suc n) high =
      elim (ℕ_discrete i n) [
        | yes q ↦ has_append_right (tie_edges card n) _ e (subst (λ r. Has (of_tie card r) e) q h)
        | no q ↦ has_append_left (tie_edges card n) _ e (tie_has e i h n (omega arith))
      ]

  of_a_point : (e : Edge) (p : ℕ) → 0 < p → p < card.points → Has (of_point card p) e → Has (given card) e
  unfolding given
  of_a_point e p low high h = has_append_left (point_edges card (card.points - 1)) _ e (point_has e p h (card.points - 1) low (omega arith))

  of_a_span : (e : Edge) (s : ℕ) → s < span_count card → Has (of_span card s) e → Has (given card) e
  unfolding given
  of_a_span e s high h =
      has_append_right (point_edges card (card.points - 1)) _ e (has_append_left (span_edges card (span_count card)) _ e (span_has e s h (span_count card) high))

  of_a_tie : (e : Edge) (i : ℕ) → i < tie_count card → Has (of_tie card i) e → Has (given card) e
  unfolding given
  of_a_tie e i high h =
      has_append_right (point_edges card (card.points - 1)) _ e (has_append_right (span_edges card (span_count card)) _ e (tie_has e i h (tie_count card) high))

  pub numbered : {e : Edge} → Given card e → Has (given card) e
  numbered (given_late p low high) = of_a_point _ p low high (0, omega arith, λ d. refl)
  numbered (given_early p low high) = of_a_point _ p low high (1, omega arith, λ d. refl)
  numbered (given_most s high) = of_a_span _ s high (0, omega arith, λ d. refl)
  numbered (given_least s high) = of_a_span _ s high (1, omega arith, λ d. refl)
  numbered (given_lower s high) = of_a_span _ s high (2, omega arith, λ d. refl)
  numbered (given_wait s high) = of_a_span _ s high (3, omega arith, λ d. refl)
  numbered (given_tie i high) = of_a_tie _ i high (0, omega arith, λ d. refl)

pub given_numbered : GivenNumbered
given_numbered card made e = (numbered card, all-has (Given card) (given card) e (all_given card made))
