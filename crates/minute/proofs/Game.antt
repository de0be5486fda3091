-- A minute by the rules keeps the win, by the game alone.
use Rattle.std.proofs.Common.{◌≡◌, ℕ, zero, suc, ◌+◌, ◌-◌, ◌<◌, ◌≤◌, Bool, T, eqb, ltb, ◌≢◌, ◌⊎◌, Some, None, sym, refl, ap, ◌∙◌, subst, subst₂, inl, inr, ⊎_elim, add-one, arith}
use mathlib.Core.Path.{fun_ext}
use native.Mathlib.Decide.{ℕ_discrete}
use Rattle.std.proofs.lemmas.Bool.{cond-true, cond-false, lt-ltb, le-ltb, cases_eq, cases_lt}
use Rattle.rules.specs.Card.{Card, is_finish}
use Rattle.rules.specs.Game.{Position, Lawful, heard, Win, Mid, no_point, after, only, also}
use Rattle.rules.proofs.Flags.{so_back}
use Rattle.rules.proofs.Basics.{known_by, decide, or_left, after_new, after_not, after_nothing, only_is, is_only, itself_also}
use Rattle.rules.proofs.Exact.{gives_or_holds}
use Rattle.minute.specs.Minutes.{is_none}
use Rattle.minute.specs.Orders.{decided, passed, Ordered}
use Rattle.minute.proofs.Deciding.{passed_here, passed_past, passed_before, passed_more, same_held}

-- whatever spans end, the controller can win once it has heard them
pub heard_wins : (card : Card) (k t : ℕ) (at : Position) (ends : ℕ → Bool) → Win card (suc k) t at → Lawful card t at ends → Mid card k t (heard card t ends at) no_point
heard_wins card k t at ends win law = let x = win ends law in (x.0, x.1, λ p h g. h, x.2)

module _ (card : Card) (t : ℕ) (middle then : Position) (o : Ordered card t middle then) where
  -- the orders before q are decided, and the controller can win
  abbrev DecidedTo : ℕ → Type 0
  DecidedTo q = Mid card (card.horizon - t) t (decided middle then q) (passed then q)

  before : (q p : ℕ) → p < q → decided middle then q p ≡ then p
  unfolding decided
  before q p lt = cond-true (ltb p q) (then p) (middle p) (lt-ltb p q lt)

  from : (q p : ℕ) → q ≤ p → decided middle then q p ≡ middle p
  unfolding decided
  from q p le = cond-false (ltb p q) (then p) (middle p) (le-ltb p q le)

  other : (q p : ℕ) → p ≢ q → decided middle then (q + 1) p ≡ decided middle then q p
  other q p n = ⊎_elim
      (λ lt. before (q + 1) p (omega arith) ∙ sym (before q p lt))
      (λ le. from (q + 1) p (omega arith) ∙ sym (from q p le))
      (cases_lt p q)

  -- q stays as it is
  stays : (q : ℕ) → then q ≡ middle q → decided middle then q ≡ decided middle then (q + 1)
  stays q e = fun_ext (λ p. ⊎_elim
      (λ s. subst (λ x. decided middle then q x ≡ decided middle then (q + 1) x) (sym s) (from q q (omega arith) ∙ sym (before (q + 1) q (omega arith) ∙ e)))
      (λ n. sym (other q p n))
      (cases_eq p q))

  -- what is held then was held before, but for q
  held_then : (q p : ℕ) → T (passed then (q + 1) p) → T (passed then q p) ⊎ ((p ≡ q) × T (is_none (then q)))
  held_then q p h = elim (ℕ_discrete p q) [
    | yes e ↦ inr (e, subst T (passed_here then q) (subst (λ x. T (passed then (q + 1) x)) e h))
    | no n ↦ inl (subst T (passed_more then q p n) h)
  ]

  module _ (q : ℕ) (lt : q < card.points) (m : DecidedTo q) where
    kept : then q ≡ middle q → ((T (is_finish card q) → ⊥) → T (is_none (then q)) → ⊥) → DecidedTo (q + 1)
    kept e never =
        same_held card (card.horizon - t) t (decided middle then (q + 1)) (passed then q) (passed then (q + 1))
        (λ p n h. ⊎_elim (λ x. x) (λ x. absurd (never (subst (λ y. T (is_finish card y) → ⊥) x.0 n) x.1)) (held_then q p h))
        (subst (λ a. Mid card (card.horizon - t) t a (passed then q)) (stays q e) m)

    given : middle q ≡ None → then q ≡ Some t → Mid card (card.horizon - t) t (after t (only q) (decided middle then q)) (passed then q) → DecidedTo (q + 1)
    given n e g =
        same_held card (card.horizon - t) t (decided middle then (q + 1)) (passed then q) (passed then (q + 1))
        (λ p f h. ⊎_elim (λ x. x) (λ x. absurd (subst (λ y. T (is_none y)) e x.1)) (held_then q p h))
        (subst (λ a. Mid card (card.horizon - t) t a (passed then q)) (fun_ext same) g)
      where
        same : (p : ℕ) → after t (only q) (decided middle then q) p ≡ decided middle then (q + 1) p
        same p = ⊎_elim
            (λ s. subst (λ x. after t (only q) (decided middle then q) x ≡ decided middle then (q + 1) x) (sym s)
            (after_new t (only q) (decided middle then q) q (is_only q q refl) (from q q (omega arith) ∙ n) ∙ sym (before (q + 1) q (omega arith) ∙ e)))
            (λ d. after_not t (only q) (decided middle then q) p (λ h. d (only_is q p h)) ∙ sym (other q p d))
            (cases_eq p q)

    held : middle q ≡ None → then q ≡ None → Mid card (card.horizon - t) t (decided middle then q) (also (passed then q) q) → DecidedTo (q + 1)
    unfolding also
    held n e g =
        same_held card (card.horizon - t) t (decided middle then (q + 1)) (also (passed then q) q) (passed then (q + 1))
        (λ p f h. ⊎_elim (λ x. or_left (passed then q p) (eqb p q) x) (λ x. subst (λ y. T (also (passed then q) q y)) (sym x.0) (itself_also (passed then q) q)) (held_then q p h))
        (subst (λ a. Mid card (card.horizon - t) t a (also (passed then q) q)) (stays q (e ∙ sym n)) g)

    step : DecidedTo (q + 1)
    step = ⊎_elim
        (λ f. kept (o.finishes q f) (λ n h. n f))
        (λ f. ⊎_elim
        (λ n. ⊎_elim
        (λ x. given n x.0 x.1)
        (λ x. ⊎_elim (λ g. absurd (x.1 g)) (held n x.0) (gives_or_holds card (card.horizon - t) t (decided middle then q) (passed then q) q m))
        (o.rule q lt f n))
        (λ a. kept (o.given q a.0 a.1 ∙ sym a.1) (λ _ h. absurd (subst (λ y. T (is_none y)) (o.given q a.0 a.1) h)))
        (known_by (middle q)))
        (decide (is_finish card q))

  all_decided : Mid card (card.horizon - t) t middle no_point → (q : ℕ) → q ≤ card.points → DecidedTo q
  all_decided m zero le =
      subst₂ (λ a h. Mid card (card.horizon - t) t a h) (fun_ext (λ p. sym (from 0 p (omega arith)))) (fun_ext (λ p. sym (passed_past then 0 p (omega arith)))) m
  all_decided m (suc q) le = subst DecidedTo (add-one q) (step q (omega arith) (all_decided m q (omega arith)))

  -- when all is decided, nothing is left to give
  pub ordered_wins : Mid card (card.horizon - t) t middle no_point → Win card (card.horizon - t) (suc t) then
  ordered_wins m =
      let x = all_decided m card.points (omega arith) in
      let e : decided middle then card.points ≡ then = fun_ext (λ p. ⊎_elim (λ lt. before card.points p lt) (λ le. from card.points p le ∙ sym (o.beyond p le)) (cases_lt p card.points)) in
      subst (Win card (card.horizon - t) (suc t))
      (after_nothing t x.0 (decided middle then card.points)
      (λ p g.
      let lt = x.1.is_point p g in
      x.2 p (so_back (passed_before then card.points p lt ∙ ap is_none (sym (before card.points p lt) ∙ x.1.not_given p g))) g) ∙ e)
      x.3
