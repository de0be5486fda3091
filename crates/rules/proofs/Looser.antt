-- A looser card than a good one is good.
use Rattle.std.proofs.Common.{◌≡◌, ℕ, zero, suc, ◌<◌, ◌≤◌, Bool, List, ◌≤ℤ◌, sym, refl, ap, ◌∙◌, subst, arith}
use Rattle.std.proofs.lemmas.Int.{ints}
use Rattle.rules.specs.declared.parts.Span.{Span}
use Rattle.rules.specs.declared.parts.Tie.{Tie}
use Rattle.rules.specs.Card.{Card, WellMade, span_count, tie_count, start_of, finish_of, least_of, most_of, from_of, to_of, gap_of, finish_among, is_finish}
use Rattle.rules.specs.Game.{Position, Lawful, Legal, Done, Win, Good, heard, after, opening, no_point}
use Rattle.rules.specs.Theorems.{LooserGood}
use Rattle.rules.proofs.Basics.{clash, after_nothing, among_is}

-- a card of these parts
abbrev with_parts : ℕ → ℕ → List Span → List Tie → Card
with_parts h n spans ties = record { horizon = h; points = n; spans = spans; ties = ties }

-- every tie of the second card follows from a tie of the first
abbrev Implied : Card → Card → Type 0
Implied card other =
    (j : ℕ) → j < tie_count other → (i : ℕ) × (i < tie_count card) × (from_of card i ≡ from_of other j) × (to_of card i ≡ to_of other j) × (gap_of card i ≤ℤ gap_of other j)

module _ (card : Card) (h : ℕ) (ties : List Tie) (made : WellMade card) (implied : Implied card (with_parts h card.points card.spans ties)) where
  abbrev loose : Card
  loose = with_parts h card.points card.spans ties

  lawful : (t : ℕ) (at : Position) (ends : ℕ → Bool) → Lawful loose t at ends → Lawful card t at ends
  unfolding span_count start_of finish_of least_of most_of
  lawful t at ends law = record { started = law.started; unfinished = law.unfinished; within = law.within; forced = law.forced }

  legal : (at : Position) (gives : ℕ → Bool) → Legal card at gives → Legal loose at gives
  unfolding is_finish finish_among span_count finish_of
  legal at gives l = record { is_point = l.is_point; is_order = l.is_order; not_given = l.not_given }

  heard_same : (t : ℕ) (ends : ℕ → Bool) (at : Position) → heard card t ends at ≡ heard loose t ends at
  unfolding finish_among span_count finish_of
  heard_same t ends at = refl

  done : (at : Position) → Done card at → Done loose at
  done at d = record {
    happened = d.happened;
    tied = λ j x y lt e f. let i = implied j lt in omega (arith, ints, d.tied i.0 x y i.1 (ap at i.2 ∙ e) (ap at i.3 ∙ f), i.4);
  }

  -- when everything has happened, nothing happens any more
  still : (t : ℕ) (at : Position) (ends : ℕ → Bool) → Done card at → Lawful card t at ends → after t no_point (heard card t ends at) ≡ at
  still t at ends d law =
      after_nothing t no_point (heard card t ends at) (λ p x. x)
      ∙ after_nothing t (finish_among card ends) at (λ p x.
      let r = among_is card ends p x in
      clash (d.happened (finish_of card r.0) (made.finish_in r.0 r.1)).1 (law.unfinished r.0 r.1 r.2))

  none_given : (at : Position) → Legal loose at no_point
  none_given at = record { is_point = λ p x. absurd x; is_order = λ p x y. x; not_given = λ p x. absurd x }

  idle : (m t : ℕ) (at : Position) → Done card at → Win loose m t at
  idle zero t at d = done at d
  idle (suc m) t at d = λ ends law.
      (no_point, none_given _, subst (Win loose m (suc t)) (sym (still t at ends d (lawful t at ends law)) ∙ ap (after t no_point) (heard_same t ends at)) (idle m (suc t) at d))

  win : (n k t : ℕ) (at : Position) → k ≤ n → Win card k t at → Win loose n t at
  win n zero t at le w = idle n t at w
  win zero (suc k) t at le w = absurd (omega arith)
  win (suc n) (suc k) t at le w = λ ends law.
      let r = w ends (lawful t at ends law) in
      let same = heard_same t ends at in (
        r.0,
        legal _ r.0 (subst (λ a. Legal card a r.0) same r.1),
        subst (λ a. Win loose n (suc t) (after t r.0 a)) same (win n k (suc t) _ (omega arith) r.2),
      )

  pub loose_good : card.horizon ≤ h → Good card → Good loose
  loose_good le good = win (suc h) (suc card.horizon) 0 opening (omega arith) good

pub looser_good : LooserGood
unfolding tie_count from_of to_of gap_of
looser_good card other made looser good =
    subst (λ n. Good (with_parts other.horizon n other.spans other.ties)) looser.points
    (subst (λ spans. Good (with_parts other.horizon card.points spans other.ties)) looser.spans
    (loose_good card other.horizon other.ties made implied looser.horizon good))
  where
    implied : Implied card (with_parts other.horizon card.points card.spans other.ties)
    implied = looser.ties
