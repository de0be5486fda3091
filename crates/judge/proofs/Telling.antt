-- Why a mark is right, and that goodness grows with the horizon.
use Rattle.std.proofs.Common.{◌≡◌, ℕ, zero, suc, ◌<◌, ◌≤◌, [], ◌∷◌, Some, None, Option, MatchOption, refl, arith}
use Rattle.std.specs.List.{HoldsAt, AllWithin}
use Rattle.std.proofs.lemmas.Int.{ints}
use Rattle.rules.specs.Card.{Card, WellMade, span_count, start_of, finish_of, least_of, most_of, tie_count, from_of, to_of, gap_of}
use Rattle.rules.specs.Calls.{with_horizon}
use Rattle.rules.specs.Game.{Good}
use Rattle.rules.proofs.Derived.{derived_wider}
use Rattle.rules.proofs.Listed.{lists_tell, loops_listed}
use Rattle.rules.proofs.Looser.{looser_good}
use Rattle.rules.proofs.Marks.{loops_lose}
use Rattle.rules.proofs.Strategy.{tables_win}
use Rattle.judge.specs.declared.closure.Closure.{Closure}
use Rattle.judge.specs.declared.marking.Mark.TheVariants as mark
use Rattle.judge.specs.Closures.{distance, wait, Winning}
use Rattle.judge.specs.Closing.{Doomed}
use Rattle.judge.specs.Marks.{Marks, Stretched}

module _ (card : Card) (made : WellMade card) where
  pub marks_good : (t : Closure) → Winning card t → Marks card mark.Good
  marks_good t w =
      let good : Good card = tables_win card (distance t) (wait t) made w.closed w.sound in
      record {
        good = (λ _. good, λ _. refl);
        listed = (λ bad. absurd (bad good), λ l. lists_tell card made l.0 l.1);
      }

  pub marks_bad : Doomed card → Marks card mark.Bad
  marks_bad d =
      let bad : Good card → ⊥ = loops_lose card made d.kind d.point d.weight (derived_wider (λ e w. tt) d.loop) d.negative in
      record {
        good = (λ e. let z : ◌≡◌ {A = ℕ} 0 1 = cc in absurd (omega arith), λ good. absurd (bad good));
        listed = (λ _. loops_listed card d.kind d.point d.weight d.loop d.negative, λ l. lists_tell card made l.0 l.1);
      }

  -- a horizon is no part of being well made
  pub well_made_with : (h : ℕ) → WellMade (with_horizon card h)
  unfolding span_count least_of most_of start_of finish_of tie_count from_of to_of
  well_made_with h = record {
    some_point = made.some_point;
    one_least = made.one_least;
    least_most = made.least_most;
    start_in = made.start_in;
    finish_in = made.finish_in;
    finish_later = made.finish_later;
    finish_apart = made.finish_apart;
    from_in = made.from_in;
    to_in = made.to_in;
  }

  -- with a longer horizon a good card is good
  pub longer_good : (h k : ℕ) → h ≤ k → Good (with_horizon card h) → Good (with_horizon card k)
  unfolding tie_count from_of to_of gap_of
  longer_good h k le good =
      looser_good (with_horizon card h) (with_horizon card k) (well_made_with h)
      (record { points = refl; spans = refl; horizon = le; ties = λ j lj. (j, lj, refl, refl, omega (arith, ints)) }) good

  -- of the card's own horizon and the longest, the first with which the card is good
  pub stretched : (own : ℕ) (r : Option ℕ) → own ≡ card.horizon → card.horizon ≤ 1440 → MatchOption r (AllWithin (λ h. Good (with_horizon card h) → ⊥) (own ∷ 1440 ∷ []) 0 2) (λ h. Good (with_horizon card h) × (i : ℕ) × (i < 2) × HoldsAt (λ y. y ≡ h) (own ∷ 1440 ∷ []) i × AllWithin (λ y. Good (with_horizon card y) → ⊥) (own ∷ 1440 ∷ []) 0 i) → Stretched card r
  stretched own None e l bad = λ h low high good. bad 1 0 (omega arith) (omega arith) (longer_good h 1440 high good)
  stretched own (Some h) e l found = found_at found.1 found.2 found.3
    where
      found_at : (i : ℕ) → i < 2 → HoldsAt (λ y. y ≡ h) (own ∷ 1440 ∷ []) i → Stretched card (Some h)
      found_at zero lt at = (omega (arith, at 0), omega (arith, at 0), found.0)
      found_at (suc zero) lt at = (omega (arith, at 0), omega (arith, at 0), found.0)
      found_at (suc (suc i)) lt at = absurd (omega arith)
