-- The finishes of spans, found one after the other.
use Rattle.std.proofs.Common.{◌≡◌, ℕ, ◌+◌, ◌<◌, Bool, true, false, ◌&&◌, ◌||◌, T, eqb, List, Some, None, Option, sym, refl, ap, ◌∙◌, ap₂, ⊎_elim, add-one, arith}
use mathlib.Core.Path.{fun_ext}
use Rattle.std.proofs.Math.Bool.{or_comm, and-false}
use Rattle.std.proofs.lemmas.Bool.{eqb-true, eq-eqb, ne_eqb, cases_eq}
use Rattle.rules.specs.Card.{Card, WellMade, span_count, finish_of, any_below, finish_among, is_finish}
use Rattle.rules.specs.Game.{Position, settle, after, only, also}
use Rattle.rules.proofs.Flags.{so}
use Rattle.rules.proofs.Basics.{any_is, and_right, after_back, after_none}
use Rattle.kitchen.specs.declared.track.Track.{Track}
use Rattle.kitchen.specs.Tracks.{is_done}
use Rattle.minute.specs.Minutes.{is_none}
use Rattle.minute.specs.Meets.{track_at}
use Rattle.minute.specs.Played.{ended}

-- the finishes of those of the first n spans for which `these` holds
unfoldable pub found : Card → (ℕ → Bool) → ℕ → ℕ → Bool
found card these n p = any_below n (λ s. these s && eqb (finish_of card s) p)

pub found_all : (card : Card) (these : ℕ → Bool) (n : ℕ) → n ≡ span_count card → found card these n ≡ finish_among card these
unfolding found finish_among
found_all card these n e = fun_ext (λ p. ap (λ m. any_below m (λ s. these s && eqb (finish_of card s) p)) e)

pub found_finishes : (card : Card) (n : ℕ) → n ≡ span_count card → found card (λ s. true) n ≡ is_finish card
unfolding is_finish
found_finishes card n e = found_all card (λ s. true) n e

found_more : (card : Card) (these : ℕ → Bool) (n p : ℕ) → found card these (n + 1) p ≡ ((these n && eqb (finish_of card n) p) || found card these n p)
unfolding found any_below
found_more card these n p = ap (λ m. any_below m (λ s. these s && eqb (finish_of card s) p)) (add-one n)

flip : (a b : ℕ) → eqb a b ≡ eqb b a
flip a b = ⊎_elim (λ e. eq-eqb a b e ∙ sym (eq-eqb b a (sym e))) (λ n. ne_eqb a b n ∙ sym (ne_eqb b a (λ e. n (sym e)))) (cases_eq a b)

pub none_found : (card : Card) (these : ℕ → Bool) (p : ℕ) → found card these 0 p ≡ false
unfolding found any_below
none_found card these p = refl

skipped : (card : Card) (these : ℕ → Bool) (s : ℕ) → these s ≡ false → found card these (s + 1) ≡ found card these s
skipped card these s e = fun_ext (λ p. found_more card these s p ∙ ap (λ b. (b && eqb (finish_of card s) p) || found card these s p) e)

pub added : (card : Card) (these : ℕ → Bool) (s : ℕ) → these s ≡ true → found card these (s + 1) ≡ also (found card these s) (finish_of card s)
unfolding also
added card these s e = fun_ext (λ p. found_more card these s p ∙ ap₂ (λ b x. (b && x) || found card these s p) e (flip (finish_of card s) p) ∙ or_comm (eqb p (finish_of card s)) (found card these s p))

-- ---- the finishes of a minute

pub none_new : (t : ℕ) (at : Position) (new : ℕ → Bool) → ((p : ℕ) → new p ≡ false) → at ≡ after t new at
unfolding after
none_new t at new none = fun_ext (λ p. sym (ap (settle t (at p)) (none p) ∙ by (at p)))
  where
    by : (o : Option ℕ) → settle t o false ≡ o
    by None = refl
    by (Some a) = refl

twice : (t : ℕ) (at : Position) (new : ℕ → Bool) (q : ℕ) → after t (only q) (after t new at) ≡ after t (also new q) at
unfolding after only also
twice t at new q = fun_ext (λ p. by (at p) (new p) (eqb p q))
  where
    by : (o : Option ℕ) (a b : Bool) → settle t (settle t o a) b ≡ settle t o (a || b)
    by (Some x) a b = refl
    by None true b = refl
    by None false true = refl
    by None false false = refl

module _ (card : Card) (made : WellMade card) (at : Position) (spans : List Track) (t s : ℕ) (lt : s < span_count card) (now : Position)
    (e : now ≡ after t (found card (ended card at spans) s) at) where
  -- no earlier span has this finish
  fresh : T (found card (ended card at spans) s (finish_of card s)) → ⊥
  unfolding found
  fresh h =
      let x = any_is s (λ r. ended card at spans r && eqb (finish_of card r) (finish_of card s)) h in
      absurd (omega (arith, x.1, made.finish_apart x.0 s (omega (arith, x.1)) lt (eqb-true (finish_of card x.0) (finish_of card s) (so (and_right (ended card at spans x.0) _ x.2)))))

  skip : ended card at spans s ≡ false → now ≡ after t (found card (ended card at spans) (s + 1)) at
  skip n = e ∙ ap (λ f. after t f at) (sym (skipped card (ended card at spans) s n))

  pub over_already : (a : ℕ) → now (finish_of card s) ≡ Some a → now ≡ after t (found card (ended card at spans) (s + 1)) at
  unfolding ended
  over_already a h =
      ⊎_elim
      (λ x. skip (ap (λ o. is_done (track_at spans s).status && is_none o) x ∙ and-false (is_done (track_at spans s).status)))
      (λ x. absurd (fresh x.1))
      (after_back t (found card (ended card at spans) s) at (finish_of card s) a (sym (ap (λ f. f (finish_of card s)) e) ∙ h))

  pub on_still : is_done (track_at spans s).status ≡ false → now ≡ after t (found card (ended card at spans) (s + 1)) at
  unfolding ended
  on_still d = skip (ap (λ b. b && is_none (at (finish_of card s))) d)

  pub ends_now : is_done (track_at spans s).status ≡ true → now (finish_of card s) ≡ None → after t (only (finish_of card s)) now ≡ after t (found card (ended card at spans) (s + 1)) at
  unfolding ended
  ends_now d h =
      let n = (after_none t (found card (ended card at spans) s) at (finish_of card s) (sym (ap (λ f. f (finish_of card s)) e) ∙ h)).0 in
      ap (after t (only (finish_of card s))) e ∙ twice t at (found card (ended card at spans) s) (finish_of card s)
      ∙ ap (λ f. after t f at) (sym (added card (ended card at spans) s (ap₂ (λ b o. b && is_none o) d n)))
