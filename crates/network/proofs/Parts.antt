-- The parts of a card, by number, are those of its arrays.
use Rattle.std.proofs.Common.{◌≡◌, ℕ, ◌<◌, Bool, true, false, T, length, get_or, MatchBool, sym, ap, subst, arith, length-take-le, get_or-take}
use Rattle.std.specs.List.{HoldsAt, AllWithin}
use Rattle.rules.specs.Card.{Card, no_span, no_tie, span_count, tie_count, start_of, finish_of, least_of, most_of, from_of, to_of, gap_of, is_finish}
use Rattle.rules.proofs.Flags.{so, not_so}
use Rattle.rules.proofs.Basics.{finish_is as the-span, is_finish_of}
use Rattle.network.specs.declared.content.Content.{Content}
use Rattle.network.specs.declared.network.Network.{Network}
use Rattle.network.specs.Model.{model}

module _ (n : Network) where
  pub span_count_is : span_count (model n.content) ≡ n.content.spanned
  unfolding span_count
  span_count_is = length-take-le _ _ (omega arith)

  pub tie_count_is : tie_count (model n.content) ≡ n.content.tied
  unfolding tie_count
  tie_count_is = length-take-le _ _ (omega arith)

module _ (c : Content) (s : ℕ) (h : s < c.spanned) where
  pub span_is : get_or (model c).spans s no_span ≡ get_or c.spans s no_span
  span_is = get_or-take _ _ _ _ h

  pub start_is : start_of (model c) s ≡ (get_or c.spans s no_span).start
  unfolding start_of
  start_is = ap (λ x. x.start) span_is

  pub finish_is : finish_of (model c) s ≡ (get_or c.spans s no_span).finish
  unfolding finish_of
  finish_is = ap (λ x. x.finish) span_is

  pub least_is : least_of (model c) s ≡ (get_or c.spans s no_span).least
  unfolding least_of
  least_is = ap (λ x. x.least) span_is

  pub most_is : most_of (model c) s ≡ (get_or c.spans s no_span).most
  unfolding most_of
  most_is = ap (λ x. x.most) span_is

module _ (c : Content) (i : ℕ) (h : i < c.tied) where
  pub tie_is : get_or (model c).ties i no_tie ≡ get_or c.ties i no_tie
  tie_is = get_or-take _ _ _ _ h

  pub from_is : from_of (model c) i ≡ (get_or c.ties i no_tie).from
  unfolding from_of
  from_is = ap (λ x. x.from) tie_is

  pub to_is : to_of (model c) i ≡ (get_or c.ties i no_tie).to
  unfolding to_of
  to_is = ap (λ x. x.to) tie_is

  pub gap_is : gap_of (model c) i ≡ (get_or c.ties i no_tie).gap
  unfolding gap_of
  gap_is = ap (λ x. x.gap) tie_is

-- ---- finishes

-- a search through the spans for a finish tells whether the point is one
pub finish_found : (card : Card) (p : ℕ) (r : Bool)
    → MatchBool r ((s : ℕ) × (s < length card.spans) × HoldsAt (λ x. x.finish ≡ p) card.spans s) (AllWithin (λ x. x.finish ≡ p → ⊥) card.spans 0 (length card.spans))
    → r ≡ is_finish card p
unfolding span_count finish_of
finish_found card p true found = sym (so (subst (λ q. T (is_finish card q)) (found.2 no_span) (is_finish_of card found.0 found.1)))
finish_found card p false none =
    sym (not_so (λ t. let r = the-span card p t in none r.0 no_span (omega arith) r.1 r.2))
