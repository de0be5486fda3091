-- Building leaves a place for one tie more.
use Rattle.std.proofs.Common.{◌≡◌, ℕ, ◌<◌, ◌≤◌, [], ◌∷◌, Some, None, Option, refl, ap, arith, length-append}
use Rattle.std.proofs.lemmas.Bool.Decides.{nat_tests}
use Rattle.rules.specs.declared.parts.Tie.{Tie}
use Rattle.rules.specs.declared.refusal.Refusal.{Refusal}
use Rattle.rules.specs.Card.{Card, tie_count}
use Rattle.rules.specs.Calls.{fresh, unless, or_else, open_fault, order_fault, span_fault, try_fault, tie_fault, with_order, with_span, with_tie, opened, ordered, spanned, tied}
use Rattle.network.specs.declared.network.Network.{Network}
use Rattle.network.specs.Model.{model}
use Rattle.network.proofs.Parts.{tie_count_is}

unless_few : (f : Option Refusal) (made card : Card) → (f ≡ None → tie_count made ≤ 96) → tie_count card ≤ 96 → tie_count (unless f made card) ≤ 96
unless_few (Some e) made card m h = h
unless_few None made card m h = m refl

no_fault : (f : Option Refusal) (g : Option Refusal) → or_else f g ≡ None → g ≡ None
no_fault (Some e) g q = let z : ◌≡◌ {A = ℕ} 0 1 = cc in absurd (omega arith)
no_fault None g q = q

module _ (card : Card) (few : tie_count card ≤ 96) where
  pub opened_few : (h : ℕ) → tie_count (opened h card) ≤ 96
  unfolding tie_count
  opened_few h = unless_few (open_fault h) (fresh h) card (λ e. omega arith) few

  pub ordered_few : tie_count (ordered card) ≤ 96
  unfolding tie_count
  ordered_few = unless_few (order_fault card) (with_order card) card (λ e. few) few

  pub spanned_few : (a l u : ℕ) → tie_count (spanned a l u card) ≤ 96
  unfolding tie_count
  spanned_few a l u = unless_few (span_fault card a l u) (with_span card a l u) card (λ e. few) few

  room : (t : Tie) → tie_fault card t ≡ None → tie_count card < 96
  room t e = let r = no_fault (try_fault card t) _ e in grind (arith, nat_tests)

  pub tied_few : (t : Tie) → tie_count (tied t card) ≤ 96
  unfolding tie_count
  tied_few t = unless_few (tie_fault card t) (with_tie card t) card (λ e. omega (arith, length-append card.ties (t ∷ []), room t e)) few

-- a network that stands for a card of few ties has few
pub few_ties : (n : Network) (card : Card) → model n.content ≡ card → tie_count card ≤ 96 → n.content.tied ≤ 96
few_ties n card e h = omega (arith, tie_count_is n, ap tie_count e)

pub ties_few : (n : Network) → n.content.tied ≤ 96 → tie_count (model n.content) ≤ 96
ties_few n h = omega (arith, tie_count_is n)
