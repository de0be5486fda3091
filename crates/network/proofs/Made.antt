-- What a network keeps makes its card well made.
use Rattle.std.proofs.Common.{◌≡◌, ℕ, ◌<◌, ◌≤◌, ◌⊎◌, pos, negsuc, ◌≤ℤ◌, sym, ◌∙◌, subst, ⊎_elim, arith}
use native.Mathlib.Decide.{ℕ_discrete}
use Rattle.rules.specs.Card.{WellMade, span_count, tie_count, start_of, finish_of, most_of, from_of, to_of, gap_of}
use Rattle.network.specs.declared.network.Network.{Network}
use Rattle.network.specs.Model.{model}
use Rattle.network.proofs.Parts.{span_count_is, tie_count_is, start_is, finish_is, least_is, most_is, from_is, to_is, gap_is}

module _ (n : Network) where
  -- numbers of the card are numbers of the arrays
  pub span_in : (s : ℕ) → s < span_count (model n.content) → s < n.content.spanned
  span_in s h = omega (arith, span_count_is n)

  pub tie_in : (i : ℕ) → i < tie_count (model n.content) → i < n.content.tied
  tie_in i h = omega (arith, tie_count_is n)

  pub start_before : (s : ℕ) → s < span_count (model n.content) → start_of (model n.content) s < finish_of (model n.content) s
  start_before s h = let k = span_in s h in omega (arith, start_is n.content s k, finish_is n.content s k, (n.lead s k).0)

  finish_inside : (s : ℕ) → s < span_count (model n.content) → finish_of (model n.content) s < n.content.points
  finish_inside s h = let k = span_in s h in omega (arith, finish_is n.content s k, (n.lead s k).1)

  finishes_rise : (r s : ℕ) → r < s → s < span_count (model n.content) → finish_of (model n.content) r < finish_of (model n.content) s
  finishes_rise r s lt h =
      let k = span_in s h in
      let j : r < n.content.spanned = omega arith in
      omega (arith, finish_is n.content r j, finish_is n.content s k, n.rise s k r lt)

  pub most_in : (s : ℕ) → s < span_count (model n.content) → most_of (model n.content) s ≤ 1440
  most_in s h = let k = span_in s h in omega (arith, most_is n.content s k, (n.last s k).2)

  pub apart : (i : ℕ) → i < tie_count (model n.content) → from_of (model n.content) i ≡ to_of (model n.content) i → ⊥
  apart i h e = let k = tie_in i h in (n.joined i k).2 (sym (from_is n.content i k) ∙ e ∙ to_is n.content i k)

  pub gap_in : (i : ℕ) → i < tie_count (model n.content) → (negsuc 1439 ≤ℤ gap_of (model n.content) i) × (gap_of (model n.content) i ≤ℤ pos 1440)
  gap_in i h = let k = tie_in i h in subst (λ g. (negsuc 1439 ≤ℤ g) × (g ≤ℤ pos 1440)) (sym (gap_is n.content i k)) (n.near i k)

  same_finish : (s r : ℕ) → s < span_count (model n.content) → r < span_count (model n.content) → finish_of (model n.content) s ≡ finish_of (model n.content) r → s < r → ⊥
  same_finish s r h k e lt = omega (arith, finishes_rise s r lt k, e)

  pub well_made : WellMade (model n.content)
  well_made = record {
    some_point = n.counts.1.0;
    one_least = λ s h. let k = span_in s h in omega (arith, least_is n.content s k, (n.last s k).0);
    least_most = λ s h. let k = span_in s h in omega (arith, least_is n.content s k, most_is n.content s k, (n.last s k).1);
    start_in = λ s h. omega (arith, start_before s h, finish_inside s h);
    finish_in = finish_inside;
    finish_later = λ s h. omega (arith, start_before s h);
    finish_apart = λ s r h k e.
        elim (ℕ_discrete s r) [
          | yes q ↦ q
          | no q ↦ absurd (⊎_elim (same_finish s r h k e) (same_finish r s k h (sym e)) (either s r q))
        ];
    from_in = λ i h. let k = tie_in i h in omega (arith, from_is n.content i k, (n.joined i k).0);
    to_in = λ i h. let k = tie_in i h in omega (arith, to_is n.content i k, (n.joined i k).1);
  }
    where
      either : (s r : ℕ) → (s ≡ r → ⊥) → (s < r) ⊎ (r < s)
      either s r q = search arith
