-- What a network's spans tell of its card, in plain terms.
use Rattle.std.proofs.Common.{◌≡◌, ℕ, ◌<◌, true, false, List, length, get_or, Some, None, Option, sym, refl, ap, arith}
use Rattle.std.proofs.lemmas.Bool.{false≢true}
use Rattle.std.specs.Option.{is_some}
use Rattle.rules.specs.declared.parts.Span.{Span}
use Rattle.rules.specs.Card.{no_span, span_count, start_of, finish_of}
use Rattle.network.specs.declared.network.Network.{Network}
use Rattle.network.specs.Model.{model}
use Rattle.network.proofs.Made.{well_made}

module _ (n : Network) (spans : List Span) (e : spans ≡ (model n.content).spans) where
  pub count_is : length spans ≡ span_count (model n.content)
  unfolding span_count
  count_is = ap length e

  pub start_is : (s : ℕ) → (get_or spans s no_span).start ≡ start_of (model n.content) s
  unfolding start_of
  start_is s = ap (λ xs. (get_or xs s no_span).start) e

  pub finish_is : (s : ℕ) → (get_or spans s no_span).finish ≡ finish_of (model n.content) s
  unfolding finish_of
  finish_is s = ap (λ xs. (get_or xs s no_span).finish) e

  pub start_in : (s : ℕ) → s < length spans → (get_or spans s no_span).start < n.content.points
  start_in s lt = omega (arith, start_is s, (well_made n).start_in s (omega (arith, count_is)))

  pub finish_in : (s : ℕ) → s < length spans → (get_or spans s no_span).finish < n.content.points
  finish_in s lt = omega (arith, finish_is s, (well_made n).finish_in s (omega (arith, count_is)))

-- ---- a point's minute, tested

pub absent : (o : Option ℕ) → is_some o ≡ false → o ≡ None
absent None e = refl
absent (Some a) e = absurd (false≢true (sym e))

pub present : (o : Option ℕ) → is_some o ≡ true → (a : ℕ) × (o ≡ Some a)
present (Some a) e = (a, refl)
present None e = absurd (false≢true e)
