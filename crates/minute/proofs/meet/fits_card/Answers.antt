use Rattle.std.proofs.Common.{ℕ, ◌<◌, length, arith, rules, tests}
use Rattle.std.proofs.lemmas.Bool.{leb-true}
use Rattle.std.proofs.lemmas.Iterator.{cases_from_all, YieldsList-from_slice}
use Rattle.std.proofs.lemmas.Iterator.Consumers.{YieldsList-from_enumerate}
use Rattle.rules.specs.declared.parts.Span.{Span}
use Rattle.rules.specs.Card.{no_span, least_of, most_of, span_count}
use Rattle.network.specs.Model.{model}
use Rattle.minute.specs.Meets.{track_at, Within}
use Rattle.minute.proofs.Alls.{elements_decided}
use Rattle.minute.proofs.Plain.{count_is}
use Rattle.minute.proofs.meet.fits_card.Goals as goal

pub returns-then-spans-count : goal.returns-then-spans-count
unfolding least_of most_of span_count
returns-then-spans-count g c =
    let tracks = g.K.Kitchen.spans c.args.kitchen.now in
    let xs = c.spans-spans.result.now in
    let P : ℕ × Span → Type 0 = λ x. (x.0 < length tracks) × Within x.1.least x.1.most (track_at tracks x.0) in
    let count = count_is c.args.network.now xs c.spans-spans.ensures in
    let x = elements_decided c.all.result xs (model c.args.network.now.content).spans no_span P c.spans-spans.ensures
    (cases_from_all _ _ _ P (λ p. P p → ⊥) c.all.ensures.ran (YieldsList-from_enumerate (YieldsList-from_slice xs (cc)) (cc)) (λ x q h. search (rules, tests)) (λ x q h. search (rules, tests))) in (
      λ e. record { enough = omega (arith, c.count.ensures, count); each = λ s lt. (x.0 e s lt).1 },
      λ f. x.1 (λ s lt. (omega (arith, lt, f.enough), f.each s lt)),
    )

pub returns-else-spans-count : goal.returns-else-spans-count
returns-else-spans-count g c = (
  λ e. absurd (omega (arith, leb-true _ _ e)),
  λ f. absurd (omega (arith, f.enough, c.count.ensures, count_is c.args.network.now c.spans-spans.result.now c.spans-spans.ensures)),
)
