use Rattle.std.proofs.Common.{ℕ, ◌<◌, length, arith, rules, tests}
use Rattle.std.proofs.lemmas.Iterator.{cases_from_all, YieldsList-from_slice}
use Rattle.std.proofs.lemmas.Iterator.Consumers.{YieldsList-from_enumerate}
use Rattle.rules.specs.declared.parts.Span.{Span}
use Rattle.rules.specs.Card.{no_span, start_of, finish_of, span_count}
use Rattle.network.specs.Model.{model}
use Rattle.minute.specs.Minutes.{at}
use Rattle.minute.specs.Meets.{track_at, Tells}
use Rattle.minute.proofs.Alls.{elements_decided}
use Rattle.minute.proofs.playing.Minute.agrees.Goals as goal

pub returns : goal.returns
unfolding start_of finish_of span_count
returns g c =
    let n = c.args.self.now.network.now in
    let position = at c.args.position.now.minutes in
    let tracks = g.K.Kitchen.spans c.args.kitchen.now in
    let xs = c.spans-spans.result.now in
    let P : ℕ × Span → Type 0 = λ x. (x.0 < length tracks) × Tells c.args.self.now.t (position x.1.start) (position x.1.finish) (track_at tracks x.0).status in
    let x = elements_decided c.all.result xs (model c.args.self.now.network.now.content).spans no_span P c.spans-spans.ensures
    (cases_from_all _ _ _ P (λ p. P p → ⊥) c.all.ensures.ran (YieldsList-from_enumerate (YieldsList-from_slice xs (cc)) (cc)) (λ x q h. search (rules, tests)) (λ x q h. search (rules, tests))) in
    (λ e s lt. (x.0 e s lt).1, λ a. x.1 (λ s lt. (omega (arith, c.requires, lt), a s lt)))
