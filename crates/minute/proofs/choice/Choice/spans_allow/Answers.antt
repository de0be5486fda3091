use Rattle.std.proofs.Common.{◌≡◌, ℕ, ◌<◌, length, pos, ◌+ℤ◌, ◌≤ℤ◌, None, ap, ◌∙◌, arith, rules, tests}
use Rattle.std.proofs.lemmas.Iterator.{cases_from_all, YieldsList-from_slice}
use Rattle.std.proofs.lemmas.Iterator.Consumers.{YieldsList-from_enumerate}
use Rattle.std.proofs.lemmas.Iterator.Adapters.{serves_from_places}
use Rattle.rules.specs.declared.parts.Span.{Span}
use Rattle.std.proofs.lemmas.List.{get_or_default}
use Rattle.std.proofs.lemmas.List.FromFn.{length-enumerate_from, get_or-enumerate_from}
use Rattle.rules.specs.Card.{no_span, start_of, finish_of, span_count}
use Rattle.network.proofs.Parts.{span_count_is}
use Rattle.judge.specs.Closures.{wait}
use Rattle.network.specs.Model.{model}
use Rattle.minute.specs.Minutes.{at, marked}
use Rattle.minute.specs.Deciding.{soonest}
use Rattle.minute.proofs.Alls.{elements_decided}
use Rattle.minute.proofs.Plain.{count_is, start_in}
use Rattle.minute.proofs.choice.Choice.spans_allow.Goals as goal

pub all-requires-clause-callable : goal.all-requires-clause-callable
all-requires-clause-callable c =
    let n = c.args.self.now.minute.network.now in
    let xs = c.spans-spans.result.now in
    serves_from_places (YieldsList-from_enumerate (YieldsList-from_slice xs (cc)) (cc)) (λ x q h. search (rules, tests))
    (λ x k lt e.
    let below : k < length xs = omega (arith, lt, length-enumerate_from 0 xs) in
    let item = e ∙ get_or-enumerate_from 0 xs k (x.0, x.1.now) below in
    let few : x.0 < 8 = omega (arith, ap (λ p. p.0) item, below, count_is n xs c.spans-spans.ensures, span_count_is n) in
    let start : x.1.now.start < 32 = omega (arith, ap (λ p. p.1.start) item, ap (λ s. s.start) (get_or_default xs k x.1.now no_span below), start_in n xs c.spans-spans.ensures k below) in
    search rules)

pub returns : goal.returns
unfolding start_of finish_of span_count
returns c =
    let k = c.args.self.now in
    let then = at k.position.now.minutes in
    let xs = c.spans-spans.result.now in
    let P : ℕ × Span → Type 0 = λ x. then x.1.finish ≡ None → pos (soonest k.minute.t (then x.1.start) (marked k.late.now x.1.start)) ≤ℤ (pos k.minute.t +ℤ wait k.closure.now x.0 c.args.q) in
    elements_decided c.all.result xs (model k.minute.network.now.content).spans no_span P c.spans-spans.ensures
    (cases_from_all _ _ _ P (λ p. P p → ⊥) c.all.ensures.ran (YieldsList-from_enumerate (YieldsList-from_slice xs (cc)) (cc)) (λ x q h. search (rules, tests)) (λ x q h. search (rules, tests)))
