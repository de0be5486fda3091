use Rattle.std.proofs.Common.{refl, rules, arith}
use Rattle.judge.specs.declared.relaxation.Relaxation.{Relaxation}
use Rattle.judge.specs.declared.target.Target.TheVariants.{Point, Start}
use Rattle.judge.specs.Closing.{Below, Tied, SpanRules, Chained}
use Rattle.judge.specs.Falling.{card_of}
use Rattle.judge.proofs.Holding.{went_as, went_both, went_each}
use Rattle.judge.proofs.relaxation.Relaxation.pass.Goals as goal

pub returns : goal.returns
returns c =
    let tie_count = c.tie_count-tie_count.result in
    let span_count = c.span_count-span_count.result in
    let Ties : Relaxation → Type 0 = λ r. Below tie_count (Tied (card_of r) r.closure) in
    let Spans : Relaxation → Type 0 = λ r. Below span_count (SpanRules (card_of r) r.closure) in
    let Chains : Relaxation → Type 0 = λ r. Below (card_of r).points (λ q. Chained (card_of r) r.closure (Point q)) in
    let Waits : Relaxation → Type 0 = λ r. Below span_count (λ s. Chained (card_of r) r.closure (Start s)) in
    went_as
    (went_both (λ r. (Ties r × Spans r) × Chains r) Waits
    (went_both (λ r. Ties r × Spans r) Chains
    (went_both Ties Spans
    (went_each _ tie_count tie_count (λ r i. Tied (card_of r) r.closure i) refl c.in_ok-ties.ensures (λ k shown left lk h. search rules))
    (went_each _ span_count span_count (λ r s. SpanRules (card_of r) r.closure s) refl c.in_ok-spans.ensures (λ k shown left lk h. search rules)))
    c.in_ok-chains.ensures)
    (went_each _ span_count span_count (λ r s. Chained (card_of r) r.closure (Start s)) refl c.in_ok-waits.ensures (λ k shown left lk h. search rules)))
    (λ h. record {
      ties = λ i li. h.0.0.0 i (omega (arith, c.tie_count-tie_count.ensures));
      spans = λ s ls. h.0.0.1 s (omega (arith, c.span_count-span_count.ensures));
      chains = h.0.1;
      waits = λ s ls. h.1 s (omega (arith, c.span_count-span_count.ensures));
    })
