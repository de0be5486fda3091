use Rattle.std.proofs.Common.{refl, rules, arith}
use Rattle.judge.specs.declared.relaxation.Relaxation.{Relaxation}
use Rattle.judge.specs.declared.target.Target.TheVariants.{Point, Start}
use Rattle.judge.specs.Closing.{Below, Spanned, Lowered, Freed}
use Rattle.judge.specs.Falling.{card_of}
use Rattle.judge.proofs.Holding.{went_as, went_both, went_each}
use Rattle.judge.proofs.relaxation.Relaxation.span_rules.Goals as goal

pub returns : goal.returns
returns c =
    let s = c.args.s in
    let points = c.points-points.result in
    let spans = c.span_count-spans.result in
    let Given : Relaxation → Type 0 = λ r. Spanned (card_of r) r.closure s in
    let Low : Relaxation → Type 0 = λ r. Below points (λ q. Lowered (card_of r) r.closure s (Point q)) in
    let Cross : Relaxation → Type 0 = λ r. Below spans (λ x. Lowered (card_of r) r.closure s (Start x)) in
    let Free : Relaxation → Type 0 = λ r. Below points (Freed (card_of r) r.closure s) in
    went_as
    (went_both (λ r. (Given r × Low r) × Cross r) Free
    (went_both (λ r. Given r × Low r) Cross
    (went_both Given Low c.in_ok-given.ensures
    (went_each _ points points (λ r q. Lowered (card_of r) r.closure s (Point q)) refl c.in_ok-lowered.ensures (λ k shown left lk h. search rules)))
    (went_each _ spans spans (λ r x. Lowered (card_of r) r.closure s (Start x)) refl c.in_ok-crossed.ensures (λ k shown left lk h. search rules)))
    (went_each _ points points (λ r p. Freed (card_of r) r.closure s p) refl c.in_ok-freed.ensures (λ k shown left lk h. search rules)))
    (λ h. record {
      given = h.0.0.0;
      lowered = λ q lq. h.0.0.1 q (omega (arith, c.points-points.ensures));
      crossed = λ x lx. h.0.1 x (omega (arith, c.span_count-spans.ensures));
      freed = λ p lp. h.1 p (omega (arith, c.points-points.ensures));
    })
