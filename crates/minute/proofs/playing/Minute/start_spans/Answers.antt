use Rattle.std.proofs.Common.{◌≡◌, ◌+◌, sym, ap, ◌∙◌, subst, arith}
use Rattle.network.specs.Model.{model}
use Rattle.kitchen.specs.Kitchens.{Started}
use Rattle.minute.specs.Minutes.{at, is_at}
use Rattle.minute.specs.Played.{meaning, starting, Starts}
use Rattle.minute.proofs.Plain.{count_is, start_is}
use Rattle.minute.proofs.Starting.{accepted, starts_long, starts_beyond, skips, starts_one}
use Rattle.minute.proofs.playing.Minute.start_spans.Goals as goal
use Rattle.minute.proofs.playing.Minute.start_spans.Goals.{then-happens, else-happens}

pub loop-s-preserved : goal.loop-s-preserved
unfolding starting
loop-s-preserved g c =
    let n = c.args.self.now.network.now in
    let t = c.args.self.now.t in
    let position = at c.args.position.now.minutes in
    let new = starting (model n.content) position t in
    let means = meaning g.K.Kitchen.spans g.K.Kitchen.starts g.K.Kitchen.advances in
    let k = c.args.kitchen.now in
    let l = c.loop-s.kitchen in
    let s = c.loop-s.s in
    let spans = c.spans-spans.result.now in
    let count = count_is n spans c.spans-spans.ensures in
    let tested : c.happens.result ≡ new s = c.happens.ensures ∙ ap (λ p. is_at t (position p)) (start_is n spans c.spans-spans.ensures s) in
    elim c.if-happens.branch [
      | then-happens w ↦
          let cold = ap (λ x. x.status) (starts_beyond means new s k l c.loop-s.invariant s (omega arith)) ∙ c.requires.cold s (omega arith) (sym tested ∙ w.if-happens.true) in
          let m = w.start.new.self in
          let ok = accepted (g.K.Kitchen.spans l) (g.K.Kitchen.spans m) s w.start.result (omega (arith, starts_long means new s k l c.loop-s.invariant, c.requires.enough)) cold w.start.ensures.rule in
          subst (Starts means new (s + 1) k) (sym w.kitchen-is) (starts_one means new s k l m c.loop-s.invariant (sym tested ∙ w.if-happens.true)
          (subst (λ r. Started (g.K.Kitchen.spans l) s r (g.K.Kitchen.spans m)) ok w.start.ensures.rule, subst (λ r. g.K.Kitchen.starts l s r m) ok w.start.ensures.own))
      | else-happens w ↦ subst (Starts means new (s + 1) k) (sym w.kitchen-is) (skips means new s k l c.loop-s.invariant (sym tested ∙ w.if-happens.false))
    ]
