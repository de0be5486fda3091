use Rattle.std.proofs.Common.{◌≡◌, not, sym, ap, ◌∙◌, arith}
use Rattle.rules.specs.Card.{finish_of}
use Rattle.rules.specs.Game.{after, only}
use Rattle.network.specs.Model.{model}
use Rattle.network.proofs.Made.{well_made}
use Rattle.minute.specs.Minutes.{at}
use Rattle.minute.specs.Played.{ended}
use Rattle.minute.proofs.Plain.{count_is, finish_is, absent, present}
use Rattle.minute.proofs.Hearing.{found_all, none_new, none_found, over_already, on_still, ends_now}
use Rattle.minute.proofs.playing.Minute.record_finishes.Goals as goal
use Rattle.minute.proofs.playing.Minute.record_finishes.Goals.{then-is_none+then-has_ended, else-is_none, else-is_none-via-then-is_none+else-has_ended, else-is_none-via-else-is_none}

pub loop-s-init : goal.loop-s-init
loop-s-init g c = none_new c.args.self.now.t (at c.args.position.now.minutes) _ (none_found (model c.args.self.now.network.now.content) (ended (model c.args.self.now.network.now.content) (at c.args.position.now.minutes) (g.K.Kitchen.spans c.args.kitchen.now)))

pub loop-s-preserved : goal.loop-s-preserved
loop-s-preserved g c =
    let n = c.args.self.now.network.now in
    let t = c.args.self.now.t in
    let s = c.loop-s.s in
    let spans = c.spans-spans.result.now in
    let count = count_is n spans c.spans-spans.ensures in
    let now = at c.loop-s.position.minutes in
    let f : c.from-finish.result ≡ finish_of (model n.content) s = c.from-finish.ensures ∙ finish_is n spans c.spans-spans.ensures s in
    let told : c.get.result ≡ now (finish_of (model n.content) s) = c.get.ensures ∙ ap now f in
    elim c.if-is_none.branch [
      | then-is_none+then-has_ended w ↦
          ap (λ x. at x.minutes) w.position-is
          ∙ w.set.ensures
          ∙ ap (λ p. after t (only p) now) f
          ∙ ends_now (model n.content) (well_made n) (at c.args.position.now.minutes) (g.K.Kitchen.spans c.args.kitchen.now) t s (omega arith) now c.loop-s.invariant
          (sym w.has_ended.ensures ∙ w.if-has_ended.true)
          (sym told ∙ absent c.get.result (c.is_none.ensures ∙ ap not w.if-is_none.true))
      | else-is_none w ↦
          ap (λ x. at x.minutes) w.position-is
          ∙ elim w.else-is_none.branch [
            | else-is_none-via-then-is_none+else-has_ended w' ↦
                on_still (model n.content) (well_made n) (at c.args.position.now.minutes) (g.K.Kitchen.spans c.args.kitchen.now) t s (omega arith) now c.loop-s.invariant
                (sym w'.has_ended.ensures ∙ w'.if-has_ended.false)
            | else-is_none-via-else-is_none w' ↦
                let x = present c.get.result (c.is_none.ensures ∙ ap not w'.if-is_none.false) in
                over_already (model n.content) (well_made n) (at c.args.position.now.minutes) (g.K.Kitchen.spans c.args.kitchen.now) t s (omega arith) now c.loop-s.invariant x.0
                (sym told ∙ x.1)
          ]
    ]

pub returns : goal.returns
returns g c =
    let card = model c.args.self.now.network.now.content in
    c.loop-s.invariant
    ∙ ap (λ f. after c.args.self.now.t f (at c.args.position.now.minutes))
    (found_all card (ended card (at c.args.position.now.minutes) (g.K.Kitchen.spans c.args.kitchen.now)) c.loop-s.s (omega (arith, count_is c.args.self.now.network.now c.spans-spans.result.now c.spans-spans.ensures)))
