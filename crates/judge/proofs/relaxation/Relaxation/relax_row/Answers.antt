use Rattle.std.proofs.Common.{◌<◌, rules, refl, of_calls, arith}
use Rattle.walks.specs.Minutes.{of_minutes, absent_minutes}
use Rattle.walks.specs.Tables.{at}
use Rattle.judge.specs.declared.target.Target.TheVariants.{Point}
use Rattle.judge.specs.Closing.{Within}
use Rattle.judge.proofs.Holding.{point_room, along, offered_onward, told_each}
use Rattle.judge.proofs.relaxation.Relaxation.relax_row.Goals as goal

pub each-requires : goal.each-requires
each-requires c = λ κ. (
  (refl, tt),
  (
    c.requires.sound,
    (
      (λ shown o k lk.
          let lq : k < c.args.self.now.network.now.content.points = omega (arith, c.points-points.ensures) in
          let point : c.args.p < shown.now.network.now.content.points = along o (λ card. c.args.p < card.points) c.requires.point in
          let target : k < shown.now.network.now.content.points = along o (λ card. k < card.points) lq in
          let offer = offered_onward o (c.requires.offered k lq) in
          let room = point_room c.args.self.now.network.now k lq in
          search rules),
      (λ shown o k lk a left post. search (of_calls, post)),
    ),
  ),
)

pub returns : goal.returns
returns c =
    told_each _ c.args.self.now c.each.new.self _ _ (λ r q. Within r.closure c.args.p (Point q) (at of_minutes absent_minutes c.args.best.now q)) c.each.result c.points-points.ensures c.each.ensures (λ k shown left lk h. search rules)
