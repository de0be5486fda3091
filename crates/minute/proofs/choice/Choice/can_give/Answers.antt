use Rattle.std.proofs.lemmas.Bool.{both_ways}
use Rattle.network.specs.Model.{model}
use Rattle.network.proofs.Made.{well_made}
use Rattle.minute.specs.Minutes.{at, marked}
use Rattle.minute.proofs.Props.{within}
use Rattle.minute.proofs.Allowed.{give, points_given, spans_given}
use Rattle.minute.proofs.choice.Choice.can_give.Goals as goal

pub returns-then-points_allow : goal.returns-then-points_allow
returns-then-points_allow c =
    let k = c.args.self.now in
    let n = k.minute.network.now in (
      λ e. give (model n.content) (well_made n) k.closure.now k.minute.t (marked k.late.now) (at k.position.now.minutes) c.args.q (within k) c.requires (c.points_allow.ensures.0 c.if-points_allow.true) (c.spans_allow.ensures.0 e),
      λ g. c.spans_allow.ensures.1 (spans_given (model n.content) (well_made n) k.closure.now k.minute.t (marked k.late.now) (at k.position.now.minutes) c.args.q (within k) c.requires g),
    )

pub returns-else-points_allow : goal.returns-else-points_allow
returns-else-points_allow c =
    let k = c.args.self.now in
    let n = k.minute.network.now in (
      λ e. absurd (both_ways c.points_allow.result c.if-points_allow.false e),
      λ g. absurd (both_ways c.points_allow.result c.if-points_allow.false (c.points_allow.ensures.1 (points_given (model n.content) (well_made n) k.closure.now k.minute.t (marked k.late.now) (at k.position.now.minutes) c.args.q (within k) c.requires g))),
    )
