use Rattle.std.proofs.Common.{sym, subst, ◌≡◌, ◌≤◌, ◌∙◌, ◌-◌, ◌*◌, ◌<◌, get_or, ap, arith}
use Rattle.std.proofs.lemmas.Int.{ints}
use Rattle.rules.specs.declared.edges.Kind.TheVariants.{Plain}
use Rattle.std.proofs.lemmas.Bool.Decides.{nat_tests}
use Rattle.rules.specs.Card.{no_tie, tie_at}
use Rattle.network.specs.Kept.{Near}
use Rattle.network.proofs.Parts.{tie_count_is, tie_is}
use Rattle.rules.specs.Edges.{edge}
use Rattle.steps.proofs.Numbers.{given_long, edge_none, point_some, span_some, tie_some}
use Rattle.steps.proofs.given.given_edge.Goals as goal

pub returns-then-number-of_points : goal.returns-then-number-of_points
returns-then-number-of_points c = point_some c.args.network.now c.args.number c.point_edge.result c.if-number-of_points.true c.point_edge.ensures

pub returns-then-number-of_points-2 : goal.returns-then-number-of_points-2
returns-then-number-of_points-2 c =
    span_some c.args.network.now c.args.number c.span_edge.result c.if-number-of_points.false c.if-number-of_points-2.true c.span_edge.ensures

pub returns-in_err-tie : goal.returns-in_err-tie
unfolding tie_at
returns-in_err-tie c =
    let t = c.tie.ensures in
    let w = c.in_err-tie.was in
    let n = tie_count_is c.args.network.now in
    let past : c.args.network.now.content.tied ≤ c.args.number - 2 * (c.args.network.now.content.points - 1) - 4 * c.args.network.now.content.spanned = grind (arith, nat_tests) in
    c.from_residual.ensures ∙ edge_none _ c.args.number (omega (arith, given_long c.args.network.now))

pub returns : goal.returns
unfolding tie_at
returns c =
    let t = c.tie.ensures in
    let w = c.in_ok-tie.was in
    let n = c.args.network.now in
    let k = c.args.number - 2 * (n.content.points - 1) - 4 * n.content.spanned in
    let m = tie_count_is n in
    let h : k < n.content.tied = grind (arith, nat_tests) in
    let e = tie_is n.content k h in
    let same : c.in_ok-tie.tie ≡ get_or n.content.ties k no_tie = grind (arith, nat_tests) in
    let near : Near c.in_ok-tie.tie = subst Near (sym same) (n.near k h) in
    tie_some n c.args.number k _ (omega arith) h (rw (← same) (ap (edge Plain c.in_ok-tie.tie.from c.in_ok-tie.tie.to) (omega (arith, ints, near))))
