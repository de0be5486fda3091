use Rattle.std.proofs.Common.{sym, ap, ◌∙◌, arith}
use Rattle.rules.specs.Steps.{given}
use Rattle.network.specs.Model.{model}
use Rattle.steps.proofs.Reading.{edge_unknown}
use Rattle.walks.specs.Minutes.{of_minutes, absent_minutes, lesser}
use Rattle.walks.specs.Tables.{cell}
use Rattle.distances.proofs.Lightest.{absent_all, edge_near, lightest_more}
use Rattle.distances.specs.Distances.{weight_of}
use Rattle.distances.proofs.weights.given_weights.Goals as goal
use Rattle.distances.proofs.weights.given_weights.Goals.{in-Some, in_default}

pub loop-number-init : goal.loop-number-init
loop-number-init c = absent_all c.absent.result c.absent.ensures

pub note-requires : goal.note-requires
note-requires c = edge_near c.args.network.now c.loop-number.number c.in-Some.edge (sym c.given_edge.ensures ∙ c.in-Some.is)

pub loop-number-preserved : goal.loop-number-preserved
loop-number-preserved c p q =
    let n = c.args.network.now in
    let i = c.loop-number.number in
    elim c.match-given_edge.branch [
      | in-Some w ↦
          ap (λ t. cell of_minutes absent_minutes t p q) w.table-is
          ∙ w.note.ensures p q
          ∙ ap (λ x. lesser x (weight_of w.in-Some.edge p q)) (c.loop-number.invariant p q)
          ∙ lightest_more n i w.in-Some.edge (sym c.given_edge.ensures ∙ w.in-Some.is) p q
      | in_default w ↦ absurd (edge_unknown (given (model n.content)) i (sym c.given_edge.ensures ∙ w.in_default.is) (omega (arith, c.given_count-number-end.ensures)))
    ]
