use Rattle.std.proofs.Common.{sym, ◌∙◌, subst}
use Rattle.rules.specs.Steps.{all_known}
use Rattle.network.specs.Model.{model}
use Rattle.steps.specs.Reading.{Makes}
use Rattle.steps.proofs.Reading.{no_left, no_right, makes_joined}
use Rattle.steps.proofs.reads.next_edge.Goals as goal

pub returns-in_err-first : goal.returns-in_err-first
returns-in_err-first c =
    let m = model c.args.network.now.content in
    rw c.from_residual.ensures (no_left m (all_known m c.args.made.now) c.args.letter c.args.left c.args.right (sym c.edge_at.ensures ∙ c.in_err-first.was))

pub returns-in_err-second : goal.returns-in_err-second
returns-in_err-second c =
    let m = model c.args.network.now.content in
    rw c.from_residual-in_err-second.ensures (no_right m (all_known m c.args.made.now) c.args.letter c.args.left c.args.right (sym c.edge_at-2.ensures ∙ c.in_err-second.was))

pub returns : goal.returns
returns c =
    let m = model c.args.network.now.content in
    let es = all_known m c.args.made.now in
    let h = c.is_repeated.ensures.0 c.if-not-is_repeated.false in
    subst (Makes m es c.args.letter c.args.left c.args.right) (sym c.join.ensures)
    (makes_joined m es c.args.letter c.args.left c.args.right _ _ (sym c.edge_at.ensures ∙ c.in_ok-first.was) (sym c.edge_at-2.ensures ∙ c.in_ok-second.was) h.0 h.1)
