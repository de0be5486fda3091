use Rattle.std.proofs.Common.{◌<◌, sym, ap, ◌∙◌, arith}
use Rattle.rules.specs.Card.{span_count}
use Rattle.network.specs.Model.{model}
use Rattle.network.proofs.Parts.{span_count_is}
use Rattle.explain.specs.Columns.{columns, wait_of, head_of}
use Rattle.explain.proofs.Columns.{target_point, target_start, head_point, head_wait, span_bound, span_start}
use Rattle.explain.proofs.tables.head.Goals as goal
use Rattle.explain.proofs.tables.head.Goals.{In-Start}

span_in : (c : In-Start) → c.in-Start.s < span_count (model c.args.network.now.content)
unfolding columns wait_of
span_in c = omega (arith, c.requires, target_start (model c.args.network.now.content) _ _ c.in-Start.ensures)

pub returns-in-Point : goal.returns-in-Point
returns-in-Point c = let m = model c.args.network.now.content in let t = target_point m c.args.x _ c.in-Point.ensures in t.1 ∙ sym (head_point m c.args.x t.0)

pub offset_bounds-spans-s : goal.offset_bounds-spans-s
offset_bounds-spans-s c = let n = c.args.network.now in omega (arith, span_in (goal.at-offset_bounds-spans-s c).In-Start, span_count_is n, n.counts.2.0)

pub bounds-spans-s : goal.bounds-spans-s
bounds-spans-s c = span_bound (model c.args.network.now.content) _ c.spans.ensures _ (span_in (goal.at-bounds-spans-s c).In-Start)

pub returns-in-Start : goal.returns-in-Start
returns-in-Start c =
    let m = model c.args.network.now.content in
    c.from.ensures ∙ span_start m _ c.spans.ensures c.in-Start.s ∙ sym (ap (head_of m) (target_start m _ _ c.in-Start.ensures) ∙ head_wait m _)
