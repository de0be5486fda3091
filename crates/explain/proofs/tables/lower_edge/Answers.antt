use Rattle.std.proofs.Common.{◌≡◌, ◌+◌, ◌-◌, ◌*◌, get_or, ap, ◌∙◌, arith}
use Rattle.std.proofs.lemmas.Int.{ints}
use Rattle.rules.specs.Steps.{given}
use Rattle.network.specs.Model.{model}
use Rattle.network.proofs.Made.{span_in, well_made, most_in}
use Rattle.steps.proofs.Numbers.{given_long, span_edge_at}
use Rattle.explain.proofs.Columns.{span_bound, span_least}
use Rattle.explain.proofs.tables.lower_edge.Goals as goal

pub overflow_mul-number-2 : goal.overflow_mul-number-2
overflow_mul-number-2 c = let n = c.args.network.now in omega (arith, span_in n c.args.s c.requires)

pub overflow_add-number : goal.overflow_add-number
overflow_add-number c = let n = c.args.network.now in omega (arith, span_in n c.args.s c.requires, n.counts.1.1)

pub overflow_add-number-2 : goal.overflow_add-number-2
overflow_add-number-2 c = let n = c.args.network.now in omega (arith, span_in n c.args.s c.requires, n.counts.1.1)

pub overflow_cast-result : goal.overflow_cast-result
overflow_cast-result c = let n = c.args.network.now in omega (arith, span_in n c.args.s c.requires, n.counts.1.1)

pub offset_bounds-spans-s : goal.offset_bounds-spans-s
offset_bounds-spans-s c = let n = c.args.network.now in omega (arith, span_in n c.args.s c.requires, n.counts.2.0)

pub bounds-spans-s : goal.bounds-spans-s
bounds-spans-s c = span_bound (model c.args.network.now.content) _ c.spans.ensures _ c.requires

pub returns : goal.returns
returns c =
    let n = c.args.network.now in
    let m = model n.content in
    let s = c.args.s in
    let place : 2 * (c.points.result - 1) + 4 * s + 2 ≡ 2 * (m.points - 1) + (s * 4 + 2) = omega arith in
    record {
      weight = omega (arith, ints, span_least m _ c.spans.ensures s, (well_made n).least_most s c.requires, most_in n s c.requires);
      number = (omega (arith, given_long n, span_in n s c.requires), λ d. ap (λ i. get_or (given m) i d) place ∙ span_edge_at m s 2 d c.requires (omega arith));
    }
