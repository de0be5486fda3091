use Rattle.std.proofs.Common.{◌≡◌, length, get_or, ap, arith}
use Rattle.rules.specs.Card.{no_span, span_count, start_of, finish_of, least_of, most_of}
use Rattle.network.specs.Model.{model}
use Rattle.judge.proofs.Holding.{span_room}
use Rattle.judge.proofs.parts.span_of.Goals as goal

pub offset_bounds-spans-s : goal.offset_bounds-spans-s
offset_bounds-spans-s c = let h = span_room c.args.network.now c.args.s c.requires in omega arith

pub bounds-spans-s : goal.bounds-spans-s
unfolding span_count
bounds-spans-s c = omega (arith, ap length c.spans.ensures)

pub returns : goal.returns
unfolding start_of finish_of least_of most_of
returns c =
    let e : get_or c.spans.result.now c.args.s no_span ≡ get_or (model c.args.network.now.content).spans c.args.s no_span = ap (λ l. get_or l c.args.s no_span) c.spans.ensures in
    record { start_is = ap (λ x. x.start) e; finish_is = ap (λ x. x.finish) e; least_is = ap (λ x. x.least) e; most_is = ap (λ x. x.most) e }
