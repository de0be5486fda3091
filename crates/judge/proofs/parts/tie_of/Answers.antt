use Rattle.std.proofs.Common.{◌≡◌, length, get_or, ap, arith}
use Rattle.rules.specs.Card.{no_tie, tie_count, from_of, to_of, gap_of}
use Rattle.network.specs.Model.{model}
use Rattle.network.proofs.Made.{tie_in}
use Rattle.judge.proofs.parts.tie_of.Goals as goal

pub offset_bounds-ties-i : goal.offset_bounds-ties-i
offset_bounds-ties-i c = let h = tie_in c.args.network.now c.args.i c.requires in omega (arith, c.args.network.now.counts)

pub bounds-ties-i : goal.bounds-ties-i
unfolding tie_count
bounds-ties-i c = omega (arith, ap length c.ties.ensures)

pub returns : goal.returns
unfolding from_of to_of gap_of
returns c =
    let e : get_or c.ties.result.now c.args.i no_tie ≡ get_or (model c.args.network.now.content).ties c.args.i no_tie = ap (λ l. get_or l c.args.i no_tie) c.ties.ensures in
    record { from_is = ap (λ x. x.from) e; to_is = ap (λ x. x.to) e; gap_is = ap (λ x. x.gap) e }
