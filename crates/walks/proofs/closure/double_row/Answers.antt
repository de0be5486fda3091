use Rattle.std.proofs.Common.{◌<◌, [], length, get_or, sym, ap, ◌∙◌, add-one, arith}
use Rattle.std.proofs.lemmas.List.{length_push}
use Rattle.std.proofs.lemmas.Slice.Zip.{zip_turn}
use Rattle.walks.proofs.Walking.{one_more, none_before}
use Rattle.walks.proofs.closure.double_row.Goals as goal

pub extend-requires-clause-small : goal.extend-requires-clause-small
extend-requires-clause-small g c q h =
    let m = g.W.Weight in
    let r = length c.loop-first.yielded in
    let turn = zip_turn c.args.firsts.now c.args.best.now c.loop-first.yielded c.into_iter-first-iterator.result c.loop-first.first-iterator c.next.new.self c.next.result (cc) (cc) c.loop-first.yielded_by _ c.in-Some.is c.next.ensures.steps in
    omega (arith, c.requires.small r q turn.1 (omega arith), ap (λ x. m.size (m.meaning x)) (turn.2 m.absent), ap (λ row. m.size (m.meaning (get_or row q m.absent))) (turn.3 []))

pub loop-first-preserved-then-not-is_absent : goal.loop-first-preserved-then-not-is_absent
loop-first-preserved-then-not-is_absent g c q h =
    let m = g.W.Weight in
    let i : q < length c.loop-first.row = omega arith in
    let turn = zip_turn c.args.firsts.now c.args.best.now c.loop-first.yielded c.into_iter-first-iterator.result c.loop-first.first-iterator c.next.new.self c.next.result (cc) (cc) c.loop-first.yielded_by _ c.in-Some.is c.next.ensures.steps in
    rw (length_push, add-one)
    (one_more m.joined m.chosen _ _ _ _ _ _ _ (c.extend.ensures q i) (c.loop-first.invariant q i)
    (ap m.meaning (turn.2 m.absent)) (ap (λ row. m.meaning (get_or row q m.absent)) (turn.3 [])))

pub loop-first-preserved : goal.loop-first-preserved
loop-first-preserved g c q h =
    let m = g.W.Weight in
    let turn = zip_turn c.args.firsts.now c.args.best.now c.loop-first.yielded c.into_iter-first-iterator.result c.loop-first.first-iterator c.next.new.self c.next.result (cc) (cc) c.loop-first.yielded_by _ c.in-Some.is c.next.ensures.steps in
    rw (length_push, add-one)
    (none_before m.joined m.chosen (m.meaning m.absent) g.met.W.Weight.choose_absent _ _ _ _ (c.loop-first.invariant q h)
    g.met.W.Weight.absent_join (sym (ap m.meaning (turn.2 m.absent)) ∙ c.is_absent.ensures.0 c.if-not-is_absent.false))
