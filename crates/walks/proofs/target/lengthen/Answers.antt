use Rattle.std.proofs.Common.{get_or, take, sym, refl, ap, ◌∙◌, add-one, arith}
use Rattle.std.proofs.lemmas.List.{get_or_read_under, get_or-take}
use Rattle.walks.proofs.Walking.{one_more, none_after}
use Rattle.walks.proofs.target.lengthen.Goals as goal
use Rattle.walks.proofs.target.lengthen.Goals.{then-not-is_absent, else-not-is_absent}

pub loop-r-preserved : goal.loop-r-preserved
loop-r-preserved g c p h =
    let m = g.W.Weight in
    let n = c.args.n in
    let r = c.loop-r.r in
    let best = c.args.best.now in
    let last = ap m.meaning (get_or_read_under (take n best) r n _ m.absent c.last-item.is (omega arith) (omega arith) ∙ get_or-take n best r m.absent (omega arith)) in
    rw add-one
    (elim c.if-not-is_absent.branch [
      | then-not-is_absent w ↦
          one_more m.joined m.chosen _ _ _ _ _ _ _ (ap (λ x. m.meaning (get_or x p m.absent)) w.best-is ∙ w.prepend.ensures p (omega arith)) (c.loop-r.invariant p h) refl last
      | else-not-is_absent w ↦
          none_after m.joined m.chosen (m.meaning m.absent) g.met.W.Weight.choose_absent _ _ _ _
          (ap (λ x. m.meaning (get_or x p m.absent)) w.best-is ∙ c.loop-r.invariant p h)
          g.met.W.Weight.join_absent (sym last ∙ c.is_absent.ensures.0 w.if-not-is_absent.false)
    ])
