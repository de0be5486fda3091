use Rattle.std.proofs.Common.{◌≡◌, ◌<◌, [], length, get_or, refl, ap, ◌∙◌, arith, below_more, rules}
use Rattle.std.proofs.lemmas.List.{get_or_append_left, get_or_read_under, get_or-take}
use Rattle.walks.specs.Tables.{at}
use Rattle.walks.proofs.Tables.{part_same, part_other, twice_read}
use Rattle.walks.proofs.closure.double.Goals as goal

pub double_row-requires : goal.double_row-requires
double_row-requires g c =
    let n = length c.args.best.now in
    let p = c.loop-p.p in
    let firsts = get_or_read_under c.args.best.now p n _ [] c.index-best-p.is (omega arith) refl in
    (search rules, ((omega arith, omega arith), λ r q h i. omega (arith, c.requires.small p r q (omega arith) h (omega arith), ap (λ row. g.W.Weight.size (g.W.Weight.meaning (get_or row r g.W.Weight.absent))) firsts)))

pub loop-p-preserved : goal.loop-p-preserved
loop-p-preserved g c =
    let m = g.W.Weight in
    let d = m.absent in
    let n = length c.args.best.now in
    let p = c.loop-p.p in
    let new = c.copy_from_slice.new.self in
    let firsts = get_or_read_under c.args.best.now p n _ [] c.index-best-p.is (omega arith) refl in
    let l : length new ≡ n = omega arith in
    let within : p < length c.loop-p.into = omega arith in
    let same = part_same d c.loop-p.into p within new n l in
    let other = part_other d c.loop-p.into p within new n l in (
      below_more _ _
          (λ k h q j. ap m.meaning (other k q (λ e f. omega arith)) ∙ c.loop-p.invariant.0 k h q j)
          (λ q j. ap m.meaning (same q j) ∙ ap (λ row. at m.meaning d row q) c.copy_from_slice.ensures.after
          ∙ ap m.meaning (get_or-take n _ q d j ∙ get_or_append_left c.double_row.new.row _ d q (omega arith))
          ∙ c.double_row.ensures q (omega arith)
          ∙ twice_read m.joined m.chosen m.meaning d c.args.best.now p q n c.index-best-p.result firsts j),
      λ k q h. other k q (λ e f. h (omega arith) f) ∙ c.loop-p.invariant.1 k q (λ e f. h (omega arith) f),
    )
