use Rattle.std.proofs.Common.{◌≡◌, ◌+ℤ◌, sym, ap, ◌∙◌, subst, arith}
use Rattle.std.proofs.lemmas.Int.{ints}
use Rattle.rules.specs.Steps.{known, LawfulStep}
use Rattle.network.specs.Model.{model}
use Rattle.explain.specs.Columns.{way}
use Rattle.explain.proofs.Columns.{point_column}
use Rattle.explain.proofs.Holding.{point_room, column_room, near_at}
use Rattle.explain.proofs.Chaining.{chain_step, chain_lawful}
use Rattle.explain.proofs.search.Search.join.Goals as goal

pub at-right-requires : goal.at-right-requires
at-right-requires c = let n = c.args.self.now.network.now in (point_room n c.args.q c.requires.place.1, column_room n c.args.x c.requires.place.2)

pub joined-step-requires-clause-left : goal.joined-step-requires-clause-left
joined-step-requires-clause-left c =
    let n = c.args.self.now.network.now in
    let m = model n.content in
    let w = c.args.self.now.work in
    let u = near_at n w c.args.self.now.list.now c.requires.ready c.args.p c.args.q c.requires.place.0 (point_column m c.args.q c.requires.place.1) in
    let lw = ap (λ z. z.weight) c.at-left.ensures in
    (omega (arith, ints, lw, u.0), omega (arith, ints, lw, u.1))

pub relax-requires-clause-lawful : goal.relax-requires-clause-lawful
relax-requires-clause-lawful c =
    let n = c.args.self.now.network.now in
    let m = model n.content in
    let w = c.args.self.now.work in
    let l = c.args.self.now.list.now in
    let p = c.args.p in
    let q = c.args.q in
    let x = c.args.x in
    let a = c.at-left.ensures in
    let b = c.at-right.ensures in
    let k = c.letter.ensures in
    let is : c.joined-step.result ≡ chain_step m w.best p q x =
    c.joined-step.ensures ∙ (λ i. record { letter = k i; left = (a i).number; right = (b i).number; makes = way m p x ((a i).weight +ℤ (b i).weight) }) in
    subst (LawfulStep m (known m l w.count)) (sym is) (chain_lawful n w l c.requires.ready p q x c.requires.place.0 c.requires.place.1 c.requires.place.2 c.requires.present.0 c.requires.present.1)
