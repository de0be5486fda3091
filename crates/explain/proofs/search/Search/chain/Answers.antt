use Rattle.std.proofs.Common.{ap, arith}
use Rattle.std.proofs.lemmas.Int.{ints}
use Rattle.network.specs.Model.{model}
use Rattle.explain.proofs.Columns.{point_column}
use Rattle.explain.proofs.Holding.{near_at, horizon_in}
use Rattle.explain.proofs.Chaining.{told_as}
use Rattle.explain.proofs.search.Search.chain.Goals as goal

pub edge-requires : goal.edge-requires
edge-requires c = let n = c.args.self.now.network.now in (c.requires.place.0, point_column (model n.content) c.args.q c.requires.place.1)

pub overflow_add-left : goal.overflow_add-left
overflow_add-left c =
    let n = c.args.self.now.network.now in
    let m = model n.content in
    let w = c.args.self.now.work in
    let l = c.args.self.now.list.now in
    let p = c.args.p in
    let q = c.args.q in
    let x = c.args.x in
    let u = near_at n w l c.requires.ready p q c.requires.place.0 (point_column m q c.requires.place.1) in
    let v = near_at n w l c.requires.ready q x c.requires.place.1 c.requires.place.2 in
    let a = ap (λ z. z.weight) c.in-Some.ensures.0 in
    let b = ap (λ z. z.weight) c.in-Some-edge.ensures.0 in
    let k = horizon_in n in
    omega (arith, ints, a, b, u.0, u.1, v.0, v.1)

pub around-requires-clause-below : goal.around-requires-clause-below
around-requires-clause-below c =
    let n = c.args.self.now.network.now in
    let m = model n.content in
    let w = c.args.self.now.work in
    let l = c.args.self.now.list.now in
    let p = c.args.p in
    let q = c.args.q in
    let x = c.args.x in
    let u = near_at n w l c.requires.ready p q c.requires.place.0 (point_column m q c.requires.place.1) in
    let v = near_at n w l c.requires.ready q x c.requires.place.1 c.requires.place.2 in
    let a = ap (λ z. z.weight) c.in-Some.ensures.0 in
    let b = ap (λ z. z.weight) c.in-Some-edge.ensures.0 in
    let k = horizon_in n in
    omega (arith, ints, c.if-left-right.true, a, b, u.0, u.1, v.0, v.1, k)

pub join-requires-clause-low : goal.join-requires-clause-low
join-requires-clause-low c =
    let n = c.args.self.now.network.now in
    let m = model n.content in
    let w = c.args.self.now.work in
    let l = c.args.self.now.list.now in
    let p = c.args.p in
    let q = c.args.q in
    let x = c.args.x in
    let u = near_at n w l c.requires.ready p q c.requires.place.0 (point_column m q c.requires.place.1) in
    let v = near_at n w l c.requires.ready q x c.requires.place.1 c.requires.place.2 in
    let a = ap (λ z. z.weight) c.in-Some.ensures.0 in
    let b = ap (λ z. z.weight) c.in-Some-edge.ensures.0 in
    let k = horizon_in n in
    λ _. omega (arith, ints, c.if-left-right.false, a, b, u.0, u.1, v.0, v.1, k)

pub returns : goal.returns
returns c =
    let n = c.args.self.now.network.now in
    told_as c.args.self.now c.join.new.self c.join.result c.join.ensures.told (λ r _ _. r)
