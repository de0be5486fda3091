use Rattle.std.proofs.Common.{◌<◌, sym, refl, subst, arith}
use Rattle.std.proofs.lemmas.Int.{ints}
use Rattle.network.specs.Model.{model}
use Rattle.explain.specs.Columns.{columns}
use Rattle.explain.specs.Working.{Present}
use Rattle.explain.proofs.Columns.{point_column}
use Rattle.explain.proofs.Holding.{late}
use Rattle.explain.proofs.Chaining.{not_first, first_present, told_on}
use Rattle.explain.proofs.search.Search.around.Goals as goal

pub join-requires-clause-place : goal.join-requires-clause-place
join-requires-clause-place c =
    let n = c.args.self.now.network.now in
    let m = model n.content in
    let q = c.args.q in
    (n.counts.1.0, c.requires.place.0, point_column m q c.requires.place.1)

pub join-requires-clause-present : goal.join-requires-clause-present
join-requires-clause-present c =
    let n = c.args.self.now.network.now in
    let w = c.args.self.now.work in
    let l = c.args.self.now.list.now in
    let p = c.args.p in
    let q = c.args.q in
    let h = c.requires.ready in
    let nf = not_first n w l h p q c.args.x c.requires.place.0 c.requires.place.1 c.requires.place.2 c.requires.below in
    (first_present n w l h p c.requires.place.0 nf.0, c.requires.present.0)

pub join-requires-clause-low : goal.join-requires-clause-low
join-requires-clause-low c =
    let n = c.args.self.now.network.now in
    let m = model n.content in
    let p = c.args.p in
    let q = c.args.q in
    let h = c.requires.ready in
    λ _. omega (arith, ints, (h.fair 0 p n.counts.1.0 (point_column m p c.requires.place.0)).first refl, (h.fair p q c.requires.place.0 (point_column m q c.requires.place.1)).low)

pub join-requires-2-clause-present : goal.join-requires-2-clause-present
join-requires-2-clause-present c =
    let s = c.args.self.now in
    let t = c.join.new.self in
    let p = c.args.p in
    let q = c.args.q in
    let x = c.args.x in
    let nf = not_first s.network.now s.work s.list.now c.requires.ready p q x c.requires.place.0 c.requires.place.1 c.requires.place.2 c.requires.below in
    let u = c.in_ok-join.ensures.told in
    let net = u.follows.network in
    let m = model t.network.now.content in
    let lq : q < m.points = subst (λ k. q < (model k.content).points) (sym net) c.requires.place.1 in (
      first_present t.network.now t.work t.list.now u.ready q lq nf.1,
      subst (λ k. Present (model k.content) t.work.best q x) (sym net) (c.requires.present.1.0, omega (arith, ints, c.requires.present.1.1, u.lower q x)),
    )

pub join-requires-2-clause-low : goal.join-requires-2-clause-low
join-requires-2-clause-low c =
    let t = c.join.new.self in
    let q = c.args.q in
    let x = c.args.x in
    let u = c.in_ok-join.ensures.told in
    let net = u.follows.network in
    let m = model t.network.now.content in
    let lq : q < m.points = subst (λ k. q < (model k.content).points) (sym net) c.requires.place.1 in
    let lx : x < columns m = subst (λ k. x < columns (model k.content)) (sym net) c.requires.place.2 in
    let l0 = t.network.now.counts.1.0 in
    λ _. omega (arith, ints, (u.ready.fair 0 q l0 (point_column m q lq)).first refl, (u.ready.fair q x lq lx).low)

pub returns : goal.returns
returns c =
    let s = c.args.self.now in
    let t = c.join.new.self in
    let p = c.args.p in
    let x = c.args.x in
    let u = c.in_ok-join.ensures.told in
    let lx : x < columns (model t.network.now.content) = subst (λ k. x < columns (model k.content)) (sym u.follows.network) c.requires.place.2 in
    told_on s t c.join-2.new.self _ _ c.join-2.result u c.join-2.ensures.told
    (λ r. absurd (omega (arith, ints, r, (u.ready.fair 0 x t.network.now.counts.1.0 lx).first refl, c.in_ok-join.ensures.taken, u.lower c.args.q x, late s.network.now s.work s.list.now c.requires.ready p c.requires.place.0, c.requires.below)))
