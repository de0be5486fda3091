use Rattle.std.proofs.Common.{◌≡◌, ◌+◌, ◌<◌, pos, refl, ◌∙◌, subst, sym, arith}
use Rattle.std.proofs.lemmas.Int.{ints}
use Rattle.network.specs.Model.{model}
use Rattle.network.proofs.Made.{well_made}
use Rattle.explain.specs.declared.work.Best.{Best}
use Rattle.explain.specs.Columns.{columns, head_of, with_entry}
use Rattle.explain.proofs.Columns.{head_in}
use Rattle.explain.proofs.Holding.{point_room, column_room, horizon_in}
use Rattle.explain.proofs.Loading.{Begun, begun_none, begun_more, loaded_none}
use Rattle.explain.proofs.work.Work.empty.Goals as goal
use Rattle.explain.proofs.work.Work.empty.Goals.{After-head}

abbrev itself : Best
itself = record { weight = pos 0; number = 0 }

-- the head of a column is a point
below : (c : After-head) → (head_of (model c.args.network.now.content) c.loop-x.x < 32) × (c.loop-x.x < 40)
below c =
    let n = c.args.network.now in
    let lx : c.loop-x.x < columns (model n.content) = omega (arith, c.loop-x-test.true, c.width-x-end.ensures) in
    (point_room n _ (head_in (model n.content) (well_made n) c.loop-x.x lx), column_room n _ lx)

pub loop-x-init : goal.loop-x-init
loop-x-init c = let n = c.args.network.now in (refl, begun_none (model n.content) _ (omega (arith, ints, horizon_in n)))

pub put-requires : goal.put-requires
put-requires c = let b = below (goal.at-put-requires c).After-head in (omega (arith, b.0, c.head.ensures), b.1)

pub loop-x-preserved : goal.loop-x-preserved
loop-x-preserved c =
    let m = model c.args.network.now.content in
    let e = c.loop-x.work.best in
    let b = below (goal.at-loop-x-preserved c).After-head in (
      c.put.ensures.steps ∙ c.loop-x.invariant.0,
      subst (λ t. Begun m t (c.loop-x.x + 1)) (sym (c.put.ensures.table ∙ (λ i. with_entry e (c.head.ensures i) c.loop-x.x itself)))
          (begun_more m e c.loop-x.x itself b.0 b.1 refl c.loop-x.invariant.1),
    )

pub returns-clause-table : goal.returns-clause-table
returns-clause-table c =
    let m = model c.args.network.now.content in
    let all : c.loop-x.x ≡ columns m = omega (arith, c.loop-x-test.false, c.loop-x.auto.x-end, c.width-x-end.ensures) in
    loaded_none c.args.network.now c.loop-x.work.best (subst (Begun m c.loop-x.work.best) all c.loop-x.invariant.1)
