use Rattle.std.proofs.Common.{subst, arith, w32}
use Rattle.std.proofs.lemmas.Int.{ints, to_z-of_z}
use Rattle.judge.specs.Closures.{Put}
use Rattle.judge.proofs.Deriving.{head_in, loop}
use Rattle.judge.proofs.Holding.{point_room, target_room, back_at, went_none, went_put}
use Rattle.judge.proofs.relaxation.Relaxation.relax.Goals as goal

pub at-requires : goal.at-requires
at-requires c = (point_room c.args.self.now.network.now _ c.requires.point, target_room c.args.self.now.network.now _ c.requires.target)

pub returns-then-weight-at : goal.returns-then-weight-at
returns-then-weight-at c = went_none c.requires.sound (omega (arith, ints, c.at.ensures, c.if-weight-at.true))

pub at-back-requires : goal.at-back-requires
at-back-requires c =
    let n = c.args.self.now.network.now in
    (omega (arith, c.head.ensures, point_room n _ (head_in n c.args.x c.requires.target)), omega (arith, point_room n _ c.requires.point))

pub overflow_add-weight : goal.overflow_add-weight
overflow_add-weight c =
    let back = back_at c.args.self.now c.args.p c.args.x c.requires.sound c.requires.point c.requires.target c.head.ensures c.at-back.ensures in
    omega (arith, ints, c.requires.proposed.low, c.requires.proposed.high)

pub returns-then-weight-back-lt0 : goal.returns-then-weight-back-lt0
returns-then-weight-back-lt0 c =
    let back = back_at c.args.self.now c.args.p c.args.x c.requires.sound c.requires.point c.requires.target c.head.ensures c.at-back.ensures in
    loop c.args.self.now.network.now c.args.self.now.closure c.requires.sound c.args.p c.args.x c.args.weight c.requires.point c.requires.target c.requires.proposed
    (omega (arith, ints, c.at.ensures, c.if-weight-at.false)) (omega (arith, ints))

pub put-requires : goal.put-requires
put-requires c = (point_room c.args.self.now.network.now _ c.requires.point, target_room c.args.self.now.network.now _ c.requires.target)

pub returns : goal.returns
returns c =
    let back = back_at c.args.self.now c.args.p c.args.x c.requires.sound c.requires.point c.requires.target c.head.ensures c.at-back.ensures in
    went_put c.requires.sound c.requires.point c.requires.target c.requires.proposed (omega (arith, ints, c.at.ensures)) (omega (arith, ints))
    (subst (λ v. Put c.args.self.now.closure c.args.p c.args.x v c.put.new.self) (to_z-of_z w32 c.args.weight c.ranges.weight) c.put.ensures) _
