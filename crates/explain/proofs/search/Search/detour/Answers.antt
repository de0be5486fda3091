use Rattle.rules.specs.Steps.{given}
use Rattle.std.proofs.Common.{◌≡◌, ◌+◌, ◌-◌, ◌*◌, length, pos, ◌+ℤ◌, refl, ◌∙◌, arith, w32, to_z, of_z}
use Rattle.std.proofs.lemmas.Int.{ints}
use Rattle.network.specs.Model.{model}
use Rattle.explain.specs.Columns.{way}
use Rattle.explain.proofs.Columns.{point_column}
use Rattle.explain.proofs.Holding.{given_few, horizon_in}
use Rattle.explain.proofs.Testing.{some_h, some_p, detour_step, detoured}
use Rattle.explain.proofs.search.Search.detour.Goals as goal

pub overflow_sub-home : goal.overflow_sub-home
overflow_sub-home c = omega (arith, some_h c.args.self.now.network.now c.args.self.now.work.best c.requires.fresh.loaded c.args.h c.args.p c.requires.place.0 c.requires.place.1 c.requires.place.2 c.requires.none)

pub overflow_sub-away : goal.overflow_sub-away
overflow_sub-away c = omega (arith, some_p c.args.self.now.network.now c.args.self.now.work.best c.requires.fresh.loaded c.args.h c.args.p c.requires.place.0 c.requires.place.1 c.requires.place.2 c.requires.none)

pub joined-step-requires-clause-place : goal.joined-step-requires-clause-place
joined-step-requires-clause-place c =
    let n = c.args.self.now.network.now in
    (c.requires.place.0, point_column (model n.content) c.args.p c.requires.place.1)

pub overflow_cast-result : goal.overflow_cast-result
overflow_cast-result c = omega (arith, c.given_count.ensures, given_few c.write.new.self.network.now)

pub returns : goal.returns
returns c =
    let s = c.args.self.now in
    let n = s.network.now in
    let m = model n.content in
    let h = c.args.h in
    let p = c.args.p in
    let hz : to_z w32 (of_z w32 c.from-limit.result) ≡ pos m.horizon = omega (arith, ints, horizon_in n) in
    let is : c.joined-step.result ≡ detour_step n s.work.best c.requires.fresh.loaded h p =
    c.joined-step.ensures ∙ (λ i. record { letter = 78; left = 2 * (h - 1) + 1; right = 2 * (p - 1); makes = way m h p (pos 0 +ℤ hz i) }) in
    let on = c.in_ok-write.ensures.follows in
    detoured n s.work.best c.requires.fresh.loaded h p c.requires.place.0 c.requires.place.1 c.requires.place.2 c.requires.none
    s c.write.new.self c.joined-step.result _ refl c.requires.fresh.count is c.in_ok-write.ensures.put on hz (c.given_count.ensures ∙ (λ i. length (given (model (on.network i).content))))
