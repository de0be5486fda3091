use Rattle.std.proofs.Common.{◌≡◌, ◌+◌, false, Some, Err, length, is_some, refl, sym, subst, rules}
use Rattle.rules.specs.declared.refusal.Refusal.TheVariants.{Barred}
use Rattle.network.specs.declared.network.Network.{Network}
use Rattle.network.specs.Model.{model}
use Rattle.minute.specs.Minutes.{at}
use Rattle.minute.specs.Standing.{Standing}
use Rattle.minute.specs.Played.{meaning}
use Rattle.run.specs.Plays.{barred}
use Rattle.run.specs.Whole.{History}
use Rattle.run.proofs.Stand.{standing, same_run}
use Rattle.run.proofs.History.{history_on}
use Rattle.run.proofs.run.Run.play.Goals as goal

pub returns-in_err-closure-clause-plays : goal.returns-in_err-closure-clause-plays
returns-in_err-closure-clause-plays g c =
    let n : is_some c.args.self.now.closure ≡ false = search rules in
    let e : c.from_residual.result ≡ Err Barred = search rules in
    rw e (record { first = barred n; run = same_run c.args.self.now _; kitchen = refl; list_same = refl })

pub play-count-requires-clause-stands : goal.play-count-requires-clause-stands
play-count-requires-clause-stands g c =
    let r = c.args.self.now in
    let e : r.closure ≡ Some c.in_ok-closure.closure.now = search rules in
    subst (λ (n : Network). Standing (model n.content) c.in_ok-closure.closure.now r.next (at r.position.minutes)) (sym c.network.ensures) (standing r c.in_ok-closure.closure.now e)

pub returns-clause-history : goal.returns-clause-history
returns-clause-history g c = λ h.
    let r = c.args.self.now in
    let means = meaning g.K.Kitchen.spans g.K.Kitchen.starts g.K.Kitchen.advances in
    subst (λ (n : Network). History (model n.content) (r.next + 1) (at c.play-count.new.position.minutes)) c.network.ensures
    (history_on means (model c.network.result.now.content) r.next (length c.args.list.now) (at r.position.minutes) (at c.play-count.new.position.minutes) c.args.kitchen.now c.play-count.new.kitchen (g.met.K.Kitchen.keeps c.args.kitchen.now) c.in_ok-check_ready.ensures c.play-count.ensures.played.rules
    (subst (λ (n : Network). History (model n.content) r.next (at r.position.minutes)) (sym c.network.ensures) h))
