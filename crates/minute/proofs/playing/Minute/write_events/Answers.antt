use Rattle.std.proofs.Common.{◌+◌, ◌<◌, refl, sym, ap, ◌∙◌, ap₂, length, set, arith, rules, tests, of_calls}
use Rattle.std.proofs.lemmas.List.{length_push}
use Rattle.std.proofs.lemmas.Iterator.{YieldsList-from_range}
use Rattle.std.proofs.lemmas.Iterator.Consumers.{YieldsList-at, YieldsList-from_filter, YieldsList-from_chain, YieldsList-turn, YieldsList-end}
use Rattle.network.specs.Model.{model}
use Rattle.minute.specs.Minutes.{at}
use Rattle.minute.specs.Events.{written}
use Rattle.minute.proofs.Listing.{finish_now, order_now, events_pass, few_pass, same_items, none_written, more_written}
use Rattle.minute.proofs.playing.Minute.write_events.Goals as goal

pub loop-p-init : goal.loop-p-init
loop-p-init c =
    let card = model c.args.self.now.network.now.content in
    let then = at c.args.position.now.minutes in
    let t = c.args.self.now.t in (
      search of_calls,
      search of_calls,
      refl,
      none_written c.args.list.now 0,
      YieldsList-at c.into_iter-p-iterator.ensures.into_iter_gives (YieldsList-from_chain
          (YieldsList-at c.chain-p-items.ensures.first (YieldsList-from_filter _ (finish_now card then t) (YieldsList-from_range 0 card.points card.points (cc) (omega arith)) c.filter-finishes.ensures.closure (λ x b q k. search (rules, tests))))
          (YieldsList-at c.chain-p-items.ensures.second (YieldsList-from_filter _ (order_now card then t) (YieldsList-from_range 0 card.points card.points (cc) (omega arith)) c.filter-orders.ensures.closure (λ x b q k. search (rules, tests))))
          c.chain-p-items.ensures.first_done c.chain-p-items.ensures.second_done),
    )

-- an event that comes has a place
has_place : (c : goal.In-Some) → c.loop-p.count < 32
has_place c =
    let x = YieldsList-turn c.loop-p.invariant.4 c.loop-p.yielded _ c.loop-p.yielded_by _ _ c.in-Some.p c.in-Some.is c.next.ensures.steps in
    omega (arith, x.0, c.loop-p.invariant.2, few_pass (model c.args.self.now.network.now.content) (at c.args.position.now.minutes) c.args.self.now.t)

pub bounds-list-count : goal.bounds-list-count
bounds-list-count c = omega (arith, has_place c, c.loop-p.auto.list)

pub overflow_add-count : goal.overflow_add-count
overflow_add-count c = omega (arith, has_place c)

pub loop-p-preserved : goal.loop-p-preserved
loop-p-preserved c =
    let xs = c.args.list.now in
    let ys = c.loop-p.yielded in
    let p = c.in-Some.p in
    let lt : 0 + length ys < length xs = omega (arith, has_place c, c.loop-p.invariant.2) in (
      search of_calls,
      search of_calls,
      omega (arith, c.loop-p.invariant.2, length_push ys p),
      ap₂ (λ zs k. set zs k p) c.loop-p.invariant.3 (omega (arith, c.loop-p.invariant.2)) ∙ more_written xs ys 0 p lt,
      c.loop-p.invariant.4,
    )

pub returns : goal.returns
returns c =
    let all = events_pass (model c.args.self.now.network.now.content) (at c.args.position.now.minutes) c.args.self.now.t in
    let x = YieldsList-end c.loop-p.invariant.4 c.loop-p.yielded _ c.loop-p.yielded_by _ _ c.in-None.is c.next.ensures.steps in
    record {
      list = c.loop-p.invariant.3 ∙ ap (written c.args.list.now 0) (sym (same_items c.loop-p.yielded) ∙ x.0 ∙ sym all);
      count = c.loop-p.invariant.2 ∙ x.1 ∙ sym (ap length all);
    }
