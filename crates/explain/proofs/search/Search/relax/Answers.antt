use Rattle.std.proofs.Common.{◌≡◌, ◌+◌, ◌≢◌, length, ◌<ℤ◌, sym, ap, ◌∙◌, subst, arith, w32, to_z, of_z}
use Rattle.std.proofs.lemmas.Int.{ints}
use Rattle.rules.specs.Steps.{given}
use Rattle.network.specs.Model.{model}
use Rattle.network.proofs.Made.{well_made}
use Rattle.explain.specs.declared.work.Best.{Best}
use Rattle.explain.specs.declared.search.Search.{Search}
use Rattle.explain.specs.Columns.{at, best, head_of, with_entry}
use Rattle.explain.specs.Working.{Onward}
use Rattle.explain.proofs.Columns.{head_in, point_column}
use Rattle.explain.proofs.Ending.{put_loop, ended_after}
use Rattle.explain.proofs.Holding.{point_room, column_room, given_few, few, near_at, Better, Next, next_written, next_back_near, next_loop, next_went, next_taken}
use Rattle.explain.proofs.search.Search.relax.Goals as goal
use Rattle.explain.proofs.search.Search.relax.Goals.{After-head-head, After-at-back}

-- past the tests, the step is worth making
less : (c : After-head-head) → c.args.step.makes.weight <ℤ at c.args.self.now.work.best c.args.p c.args.x
less c =
    let s = c.args.self.now in
    let range = c.requires.lawful.in_range in
    let near = near_at s.network.now s.work s.list.now c.requires.ready c.args.p c.args.x c.requires.place.0 c.requires.place.1 in
    omega (arith, ints, c.if-weight-at.false, ap (λ z. z.weight) c.at.ensures, range.0, range.1, near.0, near.1)

better : (c : After-head-head) → (c.head-head.result ≡ c.args.p → ⊥) → Better c.args.self.now c.args.p c.args.x c.args.step
better c ne =
    let apart : c.args.p ≢ head_of (model c.args.self.now.network.now.content) c.args.x = λ q. ne (c.head-head.ensures ∙ sym q) in
    record {
      ready = c.requires.ready;
      point_in = c.requires.place.0;
      column_in = c.requires.place.1;
      is = c.requires.way;
      lawful = c.requires.lawful;
      less = less c;
      apart = apart;
      low = c.requires.low apart;
    }

-- the edge as the table holds it
abbrev this : After-at-back → Best
this c = record { weight = to_z w32 (of_z w32 c.args.step.makes.weight); number = c.given_count.result + c.args.self.now.work.count }

this-is : (c : After-at-back) → this c ≡ record { weight = c.args.step.makes.weight; number = length (given (model c.args.self.now.network.now.content)) + c.args.self.now.work.count }
this-is c =
    let range = c.requires.lawful.in_range in
    let v-is : to_z w32 (of_z w32 c.args.step.makes.weight) ≡ c.args.step.makes.weight = omega (arith, ints, range.0, range.1) in
    λ i. record { weight = v-is i; number = c.given_count.ensures i + c.args.self.now.work.count }

abbrev after : After-at-back → Search
after c = record { network = c.write.new.self.network; list = c.write.new.self.list; work = c.put.new.self }

next : (c : After-at-back) → Next c.args.self.now c.args.p c.args.x c.args.step (after c)
next c =
    let s = c.args.self.now in
    let put = c.in_ok-write.ensures.put in
    let on = c.in_ok-write.ensures.follows in
    record {
      follows = record { network = on.network; list = on.list; onward = subst (λ k. Onward s.work.count s.list.now k c.write.new.self.list.now) (sym c.put.ensures.steps) on.onward };
      room = put.0;
      list = put.1;
      count = c.put.ensures.steps ∙ put.2;
      table = c.put.ensures.table ∙ (λ i. with_entry (put.3 i) c.args.p c.args.x (this-is c i));
    }

back-is : (c : After-at-back) → c.at-back.result ≡ best c.put.new.self.best (head_of (model c.args.self.now.network.now.content) c.args.x) c.args.p
back-is c = c.at-back.ensures ∙ ap (λ h. best c.put.new.self.best h c.args.p) c.head-head.ensures

pub at-requires : goal.at-requires
at-requires c = let n = c.args.self.now.network.now in (point_room n c.args.p c.requires.place.0, column_room n c.args.x c.requires.place.1)

pub overflow_add-number : goal.overflow_add-number
overflow_add-number c = let s = c.args.self.now in omega (arith, c.given_count.ensures, given_few s.network.now, few s.network.now s.work s.list.now c.requires.ready)

pub overflow_cast-number : goal.overflow_cast-number
overflow_cast-number c = let s = c.args.self.now in omega (arith, c.given_count.ensures, given_few s.network.now, few s.network.now s.work s.list.now c.requires.ready)

pub returns-then-head-p-clause-told : goal.returns-then-head-p-clause-told
returns-then-head-p-clause-told c =
    let s = c.args.self.now in
    let m = model s.network.now.content in
    let itself : head_of m c.args.x ≡ c.args.p = sym c.head-head.ensures ∙ c.if-head-p.true in
    let zero = (c.requires.ready.fair c.args.p c.args.x c.requires.place.0 c.requires.place.1).self (sym itself) in
    let source = ap (λ e. e.source) c.requires.way in
    let target = ap (λ e. e.target) c.requires.way in
    let lt = less ((goal.at-returns-then-head-p-clause-told c).After-head-head) in
    put_loop s c.write.new.self c.args.step c.in_ok-write.ensures.follows c.in_ok-write.ensures.put c.requires.ready.written c.requires.lawful
    (source ∙ sym itself ∙ sym target) (omega (arith, ints, lt, zero))

pub put-requires : goal.put-requires
put-requires c = let n = c.args.self.now.network.now in (point_room n c.args.p c.requires.place.0, column_room n c.args.x c.requires.place.1)

pub at-back-requires : goal.at-back-requires
at-back-requires c =
    let n = c.args.self.now.network.now in
    let m = model n.content in
    (omega (arith, c.head-head.ensures, point_room n (head_of m c.args.x) (head_in m (well_made n) c.args.x c.requires.place.1)), column_room n c.args.p (point_column m c.args.p c.requires.place.0))

pub overflow_add-back : goal.overflow_add-back
overflow_add-back c =
    let k = (goal.at-overflow_add-back c).After-at-back in
    let range = c.requires.lawful.in_range in
    let bw = ap (λ z. z.weight) (back-is k) in
    let bn = next_back_near (better ((goal.at-overflow_add-back c).After-head-head) c.if-head-p.false) c.in_ok-write.ensures.put.0 (next k) in
    omega (arith, ints, bw, bn.0, bn.1, range.0, range.1)

pub close-requires-clause-written : goal.close-requires-clause-written
close-requires-clause-written c =
    let k = (goal.at-close-requires-clause-written c).After-at-back in
    let b = better ((goal.at-close-requires-clause-written c).After-head-head) c.if-head-p.false in
    let room = c.in_ok-write.ensures.put.0 in
    let nx = next k in
    next_written b room nx

pub close-requires-clause-back : goal.close-requires-clause-back
close-requires-clause-back c =
    let k = (goal.at-close-requires-clause-back c).After-at-back in
    let b = better ((goal.at-close-requires-clause-back c).After-head-head) c.if-head-p.false in
    let room = c.in_ok-write.ensures.put.0 in
    let nx = next k in
    let range = c.requires.lawful.in_range in
    let bw = ap (λ z. z.weight) (back-is k) in
    let bn = next_back_near b room nx in
    next_loop b room nx c.at-back.result (this k) (back-is k) (this-is k) (omega (arith, ints, c.if-back-weight-lt0.true, bw, bn.0, bn.1, range.0, range.1))

pub returns-then-back-weight-lt0-clause-told : goal.returns-then-back-weight-lt0-clause-told
returns-then-back-weight-lt0-clause-told c = ended_after (next (goal.at-returns-then-back-weight-lt0-clause-told c).After-at-back).follows c.close.ensures

pub returns : goal.returns
returns c =
    let k = (goal.at-returns c).After-at-back in
    let b = better ((goal.at-returns c).After-head-head) c.if-head-p.false in
    let room = c.in_ok-write.ensures.put.0 in
    let nx = next k in
    let range = c.requires.lawful.in_range in
    let bw = ap (λ z. z.weight) (back-is k) in
    let bn = next_back_near b room nx in
    record {
      told = next_went b room nx (omega (arith, ints, c.if-back-weight-lt0.false, bw, bn.0, bn.1, range.0, range.1));
      taken = next_taken b room nx;
    }
