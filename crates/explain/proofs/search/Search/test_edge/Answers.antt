use Rattle.std.proofs.Common.{◌≡◌, ℕ, ◌<◌, ℤ, get_or, pos, negsuc, ◌+ℤ◌, neg_ℤ, ◌≤ℤ◌, ◌<ℤ◌, sym, refl, ap, ◌∙◌, subst, arith}
use Rattle.std.proofs.lemmas.Int.{ints}
use Rattle.rules.specs.declared.edges.Kind.TheVariants.{Plain}
use Rattle.rules.specs.declared.edges.Edge.{Edge}
use Rattle.rules.specs.Card.{Card}
use Rattle.rules.specs.Edges.{edge}
use Rattle.rules.specs.Steps.{given, no_edge, known}
use Rattle.network.specs.Model.{model}
use Rattle.explain.specs.Columns.{at, best, columns, head_of}
use Rattle.explain.specs.Working.{known_to, Back, Stands}
use Rattle.explain.proofs.Holding.{point_room, horizon_in, given_stands}
use Rattle.explain.proofs.Loading.{OfColumn}
use Rattle.explain.proofs.Testing.{it, head_below, near_back, this_stands, back_given, back_detour, tested}
use Rattle.explain.proofs.search.Search.test_edge.Goals as goal
use Rattle.explain.proofs.search.Search.test_edge.Goals.{In-Some, After-at-back}

-- a weight w that closes no negative loop with a weight a, which is h at most, is -h at least
above_limit : (a w : ℤ) (h : ℕ) → pos 0 ≤ℤ (a +ℤ w) → a ≤ℤ pos h → neg_ℤ (pos h) ≤ℤ w
above_limit a w h sum le = omega (arith, ints)

-- ---- the edge of the number

abbrev card : In-Some → Card
card c = model c.args.self.now.network.now.content

abbrev f : In-Some → Edge
f c = get_or (given (card c)) c.args.number no_edge

of_it : (c : In-Some) → OfColumn c.args.self.now.network.now (f c) c.in-Some.x
of_it c = it c.args.self.now.network.now c.args.self.now.work.best c.requires.fresh.loaded c.args.number c.requires.place c.in-Some.x c.in-Some.ensures.0

head_in : (c : In-Some) → head_of (card c) c.in-Some.x < (card c).points
head_in c = head_below c.args.self.now.network.now c.args.self.now.work.best c.requires.fresh.loaded c.args.number c.requires.place c.in-Some.x c.in-Some.ensures.0

near : (c : In-Some) → (negsuc 1439 ≤ℤ at c.args.self.now.work.best (head_of (card c) c.in-Some.x) (f c).source) × (at c.args.self.now.work.best (head_of (card c) c.in-Some.x) (f c).source ≤ℤ pos 1441)
near c = near_back c.args.self.now.network.now c.args.self.now.work.best c.requires.fresh.loaded c.args.number c.requires.place c.in-Some.x c.in-Some.ensures.0

-- the entry that leads back
back-is : (c : After-at-back) (p : ℕ) → c.in-Some.p ≡ p → c.at-back.result ≡ best c.args.self.now.work.best (head_of (model c.args.self.now.network.now.content) c.in-Some.x) p
back-is c p is = c.at-back.ensures ∙ (λ j. best c.args.self.now.work.best (c.head-head.ensures j) (is j))

-- ---- the tests

pub head-head-requires : goal.head-head-requires
head-head-requires c = (of_it (goal.at-head-head-requires c).In-Some).column_in

pub at-back-requires : goal.at-back-requires
at-back-requires c =
    let k = (goal.at-at-back-requires c).In-Some in
    let n = c.args.self.now.network.now in
    (omega (arith, c.head-head.ensures, point_room n _ (head_in k)), omega (arith, c.in-Some.ensures.1, point_room n _ (of_it k).source_in))

pub overflow_add-back : goal.overflow_add-back
overflow_add-back c =
    let k = (goal.at-overflow_add-back c).In-Some in
    let bw = ap (λ b. b.weight) (back-is (goal.at-overflow_add-back c).After-at-back _ c.in-Some.ensures.1) in
    omega (arith, ints, bw, (near k).0, (near k).1, ap (λ b. b.weight) c.in-Some.ensures.2, (of_it k).low, (of_it k).high)

pub close-requires-clause-place : goal.close-requires-clause-place
close-requires-clause-place c =
    let k = (goal.at-close-requires-clause-place c).In-Some in
    (omega (arith, c.in-Some.ensures.1, (of_it k).source_in), (of_it k).column_in)

pub close-requires-clause-back : goal.close-requires-clause-back
close-requires-clause-back c =
    let k = (goal.at-close-requires-clause-back c).In-Some in
    let s = c.args.self.now in
    let n = s.network.now in
    let m = card k in
    let e = c.in-Some.ensures in
    let tw = ap (λ b. b.weight) e.2 in
    let is = back-is (goal.at-close-requires-clause-back c).After-at-back _ e.1 in
    let bw = ap (λ b. b.weight) is in
    subst (λ p. Back m (known_to s) p c.in-Some.x c.at-back.result c.in-Some.this) (sym e.1)
    (back_given n s.work.best c.requires.fresh.loaded c.args.number c.requires.place c.in-Some.x e.0 s.list.now s.work.count c.requires.fresh.count c.at-back.result c.in-Some.this is
    (omega (arith, ints, c.if-back-limit.true, bw, (near k).0, (near k).1, horizon_in n)) e.2
    (omega (arith, ints, c.if-back-this-lt0.true, bw, (near k).0, (near k).1, tw, (of_it k).low, (of_it k).high)))

pub returns-then-back-limit : goal.returns-then-back-limit
returns-then-back-limit c =
    let k = (goal.at-returns-then-back-limit c).In-Some in
    let s = c.args.self.now in
    let n = s.network.now in
    let m = card k in
    let e = c.in-Some.ensures in
    let fw = ap (λ b. b.weight) e.2 in
    let bw = ap (λ b. b.weight) (back-is (goal.at-returns-then-back-limit c).After-at-back _ e.1) in
    let le : at s.work.best (head_of m c.in-Some.x) (f k).source ≤ℤ pos m.horizon = omega (arith, ints, c.if-back-limit.true, bw, (near k).0, (near k).1, horizon_in n) in
    let sum : pos 0 ≤ℤ (at s.work.best (head_of m c.in-Some.x) (f k).source +ℤ (f k).weight) = omega (arith, ints, c.if-back-this-lt0.false, bw, (near k).0, (near k).1, fw, (of_it k).low, (of_it k).high) in
    (refl, tested n s.work.best c.requires.fresh.loaded c.args.number c.requires.place c.in-Some.x e.0 (above_limit _ _ _ sum le) sum)

pub returns-then-this-limit : goal.returns-then-this-limit
returns-then-this-limit c =
    let k = (goal.at-returns-then-this-limit c).In-Some in
    let s = c.args.self.now in
    let n = s.network.now in
    let m = card k in
    let e = c.in-Some.ensures in
    let fw = ap (λ b. b.weight) e.2 in
    let bw = ap (λ b. b.weight) (back-is (goal.at-returns-then-this-limit c).After-at-back _ e.1) in
    let gt : pos m.horizon <ℤ at s.work.best (head_of m c.in-Some.x) (f k).source = omega (arith, ints, c.if-back-limit.false, bw, (near k).0, (near k).1, horizon_in n) in
    let ge : neg_ℤ (pos m.horizon) ≤ℤ (f k).weight = omega (arith, ints, c.if-this-limit.true, fw, (of_it k).low, (of_it k).high, horizon_in n) in
    (refl, tested n s.work.best c.requires.fresh.loaded c.args.number c.requires.place c.in-Some.x e.0 ge (omega (arith, ints, gt, ge)))

pub detour-requires-clause-place : goal.detour-requires-clause-place
detour-requires-clause-place c =
    let k = (goal.at-detour-requires-clause-place c).In-Some in
    let e = c.in-Some.ensures in
    let here = c.head-head.ensures in
    (omega (arith, here, head_in k), omega (arith, e.1, (of_it k).source_in), λ q. (of_it k).apart (sym e.1 ∙ sym q ∙ here))

pub close-requires-2-clause-place : goal.close-requires-2-clause-place
close-requires-2-clause-place c =
    let k = (goal.at-close-requires-2-clause-place c).In-Some in
    subst (λ z. (c.in-Some.p < (model z.content).points) × (c.in-Some.x < columns (model z.content))) (sym c.in_ok-detour.ensures.1.network)
    (omega (arith, c.in-Some.ensures.1, (of_it k).source_in), (of_it k).column_in)

pub close-requires-2-clause-back : goal.close-requires-2-clause-back
close-requires-2-clause-back c =
    let k = (goal.at-close-requires-2-clause-back c).In-Some in
    let s = c.args.self.now in
    let t = c.detour.new.self in
    let n = s.network.now in
    let m = card k in
    let e = c.in-Some.ensures in
    let d = c.in_ok-detour.ensures in
    let net = d.1.network in
    let es = known m t.list.now t.work.count in
    let back = c.in_ok-detour.detour in
    let x = c.in-Some.x in
    let stands : Stands es back.number (edge Plain c.head-head.result c.in-Some.p back.weight) =
    subst (λ z. Stands (known (model z.content) t.list.now t.work.count) back.number (edge Plain c.head-head.result c.in-Some.p back.weight)) net d.4 in
    let loop : Back m es c.in-Some.p x back c.in-Some.this =
    subst (λ p. Back m es p x back c.in-Some.this) (sym e.1)
    (back_detour n s.work.best c.requires.fresh.loaded c.args.number c.requires.place x e.0 es back c.in-Some.this
    (subst (λ g. Stands es back.number g) (λ j. edge Plain (c.head-head.ensures j) (e.1 j) back.weight) stands)
    (subst (λ z. back.weight ≡ pos (model z.content).horizon) net d.3) e.2
    (given_stands m t.list.now t.work.count c.args.number _ (this_stands n s.work.best c.requires.fresh.loaded c.args.number c.requires.place x e.0))
    (omega (arith, ints, c.if-this-limit.false, ap (λ b. b.weight) e.2, (of_it k).low, (of_it k).high, horizon_in n))) in
    subst (λ z. Back (model z.content) (known (model z.content) t.list.now t.work.count) c.in-Some.p x back c.in-Some.this) (sym net) loop
