use Rattle.std.proofs.Common.{◌≡◌, ◌<◌, get_or, pos, ◌+ℤ◌, sym, ap, ◌∙◌, subst, arith}
use Rattle.std.proofs.lemmas.Int.{ints}
use Rattle.rules.specs.Card.{no_span, start_of, least_of}
use Rattle.rules.specs.Edges.{Released}
use Rattle.rules.specs.Steps.{LawfulStep}
use Rattle.network.specs.Model.{model}
use Rattle.network.proofs.Made.{well_made, span_in}
use Rattle.explain.specs.Columns.{at, best, wait_of, way}
use Rattle.explain.specs.Working.{known_to, Present}
use Rattle.explain.proofs.Columns.{wait_column, point_column, span_bound, span_start, span_least}
use Rattle.explain.proofs.Holding.{near_at, went_none}
use Rattle.explain.proofs.Chaining.{told_as}
use Rattle.explain.proofs.Spanning.{release_step, release_lawful, least_small}
use Rattle.explain.proofs.search.Search.release.Goals as goal
use Rattle.explain.proofs.search.Search.release.Goals.{In-Some, After-spans, After-from-start}

-- the span
start-is : (c : After-from-start) → c.from-start.result ≡ start_of (model c.args.self.now.network.now.content) c.args.s
start-is c = c.from-start.ensures ∙ span_start (model c.args.self.now.network.now.content) _ c.spans.ensures c.args.s

least-is : (c : After-spans) → (get_or c.spans.result.now c.args.s no_span).least ≡ least_of (model c.args.self.now.network.now.content) c.args.s
least-is c = span_least (model c.args.self.now.network.now.content) _ c.spans.ensures c.args.s

-- the wait
wait-is : (c : In-Some) → c.in-Some.wait ≡ best c.args.self.now.work.best c.args.p (wait_of (model c.args.self.now.network.now.content) c.args.s)
wait-is c = c.in-Some.ensures.0 ∙ ap (best c.args.self.now.work.best c.args.p) c.wait_column.ensures

pub edge-requires : goal.edge-requires
edge-requires c = let n = c.args.self.now.network.now in (c.requires.place.1, omega (arith, c.wait_column.ensures, wait_column (model n.content) c.args.s c.requires.place.0))

pub offset_bounds-spans-s : goal.offset_bounds-spans-s
offset_bounds-spans-s c = let n = c.args.self.now.network.now in omega (arith, span_in n c.args.s c.requires.place.0, n.counts.2.0)

pub bounds-spans-s : goal.bounds-spans-s
bounds-spans-s c = span_bound (model c.args.self.now.network.now.content) _ c.spans.ensures _ c.requires.place.0

pub returns-then-wait-from : goal.returns-then-wait-from
returns-then-wait-from c =
    let s = c.args.self.now in
    let n = s.network.now in
    let m = model n.content in
    let rw' = ap (λ b. b.weight) (wait-is (goal.at-returns-then-wait-from c).In-Some) in
    let v = near_at n s.work s.list.now c.requires.ready c.args.p (wait_of m c.args.s) c.requires.place.1 (wait_column m c.args.s c.requires.place.0) in
    let small = least_small n s.work s.list.now c.requires.ready c.args.s c.requires.place.0 in
    let lw = least-is (goal.at-returns-then-wait-from c).After-spans in
    went_none s c.requires.ready (λ _ low. absurd (omega (arith, ints, c.if-wait-from.true, rw', v.0, v.1, lw, small, low)))

pub joined-step-requires-clause-place : goal.joined-step-requires-clause-place
joined-step-requires-clause-place c =
    let s = c.args.self.now in
    let n = s.network.now in
    let m = model n.content in
    (c.requires.place.1, point_column m _ (omega (arith, start-is (goal.at-joined-step-requires-clause-place c).After-from-start, (well_made n).start_in c.args.s c.requires.place.0)))

pub relax-requires-clause-place : goal.relax-requires-clause-place
relax-requires-clause-place c =
    let s = c.args.self.now in
    let n = s.network.now in
    let m = model n.content in
    let i = c.args.s in
    let st = start-is (goal.at-relax-requires-clause-place c).After-from-start in
    let start_in : c.from-start.result < m.points = omega (arith, st, (well_made n).start_in i c.requires.place.0) in
    (c.requires.place.1, point_column m _ start_in)

pub relax-requires-clause-lawful : goal.relax-requires-clause-lawful
relax-requires-clause-lawful c =
    let s = c.args.self.now in
    let n = s.network.now in
    let m = model n.content in
    let i = c.args.s in
    let p = c.args.p in
    let st = start-is (goal.at-relax-requires-clause-lawful c).After-from-start in
    let r = wait-is (goal.at-relax-requires-clause-lawful c).In-Some in
    let rw' = ap (λ b. b.weight) r in
    let v = near_at n s.work s.list.now c.requires.ready p (wait_of m i) c.requires.place.1 (wait_column m i c.requires.place.0) in
    let pres = subst (Present m s.work.best p) c.wait_column.ensures c.in-Some.ensures.1 in
    let small = least_small n s.work s.list.now c.requires.ready i c.requires.place.0 in
    let lw = least-is (goal.at-relax-requires-clause-lawful c).After-spans in
    let released : Released m i (at s.work.best p (wait_of m i)) = omega (arith, ints, c.if-wait-from.false, rw', v.0, v.1, lw, small) in
    let sum : c.in-Some.wait.weight +ℤ pos 0 ≡ at s.work.best p (wait_of m i) = omega (arith, ints, rw') in
    let is : c.joined-step.result ≡ release_step m s.work.best i p =
    c.joined-step.ensures ∙ (λ j. record { letter = 82; left = (r j).number; right = (r j).number; makes = way m p (st j) (sum j) }) in
    subst (LawfulStep m (known_to s)) (sym is) (release_lawful n s.work s.list.now c.requires.ready i c.requires.place.0 p c.requires.place.1 pres released)

pub relax-requires-clause-low : goal.relax-requires-clause-low
relax-requires-clause-low c =
    let s = c.args.self.now in
    let n = s.network.now in
    let m = model n.content in
    let i = c.args.s in
    let p = c.args.p in
    let st = start-is (goal.at-relax-requires-clause-low c).After-from-start in
    let r = wait-is (goal.at-relax-requires-clause-low c).In-Some in
    let rw' = ap (λ b. b.weight) r in
    let sum : c.in-Some.wait.weight +ℤ pos 0 ≡ at s.work.best p (wait_of m i) = omega (arith, ints, rw') in
    let is : c.joined-step.result ≡ release_step m s.work.best i p =
    c.joined-step.ensures ∙ (λ j. record { letter = 82; left = (r j).number; right = (r j).number; makes = way m p (st j) (sum j) }) in
    λ _. omega (arith, ints, ap (λ z. z.makes.weight) is, (c.requires.ready.fair p (wait_of m i) c.requires.place.1 (wait_column m i c.requires.place.0)).low)

pub returns : goal.returns
returns c =
    let s = c.args.self.now in
    let r = wait-is (goal.at-returns c).In-Some in
    told_as s c.relax.new.self c.relax.result c.relax.ensures.told
    (λ z _ _. omega (arith, ints, z, ap (at s.work.best c.args.p) (start-is (goal.at-returns c).After-from-start), ap (λ y. y.makes.weight) c.joined-step.ensures, ap (λ y. y.weight) r))
