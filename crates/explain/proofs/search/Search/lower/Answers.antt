use Rattle.std.proofs.Common.{◌≡◌, ℕ, ◌≢◌, pos, ◌+ℤ◌, ◌<ℤ◌, sym, ap, ◌∙◌, subst, arith}
use Rattle.std.proofs.lemmas.Int.{ints}
use Rattle.rules.specs.Card.{start_of, finish_of}
use Rattle.rules.specs.Steps.{LawfulStep}
use Rattle.network.specs.Model.{model}
use Rattle.network.proofs.Made.{well_made, span_in}
use Rattle.explain.specs.Columns.{at, best, wait_of, way}
use Rattle.explain.specs.Working.{known_to, Present}
use Rattle.explain.proofs.Columns.{span_bound, span_start, span_finish}
use Rattle.explain.proofs.Holding.{near_at, went_none}
use Rattle.explain.proofs.Chaining.{told_as}
use Rattle.explain.proofs.Spanning.{lower_step, lower_lawful, least_small}
use Rattle.explain.proofs.search.Search.lower.Goals as goal
use Rattle.explain.proofs.search.Search.lower.Goals.{After-from, After-from-start, In-Some}

-- the span
start-is : (c : After-from-start) → c.from-start.result ≡ start_of (model c.args.self.now.network.now.content) c.args.s
start-is c = c.from-start.ensures ∙ span_start (model c.args.self.now.network.now.content) _ c.spans.ensures c.args.s

finish-is : (c : After-from) → c.from.result ≡ finish_of (model c.args.self.now.network.now.content) c.args.s
finish-is c = c.from.ensures ∙ span_finish (model c.args.self.now.network.now.content) _ c.spans.ensures c.args.s

-- the edge from its finish
right-is : (c : In-Some) (f : ℕ) → c.from.result ≡ f → c.in-Some.right ≡ best c.args.self.now.work.best f c.args.x
right-is c f is = c.in-Some.ensures.0 ∙ ap (λ p. best c.args.self.now.work.best p c.args.x) is

pub offset_bounds-spans-s : goal.offset_bounds-spans-s
offset_bounds-spans-s c = let n = c.args.self.now.network.now in omega (arith, span_in n c.args.s c.requires.place.0, n.counts.2.0)

pub bounds-spans-s : goal.bounds-spans-s
bounds-spans-s c = span_bound (model c.args.self.now.network.now.content) _ c.spans.ensures _ c.requires.place.0

pub returns-in_default : goal.returns-in_default
returns-in_default c =
    let s = c.args.self.now in
    let is = finish-is (goal.at-returns-in_default c).After-from in
    went_none s c.requires.ready (λ _ pres _. absurd (c.in_default.ensures (subst (λ f. Present (model s.network.now.content) s.work.best f c.args.x) (sym is) pres)))

pub returns-then-right-ge0 : goal.returns-then-right-ge0
returns-then-right-ge0 c =
    let s = c.args.self.now in
    let n = s.network.now in
    let m = model n.content in
    let rw' = ap (λ b. b.weight) (right-is (goal.at-returns-then-right-ge0 c).In-Some _ (finish-is (goal.at-returns-then-right-ge0 c).After-from)) in
    let v = near_at n s.work s.list.now c.requires.ready (finish_of m c.args.s) c.args.x ((well_made n).finish_in c.args.s c.requires.place.0) c.requires.place.1 in
    went_none s c.requires.ready (λ _ _ early. absurd (omega (arith, ints, c.if-right-ge0.true, rw', v.0, v.1, early)))

pub joined-step-requires-clause-left : goal.joined-step-requires-clause-left
joined-step-requires-clause-left c =
    let s = c.args.self.now in
    let n = s.network.now in
    let small = least_small n s.work s.list.now c.requires.ready c.args.s c.requires.place.0 in
    (omega (arith, ints, c.lower_edge-left.ensures.weight), omega (arith, ints, c.lower_edge-left.ensures.weight, small))

pub relax-requires-clause-lawful : goal.relax-requires-clause-lawful
relax-requires-clause-lawful c =
    let s = c.args.self.now in
    let n = s.network.now in
    let m = model n.content in
    let i = c.args.s in
    let x = c.args.x in
    let k = (goal.at-relax-requires-clause-lawful c).After-from in
    let st = start-is (goal.at-relax-requires-clause-lawful c).After-from-start in
    let r = right-is (goal.at-relax-requires-clause-lawful c).In-Some _ (finish-is k) in
    let rw' = ap (λ b. b.weight) r in
    let pres = subst (λ f. Present m s.work.best f x) (finish-is k) c.in-Some.ensures.1 in
    let v = near_at n s.work s.list.now c.requires.ready (finish_of m i) x ((well_made n).finish_in i c.requires.place.0) c.requires.place.1 in
    let early : at s.work.best (finish_of m i) x <ℤ pos 0 = omega (arith, ints, c.if-right-ge0.false, rw', v.0, v.1) in
    let other : x ≢ wait_of m i = λ q. c.if-x-wait_column.false (q ∙ sym c.wait_column.ensures) in
    let letter = c.lower_letter.ensures in
    let lw = c.lower_edge-left.ensures.weight in
    let is : c.joined-step.result ≡ lower_step m s.work.best i c.lower_edge-left.result.number x =
    c.joined-step.ensures ∙ (λ j. record { letter = letter j; left = c.lower_edge-left.result.number; right = (r j).number; makes = way m (st j) x (lw j +ℤ (r j).weight) }) in
    subst (LawfulStep m (known_to s)) (sym is) (lower_lawful n s.work s.list.now c.requires.ready i c.requires.place.0 c.lower_edge-left.result.number x c.requires.place.1 c.lower_edge-left.ensures.number other pres early)

pub returns : goal.returns
returns c =
    let s = c.args.self.now in
    let k = (goal.at-returns c).After-from in
    let r = right-is (goal.at-returns c).In-Some _ (finish-is k) in
    told_as s c.relax.new.self c.relax.result c.relax.ensures.told
    (λ z _ _ _. omega (arith, ints, z, ap (λ a. at s.work.best a c.args.x) (start-is (goal.at-returns c).After-from-start), ap (λ y. y.makes.weight) c.joined-step.ensures, ap (λ y. y.weight) r, c.lower_edge-left.ensures.weight))
