use Rattle.std.proofs.Common.{◌≡◌, suc, ◌<◌, get_or, pos, negsuc, ◌≤ℤ◌, ◌<ℤ◌, sym, ap, ◌∙◌, subst, arith}
use Rattle.std.proofs.lemmas.Int.{ints}
use Rattle.rules.specs.declared.edges.Edge.{Edge}
use Rattle.rules.specs.Steps.{given, no_edge}
use Rattle.network.specs.Model.{model}
use Rattle.explain.specs.Columns.{at, with_entry}
use Rattle.explain.specs.Working.{Loaded}
use Rattle.explain.proofs.Holding.{point_room, column_room}
use Rattle.explain.proofs.Loading.{OfColumn, given_at, no_column, of_it, near_loaded, loaded_same, loaded_put}
use Rattle.explain.proofs.work.Work.adopt.Goals as goal
use Rattle.explain.proofs.work.Work.adopt.Goals.{In-Some}

abbrev f : In-Some → Edge
f c = get_or (given (model c.args.network.now.content)) c.args.number no_edge

it : (c : In-Some) → OfColumn c.args.network.now (f c) c.in-Some.x
it c = of_it c.args.network.now c.args.self.now.best c.args.number c.requires.loaded c.requires.place c.in-Some.x c.in-Some.ensures.0

near : (c : In-Some) → (negsuc 1439 ≤ℤ at c.args.self.now.best (f c).source c.in-Some.x) × (at c.args.self.now.best (f c).source c.in-Some.x ≤ℤ pos 1441)
near c = near_loaded c.args.network.now c.args.self.now.best c.args.number c.requires.loaded (f c).source c.in-Some.x (it c).source_in (it c).column_in

room : (c : In-Some) → (c.in-Some.p < 32) × (c.in-Some.x < 40)
room c = let n = c.args.network.now in (omega (arith, c.in-Some.ensures.1, point_room n _ (it c).source_in), column_room n _ (it c).column_in)

pub returns-in_default-clause-table : goal.returns-in_default-clause-table
returns-in_default-clause-table c =
    let n = c.args.network.now in
    loaded_same n c.args.self.now.best c.args.number c.requires.loaded c.requires.place (no_column n (given_at n c.args.number c.requires.place) c.in_default.ensures c.args.self.now.best)

pub at-requires : goal.at-requires
at-requires c = room (goal.at-at-requires c).In-Some

pub put-requires : goal.put-requires
put-requires c = room (goal.at-put-requires c).In-Some

pub returns-then-entry-at-clause-table : goal.returns-then-entry-at-clause-table
returns-then-entry-at-clause-table c =
    let h = (goal.at-returns-then-entry-at-clause-table c).In-Some in
    let n = c.args.network.now in
    let k = c.args.number in
    let e = c.args.self.now.best in
    let x = c.in-Some.x in
    let is = c.in-Some.ensures in
    let less : (f h).weight <ℤ at e (f h).source x =
    omega (arith, ints, c.if-entry-at.true, ap (λ z. z.weight) c.at.ensures, ap (λ p. at e p x) is.1, ap (λ z. z.weight) is.2, (it h).low, (it h).high, (near h).0, (near h).1) in
    let table : c.put.new.self.best ≡ with_entry e (f h).source x (record { weight = (f h).weight; number = k }) =
    c.put.ensures.table ∙ (λ i. with_entry e (is.1 i) x (is.2 i)) in
    subst (λ t. Loaded (model n.content) t (suc k)) (sym table) (loaded_put n e k c.requires.loaded c.requires.place x is.0 less)
