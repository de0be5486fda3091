use Rattle.std.proofs.Common.{◌≡◌, get_or, None, Some, sym, ap, ◌∙◌, subst, arith, to_z, of_z, w32}
use Rattle.std.proofs.lemmas.Int.{ints}
use Rattle.rules.specs.declared.edges.Edge.{Edge}
use Rattle.rules.specs.Steps.{given, no_edge}
use Rattle.network.specs.Model.{model}
use Rattle.explain.specs.Working.{column_at, GivenEntry}
use Rattle.explain.proofs.Holding.{given_few}
use Rattle.explain.proofs.Loading.{found_edge, edge_there, given_at, given_range}
use Rattle.explain.proofs.given.given_entry.Goals as goal
use Rattle.explain.proofs.given.given_entry.Goals.{After-column}

abbrev f : After-column → Edge
f c = get_or (given (model c.args.network.now.content)) c.args.number no_edge

f-is : (c : After-column) → c.in_ok-edge.edge ≡ f c
f-is c = found_edge (given (model c.args.network.now.content)) c.args.number c.in_ok-edge.edge c.given_edge.result c.requires c.given_edge.ensures c.in_ok-edge.was

pub returns-in_err-edge : goal.returns-in_err-edge
returns-in_err-edge c = edge_there (given (model c.args.network.now.content)) c.args.number c.given_edge.result c.requires c.given_edge.ensures c.in_err-edge.was

pub returns-in_err-x : goal.returns-in_err-x
returns-in_err-x c =
    let k = (goal.at-returns-in_err-x c).After-column in
    let m = model c.args.network.now.content in
    subst (GivenEntry m (f k) c.args.number) (sym c.from_residual-in_err-x.ensures)
    (subst (λ g. column_at m g.kind g.target ≡ None) (f-is k) (sym c.column.ensures ∙ c.in_err-x.was))

pub overflow_cast-entry : goal.overflow_cast-entry
overflow_cast-entry c = omega (arith, c.requires, given_few c.args.network.now)

pub returns : goal.returns
returns c =
    let k = (goal.at-returns c).After-column in
    let n = c.args.network.now in
    let m = model n.content in
    let range = given_range n (given_at n c.args.number c.requires) in
    let weight : to_z w32 (of_z w32 c.in_ok-edge.edge.weight) ≡ (f k).weight = omega (arith, ints, ap (λ g. g.weight) (f-is k), range.0, range.1) in (
      subst (λ g. column_at m g.kind g.target ≡ Some c.in_ok-x.x) (f-is k) (sym c.column.ensures ∙ c.in_ok-x.was),
      c.from.ensures ∙ ap (λ g. g.source) (f-is k),
      λ i. record { weight = weight i; number = c.args.number },
    )
