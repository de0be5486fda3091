use Rattle.std.proofs.Common.{◌≡◌, Some, ap, ◌∙◌, arith, rules}
use Rattle.std.proofs.lemmas.Int.{ints}
use Rattle.walks.specs.Minutes.{of_minutes, absent_minutes, lesser}
use Rattle.walks.specs.Tables.{cell}
use Rattle.distances.proofs.Lightest.{noted}
use Rattle.distances.proofs.weights.note.Goals as goal

pub returns-then-eq : goal.returns-then-eq
returns-then-eq c =
    let weight : of_minutes c.of.result ≡ Some c.args.edge.weight = c.of.ensures ∙ ap Some (omega (arith, ints)) in
    noted c.args.edge (search rules) c.from-p.result c.from-q.result c.from-p.ensures c.from-q.ensures
    (cell of_minutes absent_minutes c.args.table.now) (cell of_minutes absent_minutes c.put_weight.new.table)
    (ap of_minutes c.put_weight.ensures.here ∙ c.choose-lighter.ensures ∙ ap (λ x. lesser (of_minutes x) (of_minutes c.of.result)) c.weight_at.ensures ∙ ap (lesser _) weight)
    (λ p q ne. ap of_minutes (c.put_weight.ensures.others p q ne))
