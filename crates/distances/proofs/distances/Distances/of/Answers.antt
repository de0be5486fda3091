use Rattle.std.proofs.Common.{◌≡◌, ap, subst, arith}
use mathlib.Core.Path.{fun_ext}
use Rattle.network.specs.Model.{model}
use Rattle.walks.specs.Minutes.{of_minutes, absent_minutes, sum, lesser, far}
use Rattle.walks.specs.Tables.{cell}
use Rattle.walks.specs.Walks.{Best}
use Rattle.distances.specs.Distances.{between}
use Rattle.distances.proofs.Lightest.{given_small}
use Rattle.distances.proofs.distances.Distances.of.Goals as goal

pub best_walks-requires : goal.best_walks-requires
best_walks-requires c =
    (omega arith, (omega arith, (omega arith, λ p q h k. omega (arith, given_small c.args.network.now p q, ap far (c.given_weights-edges.ensures p q)))))

pub returns : goal.returns
unfolding between
returns c = λ p q h k.
    let n = c.args.network.now in
    let same : cell of_minutes absent_minutes c.given_weights-edges.result ≡ between (model n.content) = fun_ext (λ a. fun_ext (λ b. c.given_weights-edges.ensures a b)) in
    subst (λ f. Best sum lesser f n.content.points 32 p q (cell of_minutes absent_minutes c.best_walks.new.out p q)) same (c.best_walks.ensures.best p q h k)
