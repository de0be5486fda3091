use Rattle.std.proofs.Common.{◌<◌}
use Rattle.rules.specs.Card.{span_count}
use Rattle.explain.specs.Columns.{columns}
use Rattle.explain.specs.Working.{Below, RuleN, RuleL, RuleR}
use Rattle.explain.proofs.Chaining.{went_both}
use Rattle.explain.proofs.search.Search.round.Goals as goal

pub returns : goal.returns
returns c =
    went_both
    (λ card e. Below (span_count card) (λ s. Below (columns card) (RuleL card e s) × Below card.points (RuleR card e s)))
    (λ card e. Below card.points (λ q. 0 < q → Below card.points (λ p. Below (columns card) (RuleN card e p q))))
    c.in_ok-spans.ensures c.in_ok-chains.ensures
