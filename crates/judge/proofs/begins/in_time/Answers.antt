use Rattle.std.proofs.Common.{◌<◌, ◌≤◌, rules, tests}
use Rattle.std.proofs.lemmas.Iterator.{cases_from_all, YieldsList-from_slice}
use Rattle.judge.proofs.Beginning.{in_time_cases}
use Rattle.judge.proofs.begins.in_time.Goals as goal

pub returns : goal.returns
returns c =
    in_time_cases c.args.network.now c.spans.result.now c.horizon-horizon.result c.all.result c.spans.ensures c.horizon-horizon.ensures
    (cases_from_all _ _ _ (λ x. x.most ≤ c.horizon-horizon.result) (λ x. c.horizon-horizon.result < x.most) c.all.ensures.ran (YieldsList-from_slice c.spans.result.now cc) (λ x q k. search (rules, tests)) (λ x q k. search (rules, tests)))
