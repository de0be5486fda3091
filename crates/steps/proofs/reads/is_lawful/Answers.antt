use Rattle.std.proofs.Common.{rules, arith}
use Rattle.rules.specs.Steps.{all_known}
use Rattle.network.specs.Model.{model}
use Rattle.steps.proofs.Reading.{lawful_when}
use Rattle.steps.proofs.reads.is_lawful.Goals as goal

pub returns : goal.returns
returns c =
    let m = model c.args.network.now.content in
    let s = c.is_some_and.ensures in
    lawful_when m (all_known m c.args.made.now) c.args.step c.next_edge-next.result c.next_edge-next.ensures c.is_some_and.result (λ q. grind arith) (λ e q. (λ t. search rules, λ t. search rules))
