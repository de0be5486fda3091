use Rattle.kitchen.proofs.Rested.{advanced_rested}
use Rattle.kitchen.proofs.resting.RestingKitchen.advance.Goals as goal

pub returns-clause-rule : goal.returns-clause-rule
returns-clause-rule g c =
    let k = c.args.self.now in
    advanced_rested (g.K.Kitchen.spans k.under) _ k.rests _ (g.met.K.Kitchen.keeps k.under) c.advance.ensures.rule c.count_advance.ensures
