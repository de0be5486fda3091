use Rattle.std.proofs.Common.{◌≡◌, rules, tests}
use Rattle.std.proofs.lemmas.Iterator.{cases_from_any, YieldsList-from_slice}
use Rattle.network.specs.Model.{model}
use Rattle.network.proofs.Parts.{finish_found}
use Rattle.network.proofs.network.Network.is_finish.Goals as goal

pub returns : goal.returns
returns c =
    let card = model c.args.self.now.content in
    let p = c.args.point in
    finish_found card p _
    (cases_from_any _ _ _ (λ x. x.finish ≡ p) (λ x. x.finish ≡ p → ⊥) c.any.ensures.ran (YieldsList-from_slice card.spans cc) (λ x q k. search (rules, tests)) (λ x q k. search (rules, tests)))
