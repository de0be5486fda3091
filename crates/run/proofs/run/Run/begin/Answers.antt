use Rattle.std.proofs.Common.{refl, subst}
use Rattle.network.specs.declared.network.Network.{Network}
use Rattle.network.specs.Model.{model}
use Rattle.network.proofs.Made.{well_made}
use Rattle.minute.specs.Minutes.{at}
use Rattle.judge.specs.Closing.{Judged}
use Rattle.run.proofs.Stand.{judged_live}
use Rattle.run.proofs.History.{history_first}
use Rattle.run.proofs.run.Run.begin.Goals as goal

pub returns-clause-begun : goal.returns-clause-begun
returns-clause-begun c =
    let n = c.args.card.network in
    record {
      card_is = refl;
      live = judged_live (model n.content) c.judge-closure.result (well_made n) (subst (λ (m : Network). Judged (model m.content) c.judge-closure.result) c.network.ensures c.judge-closure.ensures);
      next = refl;
      nothing = c.new.ensures;
    }

pub returns-clause-history : goal.returns-clause-history
returns-clause-history c = history_first (model c.args.card.network.content) (at c.new.result.minutes) c.new.ensures
