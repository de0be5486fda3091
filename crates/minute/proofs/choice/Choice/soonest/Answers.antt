use Rattle.std.proofs.Common.{sym, ◌∙◌, ap₂, add-one}
use Rattle.minute.specs.Minutes.{marked}
use Rattle.minute.specs.Deciding.{soonest}
use Rattle.minute.proofs.choice.Choice.soonest.Goals as goal

pub returns-in-None : goal.returns-in-None
unfolding marked
returns-in-None c = add-one _ ∙ sym (ap₂ (soonest c.args.self.now.minute.t) (sym c.in-None.ensures) c.if-self-p.true)

pub returns-in-None-2 : goal.returns-in-None-2
unfolding marked
returns-in-None-2 c = sym (ap₂ (soonest c.args.self.now.minute.t) (sym c.in-None-2.ensures) c.if-self-p.false)
