use Rattle.std.proofs.Common.{◌<◌, length, refl, subst, below_more, arith}
use Rattle.std.proofs.lemmas.Bool.Decides.{not_from_Decides}
use Rattle.rules.specs.Steps.{step_at, unlawful, LawfulStep}
use Rattle.network.specs.Model.{model}
use Rattle.steps.proofs.Reading.{known_prefix}
use Rattle.steps.proofs.reads.read.Goals as goal

pub returns-then-not-is_lawful : goal.returns-then-not-is_lawful
unfolding step_at
returns-then-not-is_lawful c =
    let m = model c.args.network.now.content in
    let h : c.loop-place.place < length c.args.steps.now = grind arith in
    record {
      means = unlawful c.loop-place.place;
      reads = (h, c.loop-place.invariant, subst (λ es. LawfulStep m es (step_at c.args.steps.now c.loop-place.place) → ⊥) (known_prefix m c.args.steps.now c.loop-place.place (omega arith)) (not_from_Decides c.is_lawful.result c.is_lawful.ensures c.if-not-is_lawful.true));
      is = refl;
    }

pub loop-place-preserved : goal.loop-place-preserved
unfolding step_at
loop-place-preserved c =
    let m = model c.args.network.now.content in
    let h : c.loop-place.place < length c.args.steps.now = grind arith in
    below_more _ _ c.loop-place.invariant (subst (λ es. LawfulStep m es (step_at c.args.steps.now c.loop-place.place)) (known_prefix m c.args.steps.now c.loop-place.place (omega arith)) (c.is_lawful.ensures.0 c.if-not-is_lawful.false))
