use Rattle.std.proofs.Common.{true, sym, refl, ap, ◌∙◌, arith}
use Rattle.std.proofs.lemmas.List.{length-set}
use mathlib.Core.Path.{fun_ext}
use Rattle.rules.specs.Game.{also}
use Rattle.network.specs.Model.{model}
use Rattle.minute.proofs.Arrays.{unmarked, marked_set}
use Rattle.minute.proofs.Hearing.{none_found, added, found_finishes}
use Rattle.minute.proofs.Plain.{count_is, finish_is, finish_in}
use Rattle.minute.proofs.decide.finishes.Goals as goal

pub loop-span-init : goal.loop-span-init
loop-span-init c = (refl, fun_ext (λ p. unmarked 32 p ∙ sym (none_found (model c.args.network.now.content) (λ _. true) p)))

pub loop-span-preserved : goal.loop-span-preserved
loop-span-preserved c =
    let n = c.args.network.now in
    let i = c.loop-span.span-index in
    let h = finish_in n c.spans-spans.result.now c.spans-spans.ensures i c.loop-span-test.true in (
      length-set c.loop-span.marks c.from.result true ∙ c.loop-span.invariant.0,
      marked_set c.loop-span.marks c.from.result (omega arith)
          ∙ ap (λ f. also f c.from.result) c.loop-span.invariant.1
          ∙ ap (also _) (c.from.ensures ∙ finish_is n c.spans-spans.result.now c.spans-spans.ensures i)
          ∙ sym (added (model n.content) (λ _. true) i refl),
    )

pub returns : goal.returns
returns c = c.loop-span.invariant.1 ∙ found_finishes (model c.args.network.now.content) c.loop-span.span-index (omega (arith, count_is c.args.network.now c.spans-spans.result.now c.spans-spans.ensures))
