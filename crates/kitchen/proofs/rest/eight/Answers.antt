use Rattle.std.proofs.Common.{◌<◌, sym, ap, ◌∙◌, arith}
use Rattle.std.proofs.lemmas.List.{ext_get_or, length-map}
use Rattle.kitchen.specs.Rests.{first_eight, fresh, no_rest}
use Rattle.kitchen.proofs.Rested.{first_long, first_at, fresh_at}
use Rattle.kitchen.proofs.rest.eight.Goals as goal

pub returns : goal.returns
returns c =
    let ms = c.args.rests.now in
    let n = first_long ms in
    let m = length-map (first_eight ms) fresh in
    ext_get_or no_rest _ _ (omega (arith, c.loop-span.invariant.0))
    (λ k h. let lt : k < 8 = omega (arith, c.loop-span.invariant.0) in c.loop-span.invariant.1 k (omega arith) ∙ sym (fresh_at (first_eight ms) k ∙ ap fresh (first_at ms k lt)))
