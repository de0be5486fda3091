use Rattle.std.proofs.Common.{◌<◌, length, set, take, ap, ◌∙◌, sym, arith}
use Rattle.std.proofs.Math.Seq.{take-set-lt}
use Rattle.std.proofs.lemmas.List.{get_or-take, length-take}
use Rattle.kitchen.specs.Tracks.{no_track}
use Rattle.kitchen.specs.Kitchens.{begun}
use Rattle.kitchen.proofs.row.Row.start.Goals as goal

pub returns : goal.returns
returns c =
    let e = c.in_ok-status.ensures in
    let r = c.self.inside in
    let i = c.args.span in
    let lt : i < r.count = omega (arith, e.0, ap length c.self.view_is, length-take r.count r.tracks) in
    (e.0, sym e.1 ∙ c.in-Cold.is, rw (← c.self.view_is) (take-set-lt r.count r.tracks i _ lt ∙ ap (λ t. set (take r.count r.tracks) i (begun t)) (sym (get_or-take r.count r.tracks i no_track lt))))
