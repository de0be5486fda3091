use Rattle.std.proofs.Common.{length, refl}
use Rattle.network.specs.Model.{model}
use Rattle.network.proofs.Made.{well_made}
use Rattle.minute.specs.Minutes.{at}
use Rattle.minute.specs.Played.{meaning}
use Rattle.minute.proofs.Middle.{midway, mid_fits}
use Rattle.minute.proofs.After.{cold_then, stands_again, agrees_again, wins_then, done_then}
use Rattle.minute.proofs.playing.Minute.play.Goals as goal

pub decide-requires-clause-fits : goal.decide-requires-clause-fits
decide-requires-clause-fits g c =
    let n = c.args.self.now.network.now in
    let k = c.hear.new.kitchen in
    mid_fits (meaning g.K.Kitchen.spans g.K.Kitchen.starts g.K.Kitchen.advances) (model n.content) (well_made n) c.args.closure.now c.args.self.now.t (length c.args.list.now) (at c.args.position.now.minutes) (at c.hear.new.position.minutes) c.args.kitchen.now k c.requires.stands c.requires.ready (g.met.K.Kitchen.keeps k) c.hear.ensures

pub start_spans-requires-clause-cold : goal.start_spans-requires-clause-cold
start_spans-requires-clause-cold g c =
    let n = c.args.self.now.network.now in
    let t = c.args.self.now.t in
    let mid = at c.hear.new.position.minutes in
    let k = c.hear.new.kitchen in
    let m = midway (meaning g.K.Kitchen.spans g.K.Kitchen.starts g.K.Kitchen.advances) (model n.content) (well_made n) t (length c.args.list.now) (at c.args.position.now.minutes) mid c.args.kitchen.now k c.requires.stands.sensible c.requires.ready (g.met.K.Kitchen.keeps k) c.hear.ensures in
    cold_then (model n.content) (well_made n) t mid (at c.decide.new.position.minutes) (g.K.Kitchen.spans k) m c.decide.ensures.rule

pub returns-clause-stands : goal.returns-clause-stands
returns-clause-stands g c =
    let n = c.args.self.now.network.now in
    let t = c.args.self.now.t in
    let mid = at c.hear.new.position.minutes in
    let k = c.hear.new.kitchen in
    let m = midway (meaning g.K.Kitchen.spans g.K.Kitchen.starts g.K.Kitchen.advances) (model n.content) (well_made n) t (length c.args.list.now) (at c.args.position.now.minutes) mid c.args.kitchen.now k c.requires.stands.sensible c.requires.ready (g.met.K.Kitchen.keeps k) c.hear.ensures in
    stands_again (model n.content) (well_made n) t mid (at c.decide.new.position.minutes) (g.K.Kitchen.spans k) m c.decide.ensures.rule c.args.closure.now c.requires.stands.tight c.decide.ensures.fits

pub returns-clause-played : goal.returns-clause-played
returns-clause-played g c =
    let n = c.args.self.now.network.now in
    let t = c.args.self.now.t in
    let card = model n.content in
    let means = meaning g.K.Kitchen.spans g.K.Kitchen.starts g.K.Kitchen.advances in
    let mid = at c.hear.new.position.minutes in
    let then = at c.decide.new.position.minutes in
    let k = c.hear.new.kitchen in
    let l = c.start_spans.new.kitchen in
    let m = midway means card (well_made n) t (length c.args.list.now) (at c.args.position.now.minutes) mid c.args.kitchen.now k c.requires.stands.sensible c.requires.ready (g.met.K.Kitchen.keeps k) c.hear.ensures in
    record {
      rules = record { middle = mid; moved = k; heard = c.hear.ensures; ordered = c.decide.ensures.rule; started = c.start_spans.ensures };
      agrees = agrees_again card (well_made n) t mid then (g.K.Kitchen.spans k) m c.decide.ensures.rule means k l refl c.start_spans.ensures;
      wins = wins_then card (well_made n) c.args.closure.now c.requires.stands.tight t then c.requires.ready.in_time c.decide.ensures.fits;
      done = λ e. done_then card (well_made n) c.args.closure.now c.requires.stands.tight t then e c.decide.ensures.fits;
    }
