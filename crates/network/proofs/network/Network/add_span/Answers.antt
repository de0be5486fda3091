use Rattle.std.proofs.Common.{arith}
use Rattle.network.specs.Model.{model}
use Rattle.network.proofs.Parts.{span_count_is}
use Rattle.network.proofs.Growing.{passed, span_free, span_kept}
use Rattle.network.proofs.network.Network.add_span.Goals as goal

pub bounds-self-at : goal.bounds-self-at
bounds-self-at c =
    let n = c.args.self.now in
    let free = passed _ _ c.check_span.ensures c.in_ok-check_span.was in
    omega (arith, (span_free (model n.content) c.args.start c.args.least c.args.most free).5, span_count_is n)

pub invariant_of-self : goal.invariant_of-self
invariant_of-self c =
    let k = span_kept c.args.self.now c.args.start c.args.least c.args.most (passed _ _ c.check_span.ensures c.in_ok-check_span.was)
    in
    record {
      counts = k.0;
      lengths = k.1.0;
      last = k.1.1.0;
      lead = k.1.1.1.0;
      rise = k.1.1.1.1.0;
      joined = k.1.1.1.1.1.0;
      near = k.1.1.1.1.1.1.0;
    }
