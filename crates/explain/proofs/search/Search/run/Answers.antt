use Rattle.std.proofs.Common.{sym, subst}
use Rattle.explain.specs.Working.{Ready}
use Rattle.explain.proofs.Testing.{holds_first}
use Rattle.explain.proofs.search.Search.run.Goals as goal

pub saturate-requires : goal.saturate-requires
saturate-requires c =
    let s = c.args.self.now in
    let v = c.in_ok-test.ensures in
    record { ready = subst Ready (sym v.0) (holds_first s.network.now s.work.best c.requires.loaded v.1 s.list.now s.work.count c.requires.count) }
