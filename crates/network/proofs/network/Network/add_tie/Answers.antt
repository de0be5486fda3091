use Rattle.network.proofs.Growing.{passed, tie_full, tie_added}
use Rattle.network.proofs.network.Network.add_tie.Goals as goal

pub returns-then-at-ge-MAX_TIES : goal.returns-then-at-ge-MAX_TIES
returns-then-at-ge-MAX_TIES c =
    let r = tie_full c.args.self.now c.args.tie (passed _ _ c.check_tie.ensures c.in_ok-check_tie.was) c.if-at-ge-MAX_TIES.true in
    record { answer = r.0; card = r.1 }

pub returns : goal.returns
returns c =
    let r = tie_added c.args.self.now c.args.tie (passed _ _ c.check_tie.ensures c.in_ok-check_tie.was) c.if-at-ge-MAX_TIES.false in
    record { answer = r.0; card = r.1 }
