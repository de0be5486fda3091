use Rattle.std.proofs.Common.{◌≡◌, ℕ, ◌<◌, slice_index_or, Some, None, subst, rules, refl, of_calls, arith}
use Rattle.rules.specs.Card.{span_count}
use Rattle.walks.specs.declared.plain_wait.PlainWait.{PlainWait}
use Rattle.walks.specs.Minutes.{of_minutes}
use Rattle.walks.specs.Pairs.{sum_pair, lesser_pair, of_pair, absent_pair}
use Rattle.walks.specs.Tables.{at, cell}
use Rattle.walks.specs.Walks.{Best, toward}
use Rattle.judge.specs.declared.target.Target.TheVariants.{Point, Start}
use Rattle.judge.specs.Closures.{distance, wait}
use Rattle.judge.specs.Closing.{Within, Offered}
use Rattle.judge.specs.Falling.{card_of}
use Rattle.judge.proofs.Holding.{point_room, along, offered_onward, told_as, told_each}
use Rattle.judge.proofs.Deriving.{low_at, high_at}
use Rattle.judge.proofs.Chaining.{plain_small, wait_small, offered_start, chained_start}
use Rattle.judge.proofs.relaxation.Relaxation.chain_start.Goals as goal

pub best_walks_to-requires : goal.best_walks_to-requires
best_walks_to-requires c =
    let n = c.args.self.now.network.now in
    let t = c.args.self.now.closure in
    let s = c.args.s in
    let points = c.points-points.ensures in
    let are : (p q : ℕ) → p < n.content.points → q < n.content.points → cell of_pair absent_pair c.fill_table.new.table p q ≡ (Some (distance t p q), None) = λ p q lp lq. let h = c.fill_table.ensures absent_pair p q (omega arith) (omega arith) in search rules in
    let ends : (p : ℕ) → p < n.content.points → at of_pair absent_pair c.fill_row.new.row p ≡ (None, Some (wait t s p)) = λ p lp. let h = c.fill_row.ensures absent_pair p (omega arith) in search rules in (
      omega arith,
      (
        omega arith,
        (
          (omega (arith, n.counts.1.1), omega arith),
          (
            (λ p q lp lq.
                let kp : p < n.content.points = omega arith in
                let kq : q < n.content.points = omega arith in
                plain_small _ (distance t p q) _ (are p q kp kq) (low_at n t c.requires.sound p (Point q) kp kq) (high_at n t c.requires.sound p (Point q) kp kq) (omega arith)),
            (λ p lp.
                let kp : p < n.content.points = omega arith in
                wait_small _ (wait t s p) _ (ends p kp) (low_at n t c.requires.sound p (Start s) kp c.requires.span) (high_at n t c.requires.sound p (Start s) kp c.requires.span) (omega arith)),
          ),
        ),
      ),
    )

pub each-requires : goal.each-requires
each-requires c = λ κ. (
  (refl, tt),
  (
    c.requires.sound,
    (
      (λ shown o k lk.
          let n = c.args.self.now.network.now in
          let t = c.args.self.now.closure in
          let s = c.args.s in
          let points = c.points-points.ensures in
          let are : (p q : ℕ) → p < n.content.points → q < n.content.points → cell of_pair absent_pair c.fill_table.new.table p q ≡ (Some (distance t p q), None) = λ p q lp lq. let h = c.fill_table.ensures absent_pair p q (omega arith) (omega arith) in search rules in
          let ends : (p : ℕ) → p < n.content.points → at of_pair absent_pair c.fill_row.new.row p ≡ (None, Some (wait t s p)) = λ p lp. let h = c.fill_row.ensures absent_pair p (omega arith) in search rules in
          let kp : k < n.content.points = omega arith in
          let point : k < shown.now.network.now.content.points = along o (λ card. k < card.points) kp in
          let room = point_room n k kp in
          let span : s < span_count (card_of shown.now) = along o (λ card. s < span_count card) c.requires.span in
          let offered : (w : PlainWait) → w ≡ slice_index_or c.best_walks_to.new.out k absent_pair → Offered (card_of shown.now) shown.now.closure k (Start s) (of_minutes w.wait) = λ w e. rw e (offered_onward o (offered_start n t c.requires.sound s c.requires.span (cell of_pair absent_pair c.fill_table.new.table) (at of_pair absent_pair c.fill_row.new.row) are ends k kp (at of_pair absent_pair c.best_walks_to.new.out k)
          (subst (λ z. Best sum_pair lesser_pair (toward z (cell of_pair absent_pair c.fill_table.new.table) (at of_pair absent_pair c.fill_row.new.row)) z 2 k z (at of_pair absent_pair c.best_walks_to.new.out k)) points (c.best_walks_to.ensures.best k (omega arith))))) in
          (search rules, λ κs a b g xs r ranges d w given f read u v. (o.sound, (point, (span, offered _ read.ensures))))),
      (λ shown o k lk a left post. search (of_calls, post)),
    ),
  ),
)

pub returns : goal.returns
returns c =
    let n = c.args.self.now.network.now in
    let t = c.args.self.now.closure in
    let s = c.args.s in
    let points = c.points-points.ensures in
    let are : (p q : ℕ) → p < n.content.points → q < n.content.points → cell of_pair absent_pair c.fill_table.new.table p q ≡ (Some (distance t p q), None) = λ p q lp lq. let h = c.fill_table.ensures absent_pair p q (omega arith) (omega arith) in search rules in
    let ends : (p : ℕ) → p < n.content.points → at of_pair absent_pair c.fill_row.new.row p ≡ (None, Some (wait t s p)) = λ p lp. let h = c.fill_row.ensures absent_pair p (omega arith) in search rules in
    told_as c.args.self.now c.each.new.self c.each.result
    (told_each _ c.args.self.now c.each.new.self _ _ (λ r p. Within r.closure p (Start s) (at of_pair absent_pair c.best_walks_to.new.out p).1) c.each.result points c.each.ensures (λ k shown left lk h. search rules))
    (λ within p r lp lr.
    chained_start n t c.requires.sound s c.requires.span (cell of_pair absent_pair c.fill_table.new.table) (at of_pair absent_pair c.fill_row.new.row) are ends p r lp lr (at of_pair absent_pair c.best_walks_to.new.out p)
    (subst (λ z. Best sum_pair lesser_pair (toward z (cell of_pair absent_pair c.fill_table.new.table) (at of_pair absent_pair c.fill_row.new.row)) z 2 p z (at of_pair absent_pair c.best_walks_to.new.out p)) points (c.best_walks_to.ensures.best p (omega arith))) (within p lp))
