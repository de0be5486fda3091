use Rattle.std.proofs.Common.{◌≡◌, ℕ, ◌<◌, Some, subst, rules, refl, of_calls, arith}
use Rattle.walks.specs.Minutes.{sum, lesser, of_minutes, absent_minutes}
use Rattle.walks.specs.Tables.{cell}
use Rattle.walks.specs.Walks.{Best}
use Rattle.judge.specs.declared.target.Target.TheVariants.{Point}
use Rattle.judge.specs.Closures.{distance}
use Rattle.judge.specs.Closing.{Below, Within, Offered}
use Rattle.judge.specs.Falling.{card_of}
use Rattle.judge.proofs.Holding.{point_room, along, before, offered_onward, told_as, told_each}
use Rattle.judge.proofs.Deriving.{low_at, high_at}
use Rattle.judge.proofs.Chaining.{far_small, offered_point, chained_point}
use Rattle.judge.proofs.relaxation.Relaxation.chain_points.Goals as goal

pub best_walks-requires : goal.best_walks-requires
best_walks-requires c =
    let n = c.args.self.now.network.now in
    let t = c.args.self.now.closure in
    let points = c.points-points.ensures in
    let are : (p q : ℕ) → p < n.content.points → q < n.content.points → cell of_minutes absent_minutes c.fill_table.new.table p q ≡ Some (distance t p q) = λ p q lp lq. let h = c.fill_table.ensures absent_minutes p q (omega arith) (omega arith) in search rules in (
      omega arith,
      (
        omega arith,
        (
          omega (arith, n.counts.1.1),
          λ p q lp lq.
              let kp : p < n.content.points = omega arith in
              let kq : q < n.content.points = omega arith in
              far_small _ (distance t p q) _ (are p q kp kq) (low_at n t c.requires.sound p (Point q) kp kq) (high_at n t c.requires.sound p (Point q) kp kq) (omega arith),
        ),
      ),
    )

pub each-requires : goal.each-requires
each-requires c = λ κ. (
  (refl, tt),
  (
    c.requires.sound,
    (
      (λ shown o k lk.
          let n = c.args.self.now.network.now in
          let t = c.args.self.now.closure in
          let points = c.points-points.ensures in
          let are : (p q : ℕ) → p < n.content.points → q < n.content.points → cell of_minutes absent_minutes c.fill_table.new.table p q ≡ Some (distance t p q) = λ p q lp lq. let h = c.fill_table.ensures absent_minutes p q (omega arith) (omega arith) in search rules in
          let kp : k < n.content.points = omega arith in
          let point : k < shown.now.network.now.content.points = along o (λ card. k < card.points) kp in
          let room = point_room n k kp in
          let offered : (q : ℕ) → q < shown.now.network.now.content.points → Offered (card_of shown.now) shown.now.closure k (Point q) (cell of_minutes absent_minutes c.best_walks.new.out k q) = λ q lq.
          let kq : q < n.content.points = before o (λ card. q < card.points) lq in
          offered_onward o (offered_point n t c.requires.sound (cell of_minutes absent_minutes c.fill_table.new.table) are k q kp kq _
          (subst (λ z. Best sum lesser (cell of_minutes absent_minutes c.fill_table.new.table) z 2 k q (cell of_minutes absent_minutes c.best_walks.new.out k q)) points (c.best_walks.ensures.best k q lk (omega arith)))) in
          search rules),
      (λ shown o k lk a left post. search (of_calls, post)),
    ),
  ),
)

pub returns : goal.returns
returns c =
    let n = c.args.self.now.network.now in
    let t = c.args.self.now.closure in
    let points = c.points-points.ensures in
    let are : (p q : ℕ) → p < n.content.points → q < n.content.points → cell of_minutes absent_minutes c.fill_table.new.table p q ≡ Some (distance t p q) = λ p q lp lq. let h = c.fill_table.ensures absent_minutes p q (omega arith) (omega arith) in search rules in
    told_as c.args.self.now c.each.new.self c.each.result
    (told_each _ c.args.self.now c.each.new.self _ _ (λ r p. Below (card_of r).points (λ q. Within r.closure p (Point q) (cell of_minutes absent_minutes c.best_walks.new.out p q))) c.each.result points c.each.ensures (λ k shown left lk h. search rules))
    (λ within q lq p r lp lr.
    chained_point n t c.requires.sound (cell of_minutes absent_minutes c.fill_table.new.table) are p r q lp lr lq _
    (subst (λ z. Best sum lesser (cell of_minutes absent_minutes c.fill_table.new.table) z 2 p q (cell of_minutes absent_minutes c.best_walks.new.out p q)) points (c.best_walks.ensures.best p q (omega arith) (omega arith))) (within p lp q lq))
