use Rattle.std.proofs.Common.{◌≡◌, ℕ, ◌<◌, ◌≤◌, pos, rules, arith}
use Rattle.network.specs.Model.{model}
use Rattle.network.proofs.Parts.{span_count_is}
use Rattle.judge.specs.declared.target.Target.{Target}
use Rattle.judge.specs.declared.target.Target.TheVariants.{Point, Start}
use Rattle.judge.specs.Closures.{distance, wait, entry}
use Rattle.judge.specs.Closing.{In, begun}
use Rattle.judge.proofs.Beginning.{begins}
use Rattle.judge.proofs.relaxation.Relaxation.begin.Goals as goal

pub fill_table-requires-2 : goal.fill_table-requires-2
fill_table-requires-2 c =
    let n = c.args.network.now in
    let room : c.span_count.result ≤ 8 = omega (arith, span_count_is n, n.counts.2.0, c.span_count.ensures) in
    let points : c.points-points.result ≤ 32 = omega (arith, n.counts.1.1, c.points-points.ensures) in
    search rules

pub returns-clause-sound : goal.returns-clause-sound
unfolding distance wait
returns-clause-sound c = begins c.args.network.now (record { distances = c.fill_table.new.table; waits = c.fill_table-2.new.table }) c.requires is
  where
    is : (p : ℕ) (x : Target) → p < c.args.network.now.content.points → In (model c.args.network.now.content) x → entry (record { distances = c.fill_table.new.table; waits = c.fill_table-2.new.table }) p x ≡ begun (model c.args.network.now.content) p x
    is p (Point q) lp lq = let h = c.fill_table.ensures (pos 0) p q (omega (arith, c.points-points.ensures)) (omega (arith, c.points-points.ensures)) in search rules
    is p (Start s) lp ls = let h = c.fill_table-2.ensures (pos 0) s p (omega (arith, c.span_count.ensures)) (omega (arith, c.points-points.ensures)) in search rules
