use Rattle.std.proofs.Common.{ℕ, ◌+◌, ◌<◌, ◌≤◌, List, [], length, get_or, set, arith, length-set}
use Rattle.std.proofs.lemmas.Grind.{common_steps}
use Rattle.walks_bench.proofs.fill.Goals as goal

one_more : {W : Type 0} (size : W → ℕ) (d : W) (rows : List (List W)) (p : ℕ) (row : List W) → p < length rows
    → ((i : ℕ) → i < p → (j : ℕ) → j < 32 → size (get_or (get_or rows i []) j d) ≤ 1440)
    → ((j : ℕ) → j < 32 → size (get_or row j d) ≤ 1440)
    → (i : ℕ) → i < p + 1 → (j : ℕ) → j < 32 → size (get_or (get_or (set rows p row) i []) j d) ≤ 1440
one_more size d rows p row h all new i l j k = grind (arith, common_steps)

pub loop-p-preserved : goal.loop-p-preserved
loop-p-preserved g c = (
  simp length-set c.loop-p.invariant.0,
  one_more (λ w. g.W.Weight.size (g.W.Weight.meaning w)) g.W.Weight.absent c.loop-p.table c.loop-p.p c.loop-q.row (omega arith) c.loop-p.invariant.1
      (λ j h. c.loop-q.invariant j (omega arith)),
)
