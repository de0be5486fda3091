-- The small cards: good by tables, bad by steps; both compute.
use Rattle.std.proofs.Common.{List, [], ◌∷◌, get_or, ℤ, pos, negsuc}
use Rattle.rules.specs.Card.{span_count, tie_count, start_of, finish_of, least_of, most_of, from_of, to_of, gap_of}
use Rattle.rules.specs.declared.edges.Kind.TheVariants.{Plain, Wait}
use Rattle.rules.specs.Steps.{point_edges, span_edges, tie_edges, given, step_at, known, passes}
use Rattle.rules.specs.Tables.{Table}
use Rattle.rules.specs.Cards.{tie, step, alone, one_span, with_order, far_orders, bread, bread_steps, Stands, good, bad, reads}
use Rattle.rules.specs.Theorems.{ExamplesStand}
use Rattle.rules.proofs.Deciding.{less, at_most, early, released, same_kind, same_weight, same_edge, instance, span_of, rule?, implies, lawful?}
use Rattle.rules.proofs.Checking.{every, all_of, well_made?, winning?, good_by, passing?, passing_is, bad_by}

-- a table by its rows
unfoldable pub rows : List (List ℤ) → Table
rows ws p q = get_or (get_or ws p []) q (pos 0)

-- ---- by tables

abbrev GoodOnes : Type 0
GoodOnes =
    Stands (good alone)
    × Stands (good (one_span 5))
    × Stands (good (with_order (tie 1 2 (pos 0) ∷ tie 2 1 (pos 0) ∷ [])))
    × Stands (good (with_order (tie 1 2 (negsuc 0) ∷ [])))
    × Stands (good (with_order (tie 1 2 (negsuc 0) ∷ tie 2 1 (pos 2) ∷ [])))
    × Stands (good (bread 20))

good_ones : GoodOnes
unfolding rows every all_of less at_most early released implies well_made? winning? span_count tie_count start_of finish_of least_of most_of from_of to_of gap_of
good_ones = (
  good_by _ (rows []) (rows []) tt tt,
  good_by _
      (rows ((pos 0 ∷ pos 0 ∷ pos 5 ∷ []) ∷ (pos 0 ∷ pos 0 ∷ pos 5 ∷ []) ∷ (negsuc 1 ∷ negsuc 1 ∷ pos 0 ∷ []) ∷ []))
      (rows ((pos 0 ∷ pos 0 ∷ negsuc 4 ∷ []) ∷ [])) tt tt,
  good_by _
      (rows ((pos 0 ∷ pos 3 ∷ pos 3 ∷ []) ∷ (negsuc 1 ∷ pos 0 ∷ pos 0 ∷ []) ∷ (negsuc 1 ∷ pos 0 ∷ pos 0 ∷ []) ∷ []))
      (rows ((pos 0 ∷ negsuc 2 ∷ negsuc 2 ∷ []) ∷ [])) tt tt,
  good_by _
      (rows ((pos 0 ∷ pos 3 ∷ pos 1 ∷ []) ∷ (negsuc 1 ∷ pos 0 ∷ negsuc 0 ∷ []) ∷ (pos 0 ∷ pos 3 ∷ pos 0 ∷ []) ∷ []))
      (rows ((pos 0 ∷ negsuc 2 ∷ pos 0 ∷ []) ∷ [])) tt tt,
  good_by _
      (rows ((pos 0 ∷ pos 3 ∷ pos 1 ∷ []) ∷ (negsuc 1 ∷ pos 0 ∷ negsuc 0 ∷ []) ∷ (negsuc 0 ∷ pos 2 ∷ pos 0 ∷ []) ∷ []))
      (rows ((pos 0 ∷ negsuc 2 ∷ negsuc 0 ∷ []) ∷ [])) tt tt,
  good_by _
      (rows
      ((pos 0 ∷ pos 30 ∷ pos 60 ∷ pos 60 ∷ pos 40 ∷ [])
      ∷ (pos 0 ∷ pos 0 ∷ pos 30 ∷ pos 30 ∷ pos 10 ∷ [])
      ∷ (negsuc 19 ∷ negsuc 19 ∷ pos 0 ∷ pos 5 ∷ negsuc 9 ∷ [])
      ∷ (negsuc 24 ∷ negsuc 24 ∷ pos 0 ∷ pos 0 ∷ negsuc 14 ∷ [])
      ∷ (negsuc 9 ∷ negsuc 9 ∷ pos 20 ∷ pos 20 ∷ pos 0 ∷ []) ∷ []))
      (rows ((pos 30 ∷ pos 0 ∷ negsuc 29 ∷ negsuc 29 ∷ negsuc 9 ∷ []) ∷ [])) tt tt,
)

-- ---- by steps

abbrev BadOnes : Type 0
BadOnes =
    Stands (bad (one_span 4))
    × Stands (bad (with_order (tie 1 2 (negsuc 0) ∷ tie 2 1 (pos 1) ∷ [])))
    × Stands (bad far_orders)
    × Stands (bad (bread 19))
    × Stands (reads (bread 19) bread_steps passes)

-- N 1 2, U 8 7; L 6 8, U 9 7, R 11 11, N 10 12; N 4 5; and the steps of bread
bad_ones : BadOnes
unfolding every all_of less at_most early released implies well_made? passing? span_count tie_count start_of finish_of least_of most_of from_of to_of gap_of point_edges span_edges tie_edges given step_at known same_kind same_weight same_edge instance span_of rule? lawful?
bad_ones = (
  bad_by _ (step 78 1 2 Plain 1 2 (pos 4) ∷ step 85 8 7 (Wait 0) 1 1 (negsuc 0) ∷ []) tt tt,
  bad_by _ (step 76 6 8 Plain 0 2 (pos 1) ∷ step 85 9 7 (Wait 0) 2 0 (negsuc 1) ∷ step 82 11 11 Plain 2 0 (negsuc 1) ∷ step 78 10 12 Plain 0 0 (negsuc 0) ∷ []) tt tt,
  bad_by _ (step 78 4 5 Plain 1 1 (negsuc 0) ∷ []) tt tt,
  bad_by _ bread_steps tt tt,
  passing_is _ bread_steps tt,
)

pub examples_stand : ExamplesStand
examples_stand =
    let g = good_ones in
    let b = bad_ones in
    (g.0, (g.1, (b.0, (g.2, (g.3, (b.1, (g.4, (b.2, (g.5, (b.3, (b.4, tt)))))))))))
