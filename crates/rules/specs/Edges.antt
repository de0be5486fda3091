-- The edges of a card: those that are given, and those that the rules N, U, L, X, R, M, S make of them.
-- What an edge of each kind says stands at its kind. (In the field: the labelled distance graph and its reductions.)
use Rattle.std.specs.Prelude.{ℕ, ◌<◌, ◌≢◌, ℤ, pos, negsuc, ◌+ℤ◌, neg_ℤ, ◌≤ℤ◌, ◌<ℤ◌}
use Rattle.rules.specs.declared.edges.Kind.{Kind}
use Rattle.rules.specs.declared.edges.Kind.TheVariants.{Plain, Lower, Wait, AllMost}
use Rattle.rules.specs.declared.edges.Edge.{Edge}
use Rattle.rules.specs.Card.{Card, span_count, tie_count, start_of, finish_of, least_of, most_of, from_of, to_of, gap_of}

-- the edge of this kind from p to q of weight w
abbrev pub edge : Kind → ℕ → ℕ → ℤ → Edge
edge k p q w = record { kind = k; source = p; target = q; weight = w }

-- ---- the given edges

-- Each point happens in the minutes 0 to H; each span lasts from its least to its most; each tie holds.
pub data Given (card : Card) : Edge → Type 0 where
  given_late : (p : ℕ) → 0 < p → p < card.points → Given card (edge Plain 0 p (pos card.horizon))
  given_early : (p : ℕ) → 0 < p → p < card.points → Given card (edge Plain p 0 (pos 0))
  given_most : (s : ℕ) → s < span_count card → Given card (edge Plain (start_of card s) (finish_of card s) (pos (most_of card s)))
  given_least : (s : ℕ) → s < span_count card → Given card (edge Plain (finish_of card s) (start_of card s) (neg_ℤ (pos (least_of card s))))
  given_lower : (s : ℕ) → s < span_count card → Given card (edge (Lower s) (start_of card s) (finish_of card s) (pos (least_of card s)))
  given_wait : (s : ℕ) → s < span_count card → Given card (edge (Wait s) (finish_of card s) (start_of card s) (neg_ℤ (pos (most_of card s))))
  given_tie : (i : ℕ) → i < tie_count card → Given card (edge Plain (from_of card i) (to_of card i) (gap_of card i))

-- ---- the rules

-- What the right edge of L and X says: the point at its end comes before the finish at its beginning.
abbrev pub Early : ℤ → Type 0
Early v = v <ℤ pos 0

-- What the edge of R says: who waits for span s waits at most its least, so no finish can come to end the wait sooner.
abbrev pub Released : Card → ℕ → ℤ → Type 0
Released card s v = neg_ℤ (pos (least_of card s)) ≤ℤ v

-- `Rule card letter left right made`: the rule of this letter makes this edge of a left and a right edge. A letter is its code: N 78, U 85, L 76,
-- X 88, R 82, M 77, S 83. (In the field: the reductions.)
pub data Rule (card : Card) : ℕ → Edge → Edge → Edge → Type 0 where
  -- N: two plain edges in a row (no-case)
  rule_n : (p q r : ℕ) (u v : ℤ) → Rule card 78 (edge Plain p q u) (edge Plain q r v) (edge Plain p r (u +ℤ v))
  -- U: a plain edge and a wait (upper-case)
  rule_u : (s p q r : ℕ) (u v : ℤ) → Rule card 85 (edge Plain p q u) (edge (Wait s) q r v) (edge (Wait s) p r (u +ℤ v))
  -- L: what comes before a finish also does so if the span lasts its least (lower-case)
  rule_l : (s p q r : ℕ) (u v : ℤ) → Early v → Rule card 76 (edge (Lower s) p q u) (edge Plain q r v) (edge Plain p r (u +ℤ v))
  -- X: so does the wait for another span (cross-case)
  rule_x : (k s p q r : ℕ) (u v : ℤ) → k ≢ s → Early v → Rule card 88 (edge (Lower k) p q u) (edge (Wait s) q r v) (edge (Wait s) p r (u +ℤ v))
  -- R: a wait that no finish can end is a plain edge (label removal); the left edge alone counts
  rule_r : (s p q : ℕ) (v : ℤ) → Released card s v → Rule card 82 (edge (Wait s) p q v) (edge (Wait s) p q v) (edge Plain p q v)
  -- M: if every span lasts its most, plain edges and waits hold alike (AllMax projection); the left edge alone counts
  rule_m : (p q : ℕ) (v : ℤ) → Rule card 77 (edge Plain p q v) (edge Plain p q v) (edge AllMost p q v)
  rule_mw : (s p q : ℕ) (v : ℤ) → Rule card 77 (edge (Wait s) p q v) (edge (Wait s) p q v) (edge AllMost p q v)
  -- S: two of these in a row
  rule_s : (p q r : ℕ) (u v : ℤ) → Rule card 83 (edge AllMost p q u) (edge AllMost q r v) (edge AllMost p r (u +ℤ v))

-- ---- derived edges

-- `Derived card Within e`: the edge e is given, or a rule makes it of derived edges; and `Within` holds of it and of every edge on the way.
pub data Derived (card : Card) (Within : Edge → Type 0) : Edge → Type 0 where
  by_given : {e : Edge} → Given card e → Within e → Derived card Within e
  by_rule : {letter : ℕ} {e f g : Edge} → Rule card letter e f g → Derived card Within e → Derived card Within f → Within g → Derived card Within g

-- no edge is shut out on the way
abbrev pub Any : Edge → Type 0
Any e = Unit {0}

-- the weights that steps may make: -1,000,000 to 1,000,000
abbrev pub InRange : Edge → Type 0
InRange e = (negsuc 999_999 ≤ℤ e.weight) × (e.weight ≤ℤ pos 1_000_000)
