-- The number of each given edge.
use Rattle.std.proofs.Common.{◌≡◌, ℕ, zero, suc, ◌+◌, ◌-◌, ◌*◌, ◌/◌, ◌%◌, ◌<◌, ◌≤◌, List, [], ◌∷◌, ◌++◌, length, get_or, take, pos, neg_ℤ, Some, None, sym, refl, ap, ◌∙◌, suc-mul, arith, length-append, length-take-le}
use native.Mathlib.Decide.{ℕ_discrete}
use lib.Arith.{digits_lt}
use Rattle.std.proofs.lemmas.Bool.Decides.{nat_tests}
use Rattle.std.proofs.lemmas.List.{get_or_append_left, get_or-append-add, get_or_past}
use Rattle.rules.specs.declared.parts.Span.{Span}
use Rattle.rules.specs.declared.edges.Kind.TheVariants.{Plain, Lower, Wait}
use Rattle.rules.specs.declared.edges.Edge.{Edge}
use Rattle.rules.specs.Card.{Card, no_span, no_tie, span_count, tie_count, least_of}
use Rattle.rules.specs.Edges.{edge}
use Rattle.rules.specs.Steps.{given, point_edges, span_edges, tie_edges, of_point, of_span, of_tie, no_edge, edge_at}
use Rattle.network.specs.declared.content.Content.{Content}
use Rattle.network.specs.declared.network.Network.{Network}
use Rattle.network.specs.Model.{model}
use Rattle.network.proofs.Parts.{span_count_is, tie_count_is, start_is, finish_is, least_is, most_is, from_is, to_is, gap_is}

-- a list that grows by blocks of m edges
module _ (L B : ℕ → List Edge) (m : ℕ) (none : L 0 ≡ []) (more : (n : ℕ) → L (suc n) ≡ L n ++ B n) (size : (n : ℕ) → length (B n) ≡ m) where
  pub blocks_length : (n : ℕ) → length (L n) ≡ n * m
  blocks_length zero = ap length none ∙ omega arith
  blocks_length (suc n) =
      let e : suc n * m ≡ n * m + m = suc-mul n m in
      ap length (more n) ∙ length-append (L n) (B n) ∙ omega (arith, blocks_length n, size n, e)

  pub blocks_at : (n q r : ℕ) (d : Edge) → q < n → r < m → get_or (L n) (q * m + r) d ≡ get_or (B q) r d
  blocks_at zero q r d h k = absurd (omega arith)
  blocks_at (suc n) q r d h k =
      ap (λ xs. get_or xs (q * m + r) d) (more n)
      ∙ elim (ℕ_discrete q n) [
        | yes e ↦ ap (λ i. get_or (L n ++ B n) i d) (omega (arith, ap (λ x. x * m) e, blocks_length n)) ∙ get_or-append-add (L n) (B n) r d ∙ ap (λ x. get_or (B x) r d) (sym e)
        | no ne ↦ let lt : q < n = omega arith in get_or_append_left (L n) (B n) d (q * m + r) (omega (arith, digits_lt lt k, blocks_length n)) ∙ blocks_at n q r d lt k
      ]

module _ (card : Card) where
  points_more : (n : ℕ) → point_edges card (suc n) ≡ point_edges card n ++ of_point card (suc n)
  unfolding point_edges
  points_more n = refl

  points_none : point_edges card 0 ≡ []
  unfolding point_edges
  points_none = refl

  spans_more : (n : ℕ) → span_edges card (suc n) ≡ span_edges card n ++ of_span card n
  unfolding span_edges
  spans_more n = refl

  spans_none : span_edges card 0 ≡ []
  unfolding span_edges
  spans_none = refl

  ties_more : (n : ℕ) → tie_edges card (suc n) ≡ tie_edges card n ++ of_tie card n
  unfolding tie_edges
  ties_more n = refl

  ties_none : tie_edges card 0 ≡ []
  unfolding tie_edges
  ties_none = refl

  points_length : (n : ℕ) → length (point_edges card n) ≡ n * 2
  points_length = blocks_length (point_edges card) (λ p. of_point card (suc p)) 2 points_none points_more (λ n. refl)

  spans_length : (n : ℕ) → length (span_edges card n) ≡ n * 4
  spans_length = blocks_length (span_edges card) (of_span card) 4 spans_none spans_more (λ n. refl)

  ties_length : (n : ℕ) → length (tie_edges card n) ≡ n * 1
  ties_length = blocks_length (tie_edges card) (of_tie card) 1 ties_none ties_more (λ n. refl)

  pub given_length : length (given card) ≡ 2 * (card.points - 1) + 4 * span_count card + tie_count card
  unfolding given
  given_length =
      length-append (point_edges card (card.points - 1)) _
      ∙ omega (arith, length-append (span_edges card (span_count card)) (tie_edges card (tie_count card)), points_length (card.points - 1), spans_length (span_count card), ties_length (tie_count card))

  -- the edges of points come first, then those of spans, then those of ties
  pub point_at : (q r : ℕ) (d : Edge) → q < card.points - 1 → r < 2 → get_or (given card) (q * 2 + r) d ≡ get_or (of_point card (suc q)) r d
  unfolding given
  point_at q r d h k =
      get_or_append_left (point_edges card (card.points - 1)) _ d (q * 2 + r) (omega (arith, points_length (card.points - 1)))
      ∙ blocks_at (point_edges card) (λ p. of_point card (suc p)) 2 points_none points_more (λ n. refl) (card.points - 1) q r d h k

  pub span_edge_at : (q r : ℕ) (d : Edge) → q < span_count card → r < 4 → get_or (given card) (2 * (card.points - 1) + (q * 4 + r)) d ≡ get_or (of_span card q) r d
  unfolding given
  span_edge_at q r d h k =
      ap (λ i. get_or (given card) i d) (omega (arith, points_length (card.points - 1)))
      ∙ get_or-append-add (point_edges card (card.points - 1)) _ (q * 4 + r) d
      ∙ get_or_append_left (span_edges card (span_count card)) _ d (q * 4 + r) (omega (arith, spans_length (span_count card)))
      ∙ blocks_at (span_edges card) (of_span card) 4 spans_none spans_more (λ n. refl) (span_count card) q r d h k

  pub tie_edge_at : (i : ℕ) (d : Edge) → i < tie_count card → get_or (given card) (2 * (card.points - 1) + (4 * span_count card + i)) d ≡ get_or (of_tie card i) 0 d
  unfolding given
  tie_edge_at i d h =
      ap (λ j. get_or (given card) j d) (omega (arith, points_length (card.points - 1)))
      ∙ get_or-append-add (point_edges card (card.points - 1)) _ (4 * span_count card + i) d
      ∙ ap (λ j. get_or (span_edges card (span_count card) ++ tie_edges card (tie_count card)) j d) (omega (arith, spans_length (span_count card)))
      ∙ get_or-append-add (span_edges card (span_count card)) _ (i * 1 + 0) d
      ∙ blocks_at (tie_edges card) (of_tie card) 1 ties_none ties_more (λ n. refl) (tie_count card) i 0 d h (omega arith)

-- the edges of a span, by its place in the array
pub span_block : (c : Content) (q : ℕ) → q < c.spanned → (s : Span) → get_or c.spans q no_span ≡ s
    → of_span (model c) q
    ≡ edge Plain s.start s.finish (pos s.most) ∷ edge Plain s.finish s.start (neg_ℤ (pos s.least)) ∷ edge (Lower q) s.start s.finish (pos s.least) ∷ edge (Wait q) s.finish s.start (neg_ℤ (pos s.most)) ∷ []
span_block c q h s e =
    let a = start_is c q h ∙ ap (λ x. x.start) e in
    let f = finish_is c q h ∙ ap (λ x. x.finish) e in
    let l = least_is c q h ∙ ap (λ x. x.least) e in
    let u = most_is c q h ∙ ap (λ x. x.most) e in
    cc

-- ---- an edge by its number, where there is one

pub edge_some : (es : List Edge) (i : ℕ) (e : Edge) → i < length es → e ≡ get_or es i no_edge → Some e ≡ edge_at es i
unfolding edge_at
edge_some es i e h q = rw q (grind (arith, nat_tests))

pub edge_none : (es : List Edge) (i : ℕ) → length es ≤ i → None ≡ edge_at es i
unfolding edge_at
edge_none es i h = grind (arith, nat_tests)

module _ (n : Network) where
  pub given_long : length (given (model n.content)) ≡ 2 * (n.content.points - 1) + 4 * n.content.spanned + n.content.tied
  given_long = omega (arith, given_length (model n.content), span_count_is n, tie_count_is n)

  pub point_some : (i : ℕ) (e : Edge) → i < 2 * (n.content.points - 1) → e ≡ get_or (of_point (model n.content) (suc (i / 2))) (i % 2) no_edge → Some e ≡ edge_at (given (model n.content)) i
  point_some i e h q =
      edge_some _ i e (omega (arith, given_long))
      (q ∙ sym (point_at (model n.content) (i / 2) (i % 2) no_edge (omega arith) (omega arith)) ∙ ap (λ j. get_or (given (model n.content)) j no_edge) (omega arith))

  pub span_some : (i : ℕ) (e : Edge) → 2 * (n.content.points - 1) ≤ i → i < 2 * (n.content.points - 1) + 4 * n.content.spanned
      → e ≡ get_or (of_span (model n.content) ((i - 2 * (n.content.points - 1)) / 4)) ((i - 2 * (n.content.points - 1)) % 4) no_edge
      → Some e ≡ edge_at (given (model n.content)) i
  span_some i e low h q =
      let j = i - 2 * (n.content.points - 1) in
      edge_some _ i e (omega (arith, given_long))
      (q ∙ sym (span_edge_at (model n.content) (j / 4) (j % 4) no_edge (omega (arith, span_count_is n)) (omega arith)) ∙ ap (λ k. get_or (given (model n.content)) k no_edge) (omega arith))

  pub tie_some : (i k : ℕ) (e : Edge) → i ≡ 2 * (n.content.points - 1) + (4 * n.content.spanned + k) → k < n.content.tied
      → e ≡ edge Plain (get_or n.content.ties k no_tie).from (get_or n.content.ties k no_tie).to (get_or n.content.ties k no_tie).gap
      → Some e ≡ edge_at (given (model n.content)) i
  tie_some i k e at h q =
      let c = n.content in
      let f = from_is c k h in
      let t = to_is c k h in
      let g = gap_is c k h in
      let here : get_or (of_tie (model c) k) 0 no_edge ≡ edge Plain (get_or c.ties k no_tie).from (get_or c.ties k no_tie).to (get_or c.ties k no_tie).gap = cc in
      edge_some _ i e (omega (arith, given_long)) (q ∙ sym here ∙ sym (tie_edge_at (model c) k no_edge (omega (arith, tie_count_is n))) ∙ ap (λ j. get_or (given (model c)) j no_edge) (omega (arith, span_count_is n)))

-- a span's least, by its place in the array; 0 past its end
pub least_none : (n : Network) (s : ℕ) → n.content.spanned ≤ s → least_of (model n.content) s ≡ 0
unfolding least_of
least_none n s h = ap (λ x. x.least) (get_or_past (take n.content.spanned n.content.spans) s no_span (omega (arith, length-take-le n.content.spanned n.content.spans (omega arith))))
