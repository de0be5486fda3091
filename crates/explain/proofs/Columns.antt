-- Columns of the table, and what a write changes in it.
use Rattle.std.proofs.Common.{◌≡◌, ℕ, zero, suc, ◌+◌, ◌-◌, ◌*◌, ◌<◌, ◌≤◌, ◌≢◌, ◌⊎◌, List, [], ◌∷◌, length, get_or, set, ℤ, pos, negsuc, ◌≤ℤ◌, ◌<ℤ◌, sym, ap, ◌∙◌, subst, inl, inr, ⊎_elim, arith, length-set}
use native.Mathlib.Decide.{ℕ_discrete}
use Rattle.std.proofs.lemmas.List.{get_or-set_same, get_or-set_other}
use Rattle.std.proofs.lemmas.Bool.{cases_lt}
use Rattle.std.proofs.lemmas.Bool.Decides.{nat_tests}
use Rattle.std.proofs.lemmas.Int.{ints}
use Rattle.rules.specs.declared.edges.Kind.TheVariants.{Plain, Wait}
use Rattle.rules.specs.declared.parts.Span.{Span}
use Rattle.rules.specs.Card.{Card, WellMade, no_span, span_count, start_of, finish_of, least_of}
use Rattle.judge.specs.declared.target.Target.TheVariants.{Point, Start}
use Rattle.explain.specs.declared.work.Best.{Best}
use Rattle.explain.specs.Columns.{Rows, no_best, best, at, columns, target_of, wait_of, head_of, kind_of, letter_of, lower_of, lift, row_height, height, with_entry, Sized}

module _ (card : Card) where
  pub head_point : (x : ℕ) → x < card.points → head_of card x ≡ x
  unfolding head_of
  head_point x h = grind (arith, nat_tests)

  pub head_wait : (s : ℕ) → head_of card (wait_of card s) ≡ start_of card s
  unfolding head_of wait_of
  head_wait s = let i : card.points + s - card.points ≡ s = omega arith in let le : card.points ≤ card.points + s = omega arith in rw i (grind (arith, nat_tests))

  pub kind_point : (x : ℕ) → x < card.points → kind_of card x ≡ Plain
  unfolding kind_of
  kind_point x h = grind (arith, nat_tests)

  pub kind_wait : (s : ℕ) → kind_of card (wait_of card s) ≡ Wait s
  unfolding kind_of wait_of
  kind_wait s = let i : card.points + s - card.points ≡ s = omega arith in let le : card.points ≤ card.points + s = omega arith in rw i (grind (arith, nat_tests))

  pub letter_point : (x : ℕ) → x < card.points → letter_of card x ≡ 78
  unfolding letter_of
  letter_point x h = grind (arith, nat_tests)

  pub letter_wait : (s : ℕ) → letter_of card (wait_of card s) ≡ 85
  unfolding letter_of wait_of
  letter_wait s = let le : card.points ≤ card.points + s = omega arith in grind (arith, nat_tests)

  pub lower_point : (x : ℕ) → x < card.points → lower_of card x ≡ 76
  unfolding lower_of
  lower_point x h = grind (arith, nat_tests)

  pub lower_wait : (s : ℕ) → lower_of card (wait_of card s) ≡ 88
  unfolding lower_of wait_of
  lower_wait s = let le : card.points ≤ card.points + s = omega arith in grind (arith, nat_tests)

  -- a column is that of a point or of a span
  pub column_is : (x : ℕ) → x < columns card → (x < card.points) ⊎ ((s : ℕ) × (s < span_count card) × (x ≡ wait_of card s))
  unfolding columns wait_of
  column_is x h = ⊎_elim (λ l. inl l) (λ (g : card.points ≤ x). inr (x - card.points, omega arith, omega arith)) (cases_lt x card.points)

  -- what a column stands for
  pub target_point : (x q : ℕ) → Point q ≡ target_of card x → (x < card.points) × (q ≡ x)
  target_point x q h = grind (arith, nat_tests)

  pub target_start : (x s : ℕ) → Start s ≡ target_of card x → x ≡ wait_of card s
  unfolding wait_of
  target_start x s h = grind (arith, nat_tests)

  pub point_column : (p : ℕ) → p < card.points → p < columns card
  unfolding columns
  point_column p h = omega arith

  pub wait_column : (s : ℕ) → s < span_count card → wait_of card s < columns card
  unfolding columns wait_of
  wait_column s h = omega arith

  pub no_wait : (p s : ℕ) → p < card.points → p ≢ wait_of card s
  unfolding wait_of
  no_wait p s lp e = omega arith

  pub wait_apart : (i j : ℕ) → i ≢ j → wait_of card i ≢ wait_of card j
  unfolding wait_of
  wait_apart i j n e = n (omega arith)

  pub head_in : WellMade card → (x : ℕ) → x < columns card → head_of card x < card.points
  head_in made x h =
      ⊎_elim (λ l. subst (λ z. z < card.points) (sym (head_point x l)) l)
      (λ w. subst (λ z. z < card.points) (sym (ap (head_of card) w.2 ∙ head_wait w.0)) (made.start_in w.0 w.1))
      (column_is x h)

-- the spans of a card as a slice
module _ (card : Card) (xs : List Span) (is : xs ≡ card.spans) (s : ℕ) where
  pub span_bound : s < span_count card → s < length xs
  unfolding span_count
  span_bound h = omega (arith, ap length is)

  pub span_start : (get_or xs s no_span).start ≡ start_of card s
  unfolding start_of
  span_start = ap (λ l. (get_or l s no_span).start) is

  pub span_finish : (get_or xs s no_span).finish ≡ finish_of card s
  unfolding finish_of
  span_finish = ap (λ l. (get_or l s no_span).finish) is

  pub span_least : (get_or xs s no_span).least ≡ least_of card s
  unfolding least_of
  span_least = ap (λ l. (get_or l s no_span).least) is

-- ---- an entry after a write is the one written, or as it was

module _ (e : Rows) (p x : ℕ) (b : Best) (size : Sized e) (lp : p < 32) (lx : x < 40) where
  pub entry_here : best (with_entry e p x b) p x ≡ b
  unfolding best with_entry
  entry_here =
      let lr : p < length e = omega (arith, size.rows) in
      let lc : x < length (get_or e p []) = omega (arith, size.columns p lp) in
      ap (λ r. get_or r x no_best) (get_or-set_same e p (set (get_or e p []) x b) [] lr) ∙ get_or-set_same (get_or e p []) x b no_best lc

  row_is : (q : ℕ) → ((q ≡ p) × (get_or (with_entry e p x b) q [] ≡ set (get_or e p []) x b)) ⊎ (get_or (with_entry e p x b) q [] ≡ get_or e q [])
  unfolding with_entry
  row_is q = elim (ℕ_discrete q p) [
    | yes i ↦ let lr : p < length e = omega (arith, size.rows) in inl (i, ap (λ k. get_or (set e p (set (get_or e p []) x b)) k []) i ∙ get_or-set_same e p _ [] lr)
    | no ne ↦ inr (get_or-set_other e p q _ [] ne)
  ]

  pub entry_is : (q y : ℕ) → ((q ≡ p) × (y ≡ x) × (best (with_entry e p x b) q y ≡ b)) ⊎ (best (with_entry e p x b) q y ≡ best e q y)
  unfolding best
  entry_is q y =
      ⊎_elim
      (λ (r : (q ≡ p) × (get_or (with_entry e p x b) q [] ≡ set (get_or e p []) x b)). elim (ℕ_discrete y x) [
        | yes i ↦ inl (r.0, i, (λ j. best (with_entry e p x b) (r.0 j) (i j)) ∙ entry_here)
        | no ne ↦ inr (ap (λ l. get_or l y no_best) r.1 ∙ get_or-set_other (get_or e p []) x y b no_best ne ∙ ap (λ k. get_or (get_or e k []) y no_best) (sym r.0))
      ])
      (λ (r : get_or (with_entry e p x b) q [] ≡ get_or e q []). inr (ap (λ l. get_or l y no_best) r))
      (row_is q)

  pub sized_entry : Sized (with_entry e p x b)
  unfolding with_entry
  sized_entry = record {
    rows = length-set e p _ ∙ size.rows;
    columns = λ q lq. ⊎_elim (λ r. ap length r.1 ∙ length-set (get_or e p []) x b ∙ size.columns p lp) (λ r. ap length r ∙ size.columns q lq) (row_is q);
  }

lift_lower : (v w : ℤ) → negsuc 1439 ≤ℤ v → v <ℤ w → lift v < lift w
lift_lower (pos a) (pos b) h l = omega (arith, ints)
lift_lower (pos a) (negsuc b) h l = omega (arith, ints)
lift_lower (negsuc a) (pos b) h l = omega (arith, ints)
lift_lower (negsuc a) (negsuc b) h l = omega (arith, ints)

-- ---- how far the entries can fall

row_less : (r : List Best) (i : ℕ) (b : Best) → i < length r → lift b.weight < lift (get_or r i no_best).weight → row_height (set r i b) < row_height r
unfolding row_height
row_less [] i v h l = omega arith
row_less (z ∷ r) zero v h l = omega arith
row_less (z ∷ r) (suc i) v h l = omega (arith, row_less r i v (omega arith) l)

rows_less : (e : Rows) (p : ℕ) (r : List Best) → p < length e → row_height r < row_height (get_or e p []) → height (set e p r) < height e
unfolding height
rows_less [] p r h l = omega arith
rows_less (z ∷ e) zero r h l = omega arith
rows_less (z ∷ e) (suc p) r h l = omega (arith, rows_less e p r (omega arith) l)

pub height_less : (e : Rows) (p x : ℕ) (b : Best) → Sized e → p < 32 → x < 40 → negsuc 1439 ≤ℤ b.weight → b.weight <ℤ at e p x → height (with_entry e p x b) < height e
unfolding best with_entry
height_less e p x b size lp lx low less =
    rows_less e p (set (get_or e p []) x b) (omega (arith, size.rows))
    (row_less (get_or e p []) x b (omega (arith, size.columns p lp)) (lift_lower b.weight (get_or (get_or e p []) x no_best).weight low less))

lift_high : (v : ℤ) → v ≤ℤ pos 1441 → lift v ≤ 2881
lift_high (pos a) h = omega (arith, ints)
lift_high (negsuc a) h = omega (arith, ints)

row_high : (r : List Best) → ((k : ℕ) → k < length r → (get_or r k no_best).weight ≤ℤ pos 1441) → row_height r ≤ length r * 2881
unfolding row_height
row_high [] h = omega arith
row_high (b ∷ r) h = omega (arith, lift_high b.weight (h 0 (omega arith)), row_high r (λ k lt. h (suc k) (omega arith)))

rows_high : (e : Rows) → ((p : ℕ) → p < length e → row_height (get_or e p []) ≤ 115_240) → height e ≤ length e * 115_240
unfolding height
rows_high [] h = omega arith
rows_high (r ∷ e) h = omega (arith, h 0 (omega arith), rows_high e (λ k lt. h (suc k) (omega arith)))

pub height_high : (e : Rows) → Sized e → ((p x : ℕ) → p < 32 → x < 40 → at e p x ≤ℤ pos 1441) → height e ≤ 3_687_680
unfolding best
height_high e size h =
    omega (
      arith,
      size.rows,
      rows_high e (λ p lp.
          let l : p < 32 = omega (arith, size.rows) in
          let c = size.columns p l in
          omega (arith, c, row_high (get_or e p []) (λ x lx. h p x l (omega (arith, c))))),
    )
