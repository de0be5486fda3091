-- The rules, by columns of the table.
use Rattle.std.proofs.Common.{◌≡◌, ℕ, ◌<◌, ◌≢◌, ℤ, ◌+ℤ◌, ◌≤ℤ◌, Some, sym, ap, ◌∙◌, subst, ⊎_elim}
use Rattle.rules.specs.declared.edges.Kind.TheVariants.{Plain, Lower, Wait}
use Rattle.rules.specs.declared.edges.Edge.{Edge}
use Rattle.rules.specs.Card.{Card, start_of}
use Rattle.rules.specs.Edges.{edge, Rule, rule_n, rule_u, rule_l, rule_x, rule_r, Early, Released}
use Rattle.explain.specs.Columns.{Rows, at, columns, wait_of, head_of, kind_of, letter_of, lower_of, way}
use Rattle.explain.specs.Working.{CoveredAt, Covered, column_at}
use Rattle.explain.proofs.Columns.{head_point, head_wait, kind_point, kind_wait, letter_point, letter_wait, lower_point, lower_wait, column_is}

module _ (card : Card) where
  pub way_point : (p q : ℕ) (w : ℤ) → q < card.points → way card p q w ≡ edge Plain p q w
  way_point p q w h = λ i. edge (kind_point card q h i) p (head_point card q h i) w

  pub way_wait : (p s : ℕ) (w : ℤ) → way card p (wait_of card s) w ≡ edge (Wait s) p (start_of card s) w
  way_wait p s w = λ i. edge (kind_wait card s i) p (head_wait card s i) w

  -- N or U
  pub by_chain : (r p x : ℕ) (u v : ℤ) → x < columns card → Rule card (letter_of card x) (edge Plain r p u) (way card p x v) (way card r x (u +ℤ v))
  by_chain r p x u v h =
      ⊎_elim
      (λ l. subst (λ z. Rule card z (edge Plain r p u) (way card p x v) (way card r x (u +ℤ v))) (sym (letter_point card x l))
      (subst (λ z. Rule card 78 (edge Plain r p u) z (way card r x (u +ℤ v))) (sym (way_point p x v l))
      (subst (λ z. Rule card 78 (edge Plain r p u) (edge Plain p x v) z) (sym (way_point r x (u +ℤ v) l)) (rule_n r p x u v))))
      (λ w. subst (λ y. Rule card (letter_of card y) (edge Plain r p u) (way card p y v) (way card r y (u +ℤ v))) (sym w.2)
      (subst (λ z. Rule card z (edge Plain r p u) (way card p (wait_of card w.0) v) (way card r (wait_of card w.0) (u +ℤ v))) (sym (letter_wait card w.0))
      (subst (λ z. Rule card 85 (edge Plain r p u) z (way card r (wait_of card w.0) (u +ℤ v))) (sym (way_wait p w.0 v))
      (subst (λ z. Rule card 85 (edge Plain r p u) (edge (Wait w.0) p (start_of card w.0) v) z) (sym (way_wait r w.0 (u +ℤ v))) (rule_u w.0 r p (start_of card w.0) u v)))))
      (column_is card x h)

  -- L or X
  pub by_lower : (s a c x : ℕ) (u v : ℤ) → x < columns card → x ≢ wait_of card s → Early v → Rule card (lower_of card x) (edge (Lower s) a c u) (way card c x v) (way card a x (u +ℤ v))
  by_lower s a c x u v h other early =
      ⊎_elim
      (λ l. subst (λ z. Rule card z (edge (Lower s) a c u) (way card c x v) (way card a x (u +ℤ v))) (sym (lower_point card x l))
      (subst (λ z. Rule card 76 (edge (Lower s) a c u) z (way card a x (u +ℤ v))) (sym (way_point c x v l))
      (subst (λ z. Rule card 76 (edge (Lower s) a c u) (edge Plain c x v) z) (sym (way_point a x (u +ℤ v) l)) (rule_l s a c x u v early))))
      (λ w.
      let apart : s ≢ w.0 = λ q. other (w.2 ∙ ap (wait_of card) (sym q)) in
      subst (λ y. Rule card (lower_of card y) (edge (Lower s) a c u) (way card c y v) (way card a y (u +ℤ v))) (sym w.2)
      (subst (λ z. Rule card z (edge (Lower s) a c u) (way card c (wait_of card w.0) v) (way card a (wait_of card w.0) (u +ℤ v))) (sym (lower_wait card w.0))
      (subst (λ z. Rule card 88 (edge (Lower s) a c u) z (way card a (wait_of card w.0) (u +ℤ v))) (sym (way_wait c w.0 v))
      (subst (λ z. Rule card 88 (edge (Lower s) a c u) (edge (Wait w.0) c (start_of card w.0) v) z) (sym (way_wait a w.0 (u +ℤ v))) (rule_x s w.0 a c (start_of card w.0) u v apart early)))))
      (column_is card x h)

  -- R
  pub by_release : (s p : ℕ) (v : ℤ) → start_of card s < card.points → Released card s v
      → Rule card 82 (way card p (wait_of card s) v) (way card p (wait_of card s) v) (way card p (start_of card s) v)
  by_release s p v lt released =
      subst (λ z. Rule card 82 z z (way card p (start_of card s) v)) (sym (way_wait p s v))
      (subst (λ z. Rule card 82 (edge (Wait s) p (start_of card s) v) (edge (Wait s) p (start_of card s) v) z) (sym (way_point p (start_of card s) v lt)) (rule_r s p (start_of card s) v released))

  -- covered by its entry
  pub covered_way : (e : Rows) (p x : ℕ) (w : ℤ) → x < columns card → CoveredAt card e (kind_of card x) p (head_of card x) w → at e p x ≤ℤ w
  covered_way e p x w h c =
      ⊎_elim
      (λ l. subst (λ z. CoveredAt card e Plain p z w) (head_point card x l) (subst (λ k. CoveredAt card e k p (head_of card x) w) (kind_point card x l) c))
      (λ y. subst (λ z. at e p z ≤ℤ w) (sym y.2) (subst (λ k. CoveredAt card e k p (head_of card x) w) (ap (kind_of card) y.2 ∙ kind_wait card y.0) c))
      (column_is card x h)

  -- so is an edge of the same kind and points
  pub same_way : (e : Rows) (f : Edge) (p x : ℕ) → x < columns card → Covered card e f → f.kind ≡ kind_of card x → f.source ≡ p → f.target ≡ head_of card x → at e p x ≤ℤ f.weight
  same_way e f p x h c k a t =
      let z = subst (λ k. CoveredAt card e k f.source f.target f.weight) k c in
      let y = subst (λ a. CoveredAt card e (kind_of card x) a f.target f.weight) a z in
      covered_way e p x f.weight h (subst (λ t. CoveredAt card e (kind_of card x) p t f.weight) t y)

  -- the column of an edge of column x is x
  pub column_back : (x : ℕ) → x < columns card → column_at card (kind_of card x) (head_of card x) ≡ Some x
  column_back x h =
      ⊎_elim
      (λ l. subst (λ k. column_at card k (head_of card x) ≡ Some x) (sym (kind_point card x l)) (ap Some (head_point card x l)))
      (λ y. subst (λ k. column_at card k (head_of card x) ≡ Some x) (sym (ap (kind_of card) y.2 ∙ kind_wait card y.0)) (ap Some (sym y.2)))
      (column_is card x h)

  pub way_covered : (e : Rows) (p x : ℕ) (w : ℤ) → x < columns card → at e p x ≤ℤ w → CoveredAt card e (kind_of card x) p (head_of card x) w
  way_covered e p x w h c =
      ⊎_elim
      (λ l. subst (λ k. CoveredAt card e k p (head_of card x) w) (sym (kind_point card x l)) (subst (λ z. CoveredAt card e Plain p z w) (sym (head_point card x l)) c))
      (λ y. subst (λ k. CoveredAt card e k p (head_of card x) w) (sym (ap (kind_of card) y.2 ∙ kind_wait card y.0)) (subst (λ z. at e p z ≤ℤ w) y.2 c))
      (column_is card x h)
