-- What closed tables keep, rule by rule, and back.
use Rattle.std.proofs.Common.{ℕ, ◌<◌, ◌≢◌, ◌⊎◌, ℤ, pos, ◌+ℤ◌, neg_ℤ, ◌≤ℤ◌, refl, ap, ◌∙◌, subst, inl, inr, arith}
use Rattle.std.proofs.lemmas.Int.{ints, by_lt_z}
use Rattle.rules.specs.Card.{Card, WellMade, span_count, tie_count, start_of, finish_of, least_of, most_of, from_of, to_of, gap_of}
use Rattle.rules.specs.declared.edges.Edge.{Edge}
use Rattle.rules.specs.Edges.{Early, Released, Given, given_late, given_early, given_most, given_least, given_lower, given_wait, given_tie, Rule, rule_n, rule_u, rule_l, rule_x, rule_r, rule_m, rule_mw, rule_s}
use Rattle.rules.specs.Tables.{Table, Above, Entry, Closed}

-- closed tables, rule by rule
pub record Rulewise (card : Card) (D W : Table) : Type 0 where
  pub late : (p : ℕ) → 0 < p → p < card.points → D 0 p ≤ℤ pos card.horizon
  pub early : (p : ℕ) → 0 < p → p < card.points → D p 0 ≤ℤ pos 0
  pub most : (s : ℕ) → s < span_count card → D (start_of card s) (finish_of card s) ≤ℤ pos (most_of card s)
  pub least : (s : ℕ) → s < span_count card → D (finish_of card s) (start_of card s) ≤ℤ neg_ℤ (pos (least_of card s))
  pub wait : (s : ℕ) → s < span_count card → W s (finish_of card s) ≤ℤ neg_ℤ (pos (most_of card s))
  pub tie : (i : ℕ) → i < tie_count card → D (from_of card i) (to_of card i) ≤ℤ gap_of card i
  pub N : (p q r : ℕ) → p < card.points → q < card.points → r < card.points → D p r ≤ℤ (D p q +ℤ D q r)
  pub U : (s p q : ℕ) → s < span_count card → p < card.points → q < card.points → W s p ≤ℤ (D p q +ℤ W s q)
  pub L : (s q : ℕ) → s < span_count card → q < card.points → Early (D (finish_of card s) q) → D (start_of card s) q ≤ℤ (pos (least_of card s) +ℤ D (finish_of card s) q)
  pub X : (k s : ℕ) → k < span_count card → s < span_count card → k ≢ s → Early (W s (finish_of card k)) → W s (start_of card k) ≤ℤ (pos (least_of card k) +ℤ W s (finish_of card k))
  pub R : (s p : ℕ) → s < span_count card → p < card.points → Released card s (W s p) → D p (start_of card s) ≤ℤ W s p

-- L and X speak of a weight, or it is not negative
pub early_or : (v : ℤ) → Early v ⊎ (pos 0 ≤ℤ v)
early_or v = by_lt_z v (pos 0) (λ n. inl (omega (arith, ints, n))) (λ n. inr n)

module _ (card : Card) (D W : Table) (made : WellMade card) where
  pub rulewise : Closed card D W → Rulewise card D W
  rulewise cl = record {
    late = λ p h k. cl.given (given_late p h k);
    early = λ p h k. cl.given (given_early p h k);
    most = λ s h. cl.given (given_most s h);
    least = λ s h. cl.given (given_least s h);
    wait = λ s h. cl.given (given_wait s h);
    tie = λ i h. cl.given (given_tie i h);
    N = λ p q r lp lq lr. cl.made (rule_n p q r (D p q) (D q r)) (lp, lq, refl) (lq, lr, refl);
    U = λ s p q h lp lq. cl.made (rule_u s p q (start_of card s) (D p q) (W s q)) (lp, lq, refl) (h, refl, lq, refl);
    L = λ s q h lq neg. cl.made (rule_l s (start_of card s) (finish_of card s) q (pos (least_of card s)) (D (finish_of card s) q) neg) (h, refl, refl, refl) (made.finish_in s h, lq, refl);
    X = λ k s h i n neg. cl.made (rule_x k s (start_of card k) (finish_of card k) (start_of card s) (pos (least_of card k)) (W s (finish_of card k)) n neg) (h, refl, refl, refl) (i, refl, made.finish_in k h, refl);
    R = λ s p h lp low. cl.made (rule_r s p (start_of card s) (W s p) low) (h, refl, lp, refl) (h, refl, lp, refl);
  }

  given_above : Rulewise card D W → {e : Edge} → Given card e → Above D W e
  given_above r (given_late p h k) = r.late p h k
  given_above r (given_early p h k) = r.early p h k
  given_above r (given_most s h) = r.most s h
  given_above r (given_least s h) = r.least s h
  given_above r (given_lower s h) = tt
  given_above r (given_wait s h) = r.wait s h
  given_above r (given_tie i h) = r.tie i h

  made_above : Rulewise card D W → {letter : ℕ} {e f g : Edge} → Rule card letter e f g → Entry card D W e → Entry card D W f → Above D W g
  made_above c (rule_n p q r u v) a b = omega (arith, ints, c.N p q r a.0 a.1 b.1, a.2, b.2)
  made_above c (rule_u s p q r u v) a b = omega (arith, ints, c.U s p q b.0 a.0 a.1, a.2, b.3)
  made_above c (rule_l s p q r u v neg) a b =
      omega (arith, ints, c.L s r a.0 b.1 (subst Early (b.2 ∙ ap (λ y. D y r) a.2) neg), ap (λ y. D y r) a.1, ap (λ y. D y r) a.2, a.3, b.2)
  made_above c (rule_x k s p q r u v n neg) a b =
      omega (arith, ints, c.X k s a.0 b.0 n (subst Early (b.3 ∙ ap (W s) a.2) neg), ap (W s) a.1, ap (W s) a.2, a.3, b.3)
  made_above c (rule_r s p q v low) a b = omega (arith, ints, c.R s p a.0 a.2 (subst (Released card s) a.3 low), ap (D p) a.1, a.3)
  made_above c (rule_m p q v) a b = tt
  made_above c (rule_mw s p q v) a b = tt
  made_above c (rule_s p q r u v) a b = absurd a

  pub closed_by : Rulewise card D W → Closed card D W
  closed_by r = record { given = given_above r; made = made_above r }
