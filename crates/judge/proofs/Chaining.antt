-- Best walks of up to two edges over entries: what they propose is derived, and entries that do not undercut them keep N and U.
use Rattle.std.proofs.Common.{◌≡◌, ℕ, ◌<◌, ◌≤◌, ℤ, pos, negsuc, ◌+ℤ◌, nat_abs, ◌≤ℤ◌, Some, None, sym, refl, ap, ◌∙◌, ap₂, arith}
use Rattle.std.proofs.lemmas.Int.{ints}
use Rattle.rules.specs.Card.{Card, span_count}
use Rattle.network.specs.declared.network.Network.{Network}
use Rattle.network.specs.Model.{model}
use Rattle.walks.specs.Minutes.{Whole, sum, lesser, far}
use Rattle.walks.specs.Pairs.{Pair, sum_pair, lesser_pair, far_pair}
use Rattle.walks.specs.Walks.{Walk, edge, onward, edges, weight, Best, toward}
use Rattle.walks.proofs.Bests.{whole_part, wait_part, reached, least_one, least_two, least_one_to, least_two_to}
use Rattle.walks.proofs.Walking.{toward_other, toward_last}
use Rattle.judge.specs.declared.closure.Closure.{Closure}
use Rattle.judge.specs.declared.target.Target.{Target}
use Rattle.judge.specs.declared.target.Target.TheVariants.{Point, Start}
use Rattle.judge.specs.Closures.{distance, wait, entry}
use Rattle.judge.specs.Closing.{In, Holds, Proposed, Offered, Within}
use Rattle.judge.proofs.Deriving.{proposed_as, low_at, high_at, offer_chained}

some_same : {x y : ℤ} → ◌≡◌ {A = Whole} (Some x) (Some y) → x ≡ y
some_same e = cc

some_edge : {n p q : ℕ} (w : Walk n p q) → 1 ≤ edges w
unfolding edges
some_edge (edge p q) = omega arith
some_edge (onward p r q h w) = omega arith

-- small enough
pub far_small : (w : Whole) (x : ℤ) (m : ℕ) → w ≡ Some x → negsuc 1439 ≤ℤ x → x ≤ℤ pos 1440 → 1440 ≤ m → far w ≤ m
far_small w x m e l h k = rw e (small x l h)
  where
    small : (x : ℤ) → negsuc 1439 ≤ℤ x → x ≤ℤ pos 1440 → nat_abs x ≤ m
    small (pos a) l h = omega (arith, ints)
    small (negsuc a) l h = omega (arith, ints)

pub plain_small : (w : Pair) (x : ℤ) (m : ℕ) → w ≡ (Some x, None) → negsuc 1439 ≤ℤ x → x ≤ℤ pos 1440 → 1440 ≤ m → far_pair w ≤ m
plain_small w x m e l h k = omega (arith, far_small w.0 x m (ap (λ z. z.0) e) l h k, ap (λ z. far z.1) e)

pub wait_small : (w : Pair) (x : ℤ) (m : ℕ) → w ≡ (None, Some x) → negsuc 1439 ≤ℤ x → x ≤ℤ pos 1440 → 1440 ≤ m → far_pair w ≤ m
wait_small w x m e l h k = omega (arith, far_small w.1 x m (ap (λ z. z.1) e) l h k, ap (λ z. far z.0) e)

module _ (n : Network) (t : Closure) (holds : Holds (model n.content) t) where
  abbrev card : Card
  card = model n.content

  abbrev size : ℕ
  size = card.points

  offer_same : (p : ℕ) (x : Target) → p < card.points → In card x → Proposed card t p x (entry t p x)
  offer_same p x lp lx = record {
    low = omega (arith, ints, low_at n t holds p x lp lx);
    high = omega (arith, ints, high_at n t holds p x lp lx);
    next = λ less. absurd (omega (arith, ints, less));
  }

  -- ---- N

  module _ (between : ℕ → ℕ → Whole) (are : (p q : ℕ) → p < size → q < size → between p q ≡ Some (distance t p q)) where
    after_one : {r q : ℕ} (w : Walk size r q) (p : ℕ) → p < size → r < size → q < size → edges w ≤ 1 → (v : ℤ) → sum (between p r) (weight sum between w) ≡ Some v → Proposed card t p (Point q) v
    unfolding edges weight
    after_one (edge r q) p lp lr lq short v e =
        proposed_as refl refl (some_same (sym e ∙ ap₂ sum (are p r lp lr) (are r q lr lq))) (offer_chained n t holds p r (Point q) lp lr lq)
    after_one (onward r k q lk w) p lp lr lq short v e = absurd (omega (arith, some_edge w))

    by_walk : {p q : ℕ} (w : Walk size p q) → p < size → q < size → edges w ≤ 2 → (v : ℤ) → weight sum between w ≡ Some v → Proposed card t p (Point q) v
    unfolding edges weight
    by_walk (edge p q) lp lq short v e = proposed_as refl refl (some_same (sym e ∙ are p q lp lq)) (offer_same p (Point q) lp lq)
    by_walk (onward p r q lr w) lp lq short v e = after_one w p lp lr lq (omega arith) v e

    pub offered_point : (p q : ℕ) → p < size → q < size → (b : Whole) → Best sum lesser between size 2 p q b → Offered card t p (Point q) b
    offered_point p q lp lq b best =
        let some = least_one whole_part best (omega arith) (distance t p q) (are p q lp lq) in
        let by = reached whole_part best some.value some.there in
        record { value = some.value; there = some.there; proposed = by_walk by.by lp lq by.short some.value by.weighs }

    pub chained_point : (p r q : ℕ) → p < size → r < size → q < size → (b : Whole) → Best sum lesser between size 2 p q b → Within t p (Point q) b → distance t p q ≤ℤ (distance t p r +ℤ distance t r q)
    chained_point p r q lp lr lq b best within =
        let some = least_two whole_part best (omega arith) r lr (distance t p r) (distance t r q) (are p r lp lr) (are r q lr lq) in
        omega (arith, ints, some.below, within some.value some.there)

  -- ---- U

  module _ (s : ℕ) (ls : s < span_count card) (between : ℕ → ℕ → Pair) (last : ℕ → Pair)
      (are : (p q : ℕ) → p < size → q < size → between p q ≡ (Some (distance t p q), None)) (ends : (p : ℕ) → p < size → last p ≡ (None, Some (wait t s p))) where
    abbrev all : ℕ → ℕ → Pair
    all = toward size between last

    at_end : (p : ℕ) → p < size → (all p size).1 ≡ Some (wait t s p)
    at_end p lp = ap (λ w. w.1) (toward_last size between last p ∙ ends p lp)

    before : (p q : ℕ) → p < size → q < size → (all p q).0 ≡ Some (distance t p q)
    before p q lp lq = ap (λ w. w.0) (toward_other size between last p q lq ∙ are p q lp lq)

    to_start_after : {r q : ℕ} (w : Walk size r q) (p : ℕ) → q ≡ size → p < size → r < size → edges w ≤ 1 → (v : ℤ) → sum (all p r).0 (weight sum_pair all w).1 ≡ Some v → Proposed card t p (Start s) v
    unfolding edges weight
    to_start_after (edge r q) p here lp lr short v e =
        proposed_as refl refl (some_same (sym e ∙ ap₂ sum (before p r lp lr) (ap (λ z. (all r z).1) here ∙ at_end r lr))) (offer_chained n t holds p r (Start s) lp lr ls)
    to_start_after (onward r k q lk w) p here lp lr short v e = absurd (omega (arith, some_edge w))

    to_start : {p q : ℕ} (w : Walk size p q) → q ≡ size → p < size → edges w ≤ 2 → (v : ℤ) → (weight sum_pair all w).1 ≡ Some v → Proposed card t p (Start s) v
    unfolding edges weight
    to_start (edge p q) here lp short v e = proposed_as refl refl (some_same (sym e ∙ ap (λ z. (all p z).1) here ∙ at_end p lp)) (offer_same p (Start s) lp ls)
    to_start (onward p r q lr w) here lp short v e = to_start_after w p here lp lr (omega arith) v e

    pub offered_start : (p : ℕ) → p < size → (b : Pair) → Best sum_pair lesser_pair all size 2 p size b → Offered card t p (Start s) b.1
    offered_start p lp b best =
        let some = least_one_to wait_part size between last best (omega arith) (wait t s p) (ap (λ w. w.1) (ends p lp)) in
        let by = reached wait_part best some.value some.there in
        record { value = some.value; there = some.there; proposed = to_start by.by refl lp by.short some.value by.weighs }

    pub chained_start : (p r : ℕ) → p < size → r < size → (b : Pair) → Best sum_pair lesser_pair all size 2 p size b → Within t p (Start s) b.1 → wait t s p ≤ℤ (distance t p r +ℤ wait t s r)
    chained_start p r lp lr b best within =
        let some = least_two_to wait_part size between last best (omega arith) r lr (distance t p r) (wait t s r) (ap (λ w. w.0) (are p r lp lr)) (ap (λ w. w.1) (ends r lr)) in
        omega (arith, ints, some.below, within some.value some.there)
