-- What a best weight over walks tells a caller. Assumes nothing.
use Rattle.std.proofs.Common.{◌≡◌, ℕ, ◌<◌, ◌≤◌, true, false, cond, ℤ, ◌+ℤ◌, ◌≤ℤ◌, Some, None, sym, refl, ap, ◌∙◌, subst, arith}
use lib.Signed.{lt_z}
use Rattle.std.specs.Int.{int_min}
use Rattle.std.proofs.lemmas.Int.{ints}
use Rattle.walks.specs.Minutes.{Whole, sum, lesser}
use Rattle.walks.specs.Pairs.{sum_pair, lesser_pair}
use Rattle.walks.specs.Walks.{Walk, edges, weight, Choice, Best, toward, edge, onward, walk, either}
use Rattle.walks.proofs.Walking.{toward_other, toward_last}

-- what holds of every edge to q, of a walk to q with an edge before it, and of a choice, holds of the best weight to q
module _ {V : Type 0} (join choose : V → V → V) (between : ℕ → ℕ → V) {n q : ℕ} (P : ℕ → V → Type 0)
    (edge_holds : (p : ℕ) → p < n → P p (between p q))
    (onward_holds : (p r : ℕ) (b : V) → p < n → r < n → P r b → P p (join (between p r) b))
    (chosen_holds : (p : ℕ) (a b : V) → p < n → P p a → P p b → P p (choose a b)) where
  walk_holds : {p : ℕ} (w : Walk n p q) → p < n → P p (weight join between w)
  unfolding weight
  walk_holds (edge p q) i = edge_holds p i
  walk_holds (onward p r q h w) i = onward_holds p r _ i h (walk_holds w h)

  choice_holds : {k p : ℕ} {a : V} → p < n → Choice join choose between n k p q a → P p a
  choice_holds i (walk w l) = walk_holds w i
  choice_holds {p = p} i (either {a} {b} s t) = chosen_holds p a b i (choice_holds i s) (choice_holds i t)

  pub best_holds : {k p : ℕ} {b : V} → p < n → Best join choose between n k p q b → P p b
  best_holds i h = choice_holds i h.made

-- what holds of the sum of two minutes, or of either of them, holds of their sum, or of the lesser, where it is there
module _ (S : ℤ → Type 0) where
  sum_lifts : {Q R : ℤ → Type 0} → ((x y : ℤ) → Q x → R y → S (x +ℤ y))
      → (a b : Whole) → ((x : ℤ) → a ≡ Some x → Q x) → ((y : ℤ) → b ≡ Some y → R y) → (z : ℤ) → sum a b ≡ Some z → S z
  sum_lifts h None b f g z e = absurd (cc)
  sum_lifts h (Some x) None f g z e = absurd (cc)
  sum_lifts h (Some x) (Some y) f g z e = subst S (cc) (h x y (f x refl) (g y refl))

  lesser_lifts : (a b : Whole) → ((x : ℤ) → a ≡ Some x → S x) → ((x : ℤ) → b ≡ Some x → S x) → (z : ℤ) → lesser a b ≡ Some z → S z
  lesser_lifts None b f g z e = g z e
  lesser_lifts (Some x) None f g z e = f z e
  lesser_lifts (Some x) (Some y) f g z e =
      subst S {x = cond (lt_z y x) y x} (cc) (elim (lt_z y x) as (λ v. S (cond v y x)) [ true ↦ g y refl | false ↦ f x refl ])

-- minutes that are there, and at most x
pub record AtMost (b : Whole) (x : ℤ) : Type 0 where
  pub value : ℤ
  pub there : b ≡ Some value
  pub below : value ≤ℤ x

lesser_least : (a b : Whole) (x : ℤ) → lesser a b ≡ a → b ≡ Some x → AtMost a x
lesser_least None b x h e = absurd (cc)
lesser_least (Some y) None x h e = absurd (cc)
lesser_least (Some y) (Some z) x h e =
    let least : int_min y z ≡ y = cc in
    let same : z ≡ x = cc in
    record { value = y; there = refl; below = grind (arith, ints) }

-- a part of a weight in minutes: chosen by the lesser, and joined by adding it to what goes before it
pub record Part {V : Type 0} (join choose : V → V → V) : Type 0 where
  pub part : V → Whole
  pub before : V → Whole
  pub picks : (a b : V) → part (choose a b) ≡ lesser (part a) (part b)
  pub adds : (a b : V) → part (join a b) ≡ sum (before a) (part b)

-- minutes as a whole
abbrev pub whole_part : Part sum lesser
whole_part = record { part = λ v. v; before = λ v. v; picks = λ a b. refl; adds = λ a b. refl }

-- the plain part of a pair
abbrev pub plain_part : Part sum_pair lesser_pair
plain_part = record { part = λ v. v.0; before = λ v. v.0; picks = λ a b. refl; adds = λ a b. refl }

-- the wait part of a pair, which plain parts go before
abbrev pub wait_part : Part sum_pair lesser_pair
wait_part = record { part = λ v. v.1; before = λ v. v.0; picks = λ a b. refl; adds = λ a b. refl }

module _ {V : Type 0} {join choose : V → V → V} (the : Part join choose) where
  -- what holds of every edge to q, and of the sum of an edge and what it holds of, holds of the best to q
  pub part_holds : {between : ℕ → ℕ → V} {n q : ℕ} (R : ℕ → ℤ → Type 0)
      → ((p : ℕ) (x : ℤ) → p < n → the.part (between p q) ≡ Some x → R p x)
      → ((p r : ℕ) (x y : ℤ) → p < n → r < n → the.before (between p r) ≡ Some x → R r y → R p (x +ℤ y))
      → {k p : ℕ} {b : V} → p < n → Best join choose between n k p q b → (x : ℤ) → the.part b ≡ Some x → R p x
  part_holds {between} R edge_holds onward_holds = best_holds join choose between (λ p v. (x : ℤ) → the.part v ≡ Some x → R p x)
      (λ p i x. edge_holds p x i)
      (λ p r b i h f z e.
      sum_lifts (R p) (λ x y. onward_holds p r x y i h) (the.before (between p r)) (the.part b) (λ x d. d) f z (sym (the.adds (between p r) b) ∙ e))
      (λ p a b i f g z e. lesser_lifts (R p) (the.part a) (the.part b) f g z (sym (the.picks a b) ∙ e))

  -- some walk of 1 to k edges from p to q weighs x
  pub record Reached (between : ℕ → ℕ → V) (n k p q : ℕ) (x : ℤ) : Type 0 where
    pub by : Walk n p q
    pub short : edges by ≤ k
    pub weighs : the.part (weight join between by) ≡ Some x

  choice_reached : {between : ℕ → ℕ → V} {n k p q : ℕ} {a : V} → Choice join choose between n k p q a
      → (x : ℤ) → the.part a ≡ Some x → Reached between n k p q x
  choice_reached (walk w l) x e = record { by = w; short = l; weighs = e }
  choice_reached {between} {n} {k} {p} {q} (either {a} {b} s t) x e =
      lesser_lifts (Reached between n k p q) (the.part a) (the.part b) (choice_reached s) (choice_reached t) x (sym (the.picks a b) ∙ e)

  module _ {between : ℕ → ℕ → V} {n k p q : ℕ} {b : V} (best : Best join choose between n k p q b) where
    -- where the best is there, some walk weighs it
    pub reached : (x : ℤ) → the.part b ≡ Some x → Reached between n k p q x
    reached = choice_reached best.made

    -- where a walk is there, so is the best, and is at most that
    pub least : (w : Walk n p q) → edges w ≤ k → (x : ℤ) → the.part (weight join between w) ≡ Some x → AtMost (the.part b) x
    least w l x e = lesser_least (the.part b) _ x (sym (the.picks b _) ∙ ap the.part (best.wins w l)) e

    -- it is at most the edge
    pub least_one : 1 ≤ k → (x : ℤ) → the.part (between p q) ≡ Some x → AtMost (the.part b) x
    unfolding edges weight
    least_one l = least (edge p q) l

    -- it is at most any two edges
    pub least_two : 2 ≤ k → (r : ℕ) → r < n → (x y : ℤ) → the.before (between p r) ≡ Some x → the.part (between r q) ≡ Some y
        → AtMost (the.part b) (x +ℤ y)
    unfolding edges weight
    least_two l r h x y e f =
        least (onward p r q h (edge r q)) l (x +ℤ y) (the.adds (between p r) (between r q) ∙ simp (e, f))

  -- the same for walks to one target
  module _ (n : ℕ) (between : ℕ → ℕ → V) (last : ℕ → V) where
    pub part_holds_to : (R : ℕ → ℤ → Type 0)
        → ((p : ℕ) (x : ℤ) → p < n → the.part (last p) ≡ Some x → R p x)
        → ((p r : ℕ) (x y : ℤ) → p < n → r < n → the.before (between p r) ≡ Some x → R r y → R p (x +ℤ y))
        → {k p : ℕ} {b : V} → p < n → Best join choose (toward n between last) n k p n b → (x : ℤ) → the.part b ≡ Some x → R p x
    part_holds_to R last_holds onward_holds = part_holds R
        (λ p x i e. last_holds p x i (ap the.part (sym (toward_last n between last p)) ∙ e))
        (λ p r x y i h e. onward_holds p r x y i h (ap the.before (sym (toward_other n between last p r h)) ∙ e))

    module _ {k p : ℕ} {b : V} (best : Best join choose (toward n between last) n k p n b) where
      pub least_one_to : 1 ≤ k → (x : ℤ) → the.part (last p) ≡ Some x → AtMost (the.part b) x
      least_one_to l x e = least_one best l x (ap the.part (toward_last n between last p) ∙ e)

      pub least_two_to : 2 ≤ k → (r : ℕ) → r < n → (x y : ℤ) → the.before (between p r) ≡ Some x → the.part (last r) ≡ Some y
          → AtMost (the.part b) (x +ℤ y)
      least_two_to l r h x y e f = least_two best l r h x y
          (ap the.before (toward_other n between last p r h) ∙ e) (ap the.part (toward_last n between last r) ∙ f)
