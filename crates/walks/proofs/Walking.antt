-- Best weights over walks: what the laws of weights give. Assumes nothing.
use Rattle.std.proofs.Common.{◌≡◌, ℕ, zero, suc, ◌+◌, ◌*◌, ◌/◌, ◌<◌, ◌≤◌, max, sym, refl, ap, ◌∙◌, ⊎_elim, mul-le-mul_right, suc-mul, add-mul, one-mul, arith}
use native.Mathlib.Nat.{mul-div-le}
use Rattle.std.proofs.lemmas.Bool.{cases_lt, cond_below, cond_above}
use Rattle.walks.specs.Tables.{Small, SmallRow}
use Rattle.walks.specs.Walks.{Walk, edges, weight, Choice, Best, toward, through, edge, onward, walk, either}

-- the laws that the trait states
pub record Laws {V : Type 0} (join choose : V → V → V) : Type 0 where
  pub join_assoc : (a b c : V) → join (join a b) c ≡ join a (join b c)
  pub choose_assoc : (a b c : V) → choose (choose a b) c ≡ choose a (choose b c)
  pub choose_comm : (a b : V) → choose a b ≡ choose b a
  pub choose_idem : (a : V) → choose a a ≡ a
  pub left_distrib : (a b c : V) → join a (choose b c) ≡ choose (join a b) (join a c)
  pub right_distrib : (a b c : V) → join (choose a b) c ≡ choose (join a c) (join b c)

-- one way more, through x and y; nothing changes where x or y is absent
module _ {V : Type 0} (join choose : V → V → V) where
  pub one_more : (a s t x x' y y' : V) → a ≡ choose s (join x y) → s ≡ t → x ≡ x' → y ≡ y' → a ≡ choose t (join x' y')
  one_more a s t x x' y y' e f h i = cc

  module _ (none : V) (choose_absent : (v : V) → choose v none ≡ v) (a t x y : V) (e : a ≡ t) where
    pub none_before : ((v : V) → join none v ≡ none) → x ≡ none → a ≡ choose t (join x y)
    none_before absent_join f = let h = choose_absent t in let k = absent_join y in cc

    pub none_after : ((v : V) → join v none ≡ none) → y ≡ none → a ≡ choose t (join x y)
    none_after join_absent f = let h = choose_absent t in let k = join_absent x in cc

-- what i and j edges weigh fits, joined, if top edges fit
pub edges_fit : (a b i j limit top : ℕ) → a ≤ i * (limit / top) → b ≤ j * (limit / top) → i + j ≤ top → a + b ≤ limit
edges_fit a b i j limit top h k l =
    omega (arith, mul-le-mul_right {m = i + j} {n = top} (limit / top) l, add-mul i j (limit / top), mul-div-le limit top)

-- a walk has an edge
one_edge : {n p q : ℕ} (w : Walk n p q) → 1 ≤ edges w
unfolding edges
one_edge (edge p q) = omega arith
one_edge (onward p r q h w) = omega arith

-- two walks end to end
chain : {n p r q : ℕ} → Walk n p r → r < n → Walk n r q → Walk n p q
chain {q = q} (edge p r) h w = onward p r q h w
chain {q = q} (onward p s r i v) h w = onward p s q i (chain v h w)

edges_chain : {n p r q : ℕ} (v : Walk n p r) (h : r < n) (w : Walk n r q) → edges (chain v h w) ≡ edges v + edges w
unfolding edges chain
edges_chain (edge p r) h w = omega arith
edges_chain (onward p s r i v) h w = omega (arith, edges_chain v h w)

module _ {V : Type 0} {join choose : V → V → V} (laws : Laws join choose) (between : ℕ → ℕ → V) (n : ℕ) where
  abbrev weighs : {p q : ℕ} → Walk n p q → V
  weighs w = weight join between w

  -- a wins against b
  abbrev Wins : V → V → Type 0
  Wins a b = choose a b ≡ a

  wins_trans : (a b c : V) → Wins a b → Wins b c → Wins a c
  wins_trans a b c h k =
      sym (ap (λ x. choose x c) h) ∙ laws.choose_assoc a b c ∙ ap (choose a) k ∙ h

  wins_left : (a b : V) → Wins (choose a b) a
  wins_left a b =
      laws.choose_comm (choose a b) a ∙ sym (laws.choose_assoc a a b) ∙ ap (λ x. choose x b) (laws.choose_idem a)

  wins_right : (a b : V) → Wins (choose a b) b
  wins_right a b = laws.choose_assoc a b b ∙ ap (choose a) (laws.choose_idem b)

  wins_join : (a b c d : V) → Wins a b → Wins c d → Wins (join a c) (join b d)
  wins_join a b c d h k =
      wins_trans (join a c) (join b c) (join b d)
      (sym (laws.right_distrib a b c) ∙ ap (λ x. join x c) h)
      (sym (laws.left_distrib b c d) ∙ ap (join b) k)

  weight_chain : {p r q : ℕ} (v : Walk n p r) (h : r < n) (w : Walk n r q) → weighs (chain v h w) ≡ join (weighs v) (weighs w)
  unfolding weight chain
  weight_chain (edge p r) h w = refl
  weight_chain (onward p s r i v) h w =
      ap (join (between p s)) (weight_chain v h w) ∙ sym (laws.join_assoc (between p s) (weighs v) (weighs w))

  -- a walk parted after j edges
  record Parted {p q : ℕ} (w : Walk n p q) (j : ℕ) : Type 0 where
    mid : ℕ
    below : mid < n
    front : Walk n p mid
    back : Walk n mid q
    first : edges front ≡ j
    rest : edges back + j ≡ edges w
    same : weighs w ≡ join (weighs front) (weighs back)

  onward_parted : (p r q : ℕ) (l : r < n) (w : Walk n r q) (j : ℕ) → Parted w j → Parted (onward p r q l w) (suc j)
  unfolding edges weight
  onward_parted p r q l w j s = record {
    mid = s.mid;
    below = s.below;
    front = onward p r s.mid l s.front;
    back = s.back;
    first = omega arith;
    rest = omega arith;
    same = ap (join (between p r)) s.same ∙ sym (laws.join_assoc (between p r) (weighs s.front) (weighs s.back));
  }

  parted : {p q : ℕ} (w : Walk n p q) (j : ℕ) → 1 ≤ j → j < edges w → Parted w j
  unfolding edges weight
  parted (edge p q) j h i = absurd (omega arith)
  parted (onward p r q l w) zero h i = absurd (omega arith)
  parted (onward p r q l w) (suc zero) h i =
      record { mid = r; below = l; front = edge p r; back = w; first = refl; rest = omega arith; same = refl }
  parted (onward p r q l w) (suc (suc j)) h i =
      onward_parted p r q l w (suc j) (parted w (suc j) (omega arith) (omega arith))

  abbrev Chosen : ℕ → ℕ → ℕ → V → Type 0
  Chosen k p q a = Choice join choose between n k p q a

  join_walk : {j k p r q : ℕ} (v : Walk n p r) {b : V} → edges v ≤ j → r < n → Chosen k r q b → Chosen (j + k) p q (join (weighs v) b)
  join_walk v l h (walk w m) = rw (← weight_chain v h w) (walk (chain v h w) (omega (arith, edges_chain v h w)))
  join_walk v l h (either {a} {b} s t) =
      rw (laws.left_distrib (weighs v) a b) (either (join_walk v l h s) (join_walk v l h t))

  join_choice : {j k p r q : ℕ} {a b : V} → r < n → Chosen j p r a → Chosen k r q b → Chosen (j + k) p q (join a b)
  join_choice h (walk v l) t = join_walk v l h t
  join_choice {b = d} h (either {a} {b} s t) z =
      rw (laws.right_distrib a b d) (either (join_choice h s z) (join_choice h t z))

  choice_more : {j k p q : ℕ} {a : V} → j ≤ k → Chosen j p q a → Chosen k p q a
  choice_more h (walk w l) = walk w (omega arith)
  choice_more h (either s t) = either (choice_more h s) (choice_more h t)

  abbrev IsBest : ℕ → ℕ → ℕ → V → Type 0
  IsBest k p q a = Best join choose between n k p q a

  pub best_same : {p q j k : ℕ} {a b : V} → k ≡ j → b ≡ a → IsBest j p q a → IsBest k p q b
  best_same e f h = rw (e, f) h

  -- an edge is the best over the walks of one edge
  pub best_one : (p q : ℕ) → IsBest 1 p q (between p q)
  unfolding edges weight
  best_one p q = record { wins = one_wins; made = walk (edge p q) (omega arith) }
    where
      one_wins : (w : Walk n p q) → edges w ≤ 1 → Wins (between p q) (weighs w)
      one_wins (edge p q) h = laws.choose_idem (between p q)
      one_wins (onward p r q l w) h = absurd (omega (arith, one_edge w))

  through_first : (b : V) (a c : ℕ → V) (m : ℕ) → Wins (through join choose b a c m) b
  through_first b a c zero = laws.choose_idem b
  through_first b a c (suc m) = wins_trans _ (through join choose b a c m) b (wins_left _ _) (through_first b a c m)

  through_point : (b : V) (a c : ℕ → V) (m r : ℕ) → r < m → Wins (through join choose b a c m) (join (a r) (c r))
  through_point b a c zero r h = absurd (omega arith)
  through_point b a c (suc m) r h = ⊎_elim
      (λ l. wins_trans _ (through join choose b a c m) (join (a r) (c r)) (wins_left _ _) (through_point b a c m r l))
      (λ l. let e : r ≡ m = omega arith in rw e (wins_right _ _))
      (cases_lt r m)

  -- from walks of up to j and of up to k edges to walks of up to j + k edges
  pub best_chain : {i j k p q : ℕ} {b : V} {a c : ℕ → V} → 1 ≤ j → j ≤ i → i ≤ j + k
      → IsBest i p q b → ((r : ℕ) → r < n → IsBest j p r (a r)) → ((r : ℕ) → r < n → IsBest k r q (c r))
      → IsBest (j + k) p q (through join choose b a c n)
  best_chain {i} {j} {k} {p} {q} {b} {a} {c} f g h s t u = record { wins = wins_all; made = made_all n (omega arith) }
    where
      made_all : (m : ℕ) → m ≤ n → Chosen (j + k) p q (through join choose b a c m)
      made_all zero l = choice_more h s.made
      made_all (suc m) l = either (made_all m (omega arith)) (join_choice l (t m l).made (u m l).made)

      by_parts : (w : Walk n p q) → Parted w j → edges w ≤ j + k → Wins (through join choose b a c n) (weighs w)
      by_parts w x l =
          rw x.same
          (wins_trans _ (join (a x.mid) (c x.mid)) _
          (through_point b a c n x.mid x.below)
          (wins_join _ _ _ _ ((t x.mid x.below).wins x.front (omega arith)) ((u x.mid x.below).wins x.back (omega arith))))

      wins_all : (w : Walk n p q) → edges w ≤ j + k → Wins (through join choose b a c n) (weighs w)
      wins_all w l = ⊎_elim
          (λ m. by_parts w (parted w j f (omega arith)) l)
          (λ m. wins_trans _ b _ (through_first b a c n) (s.wins w m))
          (cases_lt i (edges w))

-- a bound on weights that grows with the walks' length
module _ {V : Type 0} {join choose : V → V → V} (size : V → ℕ)
    (join_size : (a b : V) → size (join a b) ≤ size a + size b) (choose_size : (a b : V) → size (choose a b) ≤ max (size a) (size b))
    {between : ℕ → ℕ → V} {n m q : ℕ} (small : Small size between n m) (small_last : (p : ℕ) → p < n → size (between p q) ≤ m) where
  weight_size : {p : ℕ} (w : Walk n p q) → p < n → size (weight join between w) ≤ edges w * m
  unfolding edges weight
  weight_size (edge p q) i = rw one-mul (small_last p i)
  weight_size (onward p r q h w) i =
      omega (arith, join_size (between p r) (weight join between w), small p r i h, weight_size w h, suc-mul (edges w) m)

  choice_size : {k p : ℕ} {a : V} → p < n → Choice join choose between n k p q a → size a ≤ k * m
  choice_size {k} i (walk w l) = omega (arith, weight_size w i, mul-le-mul_right {m = edges w} {n = k} m l)
  choice_size i (either {a} {b} s t) = omega (arith, choose_size a b, choice_size i s, choice_size i t)

  pub best_size : {k p : ℕ} {b : V} → p < n → Best join choose between n k p q b → size b ≤ k * m
  best_size i h = choice_size i h.made

-- the edges to a target, and the others
module _ {V : Type 0} (n : ℕ) (between : ℕ → ℕ → V) (last : ℕ → V) where
  pub toward_other : (p q : ℕ) → q < n → toward n between last p q ≡ between p q
  unfolding toward
  toward_other p q h = sym (cond_below q n _ _ h)

  pub toward_last : (p : ℕ) → toward n between last p n ≡ last p
  unfolding toward
  toward_last p = sym (cond_above n n _ _ _ (omega arith) refl)

  pub toward_small : {m : ℕ} (size : V → ℕ) → Small size between n m → Small size (toward n between last) n m
  toward_small size h p q i j = rw (toward_other p q j) (h p q i j)

  pub toward_small_last : {m : ℕ} (size : V → ℕ) → SmallRow size last n m → (p : ℕ) → p < n → size (toward n between last p n) ≤ m
  toward_small_last size h p i = rw (toward_last p) (h p i)
