-- Walks, what they weigh, and what the best weight over them is. Assumes nothing.
use Rattle.std.specs.Prelude.{◌≡◌, ℕ, zero, suc, ◌<◌, ◌≤◌, cond, nat_lt}

-- a walk from p to q, as its edges end to end: one edge, or an edge to a point below n and then a walk from there
pub data Walk (n : ℕ) : ℕ → ℕ → Type 0 where
  edge : (p q : ℕ) → Walk n p q
  onward : (p r q : ℕ) → r < n → Walk n r q → Walk n p q

-- how many edges a walk has
unfoldable pub edges : {n p q : ℕ} → Walk n p q → ℕ
edges (edge p q) = 1
edges (onward p r q h w) = suc (edges w)

-- the weights of a walk's edges, joined
unfoldable pub weight : {V : Type 0} → (V → V → V) → (ℕ → ℕ → V) → {n p q : ℕ} → Walk n p q → V
weight join between (edge p q) = between p q
weight join between (onward p r q h w) = join (between p r) (weight join between w)

module _ {V : Type 0} (join choose : V → V → V) (between : ℕ → ℕ → V) (n k p q : ℕ) where
  -- a choice over one or more walks of 1 to k edges from p to q
  pub data Choice : V → Type 0 where
    walk : (w : Walk n p q) → edges w ≤ k → Choice (weight join between w)
    either : {a b : V} → Choice a → Choice b → Choice (choose a b)

  -- the best weight over all walks of 1 to k edges from p to q: no such walk wins a choice against it,
  -- and it is itself a choice over such walks
  pub record Best (b : V) : Type 0 where
    pub wins : (w : Walk n p q) → edges w ≤ k → choose b (weight join between w) ≡ b
    pub made : Choice b

-- the edges between the first n points, and an edge from each of them to a target, which is point n
unfoldable pub toward : {V : Type 0} → ℕ → (ℕ → ℕ → V) → (ℕ → V) → ℕ → ℕ → V
toward n between last p q = cond (nat_lt q n) (between p q) (last p)

-- b, chosen with every way through one point below m: a to that point, and c from there
abbrev pub through : {V : Type 0} → (V → V → V) → (V → V → V) → V → (ℕ → V) → (ℕ → V) → ℕ → V
through join choose b a c zero = b
through join choose b a c (suc r) = choose (through join choose b a c r) (join (a r) (c r))

-- a table, chosen with every way through one point below n
abbrev pub twice : {V : Type 0} → (V → V → V) → (V → V → V) → (ℕ → ℕ → V) → ℕ → ℕ → ℕ → V
twice join choose best n p q = through join choose (best p q) (best p) (λ r. best r q) n
