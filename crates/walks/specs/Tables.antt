-- Tables of weights, as lists of rows. Assumes nothing.
use Rattle.std.specs.Prelude.{◌≡◌, ℕ, ◌<◌, ◌≤◌, List, [], slice_index_or}

-- the entry at row p and column q
abbrev pub entry : {W : Type 0} → W → List (List W) → ℕ → ℕ → W
entry d rows p q = slice_index_or (slice_index_or rows p []) q d

-- what an entry of a row means
abbrev pub at : {W V : Type 0} → (W → V) → W → List W → ℕ → V
at meaning d row q = meaning (slice_index_or row q d)

-- what an entry of a table means
abbrev pub cell : {W V : Type 0} → (W → V) → W → List (List W) → ℕ → ℕ → V
cell meaning d rows p q = meaning (entry d rows p q)

-- no entry in the first n places of the first n rows is larger than m
abbrev pub Small : {V : Type 0} → (V → ℕ) → (ℕ → ℕ → V) → ℕ → ℕ → Type 0
Small size between n m = (p q : ℕ) → p < n → q < n → size (between p q) ≤ m

-- nor one in the first n places of a row
abbrev pub SmallRow : {V : Type 0} → (V → ℕ) → (ℕ → V) → ℕ → ℕ → Type 0
SmallRow size last n m = (p : ℕ) → p < n → size (last p) ≤ m

-- two tables have the same entries but for the first n of the first n rows
abbrev pub Beyond : {W : Type 0} → W → ℕ → List (List W) → List (List W) → Type 0
Beyond d n rows rows' = (p q : ℕ) → (p < n → q < n → ⊥) → entry d rows' p q ≡ entry d rows p q

-- two rows have the same entries but for the first n
abbrev pub BeyondRow : {W : Type 0} → W → ℕ → List W → List W → Type 0
BeyondRow d n row row' = (q : ℕ) → n ≤ q → slice_index_or row' q d ≡ slice_index_or row q d
