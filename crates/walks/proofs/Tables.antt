-- Tables and rows in which entries were written. Assumes nothing.
use Rattle.std.proofs.Common.{◌≡◌, ℕ, ◌<◌, ◌≤◌, ◌≢◌, List, [], ◌++◌, length, get_or, set, take, drop, ap, ◌∙◌, ⊎_elim, arith}
use Rattle.std.proofs.lemmas.Grind.{common_steps}
use Rattle.std.proofs.lemmas.List.{get_or_append_left, get_or-take}
use Rattle.std.proofs.lemmas.Bool.{cases_lt}
use Rattle.walks.specs.Tables.{entry, at, cell, Beyond}
use Rattle.walks.specs.Walks.{through, twice}

-- a table in which an entry was written
module _ {W : Type 0} (d : W) (rows : List (List W)) (p q : ℕ) (x : W) (h : q < length (get_or rows p [])) where
  pub put_same : entry d (set rows p (set (get_or rows p []) q x)) p q ≡ x
  put_same = grind (arith, common_steps)

  pub put_other : (i k : ℕ) → (i ≡ p → k ≢ q) → entry d (set rows p (set (get_or rows p []) q x)) i k ≡ entry d rows i k
  put_other i k l = grind (arith, common_steps)

-- a table in which the first n entries of a row were written
module _ {W : Type 0} (d : W) (rows : List (List W)) (p : ℕ) (h : p < length rows) (new : List W) (n : ℕ) (e : length new ≡ n) where
  abbrev written : List (List W)
  written = set rows p (new ++ drop n (get_or rows p []))

  pub part_same : (q : ℕ) → q < n → entry d written p q ≡ get_or new q d
  part_same q l = grind (arith, common_steps)

  pub part_other : (i k : ℕ) → (i ≡ p → k < n → ⊥) → entry d written i k ≡ entry d rows i k
  part_other i k l = grind (arith, common_steps)

-- the first weights of a row of a table, chosen with the ways that begin by that row
pub twice_read : {W V : Type 0} (join choose : V → V → V) (meaning : W → V) (d : W) (best : List (List W)) (p q n : ℕ) (row : List W)
    → row ≡ get_or best p [] → q < n
    → through join choose (at meaning d (take n row) q) (at meaning d row) (λ r. cell meaning d best r q) n ≡ twice join choose (cell meaning d best) n p q
twice_read join choose meaning d best p q n row e h =
    ap (λ v. through join choose v (at meaning d row) (λ r. cell meaning d best r q) n) (ap meaning (get_or-take n row q d h))
    ∙ ap (λ x. through join choose (at meaning d x q) (at meaning d x) (λ r. cell meaning d best r q) n) e

-- a table with other rows in the place of its first n
pub whole_beyond : {W : Type 0} (d : W) (rows new : List (List W)) (n : ℕ) → n ≤ length rows → length new ≡ n
    → Beyond d n (take n rows) new → Beyond d n rows (new ++ drop n rows)
whole_beyond d rows new n l e b p q h = ⊎_elim
    (λ i. ap (λ row. get_or row q d) (get_or_append_left new (drop n rows) [] p (omega arith)) ∙ b p q h ∙ ap (λ row. get_or row q d) (get_or-take n rows p [] i))
    (λ i. grind (arith, common_steps))
    (cases_lt p n)
