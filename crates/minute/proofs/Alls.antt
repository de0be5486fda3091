-- What an answer of `all` says of each number, or of each element with its number.
use Rattle.std.proofs.Common.{◌≡◌, ℕ, ◌<◌, Bool, true, false, List, length, get_or, Decides, MatchBool, refl, ap, ◌∙◌, subst, zero-add, arith}
use Rattle.std.specs.List.{range_with_len, enumerate_from, AllWithin, HoldsAt}
use Rattle.std.proofs.lemmas.Bool.{false≢true}
use Rattle.std.proofs.lemmas.List.FromFn.{length-range_with_len, get_or-range_with_len, length-enumerate_from, get_or-enumerate_from}

pub numbers_decided : (r : Bool) (n : ℕ) (P : ℕ → Type 0)
    → MatchBool r (AllWithin P (range_with_len 0 n) 0 (length (range_with_len 0 n))) ((k : ℕ) × (k < length (range_with_len 0 n)) × HoldsAt (λ p. P p → ⊥) (range_with_len 0 n) k)
    → Decides r ((p : ℕ) → p < n → P p)
numbers_decided true n P h = (λ _ p lt. subst P (get_or-range_with_len 0 n p 0 lt ∙ zero-add p) (h p 0 (omega arith) (omega (arith, length-range_with_len 0 n))), λ _. refl)
numbers_decided false n P h = (
  λ e. absurd (false≢true e),
  λ all.
      let lt : h.0 < n = omega (arith, h.1, length-range_with_len 0 n) in
      absurd (subst (λ p. P p → ⊥) (get_or-range_with_len 0 n h.0 0 lt ∙ zero-add h.0) (h.2 0) (all h.0 lt)),
)

each_decided : {X : Type 0} (r : Bool) (xs : List X) (d : X) (P : ℕ × X → Type 0)
    → MatchBool r (AllWithin P (enumerate_from 0 xs) 0 (length (enumerate_from 0 xs))) ((k : ℕ) × (k < length (enumerate_from 0 xs)) × HoldsAt (λ x. P x → ⊥) (enumerate_from 0 xs) k)
    → Decides r ((k : ℕ) → k < length xs → P (k, get_or xs k d))
each_decided true xs d P h = (
  λ _ k lt. subst P (get_or-enumerate_from 0 xs k (0, d) lt ∙ ap (λ i. (i, get_or xs k d)) (zero-add k)) (h k (0, d) (omega arith) (omega (arith, length-enumerate_from 0 xs))),
  λ _. refl,
)
each_decided false xs d P h = (
  λ e. absurd (false≢true e),
  λ all.
      let lt : h.0 < length xs = omega (arith, h.1, length-enumerate_from 0 xs) in
      absurd (subst (λ x. P x → ⊥) (get_or-enumerate_from 0 xs h.0 (0, d) lt ∙ ap (λ i. (i, get_or xs h.0 d)) (zero-add h.0)) (h.2 (0, d)) (all h.0 lt)),
)

-- the same of a list that is known to be another
pub elements_decided : {X : Type 0} (r : Bool) (xs ys : List X) (d : X) (P : ℕ × X → Type 0) → xs ≡ ys
    → MatchBool r (AllWithin P (enumerate_from 0 xs) 0 (length (enumerate_from 0 xs))) ((k : ℕ) × (k < length (enumerate_from 0 xs)) × HoldsAt (λ x. P x → ⊥) (enumerate_from 0 xs) k)
    → Decides r ((k : ℕ) → k < length ys → P (k, get_or ys k d))
elements_decided r xs ys d P e h = subst (λ zs. Decides r ((k : ℕ) → k < length zs → P (k, get_or zs k d))) e (each_decided r xs d P h)
