-- The list of events, place by place.
use mathlib.Core.Path.{fun_ext}
use Rattle.std.specs.List.{filter, range_with_len}
use Rattle.std.proofs.lemmas.List.FromFn.{filter_of_map_range_with_len_more}
use Rattle.std.proofs.Common.{◌≡◌, ℕ, zero, suc, ◌+◌, ◌<◌, ◌≤◌, Bool, true, false, cond, not, ◌&&◌, List, [], ◌∷◌, ◌++◌, length, map, get_or, take, drop, set, sym, refl, ap, ◌∙◌, ap₂, ⊎_elim, add-zero, add-one, arith}
use Rattle.std.proofs.lemmas.List.{append-nil, append_assoc, take-append-drop, length-append, length_push, length-take-le, set_at, drop_more}
use Rattle.std.proofs.lemmas.Bool.{cond-true, cond-false, cases_Bool}
use Rattle.rules.specs.Card.{Card, is_finish}
use Rattle.rules.specs.Game.{Position}
use Rattle.minute.specs.Minutes.{is_at}
use Rattle.minute.specs.Events.{listed, picks, events, written}

pub listed_skip : (P : ℕ → Bool) (n : ℕ) → P n ≡ false → listed P (n + 1) ≡ listed P n
listed_skip P n e = ap (listed P) (add-one n) ∙ cond-false (P n) (listed P n ++ n ∷ []) (listed P n) e

pub listed_more : (P : ℕ → Bool) (n : ℕ) → P n ≡ true → listed P (n + 1) ≡ listed P n ++ n ∷ []
listed_more P n e = ap (listed P) (add-one n) ∙ cond-true (P n) (listed P n ++ n ∷ []) (listed P n) e

-- what is a finish is no order
pub few : (card : Card) (σ : Position) (t n : ℕ) → length (listed (picks card σ t true) n) + length (listed (picks card σ t false) n) ≤ n
unfolding picks
few card σ t zero = omega arith
few card σ t (suc n) =
    let F = picks card σ t true in
    let O = picks card σ t false in
    let le = few card σ t n in
    let fs = ap (λ x. length (listed F x)) (add-one n) in
    let os = ap (λ x. length (listed O x)) (add-one n) in
    ⊎_elim
    (λ x. let no-order : O n ≡ false = one (is_at t (σ n)) (is_finish card n) x in omega (arith, ap length (listed_more F n x), length_push (listed F n) n, ap length (listed_skip O n no-order)))
    (λ x. ⊎_elim
    (λ y. omega (arith, ap length (listed_skip F n x), ap length (listed_more O n y), length_push (listed O n) n))
    (λ y. omega (arith, ap length (listed_skip F n x), ap length (listed_skip O n y)))
    (cases_Bool (O n)))
    (cases_Bool (F n))
  where
    one : (a b : Bool) → (a && cond b true (not true)) ≡ true → (a && cond b false (not false)) ≡ false
    one true true e = refl
    one true false e = sym e
    one false b e = refl

pub none_written : (xs : List ℕ) (k : ℕ) → xs ≡ written xs k []
unfolding written
none_written xs k = sym (ap (λ n. take k xs ++ drop n xs) (add-zero k) ∙ take-append-drop k xs)

pub more_written : (xs ys : List ℕ) (k v : ℕ) → k + length ys < length xs → set (written xs k ys) (k + length ys) v ≡ written xs k (ys ++ v ∷ [])
unfolding written
more_written xs ys k v h =
    let n = k + length ys in
    let front : length (take k xs ++ ys) ≡ n = length-append (take k xs) ys ∙ ap (λ m. m + length ys) (length-take-le k xs (omega arith)) in
    let next : n + 1 ≡ k + length (ys ++ v ∷ []) = omega (arith, length_push ys v) in
    ap (λ zs. set zs n v) (sym (append_assoc (take k xs) ys (drop n xs)) ∙ ap (λ zs. take k xs ++ ys ++ zs) (drop_more xs n 0 h))
    ∙ set_at (take k xs ++ ys) (get_or xs n 0) (drop (n + 1) xs) v n front
    ∙ append_assoc (take k xs) ys (v ∷ drop (n + 1) xs)
    ∙ ap (λ zs. take k xs ++ zs) (sym (append_assoc ys (v ∷ []) (drop (n + 1) xs)) ∙ ap (λ m. ys ++ v ∷ [] ++ drop m xs) next)

-- ---- the events as the points that pass a test

abbrev pub finish_now : Card → Position → ℕ → ℕ → Bool
finish_now card then t p = is_at t (then p) && is_finish card p

abbrev pub order_now : Card → Position → ℕ → ℕ → Bool
order_now card then t p = is_at t (then p) && not (is_finish card p)

abbrev pub passing : Card → Position → ℕ → List ℕ
passing card then t = filter (finish_now card then t) (range_with_len 0 card.points) ++ filter (order_now card then t) (range_with_len 0 card.points)

pub same_items : (xs : List ℕ) → map (λ x. x) xs ≡ xs
same_items [] = refl
same_items (x ∷ xs) = ap (λ ys. x ∷ ys) (same_items xs)

listed_filter : (P : ℕ → Bool) (n : ℕ) → listed P n ≡ filter P (map (λ x. x) (range_with_len 0 n))
listed_filter P zero = refl
listed_filter P (suc n) =
    ap₂ (cond (P n)) (ap (λ xs. xs ++ n ∷ []) (listed_filter P n)) (listed_filter P n)
    ∙ by (P n) (filter P (map (λ x. x) (range_with_len 0 n)))
    ∙ sym (filter_of_map_range_with_len_more P (λ x. x) 0 n n (omega arith))
    ∙ ap (λ m. filter P (map (λ x. x) (range_with_len 0 m))) (add-one n)
  where
    by : (b : Bool) (xs : List ℕ) → cond b (xs ++ n ∷ []) xs ≡ xs ++ cond b (n ∷ []) []
    by true xs = refl
    by false xs = sym (append-nil xs)

listed_is : (P Q : ℕ → Bool) → ((p : ℕ) → P p ≡ Q p) → (n : ℕ) → listed P n ≡ filter Q (range_with_len 0 n)
listed_is P Q same n = listed_filter P n ∙ ap₂ filter (fun_ext same) (same_items (range_with_len 0 n))

pub events_pass : (card : Card) (then : Position) (t : ℕ) → events card then t ≡ passing card then t
unfolding picks
events_pass card then t = ap₂ ◌++◌
    (listed_is (picks card then t true) (finish_now card then t) (λ p. ap (λ b. is_at t (then p) && b) (one (is_finish card p))) card.points)
    (listed_is (picks card then t false) (order_now card then t) (λ p. ap (λ b. is_at t (then p) && b) (other (is_finish card p))) card.points)
  where
    one : (b : Bool) → cond b true (not true) ≡ b
    one true = refl
    one false = refl

    other : (b : Bool) → cond b false (not false) ≡ not b
    other true = refl
    other false = refl

pub few_pass : (card : Card) (then : Position) (t : ℕ) → length (passing card then t) ≤ card.points
few_pass card then t =
    let F = listed (picks card then t true) card.points in
    let O = listed (picks card then t false) card.points in
    omega (arith, ap length (events_pass card then t), length-append F O, few card then t card.points)
