-- Tables in which an entry fell: which entries they have, and that they are lower.
use Rattle.std.proofs.Common.{◌≡◌, ℕ, zero, suc, ◌<◌, ◌≤◌, ◌⊎◌, ℤ, pos, negsuc, ◌≤ℤ◌, ◌<ℤ◌, sym, ap, ◌∙◌, subst, inl, inr, ⊎_elim, arith}
use Rattle.std.proofs.lemmas.Int.{ints}
use Rattle.std.proofs.lemmas.Bool.{cases_eq}
use Rattle.judge.specs.declared.closure.Closure.{Closure}
use Rattle.judge.specs.declared.target.Target.{Target}
use Rattle.judge.specs.declared.target.Target.TheVariants.{Point, Start}
use Rattle.judge.specs.Closures.{distance, wait, entry, Placed, Put}
use Rattle.judge.specs.Closing.{Falls, lift, total, height}

-- ---- targets

pub point_same : {p q : ℕ} → Point p ≡ Point q → p ≡ q
point_same e = cc

pub start_same : {r s : ℕ} → Start r ≡ Start s → r ≡ s
start_same e = cc

pub not_start : {P : Type 0} {q s : ℕ} → Point q ≡ Start s → P
not_start e = let z : ◌≡◌ {A = ℕ} 0 1 = cc in absurd (omega arith)

cases_target : (x y : Target) → (x ≡ y) ⊎ (x ≡ y → ⊥)
cases_target (Point p) (Point q) = ⊎_elim (λ e. inl (ap Point e)) (λ n. inr (λ e. n (point_same e))) (cases_eq p q)
cases_target (Point p) (Start s) = inr (λ e. not_start e)
cases_target (Start r) (Point q) = inr (λ e. not_start (sym e))
cases_target (Start r) (Start s) = ⊎_elim (λ e. inl (ap Start e)) (λ n. inr (λ e. n (start_same e))) (cases_eq r s)

-- ---- an entry after a write is the one written, or as it was

module _ {t t' : Closure} {p : ℕ} {x : Target} {v : ℤ} (put : Put t p x v t') where
  pub at_put : (r : ℕ) (y : Target) → ((r ≡ p) × (y ≡ x) × (entry t' r y ≡ v)) ⊎ (entry t' r y ≡ entry t r y)
  at_put r y =
      ⊎_elim
      (λ e.
      ⊎_elim
      (λ f. inl (e, f, (let same : entry t' r y ≡ entry t' p x = cc in same) ∙ put.here))
      (λ n. inr (put.others r y (λ _ f. n f)))
      (cases_target y x))
      (λ n. inr (put.others r y (λ e _. n e)))
      (cases_eq r p)

  pub put_falls : v <ℤ entry t p x → Falls t t'
  put_falls less r y =
      ⊎_elim
      (λ s. let same : entry t r y ≡ entry t p x = (let e = s.0 in let f = s.1 in cc) in omega (arith, ints, s.2, less, same))
      (λ s. omega (arith, ints, s))
      (at_put r y)

-- ---- sums

total_falls : (n : ℕ) (f g : ℕ → ℕ) → ((k : ℕ) → k < n → g k ≤ f k) → total n g ≤ total n f
unfolding total
total_falls zero f g h = omega arith
total_falls (suc n) f g h = omega (arith, h n (omega arith), total_falls n f g (λ k l. h k (omega arith)))

total_drops : (n : ℕ) (f g : ℕ → ℕ) → ((k : ℕ) → k < n → g k ≤ f k) → (k : ℕ) → k < n → g k < f k → total n g < total n f
unfolding total
total_drops zero f g h k l d = absurd (omega arith)
total_drops (suc n) f g h k l d =
    ⊎_elim
    (λ (e : k ≡ n). omega (arith, subst (λ i. g i < f i) e d, total_falls n f g (λ j m. h j (omega arith))))
    (λ ne. omega (arith, h n (omega arith), total_drops n f g (λ j m. h j (omega arith)) k (omega arith) d))
    (cases_eq k n)

lift_falls : (v w : ℤ) → v ≤ℤ w → lift v ≤ lift w
lift_falls (pos a) (pos b) l = omega (arith, ints)
lift_falls (pos a) (negsuc b) l = omega (arith, ints)
lift_falls (negsuc a) (pos b) l = omega (arith, ints)
lift_falls (negsuc a) (negsuc b) l = omega (arith, ints)

lift_drops : (v w : ℤ) → negsuc 1439 ≤ℤ v → v <ℤ w → lift v < lift w
lift_drops (pos a) (pos b) h l = omega (arith, ints)
lift_drops (pos a) (negsuc b) h l = omega (arith, ints)
lift_drops (negsuc a) (pos b) h l = omega (arith, ints)
lift_drops (negsuc a) (negsuc b) h l = omega (arith, ints)

module _ (t t' : Closure) (falls : Falls t t') (p : ℕ) (lp : p < 32) where
  abbrev along : Closure → ℕ → ℕ
  along u r = total 32 (λ q. lift (distance u r q))

  abbrev across : Closure → ℕ → ℕ
  across u s = total 32 (λ r. lift (wait u s r))

  along_falls : (r : ℕ) → along t' r ≤ along t r
  along_falls r = total_falls 32 _ _ (λ q l. lift_falls _ _ (falls r (Point q)))

  across_falls : (s : ℕ) → across t' s ≤ across t s
  across_falls s = total_falls 32 _ _ (λ r l. lift_falls _ _ (falls r (Start s)))

  pub height_drops : (x : Target) → Placed 32 8 x → negsuc 1439 ≤ℤ entry t' p x → entry t' p x <ℤ entry t p x → height t' < height t
  unfolding height
  height_drops (Point q) lq low less =
      omega (arith, total_drops 32 (along t) (along t') (λ r l. along_falls r) p lp (total_drops 32 _ _ (λ k l. lift_falls _ _ (falls p (Point k))) q lq (lift_drops _ _ low less)), total_falls 8 (across t) (across t') (λ s l. across_falls s))
  height_drops (Start s) ls low less =
      omega (arith, total_drops 8 (across t) (across t') (λ r l. across_falls r) s ls (total_drops 32 _ _ (λ k l. lift_falls _ _ (falls k (Start s))) p lp (lift_drops _ _ low less)), total_falls 32 (along t) (along t') (λ r l. along_falls r))
