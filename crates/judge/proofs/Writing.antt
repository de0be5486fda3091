-- A closure in which a weight was written.
use Rattle.std.proofs.Common.{◌≡◌, ℕ, List, ℤ, pos, refl, ap, ◌∙◌}
use Rattle.judge.specs.declared.closure.Closure.{Closure}
use Rattle.judge.specs.declared.target.Target.{Target}
use Rattle.judge.specs.declared.target.Target.TheVariants.{Point, Start}
use Rattle.judge.specs.Closures.{distance, wait, entry, PutRow, Put}

module _ (t : Closure) (rows' : List (List ℤ)) (p : ℕ) (v : ℤ) where
  pub put_distance : (x : Target) (q : ℕ) {u : ℤ} → x ≡ Point q → u ≡ v → PutRow t.distances p q u rows' → Put t p x v (record { distances = rows'; waits = t.waits })
  unfolding distance wait
  put_distance x q e same w = rw e (record { here = w.here (pos 0) ∙ same; others = others })
    where
      others : (r : ℕ) (y : Target) → (r ≡ p → y ≡ Point q → ⊥) → entry (record { distances = rows'; waits = t.waits }) r y ≡ entry t r y
      others r (Point k) apart = w.others (pos 0) r k (λ e f. apart e (ap Point f))
      others r (Start s) apart = refl

  pub put_wait : (x : Target) (s : ℕ) {u : ℤ} → x ≡ Start s → u ≡ v → PutRow t.waits s p u rows' → Put t p x v (record { distances = t.distances; waits = rows' })
  unfolding distance wait
  put_wait x s e same w = rw e (record { here = w.here (pos 0) ∙ same; others = others })
    where
      others : (r : ℕ) (y : Target) → (r ≡ p → y ≡ Start s → ⊥) → entry (record { distances = t.distances; waits = rows' }) r y ≡ entry t r y
      others r (Point k) apart = refl
      others r (Start k) apart = w.others (pos 0) k r (λ e f. apart f (ap Start e))
