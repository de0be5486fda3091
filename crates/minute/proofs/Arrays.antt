-- Positions and marks as arrays.
use Rattle.std.proofs.Common.{◌≡◌, ℕ, zero, suc, ◌<◌, Bool, true, false, ◌||◌, ◌≢◌, List, length, get_or, set, replicate, Some, None, Option, sym, refl, ap, ◌∙◌, subst, ⊎_elim, get_or-set_other, get_or-set_same}
use mathlib.Core.Path.{fun_ext}
use Rattle.std.proofs.Math.Bool.{or-false}
use Rattle.std.proofs.lemmas.Bool.{cases_eq, ne_eqb}
use Rattle.rules.specs.Game.{after, only, also}
use Rattle.rules.proofs.Flags.{so}
use Rattle.rules.proofs.Basics.{after_new, after_not, only_is, is_only, itself_also}
use Rattle.minute.specs.Minutes.{at, marked, nothing_yet}

pub at_set : (m : List (Option ℕ)) (q t : ℕ) → q < length m → at m q ≡ None → at (set m q (Some t)) ≡ after t (only q) (at m)
unfolding at
at_set m q t lt n = fun_ext (λ p. ⊎_elim
    (λ e. subst (λ x. get_or (set m q (Some t)) x None ≡ after t (only q) (at m) x) (sym e) (get_or-set_same m q (Some t) None lt ∙ sym (after_new t (only q) (at m) q (is_only q q refl) n)))
    (λ d. get_or-set_other m q p (Some t) None d ∙ sym (after_not t (only q) (at m) p (λ h. d (only_is q p h))))
    (cases_eq p q))

pub also_other : (held : ℕ → Bool) (q p : ℕ) → p ≢ q → also held q p ≡ held p
unfolding also
also_other held q p d = ap (λ b. held p || b) (ne_eqb p q d) ∙ or-false (held p)

pub marked_set : (h : List Bool) (q : ℕ) → q < length h → marked (set h q true) ≡ also (marked h) q
unfolding marked
marked_set h q lt = fun_ext (λ p. ⊎_elim
    (λ e. subst (λ x. get_or (set h q true) x false ≡ also (marked h) q x) (sym e) (get_or-set_same h q true false lt ∙ sym (so (itself_also (marked h) q))))
    (λ d. get_or-set_other h q p true false d ∙ sym (also_other (marked h) q p d))
    (cases_eq p q))

pub unmarked : (n p : ℕ) → marked (replicate n false) p ≡ false
unfolding marked
unmarked zero p = refl
unmarked (suc n) zero = refl
unmarked (suc n) (suc p) = unmarked n p

none_at : (n p : ℕ) → at (replicate n None) p ≡ None
unfolding at
none_at zero p = refl
none_at (suc n) zero = refl
none_at (suc n) (suc p) = none_at n p

pub unhappened : (n : ℕ) → at (replicate n None) ≡ nothing_yet
unhappened n = fun_ext (none_at n)
