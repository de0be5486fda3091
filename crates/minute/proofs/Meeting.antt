-- What a kitchen tells, moved along equations.
use Rattle.std.proofs.Common.{◌≡◌, ℕ, Option, sym, subst}
use Rattle.kitchen.specs.declared.track.Status.{Status}
use Rattle.minute.specs.Meets.{Tells}

pub tells_from : (t : ℕ) (a b a' b' : Option ℕ) (s s' : Status) → a ≡ a' → b ≡ b' → s ≡ s' → Tells t a' b' s' → Tells t a b s
tells_from t a b a' b' s s' e f h x = subst (λ z. Tells t z b s) (sym e) (subst (λ z. Tells t a' z s) (sym f) (subst (λ z. Tells t a' b' z) (sym h) x))
