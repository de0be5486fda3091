-- A test as an equation, and back.
use Rattle.std.proofs.Common.{◌≡◌, Bool, true, false, T, sym, refl, subst}

pub so : {b : Bool} → T b → b ≡ true
so {b = true} t = refl
so {b = false} t = absurd t

pub not_so : {b : Bool} → (T b → ⊥) → b ≡ false
not_so {b = true} n = absurd (n tt)
not_so {b = false} n = refl

pub so_back : {b : Bool} → b ≡ true → T b
so_back e = subst T (sym e) tt
