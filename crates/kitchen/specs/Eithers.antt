-- One of two kitchens.
use Rattle.kitchen.specs.declared.either.Either.{Either}
use Rattle.kitchen.specs.declared.either.Either.TheVariants.{First, Second}

-- what is read of either
abbrev pub of_either : {A B X : Type 0} → (A → X) → (B → X) → Either A B → X
of_either f g (First a) = f a
of_either f g (Second b) = g b

-- what either becomes: it stays of its kind
abbrev pub by_either : {A B : Type 0} → (A → A → Type 0) → (B → B → Type 0) → Either A B → Either A B → Type 0
by_either P Q (First a) (First b) = P a b
by_either P Q (First a) (Second b) = ⊥
by_either P Q (Second a) (First b) = ⊥
by_either P Q (Second a) (Second b) = Q a b
