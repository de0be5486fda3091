-- The laws of whole minutes, for their pairs. Assumes nothing.
use Rattle.std.specs.Prelude.{◌≡◌}
use Rattle.std.proofs.Common.{rules}
use Rattle.walks.specs.Minutes.{Whole, sum, lesser}
use Rattle.walks.specs.Pairs.{Pair}

pub sum_assoc : (a b c : Whole) → sum (sum a b) c ≡ sum a (sum b c)
sum_assoc a b c = search rules

pub lesser_assoc : (a b c : Whole) → lesser (lesser a b) c ≡ lesser a (lesser b c)
lesser_assoc a b c = search rules

pub sum_over : (a b c : Whole) → sum a (lesser b c) ≡ lesser (sum a b) (sum a c)
sum_over a b c = search rules

pub sum_under : (a b c : Whole) → sum (lesser a b) c ≡ lesser (sum a c) (sum b c)
sum_under a b c = search rules

-- pairs with the same parts
pub pair : (a b c d : Whole) → a ≡ c → b ≡ d → ◌≡◌ {A = Pair} (a, b) (c, d)
pair a b c d p q = cc
