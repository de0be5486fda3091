-- Pairs of a plain and a wait part. Assumes nothing.
use Rattle.std.specs.Prelude.{ℕ, max}
use Rattle.walks.specs.declared.plain_wait.PlainWait.{PlainWait}
use Rattle.walks.specs.Minutes.{Whole, sum, lesser, far, of_minutes, absent_minutes}

-- a plain part and a wait part
abbrev pub Pair : Type 0
Pair = Whole × Whole

-- a plain part goes before either part
abbrev pub sum_pair : Pair → Pair → Pair
sum_pair a b = (sum a.0 b.0, sum a.0 b.1)

-- the lesser in each part
abbrev pub lesser_pair : Pair → Pair → Pair
lesser_pair a b = (lesser a.0 b.0, lesser a.1 b.1)

-- how far the farther part is from 0
abbrev pub far_pair : Pair → ℕ
far_pair a = max (far a.0) (far a.1)

-- what the code's pair stands for
abbrev pub of_pair : PlainWait → Pair
of_pair w = (of_minutes w.plain, of_minutes w.wait)

-- the code's pair with both parts absent
abbrev pub absent_pair : PlainWait
absent_pair = record { plain = absent_minutes; wait = absent_minutes }
