-- Whole minutes, or none. Assumes nothing.
use Rattle.std.specs.Prelude.{ℕ, cond, ℤ, pos, ◌+ℤ◌, Some, None, Option, int_lt, unsigned_abs}
use Rattle.std.specs.Int.{int_min}
use Rattle.walks.specs.declared.minutes.Minutes.{Minutes}

-- a whole number of minutes, or none
abbrev pub Whole : Type 0
Whole = Option ℤ

-- the sum, where both are there
abbrev pub sum : Whole → Whole → Whole
sum None b = None
sum (Some a) None = None
sum (Some a) (Some b) = Some (a +ℤ b)

-- the lesser of those that are there
abbrev pub lesser : Whole → Whole → Whole
lesser None b = b
lesser (Some a) None = Some a
lesser (Some a) (Some b) = Some (int_min a b)

-- how far from 0
abbrev pub far : Whole → ℕ
far None = 0
far (Some a) = unsigned_abs a

-- what the code's minutes stand for
abbrev pub of_minutes : Minutes → Whole
of_minutes m = cond (int_lt m.raw (pos 2147483647)) (Some m.raw) None

-- the code's minutes that stand for none
abbrev pub absent_minutes : Minutes
absent_minutes = record { raw = pos 2147483647 }
