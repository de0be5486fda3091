-- The position that an array of minutes stands for.
use Rattle.std.specs.Prelude.{ℕ, Bool, true, false, List, Some, None, Option, ◌==◌, slice_index_or}
use Rattle.rules.specs.Game.{Position}

-- each point with its minute, if it has happened
unfoldable pub at : List (Option ℕ) → Position
at minutes p = slice_index_or minutes p None

-- nothing has happened yet
abbrev pub nothing_yet : Position
nothing_yet p = None

-- a set of points as an array
unfoldable pub marked : List Bool → ℕ → Bool
marked marks p = slice_index_or marks p false

abbrev pub is_none : Option ℕ → Bool
is_none None = true
is_none (Some a) = false

-- a point with this minute happens in minute t
abbrev pub is_at : ℕ → Option ℕ → Bool
is_at t None = false
is_at t (Some a) = a == t
