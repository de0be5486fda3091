-- The text of a step.
use Rattle.std.specs.Prelude.{ℕ, cond, ◌||◌, List, ◌∷◌, ◌++◌, decimal, ◌==◌}
use Rattle.rules.specs.declared.edges.Step.{Step}

-- the letters N, U, L, X, R, M and S are printed as they are, and any other as a question mark
abbrev pub letter_shown : ℕ → ℕ
letter_shown n =
    cond (n == 78 || (n == 85 || (n == 76 || (n == 88 || (n == 82 || (n == 77 || n == 83)))))) n 63

-- the letter, the left number and the right number, with single spaces
abbrev pub step_shown : Step → List ℕ
step_shown s = letter_shown s.letter ∷ 32 ∷ (decimal s.left ++ (32 ∷ decimal s.right))
