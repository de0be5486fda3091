-- What the reader and the maker of steps answer.
use Rattle.std.specs.Prelude.{◌≡◌, ℕ, List, Some, Ok, Err, Option, Result}
use Rattle.rules.specs.declared.edges.Edge.{Edge}
use Rattle.rules.specs.declared.edges.Step.{Step}
use Rattle.rules.specs.declared.refusal.Refusal.{Refusal}
use Rattle.rules.specs.declared.refusal.Refusal.TheVariants.{StepUnlawful, NoLoop}
use Rattle.rules.specs.Card.{Card}
use Rattle.rules.specs.Steps.{LawfulStep, Answer, passes, unlawful, no_loop, Reads}

abbrev pub step_of : ℕ → ℕ → ℕ → Edge → Step
step_of letter left right e = record { letter = letter; left = left; right = right; makes = e }

-- the edge that makes a step with this letter, left and right lawful where these edges are known, or none if no edge does
pub record Makes (card : Card) (edges : List Edge) (letter left right : ℕ) (made : Option Edge) : Type 0 where
  pub lawful : (e : Edge) → made ≡ Some e → LawfulStep card edges (step_of letter left right e)
  pub only : (e : Edge) → LawfulStep card edges (step_of letter left right e) → made ≡ Some e

-- the answer of a reading, as the call gives it
abbrev pub told : Answer → Result (Unit {0}) Refusal
told passes = Ok tt
told (unlawful place) = Err (StepUnlawful place)
told no_loop = Err NoLoop

pub record ReadAs (card : Card) (steps : List Step) (answer : Result (Unit {0}) Refusal) : Type 0 where
  pub means : Answer
  pub reads : Reads card steps means
  pub is : answer ≡ told means
