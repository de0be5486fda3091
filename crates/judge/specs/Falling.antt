-- How the tables of a card fall: what a rule that lowers them tells, and what it tells where it is applied at several numbers in turn.
use Rattle.std.specs.Prelude.{◌≡◌, ℕ, ◌<◌, Bool, true, false, Ok, Err, Result}
use Rattle.std.specs.Borrow.{MutBor}
use Rattle.rules.specs.Card.{Card}
use Rattle.network.specs.Model.{model}
use Rattle.judge.specs.declared.relaxation.Relaxation.{Relaxation}
use Rattle.judge.specs.declared.target.NegativeLoop.{NegativeLoop}
use Rattle.judge.specs.Closing.{Doomed, Holds, Falls, height}

abbrev pub card_of : Relaxation → Card
card_of r = model r.network.now.content

-- the tables keep what they have to
abbrev pub Sound : Relaxation → Type 0
Sound r = Holds (card_of r) r.closure

-- from r to r' entries may have fallen
pub record Onward (r r' : Relaxation) : Type 0 where
  pub network : r'.network.now ≡ r.network.now
  pub sound : Sound r'
  pub falls : Falls r.closure r'.closure

-- from r to r': something fell; or nothing did, and the fact stands
pub record Went (r r' : Relaxation) (Stands : Type 0) (fell : Bool) : Type 0 where
  pub onward : Onward r r'
  pub less : fell ≡ true → height r'.closure < height r.closure
  pub same : fell ≡ false → (r' ≡ r) × Stands

abbrev pub Told : Relaxation → Relaxation → Type 0 → Result Bool NegativeLoop → Type 0
Told r r' Stands (Ok fell) = Went r r' Stands fell
Told r r' Stands (Err e) = Doomed (card_of r)

-- A rule, by what its calls may do, answers at k of these tables that nothing falls.
pub record Idle (calls : MutBor Relaxation → ℕ → Result Bool NegativeLoop → MutBor Relaxation → Type 0) (r : Relaxation) (k : ℕ) : Type 0 where
  pub shown : MutBor Relaxation
  pub left : MutBor Relaxation
  pub shows : shown.now ≡ r
  pub answers : calls shown k (Ok false) left
