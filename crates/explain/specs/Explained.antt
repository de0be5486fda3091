-- What an explanation of a card is.
use Rattle.std.specs.Prelude.{◌≡◌, ℕ, suc, ◌<◌, ◌≤◌, ◌≢◌, ◌⊎◌, List, length, take, drop, pos, neg_ℤ, ◌≤ℤ◌, ◌<ℤ◌, Ok, Err, Result, slice_index_or}
use Rattle.rules.specs.declared.edges.Edge.{Edge}
use Rattle.rules.specs.declared.edges.Step.{Step}
use Rattle.rules.specs.declared.refusal.Refusal.{Refusal}
use Rattle.rules.specs.declared.refusal.Refusal.TheVariants.{StepsSpent, CardGood}
use Rattle.rules.specs.Card.{Card}
use Rattle.rules.specs.Game.{Good}
use Rattle.rules.specs.Steps.{no_edge, step_at, known, AllLawful, passes, Reads}

-- An edge worth making where these edges are known: it leads between two different points, weighs from -H to H, and weighs less than every
-- known edge of the same kind (for a wait: of the same span), source and target.
pub record Useful (card : Card) (edges : List Edge) (e : Edge) : Type 0 where
  pub apart : e.source ≢ e.target
  pub low : neg_ℤ (pos card.horizon) ≤ℤ e.weight
  pub high : e.weight ≤ℤ pos card.horizon
  pub less : (i : ℕ) → i < length edges → (slice_index_or edges i no_edge).kind ≡ e.kind → (slice_index_or edges i no_edge).source ≡ e.source → (slice_index_or edges i no_edge).target ≡ e.target
      → e.weight <ℤ (slice_index_or edges i no_edge).weight

-- the step at i makes such an edge; given edges and those of earlier steps are known
abbrev pub UsefulAt : Card → List Step → ℕ → Type 0
UsefulAt card steps i = Useful card (known card steps i) (step_at steps i).makes

-- a list passes, and each of its edges but the last is worth making
pub record Explains (card : Card) (steps : List Step) : Type 0 where
  pub passing : Reads card steps passes
  pub useful : (i : ℕ) → suc i < length steps → UsefulAt card steps i

-- the list is full of lawful steps to edges worth making; so many places, 6,637,824, are never too few
pub record Fills (card : Card) (steps : List Step) : Type 0 where
  pub lawful : AllLawful card steps
  pub useful : (i : ℕ) → i < length steps → UsefulAt card steps i
  pub short : length steps < 6_637_824

-- What the call answers, with the caller's list before and after it. A bad card: so many steps explain it, and the other places are as they were;
-- or the list fills first. A good card: nothing is written.
abbrev pub Explained : Card → List Step → List Step → Result ℕ Refusal → Type 0
Explained card before list (Ok k) = (k ≤ length list) × Explains card (take k list) × (drop k list ≡ drop k before) × (length list ≡ length before) × (Good card → ⊥)
Explained card before list (Err e) =
    ((e ≡ StepsSpent) × Fills card list × (length list ≡ length before) × (Good card → ⊥)) ⊎ ((e ≡ CardGood) × (list ≡ before) × Good card)
