-- What is proved of the rules. Each statement is the contract of a function in src/theorems.rt.
use Rattle.std.specs.Prelude.{◌≡◌, ℕ, suc, ◌+◌, ◌<◌, ◌≤◌, Bool, T, ◌⊎◌, ◌↔◌, List, ◌++◌, ℤ, pos, ◌≤ℤ◌, ◌<ℤ◌, None}
use Rattle.std.specs.List.{ContainsAt as Has, AllByRecursion}
use Rattle.rules.specs.Card.{Card, WellMade, tie_count, from_of, to_of, gap_of, is_finish}
use Rattle.rules.specs.declared.edges.Kind.{Kind}
use Rattle.rules.specs.declared.edges.Edge.{Edge}
use Rattle.rules.specs.declared.edges.Step.{Step}
use Rattle.rules.specs.Edges.{edge, Given, Derived, Any, InRange}
use Rattle.rules.specs.Steps.{given, all_known, AllLawful, Answer, passes, Reads}
use Rattle.rules.specs.Game.{Position, opening, Lawful, Legal, Done, Good, Mid, CanGive, CanHold, no_point, only, also, after, heard}
use Rattle.rules.specs.Tables.{Table, Closed, Traced, SoundAtStart, Fits, late}
use Rattle.rules.specs.Cards.{Stands, examples}

-- ---- marks

-- A derived edge from a point to itself of negative weight, of whatever kind, shows that nobody can win.
abbrev pub LoopsLose : Type 0
LoopsLose = (card : Card) → WellMade card → (kind : Kind) (p : ℕ) (w : ℤ) → Derived card Any (edge kind p p w) → w <ℤ pos 0 → Good card → ⊥

-- A list of steps that passes shows that nobody can win.
abbrev pub ListsTell : Type 0
ListsTell = (card : Card) → WellMade card → (steps : List Step) → Reads card steps passes → Good card → ⊥

-- Closed tables that are sound at the start show that the controller can win.
abbrev pub TablesWin : Type 0
TablesWin = (card : Card) (D W : Table) → WellMade card → Closed card D W → SoundAtStart card D W → Good card

-- Closed tables whose entries are derived are sound at the start exactly if the controller can win: so they tell the mark.
abbrev pub MarksExact : Type 0
MarksExact = (card : Card) (D W : Table) → WellMade card → Closed card D W → Traced card D W → Good card ↔ SoundAtStart card D W

-- ---- steps

-- The numbered edges are the given edges.
abbrev pub GivenNumbered : Type 0
GivenNumbered = (card : Card) → WellMade card → (e : Edge) → Given card e ↔ Has (given card) e

-- A list of lawful steps can be continued by lawful steps until it knows any edge that is derived in range.
abbrev pub EdgesListed : Type 0
EdgesListed = (card : Card) (e : Edge) → Derived card InRange e → (steps : List Step) → AllLawful card steps
    → (more : List Step) × AllLawful card (steps ++ more) × Has (all_known card (steps ++ more)) e

-- So a negative loop that is derived in range has a list of steps that passes.
abbrev pub LoopsListed : Type 0
LoopsListed = (card : Card) (kind : Kind) (p : ℕ) (w : ℤ) → Derived card InRange (edge kind p p w) → w <ℤ pos 0 → (steps : List Step) × Reads card steps passes

-- A list has an answer, and only one.
abbrev pub SomeAnswer : Type 0
SomeAnswer = (card : Card) (steps : List Step) → (x : Answer) × Reads card steps x

abbrev pub OneAnswer : Type 0
OneAnswer = (card : Card) (steps : List Step) (x y : Answer) → Reads card steps x → Reads card steps y → x ≡ y

-- ---- running: the position fits closed tables, minute by minute

-- The start fits, before minute 0.
abbrev pub StartFits : Type 0
StartFits = (card : Card) (D W : Table) → WellMade card → SoundAtStart card D W → Fits card D W 0 no_point opening

-- If the position fits before minute t, it fits within the minute after any lawful choice of the kitchen.
abbrev pub KitchenFits : Type 0
KitchenFits = (card : Card) (D W : Table) → WellMade card → Closed card D W → (t : ℕ) (at : Position) (ends : ℕ → Bool)
    → Fits card D W t no_point at → Lawful card t at ends → Fits card D W t (late card no_point) (heard card t ends at)

-- Within a minute the controller can win from a position that fits, whatever orders are held.
abbrev pub FitsWins : Type 0
FitsWins = (card : Card) (D W : Table) → WellMade card → Closed card D W → (k t : ℕ) (at : Position) (held : ℕ → Bool) → t + k ≡ card.horizon
    → Fits card D W t (late card held) at → Mid card k t at held

-- Within a minute, at a position that fits with some orders held: whatever orders are given now and whatever others are held then, the
-- controller can win exactly if the position fits again.
abbrev pub FitsExact : Type 0
FitsExact = (card : Card) (D W : Table) → WellMade card → Closed card D W → Traced card D W
    → (k t : ℕ) (at : Position) (was held gives : ℕ → Bool) → t + k ≡ card.horizon → Fits card D W t (late card was) at → Legal card at gives
    → Mid card k t (after t gives at) held ↔ Fits card D W t (late card held) (after t gives at)

-- So for one order q that is not given: the controller can win with q given now exactly if the position with q at t fits, and with q held
-- exactly if it fits with q held; and one of the two fits.
pub record ChoiceExact (card : Card) (D W : Table) (k t : ℕ) (at : Position) (held : ℕ → Bool) (q : ℕ) : Type 0 where
  pub give : CanGive card k t at held q ↔ Fits card D W t (late card held) (after t (only q) at)
  pub hold : CanHold card k t at held q ↔ Fits card D W t (late card (also held q)) at
  pub either : Fits card D W t (late card held) (after t (only q) at) ⊎ Fits card D W t (late card (also held q)) at

abbrev pub ChoicesExact : Type 0
ChoicesExact = (card : Card) (D W : Table) → WellMade card → Closed card D W → Traced card D W
    → (k t : ℕ) (at : Position) (held : ℕ → Bool) (q : ℕ) → t + k ≡ card.horizon → Fits card D W t (late card held) at
    → q < card.points → (T (is_finish card q) → ⊥) → at q ≡ None
    → ChoiceExact card D W k t at held q

-- When every point that has not happened is a finish or held, the minute is over, and the position fits before the next.
abbrev pub MinuteEnds : Type 0
MinuteEnds = (card : Card) (D W : Table) (t : ℕ) (at : Position) (held : ℕ → Bool) → Fits card D W t (late card held) at
    → ((p : ℕ) → p < card.points → at p ≡ None → T (late card held p)) → Fits card D W (suc t) no_point at

-- After minute H every point has happened and every tie is kept.
abbrev pub EndDone : Type 0
EndDone = (card : Card) (D W : Table) → WellMade card → Closed card D W → (at : Position) → Fits card D W (suc card.horizon) no_point at → Done card at

-- ---- other cards

-- The second card has the same points and spans, no smaller horizon, and only ties that follow from a tie of the first.
pub record Looser (card other : Card) : Type 0 where
  pub points : card.points ≡ other.points
  pub spans : card.spans ≡ other.spans
  pub horizon : card.horizon ≤ other.horizon
  pub ties : (j : ℕ) → j < tie_count other → (i : ℕ) × (i < tie_count card) × (from_of card i ≡ from_of other j) × (to_of card i ≡ to_of other j) × (gap_of card i ≤ℤ gap_of other j)

-- A looser card than a good one is good.
abbrev pub LooserGood : Type 0
LooserGood = (card other : Card) → WellMade card → Looser card other → Good card → Good other

-- ---- examples

-- Every example stands.
abbrev pub ExamplesStand : Type 0
ExamplesStand = AllByRecursion Stands examples
