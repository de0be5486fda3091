-- What calls on a closed card promise of the minute game, for the card that calls built.
use Rattle.std.specs.Prelude.{◌≡◌, List, Some, None, Ok, Err, Result}
use Rattle.rules.specs.declared.parts.Tie.{Tie}
use Rattle.rules.specs.declared.refusal.Refusal.{Refusal}
use Rattle.rules.specs.Card.{Card}
use Rattle.rules.specs.Calls.{Call, is_closed, built, card_of, try_fault, with_tie}
use Rattle.judge.specs.declared.marking.Mark.{Mark}
use Rattle.judge.specs.Marks.{Marks}
use Rattle.rules.specs.Game.{Good}

-- a list of steps that passes tells that the controller cannot win, whatever calls built the card
abbrev pub PassingTells : Card → Result (Unit {0}) Refusal → Type 0
PassingTells card answer = answer ≡ Ok tt → (calls : List Call) → built calls ≡ is_closed card → Good (card_of (built calls)) → ⊥

-- a promise that holds of the card, whatever calls built it
abbrev pub Built : Card → (Card → Type 0) → Type 0
Built card Promise = (calls : List Call) → built calls ≡ is_closed card → Promise (card_of (built calls))

-- a tie that is tried is refused, or the mark is that of the card with the tie
abbrev pub Tried : Card → Tie → Result Mark Refusal → Type 0
Tried card tie (Ok mark) = (try_fault card tie ≡ None) × Marks (with_tie card tie) mark
Tried card tie (Err refusal) = try_fault card tie ≡ Some refusal
