-- A list that passes is read as one only if it does; then nobody can win.
use Rattle.std.proofs.Common.{◌≡◌, ℕ, List, Ok, Result, sym, ap, ◌∙◌, subst, arith}
use Rattle.rules.specs.declared.edges.Step.{Step}
use Rattle.rules.specs.declared.refusal.Refusal.{Refusal}
use Rattle.rules.specs.Card.{Card, WellMade}
use Rattle.rules.specs.Calls.{card_of}
use Rattle.rules.specs.Game.{Good}
use Rattle.rules.specs.Steps.{Answer, passes, unlawful, no_loop, Reads}
use Rattle.rules.proofs.Listed.{lists_tell}
use Rattle.steps.specs.Reading.{ReadAs, told}
use Rattle.card.specs.Promises.{PassingTells, Built}

passes_if_told : (card : Card) (steps : List Step) (x : Answer) → Reads card steps x → told x ≡ Ok tt → Reads card steps passes
passes_if_told card steps passes h q = h
passes_if_told card steps (unlawful i) h q = let z : ◌≡◌ {A = ℕ} 0 1 = cc in absurd (omega arith)
passes_if_told card steps no_loop h q = let z : ◌≡◌ {A = ℕ} 0 1 = cc in absurd (omega arith)

pub passing_tells : (card : Card) → WellMade card → (steps : List Step) (answer : Result (Unit {0}) Refusal) → ReadAs card steps answer → PassingTells card answer
passing_tells card made steps answer r q calls e good =
    lists_tell card made steps (passes_if_told card steps r.means r.reads (sym r.is ∙ q)) (subst Good (ap card_of e) good)

-- what holds of a card holds of it whatever calls built it
pub for_built : (card : Card) (Promise : Card → Type 0) → Promise card → Built card Promise
for_built card Promise h calls e = subst Promise (sym (ap card_of e)) h
