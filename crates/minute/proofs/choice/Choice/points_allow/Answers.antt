use Rattle.std.proofs.Common.{ℕ, pos, ◌+ℤ◌, ◌≤ℤ◌, arith, rules, tests}
use Rattle.std.proofs.lemmas.Iterator.{cases_from_all, YieldsList-from_range}
use Rattle.judge.specs.Closures.{distance}
use Rattle.minute.specs.Minutes.{at, marked}
use Rattle.minute.specs.Deciding.{soonest}
use Rattle.minute.proofs.Alls.{numbers_decided}
use Rattle.minute.proofs.choice.Choice.points_allow.Goals as goal

pub returns : goal.returns
returns c =
    let k = c.args.self.now in
    let n = k.minute.network.now.content.points in
    let P : ℕ → Type 0 = λ p. pos (soonest k.minute.t (at k.position.now.minutes p) (marked k.late.now p)) ≤ℤ (pos k.minute.t +ℤ distance k.closure.now c.args.q p) in
    numbers_decided c.all.result n P (cases_from_all _ _ _ P (λ p. P p → ⊥) c.all.ensures.ran (YieldsList-from_range 0 n n (cc) (omega arith)) (λ x q h. search (rules, tests)) (λ x q h. search (rules, tests)))
