use Rattle.std.proofs.Common.{◌≡◌, ℕ, suc, pos, ◌+ℤ◌, ◌≤ℤ◌, Some, arith, rules, tests}
use Rattle.std.proofs.lemmas.Iterator.{cases_from_all, YieldsList-from_range}
use Rattle.network.specs.Model.{model}
use Rattle.network.proofs.Made.{well_made}
use Rattle.judge.specs.Closures.{distance}
use Rattle.minute.specs.Minutes.{at, marked}
use Rattle.minute.proofs.Alls.{numbers_decided}
use Rattle.minute.proofs.Props.{within}
use Rattle.minute.proofs.Allowed.{hold, held_needs}
use Rattle.minute.proofs.choice.Choice.can_hold.Goals as goal

pub returns : goal.returns
returns c =
    let k = c.args.self.now in
    let card = model k.minute.network.now.content in
    let made = well_made k.minute.network.now in
    let then = at k.position.now.minutes in
    let l = marked k.late.now in
    let n = card.points in
    let P : ℕ → Type 0 = λ p. (a : ℕ) → then p ≡ Some a → pos (suc k.minute.t) ≤ℤ (pos a +ℤ distance k.closure.now p c.args.q) in
    let x = numbers_decided c.all.result n P (cases_from_all _ _ _ P (λ p. P p → ⊥) c.all.ensures.ran (YieldsList-from_range 0 n n (cc) (omega arith)) (λ x q h. search (rules, tests)) (λ x q h. search (rules, tests))) in (
      λ e. hold card made k.closure.now k.minute.t l then c.args.q (within k) c.requires (λ p a lt h. x.0 e p lt a h),
      λ g. x.1 (λ p lt a h. held_needs card made k.closure.now k.minute.t l then c.args.q (within k) c.requires g p a lt h),
    )
