-- What a live run keeps, taken out of its ghost field, and what a run keeps that has just begun.
use Rattle.std.proofs.Common.{◌≡◌, Some, None, Option, is_some, IfSome, Decides, refl, ap, subst, arith}
use Rattle.std.proofs.lemmas.Bool.{false≢true}
use mathlib.Core.Logic.{∥∥₁_elim}
use denote.Struct.Props.{props}
use Rattle.rules.specs.Card.{Card, WellMade, finish_of}
use Rattle.rules.specs.Game.{Position, Good}
use Rattle.rules.proofs.Basics.{clash}
use Rattle.rules.proofs.Derived.{derived_wider}
use Rattle.rules.proofs.Marks.{loops_lose}
use Rattle.rules.proofs.Strategy.{tables_win}
use Rattle.network.specs.Model.{model}
use Rattle.judge.specs.declared.closure.Closure.{Closure}
use Rattle.judge.specs.Closures.{distance, wait, Winning}
use Rattle.judge.specs.Closing.{Judged}
use Rattle.minute.specs.Minutes.{at, nothing_yet}
use Rattle.minute.specs.Standing.{Sensible, Standing}
use Rattle.minute.proofs.Props.{standing_prop}
use Rattle.run.specs.declared.run.Run.{Run}

pub standing : (r : Run) (t : Closure) → r.closure ≡ Some t → Standing (model r.card.network.content) t r.next (at r.position.minutes)
standing r t e = ∥∥₁_elim r.ok (standing_prop (model r.card.network.content) t r.next (at r.position.minutes)) (λ x. subst (λ o. IfSome o (λ k. Standing (model r.card.network.content) k r.next (at r.position.minutes))) e x)

-- what it keeps has one proof at most
pub same_run : (r : Run) (kept : ∥ IfSome r.closure (λ t. Standing (model r.card.network.content) t r.next (at r.position.minutes)) ∥₁) → record r { ok = kept } ≡ r
same_run r kept = ap (λ k. record r { ok = k }) (one kept r.ok)
  where
    one : IsProp (∥ IfSome r.closure (λ t. Standing (model r.card.network.content) t r.next (at r.position.minutes)) ∥₁)
    one = hlevel props

pub sensible_first : (card : Card) (at : Position) → at ≡ nothing_yet → Sensible card 0 at
sensible_first card at e = record {
  nothing = λ _ p. ap (λ f. f p) e;
  past = λ p a h. clash h (ap (λ f. f p) e);
  begun = λ s lt h. ap (λ f. f (finish_of card s)) e;
}

pub stands_first : (card : Card) (closure : Closure) (at : Position) → Winning card closure → at ≡ nothing_yet → Standing card closure 0 at
stands_first card closure at w e = record {
  tight = record { closed = w.closed; traced = ∣ w.traced ∣₁; sound = w.sound };
  sensible = sensible_first card at e;
  fits = λ lt. absurd (omega arith);
}

-- what the judge worked out decides whether the run is live
pub judged_live : (card : Card) (o : Option Closure) → WellMade card → Judged card o → Decides (is_some o) (Good card)
judged_live card (Some t) made w = (λ _. tables_win card (distance t) (wait t) made w.closed w.sound, λ _. refl)
judged_live card None made d = (λ e. absurd (false≢true e), λ g. absurd (loops_lose card made d.kind d.point d.weight (derived_wider (λ e h. tt) d.loop) d.negative g))

pub judged_stands : (card : Card) (o : Option Closure) (at : Position) → Judged card o → at ≡ nothing_yet → IfSome o (λ t. Standing card t 0 at)
judged_stands card (Some t) at w e = stands_first card t at w e
judged_stands card None at d e = tt
