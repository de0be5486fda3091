use Rattle.std.proofs.Common.{ℕ, ◌+◌, Bool, true, length, sym, rules, ap, ◌∙◌, subst₂, arith}
use Rattle.std.proofs.lemmas.List.{length-set}
use Rattle.rules.specs.Game.{Position}
use Rattle.rules.proofs.Flags.{so, so_back}
use Rattle.std.proofs.lemmas.Bool.{both_ways}
use Rattle.network.specs.Model.{model}
use Rattle.network.proofs.Made.{well_made}
use Rattle.minute.specs.Minutes.{at, marked}
use Rattle.minute.proofs.Arrays.{marked_set}
use Rattle.minute.proofs.Plain.{absent, present}
use Rattle.minute.proofs.Deciding.{Deciding, start, skip_late, skip_given, opens, gave, held_on, over}
use Rattle.minute.proofs.playing.Minute.decide.Goals as goal
use Rattle.minute.proofs.playing.Minute.decide.Goals.{then-late-q-via-then-late-q, then-late-q-via-else-late-q+then-is_some, then-can_give, else-can_give}

pub loop-q-init : goal.loop-q-init
loop-q-init c = (search rules, start _ c.args.closure.now c.args.self.now.t (at c.args.position.now.minutes) (marked c.finishes-late.result) c.requires.tight c.requires.time c.requires.fits c.finishes-late.ensures)

pub loop-q-preserved-then-late-q : goal.loop-q-preserved-then-late-q
unfolding marked
loop-q-preserved-then-late-q c = elim c.then-late-q.branch [
  | then-late-q-via-then-late-q w ↦ (c.loop-q.invariant.0, skip_late _ _ _ _ _ _ _ c.loop-q.invariant.1 (so_back w.if-late-q.true))
  | then-late-q-via-else-late-q+then-is_some w ↦
      let x = present w.get.result (sym w.is_some.ensures ∙ w.if-is_some.true) in
      (c.loop-q.invariant.0, skip_given _ _ _ _ _ _ _ c.loop-q.invariant.1 x.0 (sym w.get.ensures ∙ x.1))
]

pub can_give-requires : goal.can_give-requires
unfolding marked
can_give-requires c = opens _ _ _ _ _ _ _ c.loop-q.invariant.1 (omega arith) (λ h. both_ways _ c.if-late-q.false (so h)) (sym c.get.ensures ∙ absent c.get.result (sym c.is_some.ensures ∙ c.if-is_some.false))

pub loop-q-preserved : goal.loop-q-preserved
unfolding marked
loop-q-preserved c =
    let n = c.args.self.now.network.now in
    let t = c.args.self.now.t in
    let q = c.loop-q.q in
    let middle = at c.args.position.now.minutes in
    let now = at c.loop-q.position.minutes in
    let late = marked c.loop-q.late in
    let Next : Position → (ℕ → Bool) → Type 0 = λ then lates. Deciding (model n.content) c.args.closure.now t middle then lates (q + 1) in
    let o = opens (model n.content) c.args.closure.now t middle now late q c.loop-q.invariant.1 (omega arith) (λ h. both_ways _ c.if-late-q.false (so h)) (sym c.get.ensures ∙ absent c.get.result (sym c.is_some.ensures ∙ c.if-is_some.false)) in
    elim c.if-can_give.branch [
      | then-can_give w ↦ (
        ap length w.late-is ∙ c.loop-q.invariant.0,
        subst₂ Next (sym (ap (λ x. at x.minutes) w.position-is ∙ w.set.ensures)) (sym (ap marked w.late-is))
            (gave (model n.content) c.args.closure.now t middle now late q c.loop-q.invariant.1 (well_made n) o (c.can_give.ensures.0 w.if-can_give.true)),
      )
      | else-can_give w ↦ (
        ap length w.late-is ∙ length-set c.loop-q.late q true ∙ c.loop-q.invariant.0,
        subst₂ Next (sym (ap (λ x. at x.minutes) w.position-is)) (sym (ap marked w.late-is ∙ marked_set c.loop-q.late q (omega arith)))
            (held_on (model n.content) c.args.closure.now t middle now late q c.loop-q.invariant.1 (well_made n) o (λ g. both_ways c.can_give.result w.if-can_give.false (c.can_give.ensures.1 g))),
      )
    ]

pub returns-clause-fits : goal.returns-clause-fits
returns-clause-fits c = over _ _ _ _ _ _ _ c.loop-q.invariant.1 (omega arith)
