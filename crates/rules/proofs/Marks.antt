-- What tells the mark of a card: a negative loop, and closed tables whose entries are derived.
use Rattle.std.proofs.Common.{◌≡◌, ℕ, zero, suc, ◌<◌, ◌≢◌, ℤ, pos, ◌+ℤ◌, ◌≤ℤ◌, refl, subst, arith}
use Rattle.std.proofs.lemmas.Int.{ints, by_lt_z}
use Rattle.rules.specs.Card.{Card, WellMade, span_count, start_of}
use Rattle.rules.specs.declared.edges.Kind.{Kind}
use Rattle.rules.specs.declared.edges.Kind.TheVariants.{Plain, Wait, AllMost}
use Rattle.rules.specs.Edges.{edge, given_early, rule_n, rule_m, rule_mw, rule_s, Derived, by_given, by_rule, Any}
use Rattle.rules.specs.Game.{Good}
use Rattle.rules.specs.Tables.{Table, Traced, SoundAtStart}
use Rattle.rules.specs.Theorems.{LoopsLose, MarksExact}
use Rattle.rules.proofs.Claims.{no_plan}
use Rattle.rules.proofs.Closure.{Rulewise, rulewise}
use Rattle.rules.proofs.Derived.{derived_wider}
use Rattle.rules.proofs.Play.{plan_at_start}
use Rattle.rules.proofs.Strategy.{tables_win}

pub loops_lose : LoopsLose
loops_lose card made kind p w loop neg good = no_plan card made (plan_at_start card made good) kind p w loop neg

module _ (card : Card) (D W : Table) (made : WellMade card) (cl : Rulewise card D W) (traced : Traced card D W) (good : Good card) where
  plainly : (p q : ℕ) → p < card.points → q < card.points → p ≢ q → Derived card Any (edge Plain p q (D p q))
  plainly p q lp lq n = derived_wider (λ e w. tt) (traced.plainly p q lp lq n)

  waiting : (s p : ℕ) → s < span_count card → p < card.points → Derived card Any (edge (Wait s) p (start_of card s) (W s p))
  waiting s p h lp = derived_wider (λ e w. tt) (traced.waiting s p h lp)

  early : (p : ℕ) → 0 < p → p < card.points → Derived card Any (edge Plain p 0 (pos 0))
  early p h lp = by_given (given_early p h lp) tt

  -- a loop at point 0 weighs nothing or more
  no_loop : (kind : Kind) (w : ℤ) → Derived card Any (edge kind 0 0 w) → pos 0 ≤ℤ w
  no_loop kind w loop = by_lt_z w (pos 0) (λ neg. absurd (loops_lose card made kind 0 w loop neg good)) (λ l. l)

  zero_in : 0 < card.points
  zero_in = made.some_point

  sound : SoundAtStart card D W
  sound = record {
    ahead = ahead;
    started = λ s h e. no_loop (Wait s) (W s 0) (subst (λ q. Derived card Any (edge (Wait s) 0 q (W s 0))) e (waiting s 0 h zero_in));
    waiting = λ s h n.
        let a = start_of card s in
        let to : Derived card Any (edge AllMost 0 a (W s 0)) = by_rule (rule_mw s 0 a (W s 0)) (waiting s 0 h zero_in) (waiting s 0 h zero_in) tt in
        let back : Derived card Any (edge Plain a 0 (pos 0)) = early a (later a n) (made.start_in s h) in
        let home : Derived card Any (edge AllMost a 0 (pos 0)) = by_rule (rule_m a 0 (pos 0)) back back tt in
        omega (arith, ints, no_loop AllMost (W s 0 +ℤ pos 0) (by_rule (rule_s 0 a 0 (W s 0) (pos 0)) to home tt));
  }
    where
      later : (p : ℕ) → p ≢ 0 → 0 < p
      later zero n = absurd (n refl)
      later (suc p) n = omega arith

      ahead : (p : ℕ) → p < card.points → pos 0 ≤ℤ D 0 p
      ahead zero lp = omega (arith, ints, cl.N 0 0 0 zero_in zero_in zero_in)
      ahead (suc p) lp =
          omega (arith, ints, no_loop Plain (D 0 (suc p) +ℤ pos 0) (by_rule (rule_n 0 (suc p) 0 (D 0 (suc p)) (pos 0)) (plainly 0 (suc p) zero_in lp (λ e. apart p e)) (early (suc p) (omega arith) lp) tt))
        where
          apart : (p : ℕ) → 0 ≡ suc p → ⊥
          apart p e = omega arith

pub marks_exact : MarksExact
marks_exact card D W made cl traced = (λ good. sound card D W made (rulewise card D W made cl) traced good, tables_win card D W made cl)
