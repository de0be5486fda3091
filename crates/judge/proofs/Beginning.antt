-- How tables begin, and what they are worth once no rule lowers them.
use Rattle.std.proofs.Common.{◌≡◌, ℕ, zero, suc, ◌<◌, ◌≤◌, ◌≢◌, Bool, true, false, MatchBool, List, length, get_or, pos, ◌+ℤ◌, ◌-ℤ◌, neg_ℤ, ◌≤ℤ◌, sym, refl, ap, ◌∙◌, subst, ⊎_elim, arith}
use Rattle.std.proofs.lemmas.Int.{ints}
use Rattle.std.specs.List.{HoldsAt, AllWithin}
use Rattle.std.proofs.lemmas.Bool.{cases_eq}
use Rattle.std.proofs.lemmas.Bool.Decides.{nat_tests}
use Rattle.rules.specs.declared.edges.Kind.TheVariants.{Plain, Wait, AllMost}
use Rattle.rules.specs.declared.edges.Edge.{Edge}
use Rattle.rules.specs.declared.parts.Span.{Span}
use Rattle.rules.specs.Card.{Card, no_span, WellMade, span_count, start_of, finish_of, most_of}
use Rattle.rules.specs.Edges.{edge, given_late, given_early, given_wait, rule_n, rule_u, rule_m, rule_mw, rule_s, Derived, by_given, by_rule, InRange}
use Rattle.rules.proofs.Derived.{derived_wider}
use Rattle.rules.proofs.Closure.{closed_by}
use Rattle.network.specs.declared.network.Network.{Network}
use Rattle.network.specs.Model.{model}
use Rattle.network.proofs.Made.{well_made, most_in}
use Rattle.judge.specs.declared.closure.Closure.{Closure}
use Rattle.judge.specs.declared.target.Target.{Target}
use Rattle.judge.specs.declared.target.Target.TheVariants.{Point, Start}
use Rattle.judge.specs.Closures.{distance, wait, entry, Winning}
use Rattle.judge.specs.Closing.{In, edge_to, Off, Near, Doomed, Holds, AllRules, InTime, begun}

module _ (n : Network) where
  abbrev card : Card
  card = model n.content

  abbrev made : WellMade card
  made = well_made n

  later : (p : ℕ) → p ≢ 0 → 0 < p
  later zero ne = absurd (ne refl)
  later (suc p) ne = omega arith

  -- ---- every point is reached within the horizon

  module _ {Within : Edge → Type 0}
      (early : (p : ℕ) → p < card.points → Within (edge Plain p 0 (pos 0)))
      (late : (p q : ℕ) → p < card.points → q < card.points → Within (edge Plain p q (pos card.horizon))) where
    by_horizon : (p q : ℕ) → p < card.points → q < card.points → q ≢ 0 → Derived card Within (edge Plain p q (pos card.horizon))
    by_horizon zero q lp lq nq = by_given (given_late q (later q nq) lq) (late 0 q lp lq)
    by_horizon (suc p) q lp lq nq =
        let e : pos 0 +ℤ pos card.horizon ≡ pos card.horizon = omega (arith, ints) in
        subst (λ v. Derived card Within (edge Plain (suc p) q v)) e
        (by_rule (rule_n (suc p) 0 q (pos 0) (pos card.horizon)) (by_given (given_early (suc p) (omega arith) lp) (early (suc p) lp))
        (by_given (given_late q (later q nq) lq) (late 0 q made.some_point lq)) (subst (λ v. Within (edge Plain (suc p) q v)) (sym e) (late (suc p) q lp lq)))

  -- ---- a span that may last longer is bad

  pub too_long : (s : ℕ) → s < span_count card → card.horizon < most_of card s → Doomed card
  too_long s ls more =
      let a = start_of card s in
      let f = finish_of card s in
      let u = most_of card s in
      let nf : f ≢ 0 = (λ e. absurd (omega (arith, made.finish_later s ls, e))) in
      let near : InRange (edge Plain a f (pos card.horizon)) = (omega (arith, ints), omega (arith, ints, n.counts.0.1)) in
      let nearer : InRange (edge (Wait s) f a (neg_ℤ (pos u))) = (omega (arith, ints, most_in n s ls), omega (arith, ints)) in
      let waits : Derived card InRange (edge (Wait s) f a (neg_ℤ (pos u))) = by_given (given_wait s ls) nearer in
      let there : Derived card InRange (edge Plain a f (pos card.horizon)) =
      by_horizon {Within = InRange} (λ p lp. (omega (arith, ints), omega (arith, ints))) (λ p q lp lq. near) a f (made.start_in s ls) (made.finish_in s ls) nf in
      record {
        kind = AllMost;
        point = f;
        weight = neg_ℤ (pos u) +ℤ pos card.horizon;
        loop = by_rule (rule_s f a f (neg_ℤ (pos u)) (pos card.horizon)) (by_rule (rule_mw s f a (neg_ℤ (pos u))) waits waits nearer)
            (by_rule (rule_m a f (pos card.horizon)) there there near)
            (omega (arith, ints, most_in n s ls), omega (arith, ints, n.counts.0.1));
        negative = omega (arith, ints);
      }

  -- whether every span is within the horizon tells which of the two holds
  pub in_time_cases : (spans : List Span) (horizon : ℕ) (r : Bool) → spans ≡ card.spans → horizon ≡ card.horizon → MatchBool r (AllWithin (λ x. x.most ≤ horizon) spans 0 (length spans)) ((k : ℕ) × (k < length spans) × HoldsAt (λ x. horizon < x.most) spans k) → MatchBool r (InTime card) (Doomed card)
  unfolding span_count most_of
  in_time_cases spans horizon true e f all = λ s ls. omega (arith, f, all s no_span (omega arith) (omega (arith, ap length e)), ap (λ l. (get_or l s no_span).most) e)
  in_time_cases spans horizon false e f late = too_long late.0 (omega (arith, ap length e, late.1)) (omega (arith, f, late.2 no_span, ap (λ l. (get_or l late.0 no_span).most) e))

  -- ---- the first tables

  begun_same : (p : ℕ) → begun card p (Point p) ≡ pos 0
  begun_same p = grind (arith, nat_tests)

  begun_home : (p : ℕ) → begun card p (Point 0) ≡ pos 0
  begun_home p = grind (arith, nat_tests)

  begun_late : (p q : ℕ) → p ≢ q → q ≢ 0 → begun card p (Point q) ≡ pos card.horizon
  begun_late p q ne nz = let np : q ≢ p = (λ e. ne (sym e)) in grind (arith, nat_tests)

  begun_wait : (p s : ℕ) → p ≢ finish_of card s → begun card p (Start s) ≡ pos card.horizon -ℤ pos (most_of card s)
  begun_wait p s ne = grind (arith, nat_tests)

  begun_finish : (p s : ℕ) → p ≡ finish_of card s → begun card p (Start s) ≡ neg_ℤ (pos (most_of card s))
  begun_finish p s e = grind (arith, nat_tests)

  module _ (t : Closure) (short : InTime card) (is : (p : ℕ) (x : Target) → p < card.points → In card x → entry t p x ≡ begun card p x) where
    home_at : (p : ℕ) → p < card.points → distance t p 0 ≡ pos 0
    home_at p lp = is p (Point 0) lp made.some_point ∙ begun_home p

    range_at : (p : ℕ) (x : Target) → p < card.points → In card x → (neg_ℤ (pos card.horizon) ≤ℤ entry t p x) × (entry t p x ≤ℤ pos card.horizon)
    range_at p (Point q) lp lx =
        ⊎_elim (λ (e : p ≡ q). let z = is p (Point q) lp lx ∙ ap (λ y. begun card p (Point y)) (sym e) ∙ begun_same p in (omega (arith, ints, z), omega (arith, ints, z)))
        (λ ne. ⊎_elim
        (λ (e : q ≡ 0). let z = is p (Point q) lp lx ∙ ap (λ y. begun card p (Point y)) e ∙ begun_home p in (omega (arith, ints, z), omega (arith, ints, z)))
        (λ nz. let z = is p (Point q) lp lx ∙ begun_late p q ne nz in (omega (arith, ints, z), omega (arith, ints, z)))
        (cases_eq q 0)) (cases_eq p q)
    range_at p (Start s) lp lx =
        ⊎_elim
        (λ (e : p ≡ finish_of card s). let z = is p (Start s) lp lx ∙ begun_finish p s e in (omega (arith, ints, z, short s lx), omega (arith, ints, z)))
        (λ ne. let z = is p (Start s) lp lx ∙ begun_wait p s ne in (omega (arith, ints, z, short s lx), omega (arith, ints, z, short s lx)))
        (cases_eq p (finish_of card s))

    near_early : (p : ℕ) → p < card.points → Near t (edge Plain p 0 (pos 0))
    near_early p lp = record { above = omega (arith, ints, home_at p lp); in_range = (omega (arith, ints), omega (arith, ints)) }

    near_late : (p q : ℕ) → p < card.points → q < card.points → Near t (edge Plain p q (pos card.horizon))
    near_late p q lp lq = record { above = (range_at p (Point q) lp lq).1; in_range = (omega (arith, ints), omega (arith, ints, n.counts.0.1)) }

    late_derived : (p q : ℕ) → p < card.points → q < card.points → q ≢ 0 → Derived card (Near t) (edge Plain p q (pos card.horizon))
    late_derived = by_horizon {Within = Near t} near_early near_late

    wait_derived : (s : ℕ) → s < span_count card → Derived card (Near t) (edge (Wait s) (finish_of card s) (start_of card s) (neg_ℤ (pos (most_of card s))))
    wait_derived s ls = by_given (given_wait s ls) (record {
      above = omega (arith, ints, is (finish_of card s) (Start s) (made.finish_in s ls) ls, begun_finish (finish_of card s) s refl);
      in_range = (omega (arith, ints, most_in n s ls), omega (arith, ints));
    })

    traced_at : (p : ℕ) (x : Target) → p < card.points → In card x → Off p x → Derived card (Near t) (edge_to card p x (entry t p x))
    traced_at p (Point q) lp lx off =
        ⊎_elim
        (λ (e : q ≡ 0).
        let z : distance t p q ≡ pos 0 = ap (distance t p) e ∙ home_at p lp in
        let np : p ≢ 0 = (λ h. off (h ∙ sym e)) in
        subst (λ v. Derived card (Near t) (edge Plain p q v)) (sym z) (subst (λ y. Derived card (Near t) (edge Plain p y (pos 0))) (sym e) (by_given (given_early p (later p np) lp) (near_early p lp))))
        (λ nz. subst (λ v. Derived card (Near t) (edge Plain p q v)) (sym (is p (Point q) lp lx ∙ begun_late p q off nz)) (late_derived p q lp lx nz))
        (cases_eq q 0)
    traced_at p (Start s) lp lx off =
        let f = finish_of card s in
        let u = most_of card s in
        ⊎_elim
        (λ (e : p ≡ f). subst (λ v. Derived card (Near t) (edge (Wait s) p (start_of card s) v)) (sym (is p (Start s) lp lx ∙ begun_finish p s e)) (subst (λ y. Derived card (Near t) (edge (Wait s) y (start_of card s) (neg_ℤ (pos u)))) (sym e) (wait_derived s lx)))
        (λ ne.
        let z : wait t s p ≡ pos card.horizon +ℤ neg_ℤ (pos u) = omega (arith, ints, is p (Start s) lp lx ∙ begun_wait p s ne) in
        let nf : f ≢ 0 = (λ e. absurd (omega (arith, made.finish_later s lx, e))) in
        subst (λ v. Derived card (Near t) (edge (Wait s) p (start_of card s) v)) (sym z)
        (by_rule (rule_u s p f (start_of card s) (pos card.horizon) (neg_ℤ (pos u))) (late_derived p f lp (made.finish_in s lx) nf) (wait_derived s lx)
        (record { above = omega (arith, ints, z); in_range = (omega (arith, ints, most_in n s lx), omega (arith, ints, n.counts.0.1)) })))
        (cases_eq p f)

    first_at : (x : Target) → In card x → pos 0 ≤ℤ entry t 0 x
    first_at (Point q) lx =
        ⊎_elim
        (λ (e : q ≡ 0). omega (arith, ints, ap (distance t 0) e ∙ home_at 0 made.some_point))
        (λ nz. omega (arith, ints, is 0 (Point q) made.some_point lx ∙ begun_late 0 q (λ e. nz (sym e)) nz))
        (cases_eq q 0)
    first_at (Start s) lx =
        let nf : 0 ≢ finish_of card s = (λ e. absurd (omega (arith, made.finish_later s lx, e))) in
        omega (arith, ints, is 0 (Start s) made.some_point lx ∙ begun_wait 0 s nf, short s lx)

    pub begins : Holds card t
    begins = record {
      traced = traced_at;
      low = λ p x lp lx. (range_at p x lp lx).0;
      high = λ p x lp lx. (range_at p x lp lx).1;
      itself = λ p lp. is p (Point p) lp lp ∙ begun_same p;
      home = λ p lp. omega (arith, ints, home_at p lp);
      first = first_at;
    }

  -- ---- the last

  pub winning : (t : Closure) → Holds card t → AllRules card t → Winning card t
  winning t h r = record {
    closed = closed_by card (distance t) (wait t) made (record {
      late = λ p _ lp. h.high 0 (Point p) made.some_point lp;
      early = λ p _ lp. h.home p lp;
      most = λ s ls. (r.spans s ls).given.most;
      least = λ s ls. (r.spans s ls).given.least;
      wait = λ s ls. (r.spans s ls).given.wait;
      tie = r.ties;
      N = λ p q x lp lq lx. r.chains x lx p q lp lq;
      U = λ s p q ls lp lq. r.waits s ls p q lp lq;
      L = λ s q ls lq early. (r.spans s ls).lowered q lq tt early;
      X = λ k s lk ls ne early. (r.spans k lk).crossed s ls ne early;
      R = λ s p ls lp low. (r.spans s ls).freed p lp low;
    });
    traced = record {
      plainly = λ p q lp lq ne. derived_wider (λ e near. near.above) (h.traced p (Point q) lp lq ne);
      waiting = λ s p ls lp. derived_wider (λ e near. near.above) (h.traced p (Start s) lp ls tt);
    };
    sound = record {
      ahead = λ p lp. h.first (Point p) lp;
      started = λ s ls _. h.first (Start s) ls;
      waiting = λ s ls _. omega (arith, ints, h.first (Start s) ls);
    };
  }
