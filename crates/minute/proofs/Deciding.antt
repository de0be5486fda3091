-- The loop of decisions, order by order.
use Rattle.std.proofs.Common.{◌≡◌, ℕ, suc, ◌+◌, ◌-◌, ◌<◌, ◌≤◌, Bool, true, false, cond, ◌&&◌, ◌||◌, T, ltb, ◌≢◌, ◌⊎◌, Some, None, sym, refl, ap, ◌∙◌, subst, subst₂, inl, inr, ⊎_elim, arith}
use mathlib.Core.Path.{fun_ext}
use Rattle.std.proofs.Math.Bool.{or-false}
use Rattle.std.proofs.lemmas.Bool.{cond-true, cond-false, lt-ltb, le-ltb, cases_eq, cases_lt}
use Rattle.rules.specs.Card.{Card, WellMade, is_finish}
use Rattle.rules.specs.Game.{Position, after, only, also, no_point, Mid, CanGive}
use Rattle.rules.specs.Tables.{Fits, late}
use Rattle.rules.proofs.Flags.{so, so_back}
use Rattle.rules.proofs.Basics.{clash, after_new, after_not, only_is, is_only, itself_also, late_cases, finish_late, held_late}
use Rattle.rules.proofs.Strategy.{minute_ends}
use Rattle.judge.specs.declared.closure.Closure.{Closure}
use Rattle.judge.specs.Closures.{distance, wait}
use Rattle.minute.specs.Standing.{Tight}
use Rattle.minute.specs.Minutes.{is_none}
use Rattle.minute.specs.Orders.{decided, passed, CanStill, Ordered}
use Rattle.minute.specs.Deciding.{WithinMinute, Open}
use Rattle.minute.proofs.Arrays.{also_other}
use Rattle.minute.proofs.Allowed.{gave_fits, held_fits}

-- ---- what is passed

pub passed_here : (then : Position) (q : ℕ) → passed then (q + 1) q ≡ is_none (then q)
unfolding passed
passed_here then q = ap (λ b. b && is_none (then q)) (lt-ltb q (q + 1) (omega arith))

pub passed_past : (then : Position) (q p : ℕ) → q ≤ p → passed then q p ≡ false
unfolding passed
passed_past then q p le = ap (λ b. b && is_none (then p)) (le-ltb p q le)

pub passed_before : (then : Position) (q p : ℕ) → p < q → passed then q p ≡ is_none (then p)
unfolding passed
passed_before then q p lt = ap (λ b. b && is_none (then p)) (lt-ltb p q lt)

pub passed_more : (then : Position) (q p : ℕ) → p ≢ q → passed then (q + 1) p ≡ passed then q p
passed_more then q p n =
    ⊎_elim
    (λ lt. passed_before then (q + 1) p (omega arith) ∙ sym (passed_before then q p lt))
    (λ le. passed_past then (q + 1) p (omega arith) ∙ sym (passed_past then q p le))
    (cases_lt p q)

module _ (then other : Position) (q : ℕ) (alike : (p : ℕ) → p < q → then p ≡ other p) where
  pub same_passed : passed then q ≡ passed other q
  same_passed = fun_ext (λ p. ⊎_elim
      (λ lt. passed_before then q p lt ∙ ap is_none (alike p lt) ∙ sym (passed_before other q p lt))
      (λ le. passed_past then q p le ∙ sym (passed_past other q p le))
      (cases_lt p q))

  pub same_decided : (middle : Position) → decided middle then q ≡ decided middle other q
  unfolding decided
  same_decided middle = fun_ext (λ p. ⊎_elim
      (λ lt. ap (λ o. cond (ltb p q) o (middle p)) (alike p lt))
      (λ le. cond-false (ltb p q) (then p) (middle p) (le-ltb p q le) ∙ sym (cond-false (ltb p q) (other p) (middle p) (le-ltb p q le)))
      (cases_lt p q))

pub is_decided : (middle then : Position) (q : ℕ) → ((p : ℕ) → q ≤ p → then p ≡ middle p) → then ≡ decided middle then q
unfolding decided
is_decided middle then q rest = fun_ext (λ p. ⊎_elim
    (λ lt. sym (cond-true (ltb p q) (then p) (middle p) (lt-ltb p q lt)))
    (λ le. rest p le ∙ sym (cond-false (ltb p q) (then p) (middle p) (le-ltb p q le)))
    (cases_lt p q))

-- finishes are never given, so it does not matter whether they are held
pub same_held : (card : Card) (k t : ℕ) (at : Position) (held other : ℕ → Bool) → ((p : ℕ) → (T (is_finish card p) → ⊥) → T (other p) → T (held p)) → Mid card k t at held → Mid card k t at other
same_held card k t at held other sub (gives, legal, avoids, win) = (gives, legal, λ p h g. avoids p (sub p (legal.is_order p g) h) g, win)

late_at : (card : Card) (f g : ℕ → Bool) (p : ℕ) → f p ≡ g p → late card f p ≡ late card g p
unfolding late
late_at card f g p e = ap (λ b. is_finish card p || b) e

late_finish : (card : Card) (f : ℕ → Bool) (p : ℕ) → T (is_finish card p) → late card f p ≡ true
late_finish card f p h = so (finish_late card f p h)

-- ---- the orders before q are decided

pub record Deciding (card : Card) (closure : Closure) (t : ℕ) (middle now : Position) (lates : ℕ → Bool) (q : ℕ) : Type 0 where
  pub fits : WithinMinute card closure t lates now
  pub marks : lates ≡ late card (passed now q)
  pub rest : (r : ℕ) → q ≤ r → now r ≡ middle r
  pub rule : (r : ℕ) → r < q → (T (is_finish card r) → ⊥) → middle r ≡ None
      → ((now r ≡ Some t) × CanStill card t middle now r) ⊎ ((now r ≡ None) × (CanStill card t middle now r → ⊥))
  pub given : (r a : ℕ) → middle r ≡ Some a → now r ≡ Some a
  pub finishes : (r : ℕ) → T (is_finish card r) → now r ≡ middle r

pub start : (card : Card) (closure : Closure) (t : ℕ) (middle : Position) (lates : ℕ → Bool) → Tight card closure → t ≤ card.horizon
    → Fits card (distance closure) (wait closure) t (late card no_point) middle → lates ≡ is_finish card → Deciding card closure t middle middle lates 0
unfolding late
start card closure t middle lates win time f e =
    let none : lates ≡ late card no_point = e ∙ fun_ext (λ p. sym (or-false (is_finish card p))) in
    record {
      fits = record {
        tight = win;
        in_time = time;
        fits = subst (λ l. Fits card (distance closure) (wait closure) t l middle) (sym none) f;
        finishes = λ p h. subst (λ l. T (l p)) (sym e) h;
      };
      marks = none ∙ fun_ext (λ p. ap (λ b. is_finish card p || b) (sym (passed_past middle 0 p (omega arith))));
      rest = λ r le. refl;
      rule = λ r lt. absurd (omega arith);
      given = λ r a h. h;
      finishes = λ r h. refl;
    }

module _ (card : Card) (closure : Closure) (t : ℕ) (middle now : Position) (lates : ℕ → Bool) (q : ℕ) (d : Deciding card closure t middle now lates q) where
  -- what is late and not decided is a finish
  late_is_finish : T (lates q) → T (is_finish card q)
  late_is_finish h = ⊎_elim (λ x. x) (λ x. absurd (subst T (passed_past now q q (omega arith)) x)) (late_cases card (passed now q) q (subst (λ l. T (l q)) d.marks h))

  -- q is no open order
  skip : late card (passed now q) q ≡ late card (passed now (q + 1)) q → ((T (is_finish card q) → ⊥) → middle q ≡ None → ⊥) → Deciding card closure t middle now lates (q + 1)
  skip same no-rule = record {
    fits = d.fits;
    marks = d.marks ∙ fun_ext (λ r. ⊎_elim
        (λ e. subst (λ x. late card (passed now q) x ≡ late card (passed now (q + 1)) x) (sym e) same)
        (λ n. late_at card (passed now q) (passed now (q + 1)) r (sym (passed_more now q r n)))
        (cases_eq r q));
    rest = λ r le. d.rest r (omega arith);
    rule = λ r lt f n. ⊎_elim
        (λ e. absurd (no-rule (subst (λ x. T (is_finish card x) → ⊥) e f) (subst (λ x. middle x ≡ None) e n)))
        (λ ne. d.rule r (omega arith) f n)
        (cases_eq r q);
    given = d.given;
    finishes = d.finishes;
  }

  pub skip_late : T (lates q) → Deciding card closure t middle now lates (q + 1)
  skip_late h =
      let f = late_is_finish h in
      skip (late_finish card (passed now q) q f ∙ sym (late_finish card (passed now (q + 1)) q f)) (λ n e. n f)

  pub skip_given : (a : ℕ) → now q ≡ Some a → Deciding card closure t middle now lates (q + 1)
  skip_given a h =
      skip
      (late_at card (passed now q) (passed now (q + 1)) q (passed_past now q q (omega arith) ∙ sym (passed_here now q ∙ ap is_none h)))
      (λ n e. clash h (d.rest q (omega arith) ∙ e))

  pub opens : q < card.points → (T (lates q) → ⊥) → now q ≡ None → Open card lates now q
  opens lt f n = record { point = lt; free = f; unhappened = n }

  -- what was decided before q does not change with q
  older : (then : Position) → ((r : ℕ) → r < q → now r ≡ then r) → (r : ℕ) → r < q → (T (is_finish card r) → ⊥) → middle r ≡ None
      → ((then r ≡ Some t) × CanStill card t middle then r) ⊎ ((then r ≡ None) × (CanStill card t middle then r → ⊥))
  older then alike r lt f n =
      let below : (x : ℕ) → x < r → now x ≡ then x = λ x l. alike x (omega arith) in
      let still = subst₂ (λ h u. CanGive card (card.horizon - t) t u h r) (same_passed now then r below) (same_decided now then r below middle) in
      let back = subst₂ (λ h u. CanGive card (card.horizon - t) t u h r) (sym (same_passed now then r below)) (sym (same_decided now then r below middle)) in
      ⊎_elim (λ x. inl (sym (alike r lt) ∙ x.0, still x.1)) (λ x. inr (sym (alike r lt) ∙ x.0, λ m. x.1 (back m))) (d.rule r lt f n)

  -- what the test of q says
  to_still : (then : Position) → ((r : ℕ) → r < q → now r ≡ then r) → CanGive card (card.horizon - t) t now lates q → CanStill card t middle then q
  to_still then alike g =
      subst₂ (λ h u. CanGive card (card.horizon - t) t u h q) (same_passed now then q alike) (is_decided middle now q d.rest ∙ same_decided now then q alike middle)
      (same_held card (card.horizon - t) t (after t (only q) now) lates (passed now q) (λ p n h. subst (λ l. T (l p)) (sym d.marks) (held_late card (passed now q) p h)) g)

  from_still : (then : Position) → ((r : ℕ) → r < q → now r ≡ then r) → CanStill card t middle then q → CanGive card (card.horizon - t) t now lates q
  from_still then alike g =
      same_held card (card.horizon - t) t (after t (only q) now) (passed now q) lates
      (λ p n h. ⊎_elim (λ x. absurd (n x)) (λ x. x) (late_cases card (passed now q) p (subst (λ l. T (l p)) d.marks h)))
      (subst₂ (λ h u. CanGive card (card.horizon - t) t u h q) (sym (same_passed now then q alike)) (sym (is_decided middle now q d.rest ∙ same_decided now then q alike middle)) g)

  -- q is given, or held
  pub gave : WellMade card → Open card lates now q → CanGive card (card.horizon - t) t now lates q → Deciding card closure t middle (after t (only q) now) lates (q + 1)
  gave made o g =
      let then : Position = after t (only q) now in
      let off : (r : ℕ) → r ≢ q → now r ≡ then r = λ r n. sym (after_not t (only q) now r (λ h. n (only_is q r h))) in
      let alike : (r : ℕ) → r < q → now r ≡ then r = λ r lt. off r (omega arith) in
      let new : then q ≡ Some t = after_new t (only q) now q (is_only q q refl) o.unhappened in
      let at-q : middle q ≡ None = sym (d.rest q (omega arith)) ∙ o.unhappened in
      record {
        fits = gave_fits card made closure t lates now q d.fits o g;
        marks = d.marks ∙ ap (late card) (same_passed now then q alike ∙ fun_ext (λ r. ⊎_elim
            (λ e. subst (λ x. passed then q x ≡ passed then (q + 1) x) (sym e) (passed_past then q q (omega arith) ∙ sym (passed_here then q ∙ ap is_none new)))
            (λ n. sym (passed_more then q r n))
            (cases_eq r q)));
        rest = λ r le. sym (off r (omega arith)) ∙ d.rest r (omega arith);
        rule = λ r lt h n. ⊎_elim
            (λ e. inl (subst (λ x. then x ≡ Some t) (sym e) new, subst (λ x. CanStill card t middle then x) (sym e) (to_still then alike g)))
            (λ ne. older then alike r (omega arith) h n)
            (cases_eq r q);
        given = λ r a h. ⊎_elim (λ e. clash (subst (λ x. middle x ≡ Some a) e h) at-q) (λ ne. sym (off r ne) ∙ d.given r a h) (cases_eq r q);
        finishes = λ r h. ⊎_elim (λ e. absurd (o.free (d.fits.finishes q (subst (λ x. T (is_finish card x)) e h)))) (λ ne. sym (off r ne) ∙ d.finishes r h) (cases_eq r q);
      }

  pub held_on : WellMade card → Open card lates now q → (CanGive card (card.horizon - t) t now lates q → ⊥) → Deciding card closure t middle now (also lates q) (q + 1)
  held_on made o never = record {
    fits = held_fits card made closure t lates now q d.fits o never;
    marks = fun_ext (λ r. ⊎_elim
        (λ e. subst (λ x. also lates q x ≡ late card (passed now (q + 1)) x) (sym e)
        (so (itself_also lates q) ∙ sym (so (held_late card (passed now (q + 1)) q (so_back (passed_here now q ∙ ap is_none o.unhappened))))))
        (λ n. also_other lates q r n ∙ ap (λ l. l r) d.marks ∙ late_at card (passed now q) (passed now (q + 1)) r (sym (passed_more now q r n)))
        (cases_eq r q));
    rest = λ r le. d.rest r (omega arith);
    rule = λ r lt h n. ⊎_elim
        (λ e. inr (subst (λ x. now x ≡ None) (sym e) o.unhappened, subst (λ x. CanStill card t middle now x → ⊥) (sym e) (λ m. never (from_still now (λ x l. refl) m))))
        (λ ne. d.rule r (omega arith) h n)
        (cases_eq r q);
    given = d.given;
    finishes = d.finishes;
  }

  -- all are decided
  pub over : q ≡ card.points → Fits card (distance closure) (wait closure) (suc t) no_point now
  over e =
      minute_ends card (distance closure) (wait closure) t now (passed now q) (subst (λ l. Fits card (distance closure) (wait closure) t l now) d.marks d.fits.fits)
      (λ p lt n. held_late card (passed now q) p (so_back (passed_before now q p (omega arith) ∙ ap is_none n)))

  pub ordered : q ≡ card.points → Ordered card t middle now
  ordered e = record {
    rule = λ r lt f n. d.rule r (omega arith) f n;
    given = d.given;
    finishes = d.finishes;
    beyond = λ r le. d.rest r (omega arith);
  }
