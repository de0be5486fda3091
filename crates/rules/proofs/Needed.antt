-- Within a minute: a way to win keeps the tables, if their entries are derived.
use Rattle.std.proofs.Common.{◌≡◌, ℕ, suc, ◌+◌, ◌-◌, ◌<◌, ◌≤◌, Bool, T, ◌≢◌, ◌⊎◌, pos, ◌+ℤ◌, ◌≤ℤ◌, Some, None, Option, refl, ap, ◌∙◌, inl, inr, ⊎_elim, arith}
use native.Mathlib.Decide.{ℕ_discrete}
use Rattle.std.proofs.lemmas.Int.{ints}
use Rattle.rules.specs.Card.{Card, WellMade, span_count, start_of, finish_of, least_of, most_of}
use Rattle.rules.specs.Game.{Position, Legal, after, Win, Mid}
use Rattle.rules.specs.Tables.{Table, Above, Traced, Fits, late}
use Rattle.rules.proofs.Basics.{clash, same, known_by, after_old, after_back, after_none, finish_late, is_finish_of, late_cases}
use Rattle.rules.proofs.Closure.{Rulewise}
use Rattle.rules.proofs.Plan.{Plan, Consistent, Cut}
use Rattle.rules.proofs.Claims.{claims}
use Rattle.rules.proofs.Play.{Follows, plan, plan_stays, plan_later, fine_given}

-- durations that go with the past: the unfinished spans last their most
abbrev lasting : Option ℕ → Option ℕ → ℕ → ℕ
lasting (Some a) (Some c) u = c - a
lasting None (Some c) u = u
lasting o None u = u

longest : Card → Position → ℕ → ℕ
longest card at s = lasting (at (start_of card s)) (at (finish_of card s)) (most_of card s)

longest_open : (card : Card) (at : Position) (s : ℕ) → at (finish_of card s) ≡ None → longest card at s ≡ most_of card s
unfolding longest
longest_open card at s e = ap (λ o. lasting (at (start_of card s)) o (most_of card s)) e

longest_done : (card : Card) (at : Position) (s a c : ℕ) → at (start_of card s) ≡ Some a → at (finish_of card s) ≡ Some c → longest card at s ≡ c - a
unfolding longest
longest_done card at s a c e f = ap (λ o. lasting o (at (finish_of card s)) (most_of card s)) e ∙ ap (λ o. lasting (Some a) o (most_of card s)) f

-- ---- what a position that fits is like

module _ (card : Card) (D W : Table) (made : WellMade card) (cl : Rulewise card D W) (t : ℕ) (at : Position) (held : ℕ → Bool) (f : Fits card D W t (late card held) at) where
  -- a finished span has started, and lasted from its least to its most
  lasted : (s c : ℕ) → s < span_count card → at (finish_of card s) ≡ Some c → (a : ℕ) × (at (start_of card s) ≡ Some a) × (a + least_of card s ≤ c) × (c ≤ a + most_of card s)
  lasted s c h e =
      ⊎_elim
      (λ n. absurd (omega (arith, ints, f.ahead (finish_of card s) (start_of card s) c e (made.start_in s h) n, cl.least s h, f.past (finish_of card s) c e, made.one_least s h)))
      (λ x. (
        x.0,
        x.1,
        omega (arith, ints, f.apart (finish_of card s) (start_of card s) c x.0 e x.1, cl.least s h),
        omega (arith, ints, f.apart (start_of card s) (finish_of card s) x.0 c x.1 e, cl.most s h),
      ))
      (known_by (at (start_of card s)))

  -- a running one can still end
  open_yet : (s a : ℕ) → s < span_count card → at (start_of card s) ≡ Some a → at (finish_of card s) ≡ None → suc t ≤ a + most_of card s
  open_yet s a h e g = omega (arith, ints, f.ahead_late (start_of card s) (finish_of card s) a e (made.finish_in s h) g (finish_late card held (finish_of card s) (is_finish_of card s h)), cl.most s h)

  longest_consistent : Consistent card at (suc t) (longest card at)
  longest_consistent = record {
    lasts = record { low = λ s h. low s h (at (finish_of card s)) refl; high = λ s h. high s h (at (finish_of card s)) refl };
    fine = record {
      over = λ s c h e. let r = lasted s c h e in (r.0, r.1, omega (arith, r.2, longest_done card at s r.0 c r.1 e));
      under = λ s a h e g. omega (arith, open_yet s a h e g, longest_open card at s g);
    };
  }
    where
      low : (s : ℕ) → s < span_count card → (o : Option ℕ) → at (finish_of card s) ≡ o → least_of card s ≤ longest card at s
      low s h None e = omega (arith, longest_open card at s e, made.least_most s h)
      low s h (Some c) e = let r = lasted s c h e in omega (arith, r.2, longest_done card at s r.0 c r.1 e)

      high : (s : ℕ) → s < span_count card → (o : Option ℕ) → at (finish_of card s) ≡ o → longest card at s ≤ most_of card s
      high s h None e = omega (arith, longest_open card at s e)
      high s h (Some c) e = let r = lasted s c h e in omega (arith, r.2, r.3, longest_done card at s r.0 c r.1 e)

  cut : Cut card (Above D W) at t (suc t)
  cut = record {
    soon = omega arith;
    before = f.past;
    both = λ p q w over a b x y. omega (arith, ints, f.apart p q a b x y, over);
    one = λ p q w over lt a x y. omega (arith, ints, f.ahead p q a x lt y, over);
    running = λ s p w lt over g a b x y. omega (arith, ints, f.started s p a b lt x g y, over);
    waiting = λ s p w lt over g a x y.
        let low = f.waiting s p a lt x g y in
        omega (arith, ints, cl.R s p lt (f.point p a x) low, f.ahead p (start_of card s) a x (made.start_in s lt) y, over);
  }

-- ---- orders are given, and the controller can win after them

module _ (card : Card) (D W : Table) (made : WellMade card) (cl : Rulewise card D W) (traced : Traced card D W) (k t : ℕ) (at : Position) (was held gives : ℕ → Bool) (whole : t + k ≡ card.horizon)
    (f : Fits card D W t (late card was) at) (legal : Legal card at gives) (mid : Mid card k t (after t gives at) held) where
  mine : Position
  mine = after t gives at

  last : Position
  last = after t mid.0 mine

  -- the position at the end of the minute comes from the one before the orders
  comes : (p x : ℕ) → last p ≡ Some x → (at p ≡ Some x) ⊎ (x ≡ t)
  unfolding last mine
  comes p x e =
      elim (after_back t mid.0 (after t gives at) p x e) [
        | inl i ↦ elim (after_back t gives at p x i) [ inl j ↦ inl j | inr j ↦ inr j.2 ]
        | inr i ↦ inr i.2
      ]

  grows : (p x : ℕ) → mine p ≡ Some x → last p ≡ Some x
  unfolding last
  grows p x e = after_old t mid.0 mine p x e

  follows : Follows card at t (suc t) k (suc t) last
  unfolding last mine
  follows = record {
    stays = λ p a e. grows p a (after_old t gives at p a e);
    later = λ p x e g. elim (comes p x g) [ inl i ↦ clash i e | inr i ↦ omega arith ];
    not_past = omega arith;
    in_time = λ p x e. elim (comes p x e) [ inl i ↦ omega (arith, f.past p x i) | inr i ↦ omega arith ];
    whole = omega arith;
    zeroth = grows 0 0 (after_old t gives at 0 0 f.first);
    lasting = λ d v. fine_given card made d v.lasts t (after t gives at) mid.0 mid.1 (fine_given card made d v.lasts t at gives legal v.fine);
  }

  win : Win card k (suc t) last
  unfolding last mine
  win = mid.3

  chart : Plan card at t (suc t)
  chart = plan card made at t (suc t) k (suc t) last win follows

  d : ℕ → ℕ
  d = longest card at

  v : Consistent card at (suc t) d
  unfolding d
  v = longest_consistent card D W made cl t at was f

  on : (p a : ℕ) → mine p ≡ Some a → chart.at d v p ≡ a
  unfolding chart
  on p a e = plan_stays card made at t (suc t) k (suc t) last win follows d v p a (grows p a e)

  old_none : (p : ℕ) → mine p ≡ None → at p ≡ None
  unfolding mine
  old_none p e = (after_none t gives at p e).0

  off : (p : ℕ) → p < card.points → mine p ≡ None → t ≤ chart.at d v p
  off p h e = chart.off d v p h (old_none p e)

  -- neither a finish nor what is held is given in this minute
  off_late : (p : ℕ) → p < card.points → mine p ≡ None → T (late card held p) → suc t ≤ chart.at d v p
  unfolding chart last mine
  off_late p h e l = plan_later card made at t (suc t) k (suc t) last win follows d v p h (go (last p) refl)
    where
      not_now : T (mid.0 p) → ⊥
      not_now g = ⊎_elim (λ x. mid.1.is_order p g x) (λ x. mid.2 p x g) (late_cases card held p l)

      go : (o : Option ℕ) → last p ≡ o → last p ≡ None
      go None i = i
      go (Some x) i = elim (after_back t mid.0 (after t gives at) p x i) [ inl j ↦ clash j e | inr j ↦ absurd (not_now j.1) ]

  mine_before : (p a : ℕ) → mine p ≡ Some a → a ≤ t
  unfolding mine
  mine_before p a e = elim (after_back t gives at p a e) [ inl i ↦ f.past p a i | inr i ↦ omega (arith, i.2) ]

  mine_point : (p a : ℕ) → mine p ≡ Some a → p < card.points
  unfolding mine
  mine_point p a e = elim (after_back t gives at p a e) [ inl i ↦ f.point p a i | inr i ↦ legal.is_point p i.1 ]

  holds : (p q : ℕ) → p < card.points → q < card.points → p ≢ q → pos (chart.at d v q) ≤ℤ (pos (chart.at d v p) +ℤ D p q)
  holds p q lp lq n = claims card made (Above D W) at t (suc t) chart (cut card D W made cl t at was f) (traced.plainly p q lp lq n) d v

  holds_wait : (s p : ℕ) → s < span_count card → p < card.points → mine (finish_of card s) ≡ None → pos (chart.at d v (start_of card s)) ≤ℤ (pos (chart.at d v p) +ℤ W s p)
  unfolding d
  holds_wait s p lt lp e =
      let o = old_none (finish_of card s) e in
      claims card made (Above D W) at t (suc t) chart (cut card D W made cl t at was f) (traced.waiting s p lt lp) o d v (longest_open card at s o)

  apart : (p q a b : ℕ) → mine p ≡ Some a → mine q ≡ Some b → Dec (p ≡ q) → pos b ≤ℤ (pos a +ℤ D p q)
  apart p q a b x y (yes e) =
      let ab : a ≡ b = same x (ap mine e ∙ y) in
      let lp = mine_point p a x in
      omega (arith, ints, cl.N p p p lp lp lp, ap (D p) e)
  apart p q a b x y (no n) = omega (arith, ints, holds p q (mine_point p a x) (mine_point q b y) n, on p a x, on q b y)

  other : (p q a : ℕ) → mine p ≡ Some a → mine q ≡ None → p ≢ q
  other p q a x y e = clash x (ap mine e ∙ y)

  fits_now : Fits card D W t (late card held) mine
  unfolding mine
  fits_now = record {
    point = mine_point;
    first = mine_first;
    past = mine_before;
    apart = λ p q a b x y. apart p q a b x y (ℕ_discrete p q);
    ahead = λ p q a x lt y. omega (arith, ints, holds p q (mine_point p a x) lt (other p q a x y), on p a x, off q lt y);
    ahead_late = λ p q a x lt y l. omega (arith, ints, holds p q (mine_point p a x) lt (other p q a x y), on p a x, off_late q lt y l);
    started = λ s p a b lt x c y. omega (arith, ints, holds_wait s p lt (mine_point p a x) c, on p a x, on (start_of card s) b y);
    waiting = λ s p a lt x c y. omega (arith, ints, holds_wait s p lt (mine_point p a x) c, on p a x, mine_before p a x, off (start_of card s) (made.start_in s lt) y);
  }
    where
      mine_first : mine 0 ≡ Some 0
      mine_first = after_old t gives at 0 0 f.first

  pub needed : Fits card D W t (late card held) (after t gives at)
  unfolding mine
  needed = fits_now
