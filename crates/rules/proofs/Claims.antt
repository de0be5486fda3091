-- Every derived edge holds in every plan.
use Rattle.std.proofs.Common.{◌≡◌, ℕ, ◌+◌, ◌<◌, ◌≤◌, ◌≢◌, ℤ, pos, ◌+ℤ◌, ◌≤ℤ◌, ◌<ℤ◌, Some, None, Option, sym, refl, ap, ◌∙◌, subst, arith}
use native.Mathlib.Decide.{ℕ_discrete}
use Rattle.std.proofs.lemmas.Int.{ints, by_lt_z}
use Rattle.rules.specs.Card.{Card, WellMade, span_count, start_of, finish_of, least_of, most_of}
use Rattle.rules.specs.declared.edges.Kind.{Kind}
use Rattle.rules.specs.declared.edges.Kind.TheVariants.{Plain, Lower, Wait, AllMost}
use Rattle.rules.specs.declared.edges.Edge.{Edge}
use Rattle.rules.specs.Edges.{edge, Early, Released, Given, given_late, given_early, given_most, given_least, given_lower, given_wait, given_tie, Rule, rule_n, rule_u, rule_l, rule_x, rule_r, rule_m, rule_mw, rule_s, Derived, by_given, by_rule, Any}
use Rattle.rules.specs.Game.{Position}
use Rattle.rules.proofs.Basics.{clash}
use Rattle.rules.proofs.Derived.{Shape, start_below, shape}
use Rattle.rules.proofs.Plan.{Plan, Lasts, Consistent, Cut}

-- ---- durations with one of them changed

put : (ℕ → ℕ) → ℕ → ℕ → ℕ → ℕ
put d s x r = elim (ℕ_discrete r s) [ yes _ ↦ x | no _ ↦ d r ]

put_same : (d : ℕ → ℕ) (s x : ℕ) → put d s x s ≡ x
unfolding put
put_same d s x = go (ℕ_discrete s s)
  where
    go : (c : Dec (s ≡ s)) → (elim c [ yes _ ↦ x | no _ ↦ d s ]) ≡ x
    go (yes e) = refl
    go (no n) = absurd (n refl)

put_other : (d : ℕ → ℕ) (s x r : ℕ) → r ≢ s → put d s x r ≡ d r
unfolding put
put_other d s x r h = go (ℕ_discrete r s)
  where
    go : (c : Dec (r ≡ s)) → (elim c [ yes _ ↦ x | no _ ↦ d r ]) ≡ d r
    go (yes e) = absurd (h e)
    go (no n) = refl

put_lasts : (card : Card) (d : ℕ → ℕ) (s x : ℕ) → Lasts card d → least_of card s ≤ x → x ≤ most_of card s → Lasts card (put d s x)
put_lasts card d s x v lo hi = record { low = λ r h. below r h (ℕ_discrete r s); high = λ r h. above r h (ℕ_discrete r s) }
  where
    at_same : (r : ℕ) → r ≡ s → put d s x r ≡ x
    at_same r e = ap (put d s x) e ∙ put_same d s x

    below : (r : ℕ) → r < span_count card → Dec (r ≡ s) → least_of card r ≤ put d s x r
    below r h (yes e) = omega (arith, at_same r e, ap (least_of card) e)
    below r h (no n) = omega (arith, put_other d s x r n, v.low r h)

    above : (r : ℕ) → r < span_count card → Dec (r ≡ s) → put d s x r ≤ most_of card r
    above r h (yes e) = omega (arith, at_same r e, ap (most_of card) e)
    above r h (no n) = omega (arith, put_other d s x r n, v.high r h)

-- an unfinished span can be given another duration, if its end is still to come
put_consistent : (card : Card) (past : Position) (first : ℕ) (d : ℕ → ℕ) (s x : ℕ) → Consistent card past first d → least_of card s ≤ x → x ≤ most_of card s
    → past (finish_of card s) ≡ None → ((a : ℕ) → past (start_of card s) ≡ Some a → first ≤ a + x) → Consistent card past first (put d s x)
put_consistent card past first d s x v lo hi f room = record {
  lasts = put_lasts card d s x v.lasts lo hi;
  fine = record { over = λ r c h e. over r c h e (ℕ_discrete r s); under = λ r a h e g. under r a h e g (ℕ_discrete r s) };
}
  where
    over : (r c : ℕ) → r < span_count card → past (finish_of card r) ≡ Some c → Dec (r ≡ s) → (a : ℕ) × (past (start_of card r) ≡ Some a) × (c ≡ a + put d s x r)
    over r c h e (yes q) = clash e (ap (λ y. past (finish_of card y)) q ∙ f)
    over r c h e (no n) = let o = v.fine.over r c h e in (o.0, o.1, omega (arith, o.2, put_other d s x r n))

    under : (r a : ℕ) → r < span_count card → past (start_of card r) ≡ Some a → past (finish_of card r) ≡ None → Dec (r ≡ s) → first ≤ a + put d s x r
    under r a h e g (yes q) = omega (arith, room a (ap (λ y. past (start_of card y)) (sym q) ∙ e), ap (put d s x) q, put_same d s x)
    under r a h e g (no n) = omega (arith, v.fine.under r a h e g, put_other d s x r n)

-- ---- the claims

-- q comes at most w after p
abbrev pub Holds : (ℕ → ℕ) → ℕ → ℕ → ℤ → Type 0
Holds at p q w = pos (at q) ≤ℤ (pos (at p) +ℤ w)

-- None of the spans has finished
abbrev pub Unended : Card → Position → Type 0
Unended card past = (s : ℕ) → s < span_count card → past (finish_of card s) ≡ None

module _ (card : Card) (past : Position) (now first : ℕ) (plan : Plan card past now first) where
  abbrev ClaimAt : Kind → ℕ → ℕ → ℤ → Type 0
  ClaimAt Plain p q w = (d : ℕ → ℕ) (v : Consistent card past first d) → Holds (plan.at d v) p q w
  ClaimAt (Lower s) p q w = Unit {0}
  ClaimAt (Wait s) p q w = past (finish_of card s) ≡ None → (d : ℕ → ℕ) (v : Consistent card past first d) → d s ≡ most_of card s → Holds (plan.at d v) p q w
  ClaimAt AllMost p q w = Unended card past → (v : Consistent card past first (most_of card)) → Holds (plan.at (most_of card) v) p q w

  abbrev pub Claim : Edge → Type 0
  Claim e = ClaimAt e.kind e.source e.target e.weight

module _ (card : Card) (made : WellMade card) (Within : Edge → Type 0) (past : Position) (now first : ℕ) (plan : Plan card past now first) (fits : Cut card Within past now first) where
  -- L and X: what holds where span s lasts its least, and has q before its end, holds however long s lasts
  shorten : (d : ℕ → ℕ) (v : Consistent card past first d) (s : ℕ) → s < span_count card → (q : ℕ) → q < card.points → (z : ℤ) → Early z
      → ((w : Consistent card past first (put d s (least_of card s))) → Holds (plan.at (put d s (least_of card s)) w) (finish_of card s) q z)
      → past (finish_of card s) ≡ None → ((a : ℕ) → past (start_of card s) ≡ Some a → first ≤ a + least_of card s)
      → Holds (plan.at d v) (start_of card s) q (pos (least_of card s) +ℤ z)
  shorten d v s h q k z neg claim f room =
      let l = least_of card s in
      let e = put d s l in
      let low = v.lasts.low s h in
      let one = made.one_least s h in
      let w : Consistent card past first e = put_consistent card past first d s l v (omega arith) (made.least_most s h) f room in
      let es : e s ≡ l = put_same d s l in
      let end = plan.ended e w s h in
      let c = claim w in
      let same = plan.causal e d w v s h (λ r n. put_other d s l r n) in
      let qs = same q k (omega (arith, ints)) in
      let ss = same (start_of card s) (made.start_in s h) (omega arith) in
      omega (arith, ints)

  -- the same, with what the past says
  shortened : (d : ℕ → ℕ) (v : Consistent card past first d) (s : ℕ) → s < span_count card → (q : ℕ) → q < card.points → (z : ℤ) → Early z
      → Holds (plan.at d v) (finish_of card s) q z
      → ((w : Consistent card past first (put d s (least_of card s))) → Holds (plan.at (put d s (least_of card s)) w) (finish_of card s) q z)
      → ((a b : ℕ) → past (start_of card s) ≡ Some a → past q ≡ Some b → pos b ≤ℤ (pos a +ℤ (pos (least_of card s) +ℤ z)))
      → ((a : ℕ) → past (start_of card s) ≡ Some a → past q ≡ None → pos now ≤ℤ (pos a +ℤ (pos (least_of card s) +ℤ z)))
      → Holds (plan.at d v) (start_of card s) q (pos (least_of card s) +ℤ z)
  shortened d v s h q k z neg here claim both one = go (past (start_of card s)) refl (past q) refl (past (finish_of card s)) refl
    where
      go : (x : Option ℕ) → past (start_of card s) ≡ x → (y : Option ℕ) → past q ≡ y → (f : Option ℕ) → past (finish_of card s) ≡ f
          → Holds (plan.at d v) (start_of card s) q (pos (least_of card s) +ℤ z)
      go (Some a) x (Some b) y f g = omega (arith, ints, both a b x y, plan.on d v (start_of card s) a x, plan.on d v q b y)
      go (Some a) x None y None g =
          shorten d v s h q k z neg claim g (λ b e. omega (arith, ints, one b e y, fits.soon))
      go (Some a) x None y (Some c) g =
          absurd (omega (arith, ints, plan.off d v q k y, plan.on d v (finish_of card s) c g, fits.before (finish_of card s) c g))
      go None x y e None g = shorten d v s h q k z neg claim g (λ b e. clash e x)
      go None x y e (Some c) g = clash (v.fine.over s c h g).1 x

  -- R: what holds where span s lasts its most, and is at least -least, holds however long s lasts
  lengthen : (d : ℕ → ℕ) (v : Consistent card past first d) (s : ℕ) → s < span_count card → (p : ℕ) → p < card.points → (z : ℤ) → Released card s z
      → ((w : Consistent card past first (put d s (most_of card s))) → Holds (plan.at (put d s (most_of card s)) w) p (start_of card s) z)
      → past (finish_of card s) ≡ None
      → Holds (plan.at d v) p (start_of card s) z
  lengthen d v s h p k z low claim f =
      by_lt_z (pos (plan.at d v p) +ℤ z) (pos (plan.at d v (start_of card s)))
      (λ under.
      let u = most_of card s in
      let e = put d s u in
      let w : Consistent card past first e = put_consistent card past first d s u v (made.least_most s h) (omega arith) f
      (λ a x. omega (arith, v.fine.under s a h x f, v.lasts.high s h)) in
      let es : e s ≡ u = put_same d s u in
      let one = made.one_least s h in
      let lo = v.lasts.low s h in
      let hi = v.lasts.high s h in
      let c = claim w in
      let same = plan.causal d e v w s h (λ r n. sym (put_other d s u r n)) in
      let ps = same p k (omega (arith, ints)) in
      let ss = same (start_of card s) (made.start_in s h) (omega arith) in
      omega (arith, ints))
      (λ over. over)

  lengthened : (d : ℕ → ℕ) (v : Consistent card past first d) (s : ℕ) → s < span_count card → (p : ℕ) → p < card.points → (z : ℤ) → Released card s z
      → (past (finish_of card s) ≡ None → (w : Consistent card past first (put d s (most_of card s))) → Holds (plan.at (put d s (most_of card s)) w) p (start_of card s) z)
      → ((a b : ℕ) → past p ≡ Some a → past (start_of card s) ≡ Some b → pos b ≤ℤ (pos a +ℤ z))
      → Holds (plan.at d v) p (start_of card s) z
  lengthened d v s h p k z low claim both = go (past (finish_of card s)) refl (past p) refl
    where
      go : (f : Option ℕ) → past (finish_of card s) ≡ f → (x : Option ℕ) → past p ≡ x → Holds (plan.at d v) p (start_of card s) z
      go None g x e = lengthen d v s h p k z low (claim g) g
      go (Some c) g (Some a) e =
          let o = v.fine.over s c h g in
          omega (arith, ints, both a o.0 e o.1, plan.on d v p a e, plan.on d v (start_of card s) o.0 o.1)
      go (Some c) g None e =
          let o = v.fine.over s c h g in
          omega (arith, ints, o.2, plan.on d v (start_of card s) o.0 o.1, plan.off d v p k e, fits.before (finish_of card s) c g, v.lasts.low s h)

  abbrev Claims : Edge → Type 0
  Claims = Claim card past now first plan

  given_claim : {e : Edge} → Given card e → Claims e
  given_claim (given_late p h k) = λ d v. omega (arith, ints, plan.origin d v, plan.horizon d v p k)
  given_claim (given_early p h k) = λ d v. omega (arith, ints, plan.origin d v)
  given_claim (given_most s h) = λ d v. omega (arith, ints, plan.ended d v s h, v.lasts.high s h)
  given_claim (given_least s h) = λ d v. omega (arith, ints, plan.ended d v s h, v.lasts.low s h)
  given_claim (given_lower s h) = tt
  given_claim (given_wait s h) = λ f d v e. omega (arith, ints, plan.ended d v s h)
  given_claim (given_tie i h) = λ d v. plan.tied d v i h

  rule_claim : {letter : ℕ} {e f g : Edge} → Rule card letter e f g → Shape card e → Shape card f → Within g → Claims e → Claims f → Claims g
  rule_claim (rule_n p q r u v) sa sb kept ca cb = λ d v. omega (arith, ints, ca d v, cb d v)
  rule_claim (rule_u s p q r u v) sa sb kept ca cb = λ f d v e. omega (arith, ints, ca d v, cb f d v e)
  rule_claim (rule_l s p c q u z neg) sa sb kept ca cb =
      λ d v.
      let to = shortened d v s sa.0 q sb.1 z neg
      (omega (arith, ints, cb d v, ap (plan.at d v) sa.2))
      (λ w. omega (arith, ints, cb _ w, ap (plan.at _ w) sa.2))
      (λ x y e f. omega (arith, ints, fits.both p q (u +ℤ z) kept x y (ap past sa.1 ∙ e) f, sa.3))
      (λ x e f. omega (arith, ints, fits.one p q (u +ℤ z) kept sb.1 x (ap past sa.1 ∙ e) f, sa.3)) in
      omega (arith, ints, to, ap (plan.at d v) sa.1, sa.3)
  rule_claim (rule_x k s p c q u z n neg) sa sb kept ca cb =
      let wait-in : Within (edge (Wait s) p (start_of card s) (u +ℤ z)) = subst (λ r. Within (edge (Wait s) p r (u +ℤ z))) sb.1 kept in
      λ g d v e.
      let to = shortened d v k sa.0 q (start_below card made sb.0 sb.1) z neg
      (omega (arith, ints, cb g d v e, ap (plan.at d v) sa.2))
      (λ w. omega (arith, ints, cb g _ w (put_other d k (least_of card k) s (λ (x : s ≡ k). n (sym x)) ∙ e), ap (plan.at _ w) sa.2))
      (λ x y e f. omega (arith, ints, fits.running s p (u +ℤ z) sb.0 wait-in g x y (ap past sa.1 ∙ e) (ap past (sym sb.1) ∙ f), sa.3))
      (λ x e f. omega (arith, ints, fits.waiting s p (u +ℤ z) sb.0 wait-in g x (ap past sa.1 ∙ e) (ap past (sym sb.1) ∙ f), sa.3)) in
      omega (arith, ints, to, ap (plan.at d v) sa.1, sa.3)
  rule_claim (rule_r s p q z low) sa sb kept ca cb =
      λ d v.
      let to = lengthened d v s sa.0 p sa.2 z low
      (λ g w. omega (arith, ints, ca g _ w (put_same d s (most_of card s)), ap (plan.at _ w) sa.1))
      (λ x y e f. fits.both p q z kept x y e (ap past sa.1 ∙ f)) in
      omega (arith, ints, to, ap (plan.at d v) sa.1)
  rule_claim (rule_m p q z) sa sb kept ca cb = λ g v. ca (most_of card) v
  rule_claim (rule_mw s p q z) sa sb kept ca cb = λ g v. ca (g _ sa.0) (most_of card) v refl
  rule_claim (rule_s p q r u z) sa sb kept ca cb = λ g v. omega (arith, ints, ca g v, cb g v)

  pub claims : {e : Edge} → Derived card Within e → Claims e
  claims (by_given g w) = given_claim g
  claims (by_rule r a b w) = rule_claim r (shape card made a) (shape card made b) w (claims a) (claims b)

-- ---- the start: nothing has happened yet

abbrev pub nothing : Position
nothing p = None

module _ (card : Card) (made : WellMade card) (plan : Plan card nothing 0 0) where
  cut_nothing : Cut card Any nothing 0 0
  cut_nothing = record {
    soon = omega arith;
    before = λ p a e. clash e refl;
    both = λ p q w i a b e f. clash e refl;
    one = λ p q w i h a e f. clash e refl;
    running = λ s p w h i g a b e f. clash e refl;
    waiting = λ s p w h i g a e f. clash e refl;
  }

  all_last : Consistent card nothing 0 (most_of card)
  all_last = record {
    lasts = record { low = made.least_most; high = λ s h. omega arith };
    fine = record { over = λ s c h e. clash e refl; under = λ s a h e f. clash e refl };
  }

  -- a negative loop excludes a plan
  pub no_plan : (kind : Kind) (p : ℕ) (w : ℤ) → Derived card Any (edge kind p p w) → w <ℤ pos 0 → ⊥
  no_plan Plain p w a neg = omega (arith, ints, claims card made Any nothing 0 0 plan cut_nothing a (most_of card) all_last)
  no_plan (Lower s) p w a neg = omega (arith, ints, (shape card made a).3)
  no_plan (Wait s) p w a neg = omega (arith, ints, claims card made Any nothing 0 0 plan cut_nothing a refl (most_of card) all_last refl)
  no_plan AllMost p w a neg = omega (arith, ints, claims card made Any nothing 0 0 plan cut_nothing a (λ s h. refl) all_last)
