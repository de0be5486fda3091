-- Derived entries: what the rules make of them, that they stay derived as tables fall, and loops.
use Rattle.std.proofs.Common.{◌≡◌, ℕ, ◌<◌, ◌≤◌, ℤ, pos, negsuc, ◌+ℤ◌, neg_ℤ, ◌≤ℤ◌, ◌<ℤ◌, sym, refl, ap, ◌∙◌, subst, ⊎_elim, arith}
use Rattle.std.proofs.lemmas.Int.{ints}
use Rattle.std.proofs.lemmas.Bool.{cases_eq}
use Rattle.rules.specs.declared.edges.Kind.TheVariants.{Plain, Lower, Wait, AllMost}
use Rattle.rules.specs.declared.edges.Edge.{Edge}
use Rattle.rules.specs.Card.{Card, WellMade, span_count, tie_count, start_of, finish_of, least_of, most_of, from_of, to_of, gap_of}
use Rattle.rules.specs.Edges.{edge, given_most, given_least, given_lower, given_wait, given_tie, rule_n, rule_u, rule_l, rule_x, rule_r, rule_m, rule_mw, rule_s, Derived, by_given, by_rule, InRange, Early, Released}
use Rattle.rules.proofs.Derived.{derived_wider, above_lower}
use Rattle.network.specs.declared.network.Network.{Network}
use Rattle.network.specs.Model.{model}
use Rattle.network.proofs.Made.{well_made, most_in, gap_in}
use Rattle.judge.specs.declared.closure.Closure.{Closure}
use Rattle.judge.specs.declared.target.Target.{Target}
use Rattle.judge.specs.declared.target.Target.TheVariants.{Point, Start}
use Rattle.judge.specs.Closures.{distance, wait, entry}
use Rattle.judge.specs.Closing.{In, head, edge_to, Besides, Near, Next, next_given, next_rule, Doomed, Holds, Falls, Proposed}

-- ---- tables that fall

pub near_falls : {t t' : Closure} → Falls t t' → (e : Edge) → Near t e → Near t' e
near_falls {t} {t'} falls e h = record {
  above = above_lower (distance t) (wait t) (distance t') (wait t') (λ p q. falls p (Point q)) (λ s p. falls p (Start s)) e h.above;
  in_range = h.in_range;
}

pub next_wider : {card : Card} {Close Far : Edge → Type 0} → ((e : Edge) → Close e → Far e) → {e : Edge} → Next card Close e → Next card Far e
next_wider wider (next_given g) = next_given g
next_wider wider (next_rule r a b) = next_rule r (derived_wider wider a) (derived_wider wider b)

pub derive : {card : Card} {Within : Edge → Type 0} {e : Edge} → Next card Within e → Within e → Derived card Within e
derive (next_given g) w = by_given g w
derive (next_rule r a b) w = by_rule r a b w

pub near_entry : (card : Card) (t : Closure) (p : ℕ) (x : Target) (v : ℤ) → entry t p x ≤ℤ v → negsuc 9999 ≤ℤ v → v ≤ℤ pos 9999 → Near t (edge_to card p x v)
near_entry card t p (Point q) v a l h = record { above = a; in_range = (omega (arith, ints), omega (arith, ints)) }
near_entry card t p (Start s) v a l h = record { above = a; in_range = (omega (arith, ints), omega (arith, ints)) }

pub to_range : {t : Closure} (e : Edge) → Near t e → InRange e
to_range e h = h.in_range

pub edge_range : (card : Card) (p : ℕ) (x : Target) (v : ℤ) → negsuc 9999 ≤ℤ v → v ≤ℤ pos 9999 → InRange (edge_to card p x v)
edge_range card p (Point q) v l h = (omega (arith, ints), omega (arith, ints))
edge_range card p (Start s) v l h = (omega (arith, ints), omega (arith, ints))

pub proposed_as : {card : Card} {t : Closure} {p p' : ℕ} {x x' : Target} {v v' : ℤ} → p' ≡ p → x' ≡ x → v' ≡ v → Proposed card t p x v → Proposed card t p' x' v'
proposed_as {card} {t} {p} {p'} {x} {x'} {v} {v'} e f g w =
    subst (λ z. Proposed card t z x' v') (sym e) (subst (λ z. Proposed card t p z v') (sym f) (subst (λ z. Proposed card t p x z) (sym g) w))

module _ (n : Network) where
  abbrev card : Card
  card = model n.content

  abbrev made : WellMade card
  made = well_made n

  pub head_in : (x : Target) → In card x → head card x < card.points
  head_in (Point q) h = h
  head_in (Start s) h = made.start_in s h

  pub least_in : (s : ℕ) → s < span_count card → least_of card s ≤ 1440
  least_in s h = omega (arith, made.least_most s h, most_in n s h)

  module _ (t : Closure) (holds : Holds card t) where
    pub low_at : (p : ℕ) (x : Target) → p < card.points → In card x → negsuc 1439 ≤ℤ entry t p x
    low_at p x lp lx = omega (arith, ints, holds.low p x lp lx, n.counts.0.1)

    pub high_at : (p : ℕ) (x : Target) → p < card.points → In card x → entry t p x ≤ℤ pos 1440
    high_at p x lp lx = omega (arith, ints, holds.high p x lp lx, n.counts.0.1)

    -- ---- what the rules make of entries

    -- N and U
    pub chained : (p q : ℕ) (x : Target) (v : ℤ) → p < card.points → q < card.points → In card x → v ≡ distance t p q +ℤ entry t q x → v <ℤ entry t p x → Next card (Near t) (edge_to card p x v)
    chained p q x v lp lq lx e less =
        ⊎_elim
        (λ (same : p ≡ q). absurd (omega (arith, ints, e, less, ap (λ r. distance t p r) (sym same) ∙ holds.itself p lp, ap (λ r. entry t r x) same)))
        (λ off. onto x lx e less (holds.traced p (Point q) lp lq off))
        (cases_eq p q)
      where
        onto : (x : Target) → In card x → v ≡ distance t p q +ℤ entry t q x → v <ℤ entry t p x → Derived card (Near t) (edge Plain p q (distance t p q)) → Next card (Near t) (edge_to card p x v)
        onto (Point r) lx e less d =
            ⊎_elim
            (λ (same : q ≡ r). absurd (omega (arith, ints, e, less, ap (λ y. distance t q y) (sym same) ∙ holds.itself q lq, ap (λ y. distance t p y) same)))
            (λ off. subst (λ z. Next card (Near t) (edge Plain p r z)) (sym e) (next_rule (rule_n p q r (distance t p q) (distance t q r)) d (holds.traced q (Point r) lq lx off)))
            (cases_eq q r)
        onto (Start s) lx e less d =
            subst (λ z. Next card (Near t) (edge (Wait s) p (start_of card s) z)) (sym e) (next_rule (rule_u s p q (start_of card s) (distance t p q) (wait t s q)) d (holds.traced q (Start s) lq lx tt))

    -- L and X
    lower : (s : ℕ) → s < span_count card → Derived card (Near t) (edge (Lower s) (start_of card s) (finish_of card s) (pos (least_of card s)))
    lower s ls = by_given (given_lower s ls) (record { above = tt; in_range = (omega (arith, ints), omega (arith, ints, least_in s ls)) })

    pub lowered : (s : ℕ) (x : Target) (v : ℤ) → s < span_count card → In card x → Besides s x → Early (entry t (finish_of card s) x) → v ≡ pos (least_of card s) +ℤ entry t (finish_of card s) x → Next card (Near t) (edge_to card (start_of card s) x v)
    lowered s (Point q) v ls lx other early e =
        ⊎_elim
        (λ (same : finish_of card s ≡ q). absurd (omega (arith, ints, early, ap (λ y. distance t (finish_of card s) y) (sym same) ∙ holds.itself (finish_of card s) (made.finish_in s ls))))
        (λ off.
        subst (λ z. Next card (Near t) (edge Plain (start_of card s) q z)) (sym e)
        (next_rule (rule_l s (start_of card s) (finish_of card s) q (pos (least_of card s)) (distance t (finish_of card s) q) early) (lower s ls) (holds.traced (finish_of card s) (Point q) (made.finish_in s ls) lx off)))
        (cases_eq (finish_of card s) q)
    lowered s (Start r) v ls lx other early e =
        subst (λ z. Next card (Near t) (edge (Wait r) (start_of card s) (start_of card r) z)) (sym e)
        (next_rule (rule_x s r (start_of card s) (finish_of card s) (start_of card r) (pos (least_of card s)) (wait t r (finish_of card s)) other early) (lower s ls) (holds.traced (finish_of card s) (Start r) (made.finish_in s ls) lx tt))

    -- R
    pub freed : (s p : ℕ) → s < span_count card → p < card.points → Released card s (wait t s p) → Next card (Near t) (edge Plain p (start_of card s) (wait t s p))
    freed s p ls lp low = let d = holds.traced p (Start s) lp ls tt in next_rule (rule_r s p (start_of card s) (wait t s p) low) d d

    -- ---- what they propose

    pub offer_tie : (i : ℕ) → i < tie_count card → Proposed card t (from_of card i) (Point (to_of card i)) (gap_of card i)
    offer_tie i li = record { low = omega (arith, ints, (gap_in n i li).0); high = omega (arith, ints, (gap_in n i li).1); next = λ _. next_given (given_tie i li) }

    pub offer_most : (s : ℕ) → s < span_count card → Proposed card t (start_of card s) (Point (finish_of card s)) (pos (most_of card s))
    offer_most s ls = record { low = omega (arith, ints); high = omega (arith, ints, most_in n s ls); next = λ _. next_given (given_most s ls) }

    pub offer_least : (s : ℕ) → s < span_count card → Proposed card t (finish_of card s) (Point (start_of card s)) (neg_ℤ (pos (least_of card s)))
    offer_least s ls = record { low = omega (arith, ints, least_in s ls); high = omega (arith, ints); next = λ _. next_given (given_least s ls) }

    pub offer_wait : (s : ℕ) → s < span_count card → Proposed card t (finish_of card s) (Start s) (neg_ℤ (pos (most_of card s)))
    offer_wait s ls = record { low = omega (arith, ints, most_in n s ls); high = omega (arith, ints); next = λ _. next_given (given_wait s ls) }

    pub offer_chained : (p q : ℕ) (x : Target) → p < card.points → q < card.points → In card x → Proposed card t p x (distance t p q +ℤ entry t q x)
    offer_chained p q x lp lq lx = record {
      low = omega (arith, ints, low_at p (Point q) lp lq, low_at q x lq lx);
      high = omega (arith, ints, high_at p (Point q) lp lq, high_at q x lq lx);
      next = chained p q x (distance t p q +ℤ entry t q x) lp lq lx refl;
    }

    pub offer_lowered : (s : ℕ) (x : Target) → s < span_count card → In card x → Besides s x → Early (entry t (finish_of card s) x) → Proposed card t (start_of card s) x (pos (least_of card s) +ℤ entry t (finish_of card s) x)
    offer_lowered s x ls lx other early = record {
      low = omega (arith, ints, low_at (finish_of card s) x (made.finish_in s ls) lx);
      high = omega (arith, ints, early, least_in s ls);
      next = λ _. lowered s x (pos (least_of card s) +ℤ entry t (finish_of card s) x) ls lx other early refl;
    }

    pub offer_freed : (s p : ℕ) → s < span_count card → p < card.points → Released card s (wait t s p) → Proposed card t p (Point (start_of card s)) (wait t s p)
    offer_freed s p ls lp low = record {
      low = omega (arith, ints, low_at p (Start s) lp ls);
      high = omega (arith, ints, high_at p (Start s) lp ls);
      next = λ _. freed s p ls lp low;
    }

    -- ---- an edge and the entry that leads back make a loop
    pub loop : (p : ℕ) (x : Target) (v : ℤ) → p < card.points → In card x → Proposed card t p x v → v <ℤ entry t p x → (v +ℤ distance t (head card x) p) <ℤ pos 0 → Doomed card
    loop p x v lp lx w less neg =
        let d : Derived card InRange (edge_to card p x v) = derive (next_wider to_range (w.next less)) (edge_range card p x v w.low w.high) in
        ⊎_elim
        (λ (same : head card x ≡ p). short x lx neg same d)
        (λ off. long x neg d (derived_wider to_range (holds.traced (head card x) (Point p) (head_in x lx) lp off)) (low_at (head card x) (Point p) (head_in x lx) lp) (high_at (head card x) (Point p) (head_in x lx) lp))
        (cases_eq (head card x) p)
      where
        short : (x : Target) → In card x → (v +ℤ distance t (head card x) p) <ℤ pos 0 → head card x ≡ p → Derived card InRange (edge_to card p x v) → Doomed card
        short (Point q) lx neg same d = record {
          kind = Plain;
          point = p;
          weight = v;
          loop = subst (λ z. Derived card InRange (edge Plain p z v)) same d;
          negative = omega (arith, ints, neg, ap (λ y. distance t y p) same ∙ holds.itself p lp);
        }
        short (Start s) lx neg same d = record {
          kind = Wait s;
          point = p;
          weight = v;
          loop = subst (λ z. Derived card InRange (edge (Wait s) p z v)) same d;
          negative = omega (arith, ints, neg, ap (λ y. distance t y p) same ∙ holds.itself p lp);
        }

        sums : {u : ℤ} → negsuc 1439 ≤ℤ u → u ≤ℤ pos 1440 → (negsuc 999_999 ≤ℤ (v +ℤ u)) × ((v +ℤ u) ≤ℤ pos 1_000_000)
        sums a b = (omega (arith, ints, w.low), omega (arith, ints, w.high))

        long : (x : Target) → (v +ℤ distance t (head card x) p) <ℤ pos 0 → Derived card InRange (edge_to card p x v) → Derived card InRange (edge Plain (head card x) p (distance t (head card x) p))
            → negsuc 1439 ≤ℤ distance t (head card x) p → distance t (head card x) p ≤ℤ pos 1440 → Doomed card
        long (Point q) neg d k a b = record {
          kind = Plain;
          point = p;
          weight = v +ℤ distance t q p;
          loop = by_rule (rule_n p q p v (distance t q p)) d k (sums a b);
          negative = neg;
        }
        long (Start s) neg d k a b =
            let q = start_of card s in
            record {
              kind = AllMost;
              point = p;
              weight = v +ℤ distance t q p;
              loop = by_rule (rule_s p q p v (distance t q p)) (by_rule (rule_mw s p q v) d d (edge_range card p (Start s) v w.low w.high)) (by_rule (rule_m q p (distance t q p)) k k (omega (arith, ints), omega (arith, ints))) (sums a b);
              negative = neg;
            }
