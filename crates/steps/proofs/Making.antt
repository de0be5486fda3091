-- A letter makes exactly the edges that its rule allows.
use Rattle.std.proofs.Common.{◌≡◌, ℕ, Bool, true, false, cond, ◌&&◌, T, eqb, ◌≢◌, ◌⊎◌, ℤ, pos, negsuc, ◌+ℤ◌, neg_ℤ, Some, None, Option, sym, refl, subst, inl, inr, ⊎_elim, arith, eqb→eq}
use lib.Dec.{eqb_refl}
use lib.Signed.{le_z, lt_z, le_z_yes, lt_z_yes}
use Rattle.rules.proofs.Flags.{so, not_so}
use Rattle.rules.proofs.Basics.{and_left, and_right}
use Rattle.rules.specs.declared.edges.Kind.{Kind}
use Rattle.rules.specs.declared.edges.Kind.TheVariants.{Plain, Lower, Wait, AllMost}
use Rattle.rules.specs.declared.edges.Edge.{Edge}
use Rattle.rules.specs.Card.{Card, least_of}
use Rattle.rules.specs.Edges.{edge, InRange, Rule, rule_n, rule_u, rule_l, rule_x, rule_r, rule_m, rule_mw, rule_s}
use Rattle.steps.specs.Makes.{if_plain, if_lower, if_wait, if_all_most, ranged, chained, turned, by_n, by_u, by_l, by_x, by_r, projected, by_m, by_s, makes}

-- ---- the edges made

pub ranged_is : (e : Edge) → InRange e → ranged e ≡ Some e
ranged_is e h = rw (so h.0.le, so h.1.le)

pub chained_is : (k : Kind) (l r : Edge) (w : ℤ) → w ≡ l.weight +ℤ r.weight → l.target ≡ r.source → InRange (edge k l.source r.target w) → chained k l r ≡ Some (edge k l.source r.target w)
chained_is k l r w e meets h =
    let same : eqb l.target r.source ≡ true = so (subst (λ x. T (eqb l.target x)) meets (eqb_refl l.target)) in
    rw (same, ← e) (ranged_is (edge k l.source r.target w) h)

-- ---- what an edge that is made tells

none_made : {X : Type 0} {e : Edge} → None ≡ Some e → X
none_made {e = e} q = let z : ◌≡◌ {A = ℕ} 0 1 = cc in absurd (omega arith)

some_same : {e f : Edge} → Some e ≡ Some f → e ≡ f
some_same {e = e} {f = f} q = cc

cond_made : (b : Bool) (x : Option Edge) {e : Edge} → cond b x None ≡ Some e → T b × (x ≡ Some e)
cond_made true x q = (tt, q)
cond_made false x q = none_made q

either : (b : Bool) (x y : Option Edge) {e : Edge} → cond b x y ≡ Some e → (T b × (x ≡ Some e)) ⊎ (y ≡ Some e)
either true x y q = inl (tt, q)
either false x y q = inr q

unless_made : (b : Bool) (x : Option Edge) {e : Edge} → cond b None x ≡ Some e → (T b → ⊥) × (x ≡ Some e)
unless_made true x q = none_made q
unless_made false x q = (λ t. t, q)

plain_made : (k : Kind) (x : Option Edge) {e : Edge} → if_plain k x ≡ Some e → (k ≡ Plain) × (x ≡ Some e)
plain_made Plain x q = (refl, q)
plain_made (Lower s) x q = none_made q
plain_made (Wait s) x q = none_made q
plain_made AllMost x q = none_made q

lower_made : (k : Kind) (f : ℕ → Option Edge) {e : Edge} → if_lower k f ≡ Some e → (s : ℕ) × (k ≡ Lower s) × (f s ≡ Some e)
lower_made Plain f q = none_made q
lower_made (Lower s) f q = (s, refl, q)
lower_made (Wait s) f q = none_made q
lower_made AllMost f q = none_made q

wait_made : (k : Kind) (f : ℕ → Option Edge) {e : Edge} → if_wait k f ≡ Some e → (s : ℕ) × (k ≡ Wait s) × (f s ≡ Some e)
wait_made Plain f q = none_made q
wait_made (Lower s) f q = none_made q
wait_made (Wait s) f q = (s, refl, q)
wait_made AllMost f q = none_made q

all_most_made : (k : Kind) (x : Option Edge) {e : Edge} → if_all_most k x ≡ Some e → (k ≡ AllMost) × (x ≡ Some e)
all_most_made Plain x q = none_made q
all_most_made (Lower s) x q = none_made q
all_most_made (Wait s) x q = none_made q
all_most_made AllMost x q = (refl, q)

projected_made : (k : Kind) (x : Option Edge) {e : Edge} → projected k x ≡ Some e → ((k ≡ Plain) ⊎ ((s : ℕ) × (k ≡ Wait s))) × (x ≡ Some e)
projected_made Plain x q = (inl refl, q)
projected_made (Lower s) x q = none_made q
projected_made (Wait s) x q = (inr (s, refl), q)
projected_made AllMost x q = none_made q

ranged_made : (e : Edge) {f : Edge} → ranged e ≡ Some f → (e ≡ f) × InRange f
ranged_made e {f = f} q =
    let r = cond_made (le_z (negsuc 999_999) e.weight && le_z e.weight (pos 1_000_000)) (Some e) q in
    let same = some_same r.1 in
    (same, subst InRange same (le_z_yes (and_left _ _ r.0), le_z_yes (and_right (le_z (negsuc 999_999) e.weight) _ r.0)))

chained_made : (k : Kind) (l r : Edge) {e : Edge} → chained k l r ≡ Some e → (l.target ≡ r.source) × (edge k l.source r.target (l.weight +ℤ r.weight) ≡ e) × InRange e
chained_made k l r q =
    let m = cond_made (eqb l.target r.source) _ q in
    let g = ranged_made _ m.1 in
    (eqb→eq l.target r.source m.0, g.0, g.1)

-- ---- it is made by the rule

-- a left edge of this kind, and a right one that starts where the left one ends
left_as : (l : Edge) (k : Kind) → l.kind ≡ k → edge k l.source l.target l.weight ≡ l
left_as l k q = λ i. record { kind = sym q i; source = l.source; target = l.target; weight = l.weight }

right_as : (l r : Edge) (k : Kind) → r.kind ≡ k → l.target ≡ r.source → edge k l.target r.target r.weight ≡ r
right_as l r k q m = λ i. record { kind = sym q i; source = m i; target = r.target; weight = r.weight }

module _ (card : Card) where
  moved : {letter : ℕ} {l l' r r' e e' : Edge} → l ≡ l' → r ≡ r' → e ≡ e' → Rule card letter l r e → Rule card letter l' r' e'
  moved {letter = letter} {l = l} {l' = l'} {r = r} {r' = r'} {e = e} {e' = e'} p q s rule =
      subst (λ x. Rule card letter l' r' x) s (subst (λ x. Rule card letter l' x e) q (subst (λ x. Rule card letter x r e) p rule))

  abbrev Lawfully : ℕ → Edge → Edge → Edge → Type 0
  Lawfully letter l r e = Rule card letter l r e × InRange e

  n_made : (l r : Edge) {e : Edge} → by_n l r ≡ Some e → Lawfully 78 l r e
  n_made l r q =
      let a = plain_made l.kind _ q in
      let b = plain_made r.kind _ a.1 in
      let c = chained_made Plain l r b.1 in
      (moved (left_as l Plain a.0) (right_as l r Plain b.0 c.0) c.1 (rule_n _ _ _ _ _), c.2)

  u_made : (l r : Edge) {e : Edge} → by_u l r ≡ Some e → Lawfully 85 l r e
  u_made l r q =
      let a = plain_made l.kind _ q in
      let b = wait_made r.kind (λ s. chained (Wait s) l r) a.1 in
      let c = chained_made (Wait b.0) l r b.2 in
      (moved (left_as l Plain a.0) (right_as l r (Wait b.0) b.1 c.0) c.1 (rule_u _ _ _ _ _ _), c.2)

  l_made : (l r : Edge) {e : Edge} → by_l l r ≡ Some e → Lawfully 76 l r e
  l_made l r q =
      let n = cond_made (lt_z r.weight (pos 0)) _ q in
      let a = lower_made l.kind (λ k. if_plain r.kind (chained Plain l r)) n.1 in
      let b = plain_made r.kind _ a.2 in
      let c = chained_made Plain l r b.1 in
      (moved (left_as l (Lower a.0) a.1) (right_as l r Plain b.0 c.0) c.1 (rule_l _ _ _ _ _ _ (lt_z_yes n.0)), c.2)

  x_made : (l r : Edge) {e : Edge} → by_x l r ≡ Some e → Lawfully 88 l r e
  x_made l r q =
      let n = cond_made (lt_z r.weight (pos 0)) _ q in
      let a = lower_made l.kind (λ k. if_wait r.kind (λ s. cond (eqb k s) None (chained (Wait s) l r))) n.1 in
      let b = wait_made r.kind (λ s. cond (eqb a.0 s) None (chained (Wait s) l r)) a.2 in
      let d = unless_made (eqb a.0 b.0) _ b.2 in
      let c = chained_made (Wait b.0) l r d.1 in
      let apart : a.0 ≢ b.0 = λ h. d.0 (subst (λ x. T (eqb a.0 x)) h (eqb_refl a.0)) in
      (moved (left_as l (Lower a.0) a.1) (right_as l r (Wait b.0) b.1 c.0) c.1 (rule_x _ _ _ _ _ _ _ apart (lt_z_yes n.0)), c.2)

  r_made : (l : Edge) {e : Edge} → by_r card l ≡ Some e → Lawfully 82 l l e
  r_made l q =
      let a = wait_made l.kind (λ s. cond (le_z (neg_ℤ (pos (least_of card s))) l.weight) (turned Plain l) None) q in
      let b = cond_made (le_z (neg_ℤ (pos (least_of card a.0))) l.weight) _ a.2 in
      let c = ranged_made _ b.1 in
      let same = left_as l (Wait a.0) a.1 in
      (moved same same c.0 (rule_r _ _ _ _ (le_z_yes b.0)), c.1)

  m_made : (l : Edge) {e : Edge} → by_m l ≡ Some e → Lawfully 77 l l e
  m_made l {e = e} q =
      let a = projected_made l.kind _ q in
      let c = ranged_made _ a.1 in
      elim a.0 [
        | inl p ↦ (moved (left_as l Plain p) (left_as l Plain p) c.0 (rule_m _ _ _), c.1)
        | inr p ↦ (moved (left_as l (Wait p.0) p.1) (left_as l (Wait p.0) p.1) c.0 (rule_mw _ _ _ _), c.1)
      ]

  s_made : (l r : Edge) {e : Edge} → by_s l r ≡ Some e → Lawfully 83 l r e
  s_made l r q =
      let a = all_most_made l.kind _ q in
      let b = all_most_made r.kind _ a.1 in
      let c = chained_made AllMost l r b.1 in
      (moved (left_as l AllMost a.0) (right_as l r AllMost b.0 c.0) c.1 (rule_s _ _ _ _ _), c.2)

  at_letter : (letter n : ℕ) (l r e : Edge) → T (eqb letter n) → Lawfully n l r e → Lawfully letter l r e
  at_letter letter n l r e h law = subst (λ x. Lawfully x l r e) (sym (eqb→eq letter n h)) law

  -- what is made is lawful, where R and M are given the left edge as the right
  pub made_lawful : (letter : ℕ) (l r e : Edge) → (letter ≡ 82 → l ≡ r) → (letter ≡ 77 → l ≡ r) → makes card letter l r ≡ Some e → Lawfully letter l r e
  unfolding makes
  made_lawful letter l r e R M q =
      ⊎_elim (λ h. at_letter letter 78 l r e h.0 (n_made l r h.1))
      (λ q. ⊎_elim (λ h. at_letter letter 85 l r e h.0 (u_made l r h.1))
      (λ q. ⊎_elim (λ h. at_letter letter 76 l r e h.0 (l_made l r h.1))
      (λ q. ⊎_elim (λ h. at_letter letter 88 l r e h.0 (x_made l r h.1))
      (λ q. ⊎_elim (λ h. at_letter letter 82 l r e h.0 (subst (λ x. Lawfully 82 l x e) (R (eqb→eq letter 82 h.0)) (r_made l h.1)))
      (λ q. ⊎_elim (λ h. at_letter letter 77 l r e h.0 (subst (λ x. Lawfully 77 l x e) (M (eqb→eq letter 77 h.0)) (m_made l h.1)))
      (λ q. ⊎_elim (λ h. at_letter letter 83 l r e h.0 (s_made l r h.1)) (λ q. none_made q)
      (either (eqb letter 83) _ _ q)) (either (eqb letter 77) _ _ q)) (either (eqb letter 82) _ _ q)) (either (eqb letter 88) _ _ q)) (either (eqb letter 76) _ _ q)) (either (eqb letter 85) _ _ q)) (either (eqb letter 78) _ _ q)

-- ---- the rule makes it

module _ (card : Card) where
  -- and what a rule allows in range is made
  pub lawful_made : {letter : ℕ} {l r e : Edge} → Rule card letter l r e → InRange e → makes card letter l r ≡ Some e
  unfolding makes
  lawful_made (rule_n p q t u v) h = chained_is Plain (edge Plain p q u) (edge Plain q t v) (u +ℤ v) refl refl h
  lawful_made (rule_u s p q t u v) h = chained_is (Wait s) (edge Plain p q u) (edge (Wait s) q t v) (u +ℤ v) refl refl h
  lawful_made (rule_l s p q t u v n) h = rw (so n.lt) (chained_is Plain (edge (Lower s) p q u) (edge Plain q t v) (u +ℤ v) refl refl h)
  lawful_made (rule_x k s p q t u v a n) h =
      let d : eqb k s ≡ false = not_so (λ x. a (eqb→eq k s x)) in
      rw (so n.lt, d) (chained_is (Wait s) (edge (Lower k) p q u) (edge (Wait s) q t v) (u +ℤ v) refl refl h)
  lawful_made (rule_r s p q v n) h = rw (so n.le) (ranged_is (edge Plain p q v) h)
  lawful_made (rule_m p q v) h = ranged_is (edge AllMost p q v) h
  lawful_made (rule_mw s p q v) h = ranged_is (edge AllMost p q v) h
  lawful_made (rule_s p q t u v) h = chained_is AllMost (edge AllMost p q u) (edge AllMost q t v) (u +ℤ v) refl refl h
