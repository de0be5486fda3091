-- Whether a step is lawful can be computed; so each list has an answer.
use Rattle.std.proofs.Common.{◌≡◌, ℕ, zero, suc, ◌-◌, ◌<◌, Bool, true, false, not, ◌&&◌, ◌||◌, T, eqb, ltb, ◌≢◌, ◌⊎◌, List, length, get_or, ℤ, pos, negsuc, ◌+ℤ◌, ◌≤ℤ◌, ◌<ℤ◌, sym, refl, ap, subst, inl, inr, ⊎_elim, arith, eqb→eq, ltb→lt, lt→ltb, T_not}
use native.Mathlib.Decide.{ℕ_discrete}
use lib.Dec.{eqb_refl, not_T}
use lib.Signed.{le_z, lt_z, le_z_yes, lt_z_yes}
use Rattle.std.proofs.lemmas.Int.{ints}
use Rattle.rules.specs.Card.{Card}
use Rattle.rules.specs.declared.edges.Kind.{Kind}
use Rattle.rules.specs.declared.edges.Kind.TheVariants.{Plain, Lower, Wait, AllMost}
use Rattle.rules.specs.declared.edges.Edge.{Edge}
use Rattle.rules.specs.Edges.{edge, Early, Released, Rule, rule_n, rule_u, rule_l, rule_x, rule_r, rule_m, rule_mw, rule_s}
use Rattle.rules.specs.declared.edges.Step.{Step}
use Rattle.rules.specs.Steps.{step_at, known, LawfulStep, LawfulAt, LawfulTo, Closing, passes, unlawful, no_loop}
use Rattle.rules.specs.Theorems.{SomeAnswer}
use Rattle.rules.proofs.Basics.{and_left, and_right, and_both, or_cases, or_left, or_right, eq_test, decide}

-- ---- edges that are the same

unfoldable pub same_kind : Kind → Kind → Bool
same_kind Plain Plain = true
same_kind Plain (Lower r) = false
same_kind Plain (Wait r) = false
same_kind Plain AllMost = false
same_kind (Lower s) Plain = false
same_kind (Lower s) (Lower r) = eqb s r
same_kind (Lower s) (Wait r) = false
same_kind (Lower s) AllMost = false
same_kind (Wait s) Plain = false
same_kind (Wait s) (Lower r) = false
same_kind (Wait s) (Wait r) = eqb s r
same_kind (Wait s) AllMost = false
same_kind AllMost Plain = false
same_kind AllMost (Lower r) = false
same_kind AllMost (Wait r) = false
same_kind AllMost AllMost = true

kind_is : (x y : Kind) → T (same_kind x y) → x ≡ y
unfolding same_kind
kind_is Plain Plain h = refl
kind_is Plain (Lower r) h = absurd h
kind_is Plain (Wait r) h = absurd h
kind_is Plain AllMost h = absurd h
kind_is (Lower s) Plain h = absurd h
kind_is (Lower s) (Lower r) h = ap Lower (eqb→eq s r h)
kind_is (Lower s) (Wait r) h = absurd h
kind_is (Lower s) AllMost h = absurd h
kind_is (Wait s) Plain h = absurd h
kind_is (Wait s) (Lower r) h = absurd h
kind_is (Wait s) (Wait r) h = ap Wait (eqb→eq s r h)
kind_is (Wait s) AllMost h = absurd h
kind_is AllMost Plain h = absurd h
kind_is AllMost (Lower r) h = absurd h
kind_is AllMost (Wait r) h = absurd h
kind_is AllMost AllMost h = refl

is_kind : (x : Kind) → T (same_kind x x)
unfolding same_kind
is_kind Plain = tt
is_kind (Lower s) = eqb_refl s
is_kind (Wait s) = eqb_refl s
is_kind AllMost = tt

unfoldable pub same_weight : ℤ → ℤ → Bool
same_weight u v = le_z u v && le_z v u

weight_is : (u v : ℤ) → T (same_weight u v) → u ≡ v
unfolding same_weight
weight_is u v h = let a : u ≤ℤ v = le_z_yes (and_left (le_z u v) (le_z v u) h) in let b : v ≤ℤ u = le_z_yes (and_right (le_z u v) (le_z v u) h) in omega (arith, ints)

is_weight : (u : ℤ) → T (same_weight u u)
unfolding same_weight
is_weight u = let a : u ≤ℤ u = omega (arith, ints) in and_both (le_z u u) (le_z u u) a.le a.le

unfoldable pub same_edge : Edge → Edge → Bool
same_edge e f = same_kind e.kind f.kind && (eqb e.source f.source && (eqb e.target f.target && same_weight e.weight f.weight))

edge_is : (e f : Edge) → T (same_edge e f) → e ≡ f
unfolding same_edge
edge_is e f h =
    let h1 = and_right (same_kind e.kind f.kind) _ h in
    let h2 = and_right (eqb e.source f.source) _ h1 in
    let k : e.kind ≡ f.kind = kind_is e.kind f.kind (and_left (same_kind e.kind f.kind) _ h) in
    let s : e.source ≡ f.source = eqb→eq e.source f.source (and_left (eqb e.source f.source) _ h1) in
    let t : e.target ≡ f.target = eqb→eq e.target f.target (and_left (eqb e.target f.target) _ h2) in
    let w : e.weight ≡ f.weight = weight_is e.weight f.weight (and_right (eqb e.target f.target) _ h2) in
    λ i. record { kind = k i; source = s i; target = t i; weight = w i }

is_edge : (e : Edge) → T (same_edge e e)
unfolding same_edge
is_edge e =
    and_both (same_kind e.kind e.kind) _ (is_kind e.kind)
    (and_both (eqb e.source e.source) _ (eqb_refl e.source)
    (and_both (eqb e.target e.target) _ (eqb_refl e.target) (is_weight e.weight)))

-- ---- thresholds

-- a fact with a test for it
pub record Tested (A : Type 0) : Type 0 where
  pub test : Bool
  pub passed : T test → A
  pub passes_if : A → T test

unfoldable pub less : (a b : ℤ) → Tested (a <ℤ b)
less a b = record { test = lt_z a b; passed = lt_z_yes; passes_if = λ h. h.lt }

unfoldable pub at_most : (a b : ℤ) → Tested (a ≤ℤ b)
at_most a b = record { test = le_z a b; passed = le_z_yes; passes_if = λ h. h.le }

-- wherever the thresholds lie
unfoldable pub early : (v : ℤ) → Tested (Early v)
early v = less v _

unfoldable pub released : (card : Card) (s : ℕ) (v : ℤ) → Tested (Released card s v)
released card s v = at_most _ v

-- ---- rules

-- are these the left, the right and the made edge of that instance of a rule, which is one if `side` holds?
unfoldable pub instance : Bool → Edge → Edge → Edge → Edge → Edge → Edge → Bool
instance side e f g l r m = side && (same_edge e l && (same_edge f r && same_edge g m))

instance_is : (card : Card) (letter : ℕ) (side : Bool) (e f g l r m : Edge) → (T side → Rule card letter l r m) → T (instance side e f g l r m) → Rule card letter e f g
unfolding instance
instance_is card letter side e f g l r m rule h =
    let h1 = and_right side _ h in
    let h2 = and_right (same_edge e l) _ h1 in
    let le = edge_is e l (and_left (same_edge e l) _ h1) in
    let re = edge_is f r (and_left (same_edge f r) _ h2) in
    let me = edge_is g m (and_right (same_edge f r) _ h2) in
    subst (λ x. Rule card letter x f g) (sym le) (subst (λ x. Rule card letter l x g) (sym re) (subst (λ x. Rule card letter l r x) (sym me) (rule (and_left side _ h))))

is_instance : (side : Bool) (l r m : Edge) → T side → T (instance side l r m l r m)
unfolding instance
is_instance side l r m h = and_both side _ h (and_both (same_edge l l) _ (is_edge l) (and_both (same_edge r r) _ (is_edge r) (is_edge m)))

-- the span's number that an edge carries
unfoldable pub span_of : Kind → ℕ
span_of Plain = 0
span_of (Lower s) = s
span_of (Wait s) = s
span_of AllMost = 0

module _ (card : Card) (e f g : Edge) where
  abbrev pub N? : Bool
  N? = instance true e f g (edge Plain e.source e.target e.weight) (edge Plain e.target f.target f.weight) (edge Plain e.source f.target (e.weight +ℤ f.weight))

  abbrev pub U? : Bool
  U? = instance true e f g (edge Plain e.source e.target e.weight) (edge (Wait (span_of f.kind)) e.target f.target f.weight) (edge (Wait (span_of f.kind)) e.source f.target (e.weight +ℤ f.weight))

  abbrev pub L? : Bool
  L? = instance (early f.weight).test e f g (edge (Lower (span_of e.kind)) e.source e.target e.weight) (edge Plain e.target f.target f.weight) (edge Plain e.source f.target (e.weight +ℤ f.weight))

  abbrev pub X? : Bool
  X? = instance (not (eqb (span_of e.kind) (span_of f.kind)) && (early f.weight).test) e f g
      (edge (Lower (span_of e.kind)) e.source e.target e.weight) (edge (Wait (span_of f.kind)) e.target f.target f.weight) (edge (Wait (span_of f.kind)) e.source f.target (e.weight +ℤ f.weight))

  abbrev pub R? : Bool
  R? = instance (released card (span_of e.kind) e.weight).test e f g
      (edge (Wait (span_of e.kind)) e.source e.target e.weight) (edge (Wait (span_of e.kind)) e.source e.target e.weight) (edge Plain e.source e.target e.weight)

  abbrev pub M? : Bool
  M? = instance true e f g (edge Plain e.source e.target e.weight) (edge Plain e.source e.target e.weight) (edge AllMost e.source e.target e.weight)

  abbrev pub Mw? : Bool
  Mw? = instance true e f g (edge (Wait (span_of e.kind)) e.source e.target e.weight) (edge (Wait (span_of e.kind)) e.source e.target e.weight) (edge AllMost e.source e.target e.weight)

  abbrev pub S? : Bool
  S? = instance true e f g (edge AllMost e.source e.target e.weight) (edge AllMost e.target f.target f.weight) (edge AllMost e.source f.target (e.weight +ℤ f.weight))

  unfoldable pub rule? : ℕ → Bool
  rule? c =
      (eqb c 78 && N?) || ((eqb c 85 && U?) || ((eqb c 76 && L?) || ((eqb c 88 && X?) || ((eqb c 82 && R?) || ((eqb c 77 && M?) || ((eqb c 77 && Mw?) || (eqb c 83 && S?)))))))

  by_letter : (c n : ℕ) (b : Bool) → T (eqb c n && b) → (T b → Rule card n e f g) → Rule card c e f g
  by_letter c n b h rule = subst (λ x. Rule card x e f g) (sym (eqb→eq c n (and_left (eqb c n) b h))) (rule (and_right (eqb c n) b h))

  pub rule_is : (c : ℕ) → T (rule? c) → Rule card c e f g
  unfolding rule?
  rule_is c h0 =
      ⊎_elim (λ h. by_letter c 78 N? h (instance_is card 78 true e f g _ _ _ (λ x. rule_n _ _ _ _ _))) (λ h1.
      ⊎_elim (λ h. by_letter c 85 U? h (instance_is card 85 true e f g _ _ _ (λ x. rule_u _ _ _ _ _ _))) (λ h2.
      ⊎_elim (λ h. by_letter c 76 L? h (instance_is card 76 (early f.weight).test e f g _ _ _ (λ x. rule_l _ _ _ _ _ _ ((early f.weight).passed x)))) (λ h3.
      ⊎_elim (λ h. by_letter c 88 X? h (instance_is card 88 (not (eqb (span_of e.kind) (span_of f.kind)) && (early f.weight).test) e f g _ _ _
      (λ x. rule_x _ _ _ _ _ _ _ (apart (and_left (not (eqb (span_of e.kind) (span_of f.kind))) _ x)) ((early f.weight).passed (and_right (not (eqb (span_of e.kind) (span_of f.kind))) _ x))))) (λ h4.
      ⊎_elim (λ h. by_letter c 82 R? h (instance_is card 82 (released card (span_of e.kind) e.weight).test e f g _ _ _ (λ x. rule_r _ _ _ _ ((released card (span_of e.kind) e.weight).passed x)))) (λ h5.
      ⊎_elim (λ h. by_letter c 77 M? h (instance_is card 77 true e f g _ _ _ (λ x. rule_m _ _ _))) (λ h6.
      ⊎_elim (λ h. by_letter c 77 Mw? h (instance_is card 77 true e f g _ _ _ (λ x. rule_mw _ _ _ _)))
      (λ h. by_letter c 83 S? h (instance_is card 83 true e f g _ _ _ (λ x. rule_s _ _ _ _ _)))
      (or_cases (eqb c 77 && Mw?) _ h6)) (or_cases (eqb c 77 && M?) _ h5)) (or_cases (eqb c 82 && R?) _ h4)) (or_cases (eqb c 88 && X?) _ h3)) (or_cases (eqb c 76 && L?) _ h2)) (or_cases (eqb c 85 && U?) _ h1)) (or_cases (eqb c 78 && N?) _ h0)
    where
      apart : {a b : ℕ} → T (not (eqb a b)) → a ≢ b
      apart {a} {b} h e = T_not (eqb a b) h (eq_test e)

pub is_rule : (card : Card) {c : ℕ} {e f g : Edge} → Rule card c e f g → T (rule? card e f g c)
unfolding rule? span_of
is_rule card (rule_n p q r u v) = or_left _ _ (is_instance true _ _ _ tt)
is_rule card (rule_u s p q r u v) = or_left _ _ (is_instance true _ _ _ tt)
is_rule card (rule_l s p q r u v neg) = or_left _ _ (is_instance (early v).test _ _ _ ((early v).passes_if neg))
is_rule card (rule_x k s p q r u v n neg) =
    or_left _ _ (is_instance (not (eqb k s) && (early v).test) _ _ _ (and_both (not (eqb k s)) _ (not_T (eqb k s) (λ h. n (eqb→eq k s h))) ((early v).passes_if neg)))
is_rule card (rule_r s p q v low) = or_left _ _ (is_instance (released card s v).test _ _ _ ((released card s v).passes_if low))
is_rule card (rule_m p q v) = or_left _ _ (is_instance true _ _ _ tt)
is_rule card (rule_mw s p q v) =
    let e : Edge = edge (Wait s) p q v in
    let g : Edge = edge AllMost p q v in
    or_right (M? card e e g) (Mw? card e e g || false) (or_left (Mw? card e e g) false (is_instance true e e g tt))
is_rule card (rule_s p q r u v) = is_instance true _ _ _ tt

-- ---- steps

unfoldable pub implies : Bool → Bool → Bool
implies a b = not a || b

pub implies_out : (a b : Bool) → T (implies a b) → T a → T b
unfolding implies
implies_out true b h t = h
implies_out false b h t = absurd t

implies_in : (a b : Bool) → (T a → T b) → T (implies a b)
unfolding implies
implies_in true b f = f tt
implies_in false b f = tt

module _ (card : Card) (es : List Edge) (step : Step) where
  abbrev pub left_known? : Bool
  left_known? = ltb step.left (length es)

  abbrev pub right_known? : Bool
  right_known? = ltb step.right (length es)

  abbrev pub by_rule? : Bool
  by_rule? = rule? card (get_or es step.left step.makes) (get_or es step.right step.makes) step.makes step.letter

  abbrev pub repeats? : ℕ → Bool
  repeats? c = implies (eqb step.letter c) (eqb step.right step.left)

  abbrev pub low? : Bool
  low? = le_z (negsuc 999_999) step.makes.weight

  abbrev pub high? : Bool
  high? = le_z step.makes.weight (pos 1_000_000)

  -- is the step lawful?
  unfoldable pub lawful? : Bool
  lawful? = left_known? && (right_known? && (by_rule? && (repeats? 82 && (repeats? 77 && (low? && high?)))))

  repeats_is : (c : ℕ) → T (repeats? c) → step.letter ≡ c → step.right ≡ step.left
  repeats_is c h e = eqb→eq step.right step.left (implies_out (eqb step.letter c) _ h (eq_test e))

  is_repeats : (c : ℕ) → (step.letter ≡ c → step.right ≡ step.left) → T (repeats? c)
  is_repeats c f = implies_in (eqb step.letter c) _ (λ h. eq_test (f (eqb→eq step.letter c h)))

  pub lawful_is : T lawful? → LawfulStep card es step
  unfolding lawful?
  lawful_is h0 =
      let h1 = and_right left_known? _ h0 in
      let h2 = and_right right_known? _ h1 in
      let h3 = and_right by_rule? _ h2 in
      let h4 = and_right (repeats? 82) _ h3 in
      let h5 = and_right (repeats? 77) _ h4 in
      record {
        left_known = ltb→lt step.left (length es) (and_left left_known? _ h0);
        right_known = ltb→lt step.right (length es) (and_left right_known? _ h1);
        by_rule = rule_is card _ _ _ step.letter (and_left by_rule? _ h2);
        repeats_r = repeats_is 82 (and_left (repeats? 82) _ h3);
        repeats_m = repeats_is 77 (and_left (repeats? 77) _ h4);
        in_range = (le_z_yes (and_left low? high? h5), le_z_yes (and_right low? high? h5));
      }

  pub is_lawful : LawfulStep card es step → T lawful?
  unfolding lawful?
  is_lawful law =
      and_both left_known? _ (lt→ltb step.left (length es) law.left_known)
      (and_both right_known? _ (lt→ltb step.right (length es) law.right_known)
      (and_both by_rule? _ (is_rule card law.by_rule)
      (and_both (repeats? 82) _ (is_repeats 82 law.repeats_r)
      (and_both (repeats? 77) _ (is_repeats 77 law.repeats_m)
      (and_both low? high? law.in_range.0.le law.in_range.1.le)))))

-- ---- lists

-- the first n steps are lawful, or there is a first one that is not
scan : (card : Card) (steps : List Step) (n : ℕ) → LawfulTo card steps n ⊎ ((i : ℕ) × (i < n) × LawfulTo card steps i × (LawfulAt card steps i → ⊥))
scan card steps zero = inl (λ i h. absurd (omega arith))
scan card steps (suc n) =
    ⊎_elim
    (λ law. ⊎_elim
    (λ h. inl (λ i lt. elim (ℕ_discrete i n) [ yes e ↦ subst (LawfulAt card steps) (sym e) (lawful_is card (known card steps n) (step_at steps n) h) | no d ↦ law i (omega arith) ]))
    (λ h. inr (n, omega arith, law, λ l. h (is_lawful card (known card steps n) (step_at steps n) l)))
    (decide (lawful? card (known card steps n) (step_at steps n))))
    (λ r. inr (r.0, omega (arith, r.1), r.2, r.3))
    (scan card steps n)

-- the list has a closing loop, or not
closing? : (steps : List Step) → Closing steps ⊎ (Closing steps → ⊥)
closing? steps =
    ⊎_elim
    (λ h. inl (record {
      some_step = ltb→lt 0 (length steps) (and_left some _ h);
      itself = eqb→eq last.source last.target (and_left itself _ (and_right some _ h));
      negative = lt_z_yes (and_right itself _ (and_right some _ h));
    }))
    (λ h. inr (λ c. h (and_both some _ (lt→ltb 0 (length steps) c.some_step)
    (and_both itself _ (eq_test c.itself) c.negative.lt))))
    (decide (some && (itself && lt_z last.weight (pos 0))))
  where
    last : Edge
    last = (step_at steps (length steps - 1)).makes

    some : Bool
    some = ltb 0 (length steps)

    itself : Bool
    itself = eqb last.source last.target

pub some_answer : SomeAnswer
some_answer card steps =
    ⊎_elim
    (λ law. ⊎_elim (λ c. (passes, (law, c))) (λ c. (no_loop, (law, c))) (closing? steps))
    (λ r. (unlawful r.0, (r.1, r.2, r.3)))
    (scan card steps (length steps))
