-- The edges known to a reader, and what is lawful where they are known.
use Rattle.std.proofs.Common.{◌≡◌, ℕ, zero, suc, ◌+◌, ◌-◌, ◌<◌, ◌≤◌, Bool, true, false, cond, ltb, List, [], ◌∷◌, ◌++◌, length, get_or, pos, ◌<ℤ◌, Some, None, Decides, Option, sym, refl, ap, ◌∙◌, subst, arith, take, length-append, length-take-le, get_or-take}
use native.Mathlib.Decide.{ℕ_discrete}
use Rattle.std.proofs.lemmas.List.{get_or_append_left, get_or-append-add, get_or_default}
use Rattle.std.proofs.lemmas.Bool.{ltb-true, false≢true}
use Rattle.rules.specs.declared.edges.Edge.{Edge}
use Rattle.rules.specs.declared.edges.Step.{Step}
use Rattle.rules.specs.Card.{Card}
use Rattle.rules.specs.Edges.{Rule}
use Rattle.rules.specs.Steps.{given, no_edge, edge_at, step_at, known, all_known, LawfulStep, Closing}
use Rattle.steps.specs.Makes.{makes}
use Rattle.steps.specs.Reading.{Makes, step_of}
use Rattle.steps.proofs.Numbers.{edge_some, edge_none}
use Rattle.steps.proofs.Making.{made_lawful, lawful_made}

-- ---- the edges known after n steps

module _ (card : Card) (steps : List Step) where
  pub known_length : (n : ℕ) → length (known card steps n) ≡ length (given card) + n
  unfolding known
  known_length zero = omega arith
  known_length (suc n) = length-append (known card steps n) _ ∙ omega (arith, known_length n)

  known_old : (n i : ℕ) (d : Edge) → i < length (given card) → get_or (known card steps n) i d ≡ get_or (given card) i d
  unfolding known
  known_old zero i d h = refl
  known_old (suc n) i d h = get_or_append_left (known card steps n) _ d i (omega (arith, known_length n)) ∙ known_old n i d h

  known_new : (n i : ℕ) (d : Edge) → i < n → get_or (known card steps n) (length (given card) + i) d ≡ (step_at steps i).makes
  unfolding known
  known_new zero i d h = absurd (omega arith)
  known_new (suc n) i d h =
      elim (ℕ_discrete i n) [
        | yes e ↦
            ap (λ j. get_or (known card steps n ++ ((step_at steps n).makes ∷ [])) j d) (omega (arith, known_length n))
            ∙ get_or-append-add (known card steps n) ((step_at steps n).makes ∷ []) 0 d
            ∙ ap (λ j. (step_at steps j).makes) (sym e)
        | no ne ↦ get_or_append_left (known card steps n) _ d (length (given card) + i) (omega (arith, known_length n)) ∙ known_new n i d (omega arith)
      ]

  -- by number
  pub known_given : (n i : ℕ) → i < length (given card) → edge_at (given card) i ≡ edge_at (known card steps n) i
  known_given n i h = sym (edge_some (given card) i _ h refl) ∙ edge_some (known card steps n) i _ (omega (arith, known_length n)) (sym (known_old n i no_edge h))

  pub known_made : (n i : ℕ) (e : Edge) → i < n → e ≡ (step_at steps i).makes → (k : ℕ) → k ≡ length (given card) + i → Some e ≡ edge_at (known card steps n) k
  known_made n i e h q k at =
      edge_some (known card steps n) k e (omega (arith, known_length n)) (q ∙ sym (known_new n i no_edge h) ∙ ap (λ j. get_or (known card steps n) j no_edge) (sym at))

  pub known_none : (n k : ℕ) → length (given card) + n ≤ k → None ≡ edge_at (known card steps n) k
  known_none n k h = edge_none (known card steps n) k (omega (arith, known_length n))

-- the edges known after n steps depend on those steps alone
known_same : (card : Card) (xs ys : List Step) (n : ℕ) → ((i : ℕ) → i < n → step_at xs i ≡ step_at ys i) → known card xs n ≡ known card ys n
unfolding known
known_same card xs ys zero e = refl
known_same card xs ys (suc n) e = let h = e n (omega arith) in let k = known_same card xs ys n (λ i lt. e i (omega arith)) in cc

pub known_prefix : (card : Card) (steps : List Step) (n : ℕ) → n ≤ length steps → all_known card (take n steps) ≡ known card steps n
unfolding step_at
known_prefix card steps n h =
    ap (known card (take n steps)) (length-take-le n steps h) ∙ known_same card (take n steps) steps n (λ i lt. get_or-take _ _ _ _ lt)

-- ---- a step where these edges are known

some_is : (b : Bool) (x e : Edge) → cond b (Some x) None ≡ Some e → (b ≡ true) × (x ≡ e)
some_is true x e q = (refl, cc)
some_is false x e q = let z : ◌≡◌ {A = ℕ} 0 1 = cc in absurd (omega arith)

module _ (es : List Edge) (i : ℕ) where
  pub edge_known : (e : Edge) → edge_at es i ≡ Some e → (i < length es) × ((d : Edge) → get_or es i d ≡ e)
  unfolding edge_at
  edge_known e q =
      let r = some_is (ltb i (length es)) (get_or es i no_edge) e q in
      let h : i < length es = ltb-true i (length es) r.0 in
      (h, λ d. get_or_default es i d no_edge h ∙ r.1)

  pub edge_unknown : edge_at es i ≡ None → i < length es → ⊥
  edge_unknown q h = let s = edge_some es i (get_or es i no_edge) h refl in let z : ◌≡◌ {A = ℕ} 0 1 = cc in omega arith

module _ (card : Card) (es : List Edge) (letter left right : ℕ) where
  pub makes_none : ((e : Edge) → LawfulStep card es (step_of letter left right e) → ⊥) → Makes card es letter left right None
  makes_none never = record {
    lawful = λ e q. let z : ◌≡◌ {A = ℕ} 0 1 = cc in absurd (omega arith);
    only = λ e law. absurd (never e law);
  }

  pub no_left : edge_at es left ≡ None → Makes card es letter left right None
  no_left q = makes_none (λ e law. edge_unknown es left q law.left_known)

  pub no_right : edge_at es right ≡ None → Makes card es letter left right None
  no_right q = makes_none (λ e law. edge_unknown es right q law.right_known)

  pub makes_joined : (l r : Edge) → edge_at es left ≡ Some l → edge_at es right ≡ Some r → (letter ≡ 82 → right ≡ left) → (letter ≡ 77 → right ≡ left)
      → Makes card es letter left right (makes card letter l r)
  makes_joined l r p q R M =
      let a = edge_known es left l p in
      let b = edge_known es right r q in
      let same : right ≡ left → l ≡ r = λ e. let x = a.1 no_edge in let y = b.1 no_edge in let z = ap (λ j. get_or es j no_edge) e in cc in
      record {
        lawful = λ e m.
            let law = made_lawful card letter l r e (λ h. same (R h)) (λ h. same (M h)) m in
            record {
              left_known = a.0;
              right_known = b.0;
              by_rule = subst (λ x. Rule card letter x (get_or es right e) e) (sym (a.1 e)) (subst (λ x. Rule card letter l x e) (sym (b.1 e)) law.0);
              repeats_r = R;
              repeats_m = M;
              in_range = law.1;
            };
        only = λ e law. lawful_made card (subst (λ x. Rule card letter x r e) (a.1 e) (subst (λ x. Rule card letter (get_or es left e) x e) (b.1 e) law.by_rule)) law.in_range;
      }

-- ---- whether a step is lawful

module _ (card : Card) (es : List Edge) (s : Step) (made : Option Edge) (m : Makes card es s.letter s.left s.right made) where
  pub lawful_if_same : (b : Bool) (e : Edge) → made ≡ Some e → (b ≡ true → e ≡ s.makes) → (e ≡ s.makes → b ≡ true) → Decides b (LawfulStep card es s)
  lawful_if_same b e q f g = (
    λ t. subst (λ x. LawfulStep card es (step_of s.letter s.left s.right x)) (f t) (m.lawful e q),
    λ law. let o = m.only s.makes law in let r : e ≡ s.makes = cc in g r,
  )

  pub unlawful_if_none : made ≡ None → Decides false (LawfulStep card es s)
  unlawful_if_none q =
      (λ t. absurd (false≢true t), λ law. let o = m.only s.makes law in let z : ◌≡◌ {A = ℕ} 0 1 = cc in absurd (omega arith))

  pub lawful_when : (b : Bool) → (made ≡ None → b ≡ false) → ((e : Edge) → made ≡ Some e → Decides b (e ≡ s.makes)) → Decides b (LawfulStep card es s)
  lawful_when b none some = by_cases made refl where
    by_cases : (o : Option Edge) → made ≡ o → Decides b (LawfulStep card es s)
    by_cases None q = subst (λ x. Decides x (LawfulStep card es s)) (sym (none q)) (unlawful_if_none q)
    by_cases (Some e) q = let d = some e q in lawful_if_same b e q d.0 d.1

-- whether a list closes
pub closing_if_loop : (steps : List Step) (b : Bool) → 0 < length steps
    → Decides b (((step_at steps (length steps - 1)).makes.source ≡ (step_at steps (length steps - 1)).makes.target) × ((step_at steps (length steps - 1)).makes.weight <ℤ pos 0))
    → Decides b (Closing steps)
closing_if_loop steps b h d = (λ t. record { some_step = h; itself = (d.0 t).0; negative = (d.0 t).1 }, λ k. d.1 (k.itself, k.negative))
