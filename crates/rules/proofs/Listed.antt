-- Step lists: what lawful steps make is derived, and what is derived in range some lawful steps make.
use Rattle.std.proofs.Common.{◌≡◌, ℕ, zero, suc, ◌-◌, ◌<◌, ◌≤◌, List, [], ◌∷◌, ◌++◌, length, get_or, pos, ◌<ℤ◌, sym, refl, ap, ◌∙◌, subst, ap₂, ⊎_elim, append_assoc, append-nil, arith, length-append}
use native.Mathlib.Decide.{ℕ_discrete}
use lib.ListN.{get_or-append}
use Rattle.std.specs.List.{ContainsAt as Has, AllByRecursion}
use Rattle.std.proofs.ByRecursion.{All-push, All-get_or, has_append_left, has_push}
use Rattle.std.proofs.lemmas.Int.{ints}
use Rattle.std.proofs.lemmas.Bool.{cases_order}
use Rattle.rules.specs.Card.{Card, WellMade}
use Rattle.rules.specs.declared.edges.Edge.{Edge}
use Rattle.rules.specs.declared.edges.Step.{Step}
use Rattle.rules.specs.Edges.{edge, Given, given_late, given_early, given_most, given_least, given_lower, given_wait, given_tie, Rule, rule_n, rule_u, rule_l, rule_x, rule_r, rule_m, rule_mw, rule_s, Derived, by_given, by_rule, Any, InRange}
use Rattle.rules.specs.Steps.{given, step_at, known, all_known, LawfulStep, LawfulAt, LawfulTo, AllLawful, Closing, passes, unlawful, no_loop, Reads}
use Rattle.rules.specs.Theorems.{ListsTell, EdgesListed, LoopsListed, OneAnswer}
use Rattle.rules.proofs.Marks.{loops_lose}
use Rattle.rules.proofs.Numbered.{all_given, numbered}

-- ---- lawful steps make derived edges

module _ (card : Card) where
  abbrev Made : Edge → Type 0
  Made e = Derived card Any e

  all_made : (es : List Edge) → AllByRecursion (Given card) es → AllByRecursion Made es
  all_made [] h = tt
  all_made (e ∷ es) h = (by_given h.0 tt, all_made es h.1)

  step_made : (es : List Edge) (s : Step) → AllByRecursion Made es → LawfulStep card es s → Made s.makes
  step_made es s all law =
      by_rule law.by_rule (All-get_or Made es s.left s.makes law.left_known all) (All-get_or Made es s.right s.makes law.right_known all) tt

  known_made : WellMade card → (steps : List Step) (n : ℕ) → LawfulTo card steps n → AllByRecursion Made (known card steps n)
  unfolding known
  known_made made steps zero law = all_made (given card) (all_given card made)
  known_made made steps (suc n) law =
      let before = known_made made steps n (λ i h. law i (omega arith)) in
      All-push Made (known card steps n) (step_at steps n).makes before (step_made (known card steps n) (step_at steps n) before (law n (omega arith)))

pub lists_tell : ListsTell
lists_tell card made steps (law, closing) good =
    let n = length steps - 1 in
    let m = (step_at steps n).makes in
    let lt : n < length steps = omega (arith, closing.some_step) in
    let loop : Derived card Any m = step_made card (known card steps n) (step_at steps n) (known_made card made steps n (λ i h. law i (omega arith))) (law n lt) in
    loops_lose card made m.kind m.source m.weight (subst (λ q. Derived card Any (edge m.kind m.source q m.weight)) (sym closing.itself) loop) closing.negative good

-- ---- a list grows by a lawful step

module _ (card : Card) (steps more : List Step) where
  at_same : (i : ℕ) → i < length steps → step_at (steps ++ more) i ≡ step_at steps i
  unfolding step_at
  at_same i h = get_or-append steps more _ i h

  known_same : (n : ℕ) → n ≤ length steps → known card (steps ++ more) n ≡ known card steps n
  unfolding known
  known_same zero h = refl
  known_same (suc n) h = ap₂ (λ es x. es ++ (x.makes ∷ [])) (known_same n (omega arith)) (at_same n h)

module _ (card : Card) (steps : List Step) (s : Step) where
  abbrev longer : List Step
  longer = steps ++ (s ∷ [])

  longer_by_one : length longer ≡ suc (length steps)
  longer_by_one = omega (arith, length-append steps (s ∷ []))

  at_end : step_at longer (length steps) ≡ s
  unfolding step_at
  at_end = go steps
    where
      go : (xs : List Step) → step_at (xs ++ (s ∷ [])) (length xs) ≡ s
      go [] = refl
      go (x ∷ xs) = go xs

  -- the list with one lawful step more is lawful
  pub lawful_more : LawfulTo card steps (length steps) → LawfulStep card (known card steps (length steps)) s → LawfulTo card longer (length longer)
  lawful_more law more i h =
      elim (ℕ_discrete i (length steps)) [
        | yes e ↦ subst (LawfulAt card longer) (sym e)
            (subst (λ es. LawfulStep card es (step_at longer (length steps))) (sym (known_same card steps (s ∷ []) (length steps) (omega arith)))
            (subst (LawfulStep card (known card steps (length steps))) (sym at_end) more))
        | no n ↦ let lt : i < length steps = omega (arith, longer_by_one) in
            subst (λ es. LawfulStep card es (step_at longer i)) (sym (known_same card steps (s ∷ []) i (omega arith)))
            (subst (LawfulStep card (known card steps i)) (sym (at_same card steps (s ∷ []) i lt)) (law i lt))
      ]

  -- and its edge is known then, the last
  pub known_more : known card longer (length longer) ≡ known card steps (length steps) ++ (s.makes ∷ [])
  unfolding known
  known_more =
      ap (known card longer) longer_by_one
      ∙ ap₂ (λ es x. es ++ (x.makes ∷ [])) (known_same card steps (s ∷ []) (length steps) (omega arith)) at_end

-- ---- derived edges in range are made by lawful steps

module _ (card : Card) (es : List Edge) where
  -- the step that makes g of the edges with these numbers
  step_here : {letter : ℕ} {e f g : Edge} → Rule card letter e f g → (x : Has es e) (y : Has es f) → InRange g
      → (letter ≡ 82 → y.0 ≡ x.0) → (letter ≡ 77 → y.0 ≡ x.0) → LawfulStep card es (record { letter = letter; left = x.0; right = y.0; makes = g })
  step_here {letter} {e} {f} {g} r x y range if-R if-M = record {
    left_known = x.1;
    right_known = y.1;
    by_rule = subst (λ l. Rule card letter l (get_or es y.0 g) g) (sym (x.2 g)) (subst (λ m. Rule card letter e m g) (sym (y.2 g)) r);
    repeats_r = if-R;
    repeats_m = if-M;
    in_range = range;
  }

  -- R and M take the left number twice
  step_by : {letter : ℕ} {e f g : Edge} → Rule card letter e f g → Has es e → Has es f → InRange g → (s : Step) × LawfulStep card es s × (s.makes ≡ g)
  step_by (rule_n p q r u v) x y range = (_, step_here (rule_n p q r u v) x y range (λ c. absurd (omega arith)) (λ c. absurd (omega arith)), refl)
  step_by (rule_u s p q r u v) x y range = (_, step_here (rule_u s p q r u v) x y range (λ c. absurd (omega arith)) (λ c. absurd (omega arith)), refl)
  step_by (rule_l s p q r u v h) x y range = (_, step_here (rule_l s p q r u v h) x y range (λ c. absurd (omega arith)) (λ c. absurd (omega arith)), refl)
  step_by (rule_x k s p q r u v n h) x y range = (_, step_here (rule_x k s p q r u v n h) x y range (λ c. absurd (omega arith)) (λ c. absurd (omega arith)), refl)
  step_by (rule_r s p q v h) x y range = (_, step_here (rule_r s p q v h) x x range (λ c. refl) (λ c. refl), refl)
  step_by (rule_m p q v) x y range = (_, step_here (rule_m p q v) x x range (λ c. refl) (λ c. refl), refl)
  step_by (rule_mw s p q v) x y range = (_, step_here (rule_mw s p q v) x x range (λ c. refl) (λ c. refl), refl)
  step_by (rule_s p q r u v) x y range = (_, step_here (rule_s p q r u v) x y range (λ c. absurd (omega arith)) (λ c. absurd (omega arith)), refl)

module _ (card : Card) where
  -- what is known stays known
  known_up : (steps : List Step) (n m : ℕ) (e : Edge) → n ≤ m → Has (known card steps n) e → Has (known card steps m) e
  unfolding known
  known_up steps n zero e le h = let none : n ≡ 0 = omega arith in subst (λ k. Has (known card steps k) e) none h
  known_up steps n (suc m) e le h =
      elim (ℕ_discrete n (suc m)) [
        | yes q ↦ subst (λ k. Has (known card steps k) e) q h
        | no q ↦ has_append_left (known card steps m) _ e (known_up steps n m e (omega arith) h)
      ]

  stays : (steps more : List Step) (e : Edge) → Has (all_known card steps) e → Has (all_known card (steps ++ more)) e
  stays steps more e h =
      known_up (steps ++ more) (length steps) (length (steps ++ more)) e (omega (arith, length-append steps more))
      (subst (λ es. Has es e) (sym (known_same card steps more (length steps) (omega arith))) h)

  -- every list of lawful steps can be continued until it knows e
  abbrev Reach : Edge → Type 0
  Reach e = (steps : List Step) → AllLawful card steps → (more : List Step) × AllLawful card (steps ++ more) × Has (all_known card (steps ++ more)) e

  -- until it knows e and f
  both : {e f : Edge} → Reach e → Reach f → (steps : List Step) → AllLawful card steps
      → (more : List Step) × AllLawful card (steps ++ more) × Has (all_known card (steps ++ more)) e × Has (all_known card (steps ++ more)) f
  both {e} {f} a b steps law =
      let x = a steps law in
      let y = b (steps ++ x.0) x.1 in
      let same : (steps ++ x.0) ++ y.0 ≡ steps ++ (x.0 ++ y.0) = append_assoc steps x.0 y.0 in (
        x.0 ++ y.0,
        subst (AllLawful card) same y.1,
        subst (λ l. Has (all_known card l) e) same (stays (steps ++ x.0) y.0 e x.2),
        subst (λ l. Has (all_known card l) f) same y.2,
      )

  reach_given : {e : Edge} → Given card e → Reach e
  unfolding known
  reach_given {e} g steps law = (
    [],
    subst (AllLawful card) (sym (append-nil steps)) law,
    subst (λ l. Has (all_known card l) e) (sym (append-nil steps)) (known_up steps 0 (length steps) e (omega arith) (numbered card g)),
  )

  reach_made : {letter : ℕ} {e f g : Edge} → Rule card letter e f g → InRange g → Reach e → Reach f → Reach g
  reach_made {g = g} r range a b steps law =
      let x = both a b steps law in
      let l = steps ++ x.0 in
      let s = step_by card (all_known card l) r x.2 x.3 range in
      let one = s.0 ∷ [] in
      let same : l ++ one ≡ steps ++ (x.0 ++ one) = append_assoc steps x.0 one in (
        x.0 ++ one,
        subst (AllLawful card) same (lawful_more card l s.0 x.1 s.1),
        subst (λ m. Has (all_known card m) g) same
            (subst (λ es. Has es g) (sym (known_more card l s.0)) (subst (Has (all_known card l ++ (s.0.makes ∷ []))) s.2 (has_push (all_known card l) s.0.makes))),
      )

  reach : {e : Edge} → Derived card InRange e → Reach e
  reach (by_given g range) = reach_given g
  reach (by_rule r a b range) = reach_made r range (reach a) (reach b)

  -- a negative loop made last
  passes_made : {letter : ℕ} {e f g : Edge} → Rule card letter e f g → InRange g → Reach e → Reach f → g.source ≡ g.target → g.weight <ℤ pos 0
      → (steps : List Step) × Reads card steps passes
  passes_made {g = g} r range a b itself negative =
      let x = both a b [] (λ i h. absurd (omega arith)) in
      let l = x.0 in
      let s = step_by card (all_known card l) r x.2 x.3 range in
      let steps = l ++ (s.0 ∷ []) in
      let n : length steps - 1 ≡ length l = omega (arith, length-append l (s.0 ∷ [])) in
      let last : g ≡ (step_at steps (length steps - 1)).makes = sym (ap (λ k. (step_at steps k).makes) n ∙ ap (λ y. y.makes) (at_end card l s.0) ∙ s.2) in
      let closing : Closing steps = record {
        some_step = omega (arith, length-append l (s.0 ∷ []));
        itself = subst (λ e. e.source ≡ e.target) last itself;
        negative = subst (λ e. e.weight <ℤ pos 0) last negative;
      } in
      (steps, (lawful_more card l s.0 x.1 s.1, closing))

  -- a given loop is made again, by M
  passes_given : {e : Edge} → Given card e → InRange e → e.source ≡ e.target → e.weight <ℤ pos 0 → (steps : List Step) × Reads card steps passes
  passes_given (given_late p h k) range = let g = reach_given (given_late p h k) in passes_made (rule_m _ _ _) range g g
  passes_given (given_early p h k) range = let g = reach_given (given_early p h k) in passes_made (rule_m _ _ _) range g g
  passes_given (given_most s h) range = let g = reach_given (given_most s h) in passes_made (rule_m _ _ _) range g g
  passes_given (given_least s h) range = let g = reach_given (given_least s h) in passes_made (rule_m _ _ _) range g g
  passes_given (given_lower s h) range = λ itself negative. absurd (omega (arith, ints, negative))
  passes_given (given_wait s h) range = let g = reach_given (given_wait s h) in passes_made (rule_mw _ _ _ _) range g g
  passes_given (given_tie i h) range = let g = reach_given (given_tie i h) in passes_made (rule_m _ _ _) range g g

  passes_for : {e : Edge} → Derived card InRange e → e.source ≡ e.target → e.weight <ℤ pos 0 → (steps : List Step) × Reads card steps passes
  passes_for (by_given g range) = passes_given g range
  passes_for (by_rule r a b range) = passes_made r range (reach a) (reach b)

pub edges_listed : EdgesListed
edges_listed card e d = reach card d

pub loops_listed : LoopsListed
loops_listed card kind p w d negative = passes_for card d refl negative

-- ---- one answer

pub one_answer : OneAnswer
one_answer card steps passes passes x y = refl
one_answer card steps passes (unlawful j) x y = absurd (y.2 (x.0 j y.0))
one_answer card steps passes no_loop x y = absurd (y.1 x.1)
one_answer card steps (unlawful i) passes x y = absurd (x.2 (y.0 i x.0))
one_answer card steps (unlawful i) (unlawful j) x y =
    ⊎_elim (λ e. ap unlawful e) (λ z. ⊎_elim (λ h. absurd (x.2 (y.1 i h))) (λ h. absurd (y.2 (x.1 j h))) z) (cases_order i j)
one_answer card steps (unlawful i) no_loop x y = absurd (x.2 (y.0 i x.0))
one_answer card steps no_loop passes x y = absurd (x.1 y.1)
one_answer card steps no_loop (unlawful j) x y = absurd (y.2 (x.0 j y.0))
one_answer card steps no_loop no_loop x y = refl
