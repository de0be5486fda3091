-- Lists of steps that agree at the beginning, and a step more.
use Rattle.std.proofs.Common.{◌≡◌, ℕ, zero, suc, ◌-◌, ◌<◌, ◌≢◌, List, [], ◌∷◌, ◌++◌, length, get_or, set, pos, ◌<ℤ◌, sym, refl, ap, ◌∙◌, subst, ap₂, arith, length-append, length-set}
use native.Mathlib.Decide.{ℕ_discrete}
use Rattle.std.proofs.lemmas.List.{get_or-set_same, get_or-set_other, get_or_append_left, get_or_push}
use Rattle.rules.specs.declared.edges.Edge.{Edge}
use Rattle.rules.specs.declared.edges.Step.{Step}
use Rattle.rules.specs.Card.{Card}
use Rattle.rules.specs.Edges.{Rule, InRange}
use Rattle.rules.specs.Steps.{step_at, known, LawfulStep, LawfulAt, LawfulTo}
use Rattle.explain.specs.Explained.{Useful, UsefulAt}
use Rattle.explain.specs.declared.search.Search.{Search}
use Rattle.explain.specs.Working.{Stands, Written, Shown, Onward, Follows}

-- ---- known edges

pub stands_more : (es : List Edge) (f e : Edge) (i : ℕ) → Stands es i e → Stands (es ++ (f ∷ [])) i e
stands_more es f e i s = (omega (arith, s.0, length-append es (f ∷ [])), λ d. get_or_append_left es (f ∷ []) d i s.0 ∙ s.1 d)

pub stands_new : (es : List Edge) (f : Edge) (i : ℕ) → i ≡ length es → Stands (es ++ (f ∷ [])) i f
stands_new es f i e = (omega (arith, e, length-append es (f ∷ [])), λ d. get_or_push es f d i (sym e))

-- a step by a rule, of known edges
pub lawful_by : {card : Card} {es : List Edge} {letter i j : ℕ} {l r made : Edge} → Rule card letter l r made → Stands es i l → Stands es j r → InRange made
    → (letter ≡ 82 → j ≡ i) → (letter ≡ 77 → j ≡ i) → LawfulStep card es (record { letter = letter; left = i; right = j; makes = made })
lawful_by {card} {es} {letter} {i} {j} {l} {r} {made} rule x y range R M = record {
  left_known = x.0;
  right_known = y.0;
  by_rule = subst (λ z. Rule card letter z (get_or es j made) made) (sym (x.1 made)) (subst (λ z. Rule card letter l z made) (sym (y.1 made)) rule);
  repeats_r = R;
  repeats_m = M;
  in_range = range;
}

-- ---- lists that agree in the first n steps

abbrev pub Agree : ℕ → List Step → List Step → Type 0
Agree n steps other = (i : ℕ) → i < n → step_at other i ≡ step_at steps i

module _ (card : Card) (steps other : List Step) where
  pub known_agree : (n : ℕ) → Agree n steps other → known card other n ≡ known card steps n
  unfolding known
  known_agree zero same = refl
  known_agree (suc n) same = ap₂ (λ es x. es ++ (x.makes ∷ [])) (known_agree n (λ i h. same i (omega arith))) (same n (omega arith))

  pub lawful_agree : (n : ℕ) → Agree n steps other → LawfulTo card steps n → LawfulTo card other n
  lawful_agree n same law i h =
      subst (λ es. LawfulStep card es (step_at other i)) (sym (known_agree i (λ j k. same j (omega arith))))
      (subst (LawfulStep card (known card steps i)) (sym (same i h)) (law i h))

  pub useful_agree : (n i : ℕ) → i < n → Agree n steps other → UsefulAt card steps i → UsefulAt card other i
  useful_agree n i h same worth =
      subst (λ es. Useful card es (step_at other i).makes) (sym (known_agree i (λ j k. same j (omega arith))))
      (subst (λ s. Useful card (known card steps i) s.makes) (sym (same i h)) worth)

-- ---- one step more

module _ (steps : List Step) (n : ℕ) (s : Step) where
  pub set_other : (i : ℕ) → i ≢ n → step_at (set steps n s) i ≡ step_at steps i
  unfolding step_at
  set_other i h = get_or-set_other steps n i s _ h

  pub set_here : n < length steps → step_at (set steps n s) n ≡ s
  unfolding step_at
  set_here h = get_or-set_same steps n s _ h

  pub set_agree : Agree n steps (set steps n s)
  set_agree i h = set_other i (λ e. absurd (omega (arith, e)))

  pub onward_set : Onward n steps (suc n) (set steps n s)
  onward_set = record { more = omega arith; long = length-set steps n s; later = λ i h. set_other i (λ e. absurd (omega (arith, e))) }

module _ (card : Card) (steps : List Step) (n : ℕ) (s : Step) (room : n < length steps) where
  pub known_set : known card (set steps n s) (suc n) ≡ known card steps n ++ (s.makes ∷ [])
  unfolding known
  known_set = ap₂ (λ es x. es ++ (x.makes ∷ [])) (known_agree card steps (set steps n s) n (set_agree steps n s)) (set_here steps n s room)

  lawful_set : LawfulTo card steps n → LawfulStep card (known card steps n) s → LawfulTo card (set steps n s) (suc n)
  lawful_set law new i h =
      elim (ℕ_discrete i n) [
        | yes e ↦ subst (LawfulAt card (set steps n s)) (sym e)
            (subst (λ es. LawfulStep card es (step_at (set steps n s) n)) (sym (known_agree card steps (set steps n s) n (set_agree steps n s)))
            (subst (LawfulStep card (known card steps n)) (sym (set_here steps n s room)) new))
        | no ne ↦ lawful_agree card steps (set steps n s) n (set_agree steps n s) law i (omega arith)
      ]

  pub written_more : Written card steps n → LawfulStep card (known card steps n) s → Useful card (known card steps n) s.makes → Written card (set steps n s) (suc n)
  written_more w law new = record {
    room = omega (arith, length-set steps n s);
    lawful = lawful_set w.lawful law;
    useful = λ i h.
        elim (ℕ_discrete i n) [
          | yes e ↦ subst (UsefulAt card (set steps n s)) (sym e)
              (subst (λ es. Useful card es (step_at (set steps n s) n).makes) (sym (known_agree card steps (set steps n s) n (set_agree steps n s)))
              (subst (λ z. Useful card (known card steps n) z.makes) (sym (set_here steps n s room)) new))
          | no ne ↦ let lt : i < n = omega arith in useful_agree card steps (set steps n s) n i lt (set_agree steps n s) (w.useful i lt)
        ];
  }

  pub shown_more : Written card steps n → LawfulStep card (known card steps n) s → s.makes.source ≡ s.makes.target → s.makes.weight <ℤ pos 0 → Shown card (set steps n s) (suc n)
  shown_more w law itself negative =
      let last : n ≡ suc n - 1 = omega arith in
      let here : s ≡ step_at (set steps n s) (suc n - 1) = sym (set_here steps n s room) ∙ ap (step_at (set steps n s)) last in
      record {
        some = omega arith;
        room = omega (arith, length-set steps n s);
        lawful = lawful_set w.lawful law;
        useful = λ i h. let lt : i < n = omega arith in useful_agree card steps (set steps n s) n i lt (set_agree steps n s) (w.useful i lt);
        itself = subst (λ z. z.makes.source ≡ z.makes.target) here itself;
        negative = subst (λ z. z.makes.weight <ℤ pos 0) here negative;
      }

pub onward_then : {n m k : ℕ} {a b c : List Step} → Onward n a m b → Onward m b k c → Onward n a k c
onward_then u v = record { more = omega (arith, u.more, v.more); long = v.long ∙ u.long; later = λ i h. v.later i h ∙ u.later i (omega (arith, v.more)) }

pub onward_none : (n : ℕ) (a : List Step) → Onward n a n a
onward_none n a = record { more = omega arith; long = refl; later = λ i h. refl }

pub follows_then : {s t u : Search} → Follows s t → Follows t u → Follows s u
follows_then f g = record { network = g.network ∙ f.network; list = g.list ∙ f.list; onward = onward_then f.onward g.onward }

pub follows_none : (s : Search) → Follows s s
follows_none s = record { network = refl; list = refl; onward = onward_none s.work.count s.list.now }
