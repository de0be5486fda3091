-- The lightest edge of a list that grows, and the edges that are given.
use Rattle.std.proofs.Common.{◌≡◌, ℕ, zero, suc, ◌+◌, ◌≤◌, Bool, true, false, cond, ◌&&◌, eqb, List, [], ◌∷◌, ◌++◌, get_or, take, replicate, ℤ, pos, negsuc, nat_abs, ◌≤ℤ◌, Some, None, sym, refl, ap, ◌∙◌, subst, arith}
use native.Mathlib.Decide.{ℕ_discrete}
use lib.Dec.{eqb_refl}
use Rattle.rules.proofs.Flags.{so}
use Rattle.rules.proofs.Numbered.{all_given}
use Rattle.steps.proofs.Reading.{edge_known}
use Rattle.std.proofs.ByRecursion.{All-get_or}
use Rattle.std.specs.List.{AllByRecursion}
use Rattle.std.proofs.lemmas.List.{take_more}
use Rattle.std.proofs.lemmas.Bool.Decides.{nat_tests}
use Rattle.std.proofs.lemmas.Int.{ints}
use Rattle.rules.specs.declared.edges.Kind.TheVariants.{Plain}
use Rattle.rules.specs.declared.edges.Edge.{Edge}
use Rattle.rules.specs.Edges.{Given, given_late, given_early, given_most, given_least, given_lower, given_wait, given_tie}
use Rattle.rules.specs.Steps.{given, no_edge, edge_at}
use Rattle.walks.specs.declared.minutes.Minutes.{Minutes}
use Rattle.walks.specs.Minutes.{Whole, lesser, far, of_minutes, absent_minutes}
use Rattle.walks.specs.Tables.{cell}
use Rattle.walks.specs.Wholes.{lesser_assoc}
use Rattle.network.specs.declared.network.Network.{Network}
use Rattle.network.specs.Model.{model}
use Rattle.network.proofs.Made.{well_made, most_in, gap_in}
use Rattle.distances.specs.Distances.{Near, is_plain, weight_of, lightest}

lesser_none : (a : Whole) → lesser a None ≡ a
lesser_none None = refl
lesser_none (Some a) = refl

pub lightest_push : (es : List Edge) (e : Edge) (p q : ℕ) → lesser (lightest es p q) (weight_of e p q) ≡ lightest (es ++ (e ∷ [])) p q
lightest_push [] e p q = sym (lesser_none (weight_of e p q))
lightest_push (x ∷ es) e p q = lesser_assoc (weight_of x p q) (lightest es p q) (weight_of e p q) ∙ ap (lesser (weight_of x p q)) (lightest_push es e p q)

-- ---- one edge noted

module _ (e : Edge) where
  weight_same : e.kind ≡ Plain → weight_of e e.source e.target ≡ Some e.weight
  weight_same k = rw (k, so (eqb_refl e.source), so (eqb_refl e.target))

  weight_other : (p q : ℕ) → (p ≡ e.source → q ≡ e.target → ⊥) → weight_of e p q ≡ None
  weight_other p q ne = grind (arith, nat_tests)

  pub noted : (e.kind ≡ Plain) → (s t : ℕ) → s ≡ e.source → t ≡ e.target → (old new : ℕ → ℕ → Whole)
      → new s t ≡ lesser (old s t) (Some e.weight)
      → ((p q : ℕ) → (p ≡ s → q ≡ t → ⊥) → new p q ≡ old p q)
      → (p q : ℕ) → new p q ≡ lesser (old p q) (weight_of e p q)
  noted plain s t from to old new here others p q =
      elim (ℕ_discrete p s) [
        | yes a ↦ elim (ℕ_discrete q t) [
          | yes b ↦ rw (a, b) (here ∙ ap (lesser (old s t)) (sym (ap (weight_of e s) to ∙ ap (λ x. weight_of e x e.target) from ∙ weight_same plain)))
          | no b ↦ apart (λ x y. b y)
        ]
        | no a ↦ apart (λ x y. a x)
      ]
    where
      apart : (p ≡ s → q ≡ t → ⊥) → new p q ≡ lesser (old p q) (weight_of e p q)
      apart ne = others p q ne ∙ sym (lesser_none (old p q)) ∙ ap (lesser (old p q)) (sym (weight_other p q (λ x y. ne (x ∙ sym from) (y ∙ sym to))))

-- ---- the edges that are given

module _ (n : Network) where
  given_near : {e : Edge} → Given (model n.content) e → Near 32 e
  given_near (given_late p h k) = record { source = omega arith; target = omega arith; low = omega (arith, ints); high = omega (arith, ints) }
  given_near (given_early p h k) = record { source = omega arith; target = omega arith; low = omega (arith, ints); high = omega (arith, ints) }
  given_near (given_most s h) =
      let w = well_made n in
      record { source = omega (arith, w.start_in s h); target = omega (arith, w.finish_in s h); low = omega (arith, ints); high = omega (arith, ints, most_in n s h) }
  given_near (given_least s h) =
      let w = well_made n in
      record { source = omega (arith, w.finish_in s h); target = omega (arith, w.start_in s h); low = omega (arith, ints, most_in n s h, w.least_most s h); high = omega (arith, ints) }
  given_near (given_lower s h) =
      let w = well_made n in
      record { source = omega (arith, w.start_in s h); target = omega (arith, w.finish_in s h); low = omega (arith, ints); high = omega (arith, ints, most_in n s h, w.least_most s h) }
  given_near (given_wait s h) =
      let w = well_made n in
      record { source = omega (arith, w.finish_in s h); target = omega (arith, w.start_in s h); low = omega (arith, ints, most_in n s h); high = omega (arith, ints) }
  given_near (given_tie i h) =
      let w = well_made n in
      record { source = omega (arith, w.from_in i h); target = omega (arith, w.to_in i h); low = (gap_in n i h).0; high = (gap_in n i h).1 }

  -- the edge of a number is near, and the next of the list
  pub edge_near : (i : ℕ) (e : Edge) → edge_at (given (model n.content)) i ≡ Some e → Near 32 e
  edge_near i e q =
      let g = given (model n.content) in
      let k = edge_known g i e q in
      given_near (subst (Given (model n.content)) (k.1 no_edge) (All-get_or (Given (model n.content)) g i no_edge k.0 (all_given (model n.content) (well_made n))))

  pub lightest_more : (i : ℕ) (e : Edge) → edge_at (given (model n.content)) i ≡ Some e → (p q : ℕ)
      → lesser (lightest (take i (given (model n.content))) p q) (weight_of e p q) ≡ lightest (take (i + 1) (given (model n.content))) p q
  lightest_more i e q a b =
      let g = given (model n.content) in
      let k = edge_known g i e q in
      lightest_push (take i g) e a b ∙ ap (λ es. lightest es a b) (ap (λ x. take i g ++ (x ∷ [])) (sym (k.1 no_edge)) ∙ sym (take_more g i no_edge k.0))

-- ---- a table of absent weights

anywhere : {X : Type 0} (P : X → Type 0) (n : ℕ) (x d : X) → P x → P d → (i : ℕ) → P (get_or (replicate n x) i d)
anywhere P zero x d h k i = k
anywhere P (suc n) x d h k zero = h
anywhere P (suc n) x d h k (suc i) = anywhere P n x d h k i

pub absent_all : (x : Minutes) → x ≡ absent_minutes → (p q : ℕ) → cell of_minutes absent_minutes (replicate 32 (replicate 32 x)) p q ≡ None
absent_all x e =
    anywhere (λ row. (q : ℕ) → of_minutes (get_or row q absent_minutes) ≡ None) 32 (replicate 32 x) []
    (anywhere (λ m. of_minutes m ≡ None) 32 x absent_minutes (ap of_minutes e) refl) (λ q. refl)

-- ---- sizes

abs_small : (z : ℤ) → negsuc 1439 ≤ℤ z → z ≤ℤ pos 1440 → nat_abs z ≤ 1440
abs_small z low high = omega (arith, ints)

weight_small : (e : Edge) (p q : ℕ) → Near 32 e → far (weight_of e p q) ≤ 1440
weight_small e p q near = by (is_plain e.kind && (eqb e.source p && eqb e.target q))
  where
    by : (b : Bool) → far (cond b (Some e.weight) None) ≤ 1440
    by true = abs_small e.weight near.low near.high
    by false = omega arith

lesser_small : (a b : Whole) → far a ≤ 1440 → far b ≤ 1440 → far (lesser a b) ≤ 1440
lesser_small None b h k = k
lesser_small (Some x) None h k = h
lesser_small (Some x) (Some y) h k = grind (arith, ints)

lightest_small : (es : List Edge) → AllByRecursion (Near 32) es → (p q : ℕ) → far (lightest es p q) ≤ 1440
lightest_small [] all p q = omega arith
lightest_small (e ∷ es) all p q = lesser_small (weight_of e p q) (lightest es p q) (weight_small e p q all.0) (lightest_small es all.1 p q)

all_near : (n : Network) (es : List Edge) → AllByRecursion (Given (model n.content)) es → AllByRecursion (Near 32) es
all_near n [] all = tt
all_near n (e ∷ es) all = (given_near n all.0, all_near n es all.1)

pub given_small : (n : Network) (p q : ℕ) → far (lightest (given (model n.content)) p q) ≤ 1440
given_small n = lightest_small (given (model n.content)) (all_near n (given (model n.content)) (all_given (model n.content) (well_made n)))
