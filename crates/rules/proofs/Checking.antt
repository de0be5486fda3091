-- Tests that compute: a card is well made, tables are closed and sound at the start, a list passes.
use Rattle.std.proofs.Common.{ℕ, zero, suc, ◌-◌, ◌<◌, Bool, true, not, ◌&&◌, T, eqb, ltb, leb, ◌≢◌, List, [], ◌∷◌, length, get_or, ℤ, pos, ◌+ℤ◌, neg_ℤ, ◌≤ℤ◌, sym, subst, arith, eqb→eq, ltb→lt, leb→le}
use native.Mathlib.Decide.{ℕ_discrete}
use lib.Dec.{not_T}
use lib.Signed.{le_z, lt_z, le_z_yes, lt_z_yes}
use Rattle.rules.specs.Card.{Card, WellMade, span_count, tie_count, start_of, finish_of, least_of, most_of, from_of, to_of, gap_of}
use Rattle.rules.specs.declared.edges.Step.{Step}
use Rattle.rules.specs.Steps.{step_at, known, passes, Reads}
use Rattle.rules.specs.Game.{Good}
use Rattle.rules.specs.Tables.{Table, SoundAtStart}
use Rattle.rules.proofs.Basics.{and_left, and_right, eq_test}
use Rattle.rules.proofs.Listed.{lists_tell}
use Rattle.rules.proofs.Closure.{Rulewise, closed_by}
use Rattle.rules.proofs.Deciding.{Tested, early, released, implies, implies_out, lawful?, lawful_is}
use Rattle.rules.proofs.Strategy.{tables_win}

-- does f hold of every number below n?
unfoldable pub every : ℕ → (ℕ → Bool) → Bool
every zero f = true
every (suc n) f = f n && every n f

at_each : (n : ℕ) (f : ℕ → Bool) → T (every n f) → (s : ℕ) → s < n → T (f s)
unfolding every
at_each zero f t s h = absurd (omega arith)
at_each (suc n) f t s h =
    elim (ℕ_discrete s n) [
      | yes q ↦ subst (λ r. T (f r)) (sym q) (and_left (f n) (every n f) t)
      | no q ↦ at_each n f (and_right (f n) (every n f) t) s (omega arith)
    ]

-- do all the tests of a list hold?
unfoldable pub all_of : List Bool → Bool
all_of [] = true
all_of (b ∷ bs) = b && all_of bs

nth : (bs : List Bool) → T (all_of bs) → (i : ℕ) → T (get_or bs i true)
unfolding all_of
nth [] h i = tt
nth (b ∷ bs) h zero = and_left b (all_of bs) h
nth (b ∷ bs) h (suc i) = nth bs (and_right b (all_of bs) h) i

apart : {a b : ℕ} → a ≢ b → T (not (eqb a b))
apart {a} {b} n = not_T (eqb a b) (λ h. n (eqb→eq a b h))

-- ---- a card is well made

module _ (c : Card) where
  abbrev some? : Bool
  some? = ltb 0 c.points

  abbrev one_least? : ℕ → Bool
  one_least? s = leb 1 (least_of c s)

  abbrev least_most? : ℕ → Bool
  least_most? s = leb (least_of c s) (most_of c s)

  abbrev start_in? : ℕ → Bool
  start_in? s = ltb (start_of c s) c.points

  abbrev finish_in? : ℕ → Bool
  finish_in? s = ltb (finish_of c s) c.points

  abbrev finish_later? : ℕ → Bool
  finish_later? s = ltb 0 (finish_of c s)

  abbrev finish_apart? : ℕ → ℕ → Bool
  finish_apart? s r = implies (eqb (finish_of c s) (finish_of c r)) (eqb s r)

  abbrev finishes_apart? : ℕ → Bool
  finishes_apart? s = every (span_count c) (finish_apart? s)

  abbrev from_in? : ℕ → Bool
  from_in? i = ltb (from_of c i) c.points

  abbrev to_in? : ℕ → Bool
  to_in? i = ltb (to_of c i) c.points

  abbrev card_tests : List Bool
  card_tests =
      some?
      ∷ every (span_count c) one_least?
      ∷ every (span_count c) least_most?
      ∷ every (span_count c) start_in?
      ∷ every (span_count c) finish_in?
      ∷ every (span_count c) finish_later?
      ∷ every (span_count c) finishes_apart?
      ∷ every (tie_count c) from_in?
      ∷ every (tie_count c) to_in?
      ∷ []

  unfoldable pub well_made? : Bool
  well_made? = all_of card_tests

  pub well_made_is : T well_made? → WellMade c
  unfolding well_made?
  well_made_is h = record {
    some_point = ltb→lt _ _ (nth card_tests h 0);
    one_least = λ s lt. leb→le _ _ (at_each _ one_least? (nth card_tests h 1) s lt);
    least_most = λ s lt. leb→le _ _ (at_each _ least_most? (nth card_tests h 2) s lt);
    start_in = λ s lt. ltb→lt _ _ (at_each _ start_in? (nth card_tests h 3) s lt);
    finish_in = λ s lt. ltb→lt _ _ (at_each _ finish_in? (nth card_tests h 4) s lt);
    finish_later = λ s lt. ltb→lt _ _ (at_each _ finish_later? (nth card_tests h 5) s lt);
    finish_apart = λ s r ls lr e. eqb→eq s r (implies_out (eqb (finish_of c s) (finish_of c r)) (eqb s r) (at_each _ (finish_apart? s) (at_each _ finishes_apart? (nth card_tests h 6) s ls) r lr) (eq_test e));
    from_in = λ i lt. ltb→lt _ _ (at_each _ from_in? (nth card_tests h 7) i lt);
    to_in = λ i lt. ltb→lt _ _ (at_each _ to_in? (nth card_tests h 8) i lt);
  }

-- ---- tables are closed and sound at the start

-- where a fact holds, so does the other
le_if : {A : Type 0} (fact : Tested A) (x y : ℤ) → T (implies fact.test (le_z x y)) → A → x ≤ℤ y
le_if fact x y h a = le_z_yes (implies_out fact.test (le_z x y) h (fact.passes_if a))

module _ (c : Card) (D W : Table) where
  abbrev late? : ℕ → Bool
  late? p = le_z (D 0 p) (pos c.horizon)

  abbrev early? : ℕ → Bool
  early? p = le_z (D p 0) (pos 0)

  abbrev most? : ℕ → Bool
  most? s = le_z (D (start_of c s) (finish_of c s)) (pos (most_of c s))

  abbrev least? : ℕ → Bool
  least? s = le_z (D (finish_of c s) (start_of c s)) (neg_ℤ (pos (least_of c s)))

  abbrev wait? : ℕ → Bool
  wait? s = le_z (W s (finish_of c s)) (neg_ℤ (pos (most_of c s)))

  abbrev tie? : ℕ → Bool
  tie? i = le_z (D (from_of c i) (to_of c i)) (gap_of c i)

  abbrev N? : ℕ → ℕ → ℕ → Bool
  N? p q r = le_z (D p r) (D p q +ℤ D q r)

  abbrev N2? : ℕ → ℕ → Bool
  N2? p q = every c.points (N? p q)

  abbrev N1? : ℕ → Bool
  N1? p = every c.points (N2? p)

  abbrev U? : ℕ → ℕ → ℕ → Bool
  U? s p q = le_z (W s p) (D p q +ℤ W s q)

  abbrev U2? : ℕ → ℕ → Bool
  U2? s p = every c.points (U? s p)

  abbrev U1? : ℕ → Bool
  U1? s = every c.points (U2? s)

  abbrev L? : ℕ → ℕ → Bool
  L? s q = implies (early (D (finish_of c s) q)).test (le_z (D (start_of c s) q) (pos (least_of c s) +ℤ D (finish_of c s) q))

  abbrev L1? : ℕ → Bool
  L1? s = every c.points (L? s)

  abbrev X? : ℕ → ℕ → Bool
  X? k s = implies (not (eqb k s)) (implies (early (W s (finish_of c k))).test (le_z (W s (start_of c k)) (pos (least_of c k) +ℤ W s (finish_of c k))))

  abbrev X1? : ℕ → Bool
  X1? k = every (span_count c) (X? k)

  abbrev R? : ℕ → ℕ → Bool
  R? s p = implies (released c s (W s p)).test (le_z (D p (start_of c s)) (W s p))

  abbrev R1? : ℕ → Bool
  R1? s = every c.points (R? s)

  abbrev ahead? : ℕ → Bool
  ahead? p = le_z (pos 0) (D 0 p)

  abbrev started? : ℕ → Bool
  started? s = implies (eqb (start_of c s) 0) (le_z (pos 0) (W s 0))

  abbrev waiting? : ℕ → Bool
  waiting? s = implies (not (eqb (start_of c s) 0)) (released c s (W s 0)).test

  abbrev table_tests : List Bool
  table_tests =
      every c.points late?
      ∷ every c.points early?
      ∷ every (span_count c) most?
      ∷ every (span_count c) least?
      ∷ every (span_count c) wait?
      ∷ every (tie_count c) tie?
      ∷ every c.points N1?
      ∷ every (span_count c) U1?
      ∷ every (span_count c) L1?
      ∷ every (span_count c) X1?
      ∷ every (span_count c) R1?
      ∷ every c.points ahead?
      ∷ every (span_count c) started?
      ∷ every (span_count c) waiting?
      ∷ []

  unfoldable pub winning? : Bool
  winning? = all_of table_tests

  rules_kept : T winning? → Rulewise c D W
  unfolding winning?
  rules_kept h = record {
    late = λ p _ lt. le_z_yes (at_each _ late? (nth table_tests h 0) p lt);
    early = λ p _ lt. le_z_yes (at_each _ early? (nth table_tests h 1) p lt);
    most = λ s lt. le_z_yes (at_each _ most? (nth table_tests h 2) s lt);
    least = λ s lt. le_z_yes (at_each _ least? (nth table_tests h 3) s lt);
    wait = λ s lt. le_z_yes (at_each _ wait? (nth table_tests h 4) s lt);
    tie = λ i lt. le_z_yes (at_each _ tie? (nth table_tests h 5) i lt);
    N = λ p q r lp lq lr. le_z_yes (at_each _ (N? p q) (at_each _ (N2? p) (at_each _ N1? (nth table_tests h 6) p lp) q lq) r lr);
    U = λ s p q ls lp lq. le_z_yes (at_each _ (U? s p) (at_each _ (U2? s) (at_each _ U1? (nth table_tests h 7) s ls) p lp) q lq);
    L = λ s q ls lq. le_if (early (D (finish_of c s) q)) _ _ (at_each _ (L? s) (at_each _ L1? (nth table_tests h 8) s ls) q lq);
    X = λ k s lk ls n. le_if (early (W s (finish_of c k))) _ _ (implies_out (not (eqb k s)) _ (at_each _ (X? k) (at_each _ X1? (nth table_tests h 9) k lk) s ls) (apart n));
    R = λ s p ls lp. le_if (released c s (W s p)) _ _ (at_each _ (R? s) (at_each _ R1? (nth table_tests h 10) s ls) p lp);
  }

  start_sound : T winning? → SoundAtStart c D W
  unfolding winning?
  start_sound h = record {
    ahead = λ p lt. le_z_yes (at_each _ ahead? (nth table_tests h 11) p lt);
    started = λ s lt e. le_z_yes (implies_out (eqb (start_of c s) 0) _ (at_each _ started? (nth table_tests h 12) s lt) (eq_test e));
    waiting = λ s lt n. (released c s (W s 0)).passed (implies_out (not (eqb (start_of c s) 0)) _ (at_each _ waiting? (nth table_tests h 13) s lt) (apart n));
  }

  pub good_by : T (well_made? c) → T winning? → WellMade c × Good c
  good_by m h = let made = well_made_is c m in (made, tables_win c D W made (closed_by c D W made (rules_kept h)) (start_sound h))

-- ---- a list passes

module _ (card : Card) (steps : List Step) where
  abbrev lawful_at? : ℕ → Bool
  lawful_at? i = lawful? card (known card steps i) (step_at steps i)

  abbrev last_loop? : Bool
  last_loop? = eqb (step_at steps (length steps - 1)).makes.source (step_at steps (length steps - 1)).makes.target

  abbrev last_negative? : Bool
  last_negative? = lt_z (step_at steps (length steps - 1)).makes.weight (pos 0)

  abbrev list_tests : List Bool
  list_tests = every (length steps) lawful_at? ∷ ltb 0 (length steps) ∷ last_loop? ∷ last_negative? ∷ []

  unfoldable pub passing? : Bool
  passing? = all_of list_tests

  pub passing_is : T passing? → Reads card steps passes
  unfolding passing?
  passing_is h = (
    λ i lt. lawful_is card (known card steps i) (step_at steps i) (at_each _ lawful_at? (nth list_tests h 0) i lt),
    record { some_step = ltb→lt _ _ (nth list_tests h 1); itself = eqb→eq _ _ (nth list_tests h 2); negative = lt_z_yes (nth list_tests h 3) },
  )

  pub bad_by : T (well_made? card) → T passing? → WellMade card × (Good card → ⊥)
  bad_by m h = let made = well_made_is card m in (made, lists_tell card made steps (passing_is h))
