-- A table that no rule lowers is closed and sound at the start, so the card is good.
use Rattle.std.proofs.Common.{◌≡◌, ℕ, ◌<◌, ◌≢◌, List, pos, ◌+ℤ◌, neg_ℤ, ◌≤ℤ◌, ◌<ℤ◌, sym, refl, ap, ◌∙◌, subst, arith}
use native.Mathlib.Decide.{ℕ_discrete}
use Rattle.std.proofs.lemmas.Int.{ints}
use Rattle.rules.specs.declared.edges.Edge.{Edge}
use Rattle.rules.specs.declared.edges.Step.{Step}
use Rattle.rules.specs.Card.{Card, WellMade, span_count, start_of, finish_of, least_of, most_of}
use Rattle.rules.specs.Edges.{Given, given_late, given_early, given_most, given_least, given_lower, given_wait, given_tie, Rule, rule_n, rule_u, rule_l, rule_x, rule_r, rule_m, rule_mw, rule_s, Released}
use Rattle.rules.specs.Game.{Good}
use Rattle.rules.specs.Tables.{Table, Above, Entry, SoundAtStart}
use Rattle.rules.proofs.Strategy.{tables_win}
use Rattle.network.specs.declared.network.Network.{Network}
use Rattle.network.specs.Model.{model}
use Rattle.network.proofs.Made.{well_made, start_before}
use Rattle.explain.specs.declared.work.Work.{Work}
use Rattle.explain.specs.Columns.{Rows, at, columns, wait_of, head_of}
use Rattle.explain.specs.Working.{Holds, Present, RuleN, Below, Rounded}
use Rattle.explain.proofs.Columns.{head_point, head_wait, point_column, wait_column, no_wait, wait_apart}
use Rattle.explain.proofs.Holding.{given_covered, home, late}

module _ (n : Network) (work : Work) (steps : List Step) (h : Holds (model n.content) work steps) (rounded : Rounded (model n.content) work.best)
    (by_first : Below (model n.content).points (λ p. Below (columns (model n.content)) (RuleN (model n.content) work.best p 0))) where
  abbrev m : Card
  m = model n.content

  abbrev e : Rows
  e = work.best

  abbrev D : Table
  D p q = at e p q

  abbrev W : Table
  W s p = at e p (wait_of m s)

  made : WellMade m
  made = well_made n

  chains : (p q x : ℕ) → p < m.points → q < m.points → x < columns m → RuleN m e p q x
  chains p q x lp lq lx = elim (ℕ_discrete q 0) [
    | yes z ↦ subst (λ k. RuleN m e p k x) (sym z) (by_first p lp x lx)
    | no nz ↦ rounded.1 q lq (omega arith) p lp x lx
  ]

  self : (p x : ℕ) → p < m.points → x < columns m → p ≡ head_of m x → at e p x ≡ pos 0
  self p x lp lx q = (h.fair p x lp lx).self q

  diagonal : (p : ℕ) → p < m.points → D p p ≡ pos 0
  diagonal p lp = self p p lp (point_column m p lp) (sym (head_point m p lp))

  -- every plain entry is a known edge, or leads from a point to itself
  present : (p q : ℕ) → p < m.points → q < m.points → p ≢ q → Present m e p q
  present p q lp lq apart = (
    λ z. apart (z ∙ head_point m q lq),
    elim (ℕ_discrete p 0) [
      | yes z ↦ subst (λ k. at e k q ≤ℤ pos m.horizon) (sym z) (late n work steps h q lq)
      | no np ↦ elim (ℕ_discrete q 0) [
        | yes z ↦ let y = ap (at e p) z in omega (arith, ints, y, home n work steps h p lp)
        | no nq ↦
            let l0 : 0 < m.points = omega arith in
            let a = home n work steps h p lp in
            let b = late n work steps h q lq in
            let r = by_first p lp q (point_column m q lq) (λ z. np (z ∙ head_point m 0 l0), omega (arith, ints, a)) (λ z. nq (sym (z ∙ head_point m q lq)), b) in
            omega (arith, ints, r, a, b)
      ]
    ],
  )

  N : (p q r : ℕ) → p < m.points → q < m.points → r < m.points → D p r ≤ℤ (D p q +ℤ D q r)
  N p q r lp lq lr = elim (ℕ_discrete p q) [
    | yes z ↦ let a = diagonal q lq in let b = ap (λ k. at e k q) z in let c = ap (λ k. at e k r) z in omega (arith, ints, a, b, c)
    | no np ↦ elim (ℕ_discrete q r) [
      | yes z ↦ let a = diagonal q lq in let b = ap (at e p) z in let c = ap (at e q) z in omega (arith, ints, a, b, c)
      | no nq ↦ chains p q r lp lq (point_column m r lr) (present p q lp lq np) (present q r lq lr nq)
    ]
  ]

  -- the wait from a finish, and from any other point
  wait_given : (s : ℕ) → s < span_count m → W s (finish_of m s) ≤ℤ neg_ℤ (pos (most_of m s))
  wait_given s ls = given_covered n work steps h _ (given_wait s ls)

  wait_finish : (s : ℕ) → s < span_count m → start_of m s ≢ finish_of m s → Present m e (finish_of m s) (wait_of m s)
  wait_finish s ls apart = (λ z. apart (sym (z ∙ head_wait m s)), omega (arith, ints, wait_given s ls))

  u_finish : (s p : ℕ) → s < span_count m → p < m.points → start_of m s ≢ finish_of m s → W s p ≤ℤ (D p (finish_of m s) +ℤ W s (finish_of m s))
  u_finish s p ls lp apart = elim (ℕ_discrete p (finish_of m s)) [
    | yes z ↦ let a = ap (λ k. at e k (wait_of m s)) z in let b = ap (λ k. at e k (finish_of m s)) z in omega (arith, ints, a, b, diagonal (finish_of m s) (made.finish_in s ls))
    | no np ↦ chains p (finish_of m s) (wait_of m s) lp (made.finish_in s ls) (wait_column m s ls) (present p (finish_of m s) lp (made.finish_in s ls) np) (wait_finish s ls apart)
  ]

  start_apart : (s : ℕ) → s < span_count m → start_of m s ≢ finish_of m s
  start_apart s ls z = absurd (omega (arith, z, start_before n s ls))

  plain_high : (p q : ℕ) → p < m.points → q < m.points → D p q ≤ℤ pos m.horizon
  plain_high p q lp lq = elim (ℕ_discrete p q) [
    | yes z ↦ let a = ap (λ k. at e k q) z in omega (arith, ints, a, diagonal q lq)
    | no ne ↦ (present p q lp lq ne).1
  ]

  wait_present : (s p : ℕ) → s < span_count m → p < m.points → p ≢ start_of m s → Present m e p (wait_of m s)
  wait_present s p ls lp apart = (
    λ z. apart (z ∙ head_wait m s),
    omega (arith, ints, u_finish s p ls lp (start_apart s ls), wait_given s ls, plain_high p (finish_of m s) lp (made.finish_in s ls)),
  )

  wait_self : (s : ℕ) → s < span_count m → W s (start_of m s) ≡ pos 0
  wait_self s ls = self (start_of m s) (wait_of m s) (made.start_in s ls) (wait_column m s ls) (sym (head_wait m s))

  most : (s : ℕ) → s < span_count m → D (start_of m s) (finish_of m s) ≤ℤ pos (most_of m s)
  most s ls = given_covered n work steps h _ (given_most s ls)

  U : (s p q : ℕ) → s < span_count m → p < m.points → q < m.points → W s p ≤ℤ (D p q +ℤ W s q)
  U s p q ls lp lq = elim (ℕ_discrete q (start_of m s)) [
    | yes z ↦
        let a = ap (at e p) z in
        let b = ap (λ k. at e k (wait_of m s)) z in
        omega (arith, ints, a, b, wait_self s ls, u_finish s p ls lp (start_apart s ls), N p (start_of m s) (finish_of m s) lp (made.start_in s ls) (made.finish_in s ls), most s ls, wait_given s ls)
    | no nq ↦ elim (ℕ_discrete p q) [
      | yes z ↦ let a = ap (λ k. at e k q) z in let b = ap (λ k. at e k (wait_of m s)) z in omega (arith, ints, a, b, diagonal q lq)
      | no np ↦ chains p q (wait_of m s) lp lq (wait_column m s ls) (present p q lp lq np) (wait_present s q ls lq nq)
    ]
  ]

  L : (s q : ℕ) → s < span_count m → q < m.points → D (finish_of m s) q <ℤ pos 0 → D (start_of m s) q ≤ℤ (pos (least_of m s) +ℤ D (finish_of m s) q)
  L s q ls lq early = elim (ℕ_discrete (finish_of m s) q) [
    | yes z ↦ let a = ap (λ k. at e k q) z in absurd (omega (arith, ints, a, diagonal q lq, early))
    | no ne ↦ (rounded.0 s ls).0 q (point_column m q lq) (no_wait m q s lq) (present (finish_of m s) q (made.finish_in s ls) lq ne) early
  ]

  X : (k s : ℕ) → k < span_count m → s < span_count m → k ≢ s → W s (finish_of m k) <ℤ pos 0 → W s (start_of m k) ≤ℤ (pos (least_of m k) +ℤ W s (finish_of m k))
  X k s lk ls ne early = elim (ℕ_discrete (finish_of m k) (start_of m s)) [
    | yes z ↦ let a = ap (λ y. at e y (wait_of m s)) z in absurd (omega (arith, ints, a, wait_self s ls, early))
    | no na ↦ (rounded.0 k lk).0 (wait_of m s) (wait_column m s ls) (wait_apart m s k (λ z. ne (sym z))) (wait_present s (finish_of m k) ls (made.finish_in k lk) na) early
  ]

  R : (s p : ℕ) → s < span_count m → p < m.points → Released m s (W s p) → D p (start_of m s) ≤ℤ W s p
  R s p ls lp released = elim (ℕ_discrete p (start_of m s)) [
    | yes z ↦
        let a = ap (λ k. at e k (start_of m s)) z in
        let b = ap (λ k. at e k (wait_of m s)) z in
        omega (arith, ints, a, b, diagonal (start_of m s) (made.start_in s ls), wait_self s ls)
    | no ne ↦ (rounded.0 s ls).1 p lp (wait_present s p ls lp ne) released
  ]

  given_above : {f : Edge} → Given m f → Above D W f
  given_above (given_late p a b) = given_covered n work steps h _ (given_late p a b)
  given_above (given_early p a b) = given_covered n work steps h _ (given_early p a b)
  given_above (given_most s a) = given_covered n work steps h _ (given_most s a)
  given_above (given_least s a) = given_covered n work steps h _ (given_least s a)
  given_above (given_lower s a) = tt
  given_above (given_wait s a) = given_covered n work steps h _ (given_wait s a)
  given_above (given_tie i a) = given_covered n work steps h _ (given_tie i a)

  made_above : {letter : ℕ} {f g k : Edge} → Rule m letter f g k → Entry m D W f → Entry m D W g → Above D W k
  made_above (rule_n p q r u v) (lp, lq, a) (lq', lr, b) = omega (arith, ints, N p q r lp lq lr, a, b)
  made_above (rule_u s p q r u v) (lp, lq, a) (ls, t, lq', b) = omega (arith, ints, U s p q ls lp lq, a, b)
  made_above (rule_l s p q r u v early) (ls, t, f, a) (lq, lr, b) =
      let fq = ap (λ k. at e k r) f in
      let tp = ap (λ k. at e k r) t in
      omega (arith, ints, L s r ls lr (omega (arith, ints, early, b, fq)), a, b, fq, tp)
  made_above (rule_x k s p q r u v ne early) (lk, t, f, a) (ls, t', lq, b) =
      let fq = ap (λ y. at e y (wait_of m s)) f in
      let tp = ap (λ y. at e y (wait_of m s)) t in
      omega (arith, ints, X k s lk ls ne (omega (arith, ints, early, b, fq)), a, b, fq, tp)
  made_above (rule_r s p q v released) (ls, t, lp, b) _ =
      let tq = ap (at e p) t in
      omega (arith, ints, R s p ls lp (omega (arith, ints, released, b)), b, tq)
  made_above (rule_m p q v) _ _ = tt
  made_above (rule_mw s p q v) _ _ = tt
  made_above (rule_s p q r u v) _ _ = tt

  sound : SoundAtStart m D W
  sound = record {
    ahead = λ p lp. (h.fair 0 p made.some_point (point_column m p lp)).first refl;
    started = λ s ls _. (h.fair 0 (wait_of m s) made.some_point (wait_column m s ls)).first refl;
    waiting = λ s ls _. let z = (h.fair 0 (wait_of m s) made.some_point (wait_column m s ls)).first refl in omega (arith, ints, z);
  }

  pub good : Good m
  good = tables_win m D W made (record { given = given_above; made = made_above }) sound
