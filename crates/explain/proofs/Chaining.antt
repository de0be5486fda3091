-- Steps by N and U, and how parts of the search follow one another.
use Rattle.std.proofs.Common.{◌≡◌, ℕ, ◌+◌, ◌<◌, Bool, true, false, ◌||◌, ◌≢◌, List, pos, ◌+ℤ◌, neg_ℤ, ◌<ℤ◌, Ok, Err, Result, MutBor, sym, refl, ◌∙◌, subst, arith}
use native.Mathlib.Decide.{ℕ_discrete}
use Rattle.std.proofs.lemmas.Int.{ints}
use Rattle.std.proofs.lemmas.Bool.{true≢false, false≢true}
use Rattle.rules.specs.declared.edges.Kind.TheVariants.{Plain}
use Rattle.rules.specs.declared.edges.Step.{Step}
use Rattle.rules.specs.Card.{Card}
use Rattle.rules.specs.Edges.{edge}
use Rattle.rules.specs.Steps.{known, LawfulStep}
use Rattle.network.specs.declared.network.Network.{Network}
use Rattle.network.specs.Model.{model}
use Rattle.explain.specs.declared.work.Work.{Work}
use Rattle.explain.specs.declared.work.Stop.{Stop}
use Rattle.explain.specs.declared.search.Search.{Search}
use Rattle.explain.specs.Columns.{Rows, best, at, columns, letter_of, way, height}
use Rattle.explain.specs.Working.{Stands, Holds, card_of, Ready, Follows, Went, Told, Present, Within, Idle}
use Rattle.explain.proofs.Columns.{head_point, point_column}
use Rattle.explain.proofs.Joining.{way_point, by_chain}
use Rattle.explain.proofs.Writing.{lawful_by, follows_then}
use Rattle.explain.proofs.Ending.{no_r, no_m, ended_after}
use Rattle.explain.proofs.Holding.{near_at, late}

-- ---- the step by way of q

abbrev pub chain_step : Card → Rows → ℕ → ℕ → ℕ → Step
chain_step card e p q x = record { letter = letter_of card x; left = (best e p q).number; right = (best e q x).number; makes = way card p x (at e p q +ℤ at e q x) }

module _ (n : Network) (work : Work) (steps : List Step) (h : Holds (model n.content) work steps) where
  abbrev m : Card
  m = model n.content

  abbrev e : Rows
  e = work.best

  -- a plain entry that is present
  pub plain_stands : (p q : ℕ) → p < m.points → q < m.points → Present m e p q → Stands (known m steps work.count) (best e p q).number (edge Plain p q (at e p q))
  plain_stands p q lp lq pres =
      subst (λ z. Stands (known m steps work.count) (best e p q).number z) (way_point m p q (at e p q) lq) ((h.fair p q lp (point_column m q lq)).stands pres.0 pres.1)

  pub chain_lawful : (p q x : ℕ) → p < m.points → q < m.points → x < columns m → Present m e p q → Present m e q x → LawfulStep m (known m steps work.count) (chain_step m e p q x)
  chain_lawful p q x lp lq lx a b =
      let u = near_at n work steps h p q lp (point_column m q lq) in
      let v = near_at n work steps h q x lq lx in
      lawful_by (by_chain m p q x (at e p q) (at e q x) lx) (plain_stands p q lp lq a) ((h.fair q x lq lx).stands b.0 b.1)
      (omega (arith, ints, u.0, v.0), omega (arith, ints, u.1, v.1)) (no_r m x lx) (no_m m x lx)

  -- where the sum is below -H, neither p nor q is point 0
  pub not_first : (p q x : ℕ) → p < m.points → q < m.points → x < columns m → (at e p q +ℤ at e q x) <ℤ neg_ℤ (pos m.horizon) → (p ≢ 0) × (q ≢ 0)
  not_first p q x lp lq lx below =
      let a = h.fair p q lp (point_column m q lq) in
      let b = h.fair q x lq lx in
      (λ z. absurd (omega (arith, ints, below, a.first z, b.low)), λ z. absurd (omega (arith, ints, below, b.first z, a.low)))

  pub first_present : (q : ℕ) → q < m.points → q ≢ 0 → Present m e 0 q
  first_present q lq nz = (λ z. nz (sym (z ∙ head_point m q lq)), late n work steps h q lq)

-- ---- one part after another

pub went_then : {s t u : Search} {P Q R : Type 0} {b b' : Bool} → Went s t P b → Went t u Q b' → (t.network.now ≡ s.network.now → t.work.best ≡ s.work.best → P → Q → R) → Went s u R (b || b')
went_then {s} {t} {u} {P} {Q} {R} {b} {b'} v w f = record {
  ready = w.ready;
  follows = follows_then v.follows w.follows;
  lower = λ p x. omega (arith, ints, v.lower p x, w.lower p x);
  less = either b b' v w;
  same = both b b' v w;
}
  where
    either : (b b' : Bool) → Went s t P b → Went t u Q b' → b || b' ≡ true → height u.work.best < height s.work.best
    either true true v w q = omega (arith, v.less refl, w.less refl)
    either true false v w q = subst (λ z. height z < height s.work.best) (sym (w.same refl).0) (v.less refl)
    either false true v w q = subst (λ z. height u.work.best < height z) (v.same refl).0 (w.less refl)
    either false false v w q = absurd (false≢true q)

    both : (b b' : Bool) → Went s t P b → Went t u Q b' → b || b' ≡ false → (u.work.best ≡ s.work.best) × R
    both true true v w q = absurd (true≢false q)
    both true false v w q = absurd (true≢false q)
    both false true v w q = absurd (true≢false q)
    both false false v w q = ((w.same refl).0 ∙ (v.same refl).0, f v.follows.network (v.same refl).0 (v.same refl).1 (w.same refl).1)

-- two parts: what the second tells of the table as it stood then, it tells of the first, if nothing was lowered
pub went_both : (P Q : Card → Rows → Type 0) {s t u : Search} {b b' : Bool} → Went s t (P (card_of s) s.work.best) b → Went t u (Q (card_of t) t.work.best) b'
    → Went s u (P (card_of s) s.work.best × Q (card_of s) s.work.best) (b || b')
went_both P Q {s} {t} {u} v w =
    went_then v w (λ net same p q. (p, subst (λ n. Q (model n.content) s.work.best) net (subst (Q (card_of t)) same q)))

pub told_as : (s t : Search) {P Q : Type 0} (r : Result Bool Stop) → Told s t P r → (P → Q) → Told s t Q r
told_as s t (Ok b) v f = record { ready = v.ready; follows = v.follows; lower = v.lower; less = v.less; same = λ q. ((v.same q).0, f (v.same q).1) }
told_as s t (Err stop) v f = v

-- a part whose second half cannot leave the table as it was
pub told_on : (s t u : Search) {P : Type 0} (Q R : Type 0) {b : Bool} (r : Result Bool Stop) → Went s t P b → Told t u Q r → (Q → ⊥) → Told s u R r
told_on s t u Q R (Err stop) v w never = ended_after v.follows w
told_on s t u {P} Q R {b} (Ok true) v w never = record {
  ready = w.ready;
  follows = follows_then v.follows w.follows;
  lower = λ p x. omega (arith, ints, v.lower p x, w.lower p x);
  less = λ _. first b v;
  same = λ q. absurd (true≢false q);
}
  where
    first : (b : Bool) → Went s t P b → height u.work.best < height s.work.best
    first true v = omega (arith, v.less refl, w.less refl)
    first false v = subst (λ z. height u.work.best < height z) (v.same refl).0 (w.less refl)
told_on s t u Q R (Ok false) v w never = absurd (never (w.same refl).1)

-- ---- a rule at every place

-- the rule is called at k, the next place
pub each_more : (calls : MutBor Search → ℕ → Result Bool Stop → MutBor Search → Type 0) {s : Search} (a k : ℕ) (before after : MutBor Search) {b b' : Bool}
    → Went s before.now (Within a k (Idle calls s)) b → calls before k (Ok b') after → Went before.now after.now (Unit {0}) b' → Went s after.now (Within a (k + 1) (Idle calls s)) (b || b')
each_more calls {s} a k before after {b} {b'} v called w =
    went_then v called_so (λ net same old now j low high. elim (ℕ_discrete j k) [
      | yes q ↦ subst (Idle calls s) (sym q) (record { before = before; after = after; ready = v.ready; follows = v.follows; table = same; answers = now })
      | no ne ↦ old j low (omega arith)
    ])
  where
    called_so : Went before.now after.now (calls before k (Ok false) after) b'
    called_so = record { ready = w.ready; follows = w.follows; lower = w.lower; less = w.less; same = λ q. ((w.same q).0, subst (λ z. calls before k (Ok z) after) q called) }

-- what the rule tells of each place, all of them tell
pub each_tells : (calls : MutBor Search → ℕ → Result Bool Stop → MutBor Search → Type 0) (P : Card → Rows → ℕ → Type 0) (s t : Search) (a n : ℕ) (r : Result Bool Stop)
    → Told s t (Within a n (Idle calls s)) r
    → ((before after : MutBor Search) (k : ℕ) → Ready before.now → Follows s before.now → k < n → calls before k (Ok false) after → Told before.now after.now (P (card_of before.now) before.now.work.best k) (Ok false))
    → Told s t (Within a n (P (card_of s) s.work.best)) r
each_tells calls P s t a n r v tells =
    told_as s t r v (λ idle k low high.
    let i = idle k low high in
    subst (λ c. P (model c.content) s.work.best k) i.follows.network (subst (λ e. P (card_of i.before.now) e k) i.table ((tells i.before i.after k i.ready i.follows high i.answers).same refl).1))
