-- What a table that holds tells, and that it holds again with a better edge.
use Rattle.std.proofs.Common.{◌≡◌, ℕ, zero, suc, ◌+◌, ◌<◌, ◌≤◌, true, false, ◌≢◌, List, [], ◌∷◌, ◌++◌, length, get_or, set, ℤ, pos, negsuc, ◌+ℤ◌, neg_ℤ, ◌≤ℤ◌, ◌<ℤ◌, sym, refl, ap, ◌∙◌, subst, ⊎_elim, arith, length-append}
use native.Mathlib.Decide.{ℕ_discrete}
use Rattle.std.proofs.lemmas.Int.{ints}
use Rattle.std.proofs.lemmas.List.{get_or_append_left, get_or_push}
use Rattle.std.proofs.lemmas.Bool.{true≢false, false≢true}
use Rattle.rules.specs.declared.edges.Kind.{Kind}
use Rattle.rules.specs.declared.edges.Kind.TheVariants.{Plain, Lower, Wait, AllMost}
use Rattle.rules.specs.declared.edges.Edge.{Edge}
use Rattle.rules.specs.declared.edges.Step.{Step}
use Rattle.rules.specs.Card.{Card}
use Rattle.rules.specs.Edges.{edge, Given, given_late, given_early}
use Rattle.rules.specs.Steps.{given, no_edge, known, LawfulStep}
use Rattle.rules.proofs.Numbered.{numbered}
use Rattle.network.specs.declared.network.Network.{Network}
use Rattle.network.specs.Model.{model}
use Rattle.network.proofs.Parts.{span_count_is}
use Rattle.network.proofs.Made.{well_made}
use Rattle.steps.proofs.Numbers.{given_long}
use Rattle.steps.proofs.Reading.{known_length}
use Rattle.explain.specs.declared.work.Best.{Best}
use Rattle.explain.specs.declared.work.Work.{Work}
use Rattle.explain.specs.Columns.{Rows, Sized, with_entry, best, at, columns, wait_of, head_of, way, height}
use Rattle.explain.specs.Explained.{Useful}
use Rattle.explain.specs.declared.search.Search.{Search}
use Rattle.explain.specs.Working.{Stands, Written, Fair, CoveredAt, Covered, Covers, Holds, card_of, known_to, Ready, Went, Follows, Back}
use Rattle.explain.proofs.Columns.{head_point, point_column, head_in, entry_is, entry_here, sized_entry, height_less}
use Rattle.explain.proofs.Joining.{way_point, same_way, way_covered}
use Rattle.explain.proofs.Writing.{stands_more, stands_new, written_more, known_set, follows_none}

-- ---- given edges stay known

pub given_stands : (card : Card) (steps : List Step) (n i : ℕ) (e : Edge) → Stands (given card) i e → Stands (known card steps n) i e
unfolding known
given_stands card steps zero i e s = s
given_stands card steps (suc n) i e s = stands_more (known card steps n) _ e i (given_stands card steps n i e s)

-- ---- limits

module _ (n : Network) where
  abbrev the_card : Card
  the_card = model n.content

  pub point_room : (p : ℕ) → p < the_card.points → p < 32
  point_room p h = omega (arith, n.counts.1.1)

  pub column_room : (x : ℕ) → x < columns the_card → x < 40
  unfolding columns
  column_room x h = omega (arith, n.counts.1.1, n.counts.2.0, span_count_is n)

  pub given_few : length (given the_card) ≤ 191
  given_few = omega (arith, given_long n, n.counts.1.1, n.counts.2.0, n.counts.2.1)

  pub horizon_in : the_card.horizon ≤ 1440
  horizon_in = n.counts.0.1

-- ---- a table that covers the given edges

module _ (card : Card) (e : Rows) (self : (p x : ℕ) → p < card.points → x < columns card → p ≡ head_of card x → at e p x ≡ pos 0) (covered : (f : Edge) → Given card f → Covered card e f) where
  pub home_by : (p : ℕ) → p < card.points → at e p 0 ≤ℤ pos 0
  home_by p lp = elim (ℕ_discrete p 0) [
    | yes z ↦ omega (arith, ints, self p 0 lp (point_column card 0 (omega arith)) (z ∙ sym (head_point card 0 (omega arith))))
    | no nz ↦ covered _ (given_early p (omega arith) lp)
  ]

  pub late_by : (p : ℕ) → p < card.points → at e 0 p ≤ℤ pos card.horizon
  late_by p lp = elim (ℕ_discrete p 0) [
    | yes z ↦ omega (arith, ints, self 0 p (omega arith) (point_column card p lp) (sym (head_point card p lp ∙ z)))
    | no nz ↦ covered _ (given_late p (omega arith) lp)
  ]

-- ---- a table that holds

module _ (n : Network) (work : Work) (steps : List Step) (h : Holds (model n.content) work steps) where
  abbrev card : Card
  card = model n.content

  abbrev e : Rows
  e = work.best

  pub near_at : (p x : ℕ) → p < card.points → x < columns card → (negsuc 1439 ≤ℤ at e p x) × (at e p x ≤ℤ pos 1441)
  near_at p x lp lx = let f = h.fair p x lp lx in (omega (arith, ints, f.low, horizon_in n), omega (arith, ints, f.high, horizon_in n))

  pub few : work.count < 6_637_824
  few = omega (arith, h.spare)

  -- given edges are covered
  pub given_covered : (f : Edge) → Given card f → Covered card e f
  given_covered f g =
      let a = numbered card g in
      let s = given_stands card steps work.count a.0 f (a.1, a.2) in
      subst (Covered card e) (s.1 no_edge) (h.covers a.0 s.0)

  pub home : (p : ℕ) → p < card.points → at e p 0 ≤ℤ pos 0
  home = home_by card e (λ p x lp lx. (h.fair p x lp lx).self) given_covered

  pub late : (p : ℕ) → p < card.points → at e 0 p ≤ℤ pos card.horizon
  late = late_by card e (λ p x lp lx. (h.fair p x lp lx).self) given_covered

-- a table whose entry at one place is lowered covers what it covered
module _ (card : Card) (t : Rows) (p x : ℕ) (b : Best) (size : Sized t) (lp : p < 32) (lx : x < 40) (lower : b.weight ≤ℤ at t p x) where
  pub lowered : (q y : ℕ) → at (with_entry t p x b) q y ≤ℤ at t q y
  lowered q y =
      ⊎_elim
      (λ r. let w = ap (λ z. z.weight) r.2 in let here : at t q y ≡ at t p x = λ i. at t (r.0 i) (r.1 i) in omega (arith, ints, w, here))
      (λ r. omega (arith, ints, ap (λ z. z.weight) r))
      (entry_is t p x b size lp lx q y)

  covered_kind : (kind : Kind) (q y : ℕ) (w : ℤ) → CoveredAt card t kind q y w → CoveredAt card (with_entry t p x b) kind q y w
  covered_kind Plain q y w c = omega (arith, ints, c, lowered q y)
  covered_kind (Lower s) q y w c = tt
  covered_kind (Wait s) q y w c = omega (arith, ints, c, lowered q (wait_of card s))
  covered_kind AllMost q y w c = c

  pub covered_still : (f : Edge) → Covered card t f → Covered card (with_entry t p x b) f
  covered_still f c = covered_kind f.kind f.source f.target f.weight c

pub fair_more : (card : Card) (es : List Edge) (f : Edge) (p x : ℕ) (b : Best) → Fair card es p x b → Fair card (es ++ (f ∷ [])) p x b
fair_more card es f p x b h = record {
  self = h.self;
  high = h.high;
  low = h.low;
  first = h.first;
  stands = λ ne le. stands_more es f (way card p x b.weight) b.number (h.stands ne le);
}

-- ---- nothing done

pub went_none : (s : Search) → Ready s → {R : Type 0} → R → Went s s R false
went_none s h r = record { ready = h; follows = follows_none s; lower = λ p x. omega (arith, ints); less = λ q. absurd (false≢true q); same = λ _. (refl, r) }

-- ---- a better edge

-- a step to an edge from p to column x that is worth making
pub record Better (s : Search) (p x : ℕ) (step : Step) : Type 0 where
  pub ready : Ready s
  pub point_in : p < (card_of s).points
  pub column_in : x < columns (card_of s)
  pub is : step.makes ≡ way (card_of s) p x step.makes.weight
  pub lawful : LawfulStep (card_of s) (known_to s) step
  pub less : step.makes.weight <ℤ at s.work.best p x
  pub apart : p ≢ head_of (card_of s) x
  pub low : neg_ℤ (pos (card_of s).horizon) ≤ℤ step.makes.weight

-- it is written, and in the table
pub record Next (s : Search) (p x : ℕ) (step : Step) (t : Search) : Type 0 where
  pub follows : Follows s t
  pub room : s.work.count < length s.list.now
  pub list : t.list.now ≡ set s.list.now s.work.count step
  pub count : t.work.count ≡ suc s.work.count
  pub table : t.work.best ≡ with_entry s.work.best p x (record { weight = step.makes.weight; number = length (given (card_of s)) + s.work.count })

module _ {σ : Search} {p x : ℕ} {s : Step} (it : Better σ p x s) (room : σ.work.count < length σ.list.now) where
  abbrev n : Network
  n = σ.network.now

  abbrev work : Work
  work = σ.work

  abbrev steps : List Step
  steps = σ.list.now

  abbrev h : Holds (model n.content) work steps
  h = it.ready

  abbrev lp : p < (model n.content).points
  lp = it.point_in

  abbrev lx : x < columns (model n.content)
  lx = it.column_in

  abbrev m : Card
  m = model n.content

  abbrev es : List Edge
  es = known m steps work.count

  abbrev v : ℤ
  v = s.makes.weight

  abbrev b : Best
  b = record { weight = v; number = length (given m) + work.count }

  abbrev e' : Rows
  e' = with_entry work.best p x b

  abbrev made : Edge
  made = way m p x v

  high : v ≤ℤ pos m.horizon
  high = omega (arith, ints, it.less, (h.fair p x lp lx).high)

  useful_made : Useful m es made
  useful_made = record {
    apart = it.apart;
    low = it.low;
    high = high;
    less = λ i lt k a t. let w = same_way m work.best (get_or es i no_edge) p x lx (h.covers i lt) k a t in omega (arith, ints, w, it.less);
  }

  pub written_next : Written m (set steps work.count s) (suc work.count)
  written_next = written_more m steps work.count s room h.written it.lawful (subst (Useful m es) (sym it.is) useful_made)

  known_next : known m (set steps work.count s) (suc work.count) ≡ es ++ (made ∷ [])
  known_next = known_set m steps work.count s room ∙ ap (λ z. es ++ (z ∷ [])) it.is

  number_is : length (given m) + work.count ≡ length es
  number_is = sym (known_length m steps work.count)

  pub stands_made : Stands (known m (set steps work.count s) (suc work.count)) b.number made
  stands_made = subst (λ z. Stands z b.number made) (sym known_next) (stands_new es made b.number number_is)

  -- the entry that leads back is as it was
  back_same : best e' (head_of m x) p ≡ best work.best (head_of m x) p
  back_same =
      ⊎_elim (λ r. absurd (it.apart (sym r.0))) (λ r. r)
      (entry_is work.best p x b h.size (point_room n p lp) (column_room n x lx) (head_of m x) p)

  pub back_near : (negsuc 1439 ≤ℤ at e' (head_of m x) p) × (at e' (head_of m x) p ≤ℤ pos 1441)
  back_near = subst (λ z. (negsuc 1439 ≤ℤ z.weight) × (z.weight ≤ℤ pos 1441)) (sym back_same) (near_at n work steps h (head_of m x) p (head_in m (well_made n) x lx) (point_column m p lp))

  pub back_loop : (at e' (head_of m x) p +ℤ v) <ℤ pos 0 → Back m (known m (set steps work.count s) (suc work.count)) p x (best e' (head_of m x) p) b
  back_loop negative =
      let f = h.fair (head_of m x) p (head_in m (well_made n) x lx) (point_column m p lp) in
      let w = ap (λ z. z.weight) back_same in
      let st = f.stands (λ q. it.apart (sym (q ∙ head_point m p lp))) (omega (arith, ints, negative, it.low, w)) in
      let old = subst (λ z. Stands es (best work.best (head_of m x) p).number z) (way_point m (head_of m x) p _ lp) st in
      record {
        back_stands = subst (λ z. Stands (known m (set steps work.count s) (suc work.count)) z.number (edge Plain (head_of m x) p z.weight)) (sym back_same)
            (subst (λ z. Stands z (best work.best (head_of m x) p).number (edge Plain (head_of m x) p (at work.best (head_of m x) p))) (sym known_next) (stands_more es made _ _ old));
        stands = stands_made;
        back_near = (omega (arith, ints, back_near.0), omega (arith, ints, back_near.1));
        near = (omega (arith, ints, it.low, horizon_in n), omega (arith, ints, high, horizon_in n));
        negative = negative;
      }

  fair_new : pos 0 ≤ℤ (at e' (head_of m x) p +ℤ v) → Fair m (es ++ (made ∷ [])) p x b
  fair_new back = record {
    self = λ q. absurd (it.apart q);
    high = omega (arith, ints, high);
    low = it.low;
    first = λ z. let w = ap (λ y. y.weight) back_same in let z0 = ap (at work.best (head_of m x)) z in omega (arith, ints, back, w, z0, home n work steps h (head_of m x) (head_in m (well_made n) x lx));
    stands = λ ne le. stands_new es made b.number number_is;
  }

  pub holds_next : pos 0 ≤ℤ (at e' (head_of m x) p +ℤ v) → Holds m (record { best = e'; count = suc work.count }) (set steps work.count s)
  unfolding best
  holds_next back = record {
    written = written_next;
    size = sized_entry work.best p x b h.size (point_room n p lp) (column_room n x lx);
    fair = λ q y lq ly.
        subst (λ z. Fair m z q y (best e' q y)) (sym known_next)
        (⊎_elim
        (λ r. subst (λ z. Fair m (es ++ (made ∷ [])) q y z) (sym r.2) (subst (λ z. Fair m (es ++ (made ∷ [])) z y b) (sym r.0) (subst (λ z. Fair m (es ++ (made ∷ [])) p z b) (sym r.1) (fair_new back))))
        (λ r. subst (λ z. Fair m (es ++ (made ∷ [])) q y z) (sym r) (fair_more m es made q y _ (h.fair q y lq ly)))
        (entry_is work.best p x b h.size (point_room n p lp) (column_room n x lx) q y));
    covers = subst (Covers m e') (sym known_next) covers_next;
    spare = omega (arith, h.spare, height_less work.best p x b h.size (point_room n p lp) (column_room n x lx) (omega (arith, ints, it.low, horizon_in n)) it.less);
  }
    where
      covers_next : Covers m e' (es ++ (made ∷ []))
      covers_next i lt = elim (ℕ_discrete i (length es)) [
        | yes q ↦ subst (Covered m e') (sym (get_or_push es made no_edge i (sym q))) (way_covered m e' p x v lx (omega (arith, ints, ap (λ z. z.weight) (entry_here work.best p x b h.size (point_room n p lp) (column_room n x lx)))))
        | no ne ↦ let lt' : i < length es = omega (arith, length-append es (made ∷ [])) in
            subst (Covered m e') (sym (get_or_append_left es (made ∷ []) no_edge i lt')) (covered_still m work.best p x b h.size (point_room n p lp) (column_room n x lx) (omega (arith, ints, it.less)) (get_or es i no_edge) (h.covers i lt'))
      ]

  pub height_next : height e' < height work.best
  height_next = height_less work.best p x b h.size (point_room n p lp) (column_room n x lx) (omega (arith, ints, it.low, horizon_in n)) it.less

  next_lower : (q y : ℕ) → at e' q y ≤ℤ at work.best q y
  unfolding best
  next_lower q y = lowered m work.best p x b h.size (point_room n p lp) (column_room n x lx) (omega (arith, ints, it.less)) q y

  at_made : at e' p x ≡ v
  unfolding best
  at_made = ap (λ z. z.weight) (entry_here work.best p x b h.size (point_room n p lp) (column_room n x lx))

  -- the same of the search afterwards
  module _ {τ : Search} (z : Next σ p x s τ) where
    next_is : τ.work ≡ record { best = e'; count = suc work.count }
    next_is = λ i. record { best = z.table i; count = z.count i }

    pub next_written : Written (card_of τ) τ.list.now τ.work.count
    next_written =
        subst (λ k. Written (model k.content) τ.list.now τ.work.count) (sym z.follows.network)
        (subst (λ l. Written m l τ.work.count) (sym z.list) (subst (Written m (set steps work.count s)) (sym z.count) written_next))

    pub next_back_near : (negsuc 1439 ≤ℤ at τ.work.best (head_of m x) p) × (at τ.work.best (head_of m x) p ≤ℤ pos 1441)
    next_back_near = subst (λ t. (negsuc 1439 ≤ℤ at t (head_of m x) p) × (at t (head_of m x) p ≤ℤ pos 1441)) (sym z.table) back_near

    pub next_loop : (back this : Best) → back ≡ best τ.work.best (head_of m x) p → this ≡ b → (back.weight +ℤ v) <ℤ pos 0
        → Back (card_of τ) (known_to τ) p x back this
    next_loop back this is-back is-this negative =
        let to : back ≡ best e' (head_of m x) p = is-back ∙ ap (λ t. best t (head_of m x) p) z.table in
        subst (λ k. Back (model k.content) (known (model k.content) τ.list.now τ.work.count) p x back this) (sym z.follows.network)
        (subst (λ l. Back m (known m l τ.work.count) p x back this) (sym z.list)
        (subst (λ k. Back m (known m (set steps work.count s) k) p x back this) (sym z.count)
        (subst (λ z. Back m (known m (set steps work.count s) (suc work.count)) p x z this) (sym to)
        (subst (λ z. Back m (known m (set steps work.count s) (suc work.count)) p x (best e' (head_of m x) p) z) (sym is-this)
        (back_loop (subst (λ z. (z.weight +ℤ v) <ℤ pos 0) to negative))))))

    pub next_went : {R : Type 0} → pos 0 ≤ℤ (at τ.work.best (head_of m x) p +ℤ v) → Went σ τ R true
    next_went back = record {
      ready = subst (λ k. Holds (model k.content) τ.work τ.list.now) (sym z.follows.network)
          (subst (λ l. Holds m τ.work l) (sym z.list)
          (subst (λ w. Holds m w (set steps work.count s)) (sym next_is) (holds_next (subst (λ t. pos 0 ≤ℤ (at t (head_of m x) p +ℤ v)) z.table back))));
      follows = z.follows;
      lower = λ q y. subst (λ t. at t q y ≤ℤ at work.best q y) (sym z.table) (next_lower q y);
      less = λ _. subst (λ t. height t < height work.best) (sym z.table) height_next;
      same = λ q. absurd (true≢false q);
    }

    pub next_taken : at τ.work.best p x ≤ℤ v
    next_taken = omega (arith, ints, ap (λ t. at t p x) z.table, at_made)
