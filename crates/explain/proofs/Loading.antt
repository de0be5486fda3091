-- The table of given edges: empty, then one edge after another.
use Rattle.std.proofs.Common.{◌≡◌, ℕ, suc, ◌+◌, ◌<◌, ◌≤◌, ◌≢◌, ◌⊎◌, List, length, get_or, ℤ, pos, negsuc, ◌≤ℤ◌, ◌<ℤ◌, Some, None, Option, sym, refl, ap, ◌∙◌, subst, ⊎_elim, arith, [], replicate}
use native.Mathlib.Decide.{ℕ_discrete}
use Rattle.std.proofs.lemmas.Int.{ints, by_lt_z}
use Rattle.std.proofs.lemmas.Bool.{cases_lt}
use Rattle.std.proofs.lemmas.Option.{none-some, same_Some}
use Rattle.std.proofs.lemmas.List.{get_or_default, get_or-replicate}
use Rattle.std.proofs.ByRecursion.{All-get_or}
use Rattle.rules.specs.declared.edges.Kind.TheVariants.{Plain}
use Rattle.rules.specs.declared.edges.Edge.{Edge}
use Rattle.rules.specs.Card.{Card, start_of, finish_of}
use Rattle.rules.specs.Edges.{edge, Given, given_late, given_early, given_most, given_least, given_lower, given_wait, given_tie}
use Rattle.rules.specs.Steps.{given, no_edge, edge_at}
use Rattle.steps.proofs.Numbers.{edge_some}
use Rattle.rules.proofs.Numbered.{all_given}
use Rattle.network.specs.declared.network.Network.{Network}
use Rattle.network.specs.Model.{model}
use Rattle.network.proofs.Made.{well_made, start_before, most_in, gap_in, apart}
use Rattle.explain.specs.declared.work.Best.{Best}
use Rattle.explain.specs.Columns.{Rows, Sized, with_entry, no_best, best, at, columns, head_of, way}
use Rattle.explain.specs.Working.{Stands, Covered, column_at, Loaded}
use Rattle.explain.proofs.Columns.{head_point, head_wait, point_column, wait_column, head_in, entry_is, entry_here, sized_entry}
use Rattle.explain.proofs.Joining.{way_point, way_wait, way_covered}
use Rattle.explain.proofs.Holding.{point_room, column_room, horizon_in, lowered, covered_still}

-- ---- an empty table

-- columns before k have weight 0 from the point that they lead to
pub record Begun (card : Card) (e : Rows) (k : ℕ) : Type 0 where
  pub size : Sized e
  pub self : (p x : ℕ) → p < card.points → x < k → p ≡ head_of card x → at e p x ≡ pos 0
  pub other : (p x : ℕ) → p < 32 → x < 40 → (x < k → p ≢ head_of card x) → at e p x ≡ pos (suc card.horizon)

pub begun_more : (card : Card) (e : Rows) (k : ℕ) (b : Best) → head_of card k < 32 → k < 40 → b.weight ≡ pos 0 → Begun card e k → Begun card (with_entry e (head_of card k) k b) (k + 1)
begun_more card e k b lh lk zero old = record {
  size = sized_entry e (head_of card k) k b old.size lh lk;
  self = λ p x lp l q. ⊎_elim
      (λ (r : (p ≡ head_of card k) × (x ≡ k) × (best e' p x ≡ b)). ap (λ z. z.weight) r.2 ∙ zero)
      (λ (r : best e' p x ≡ best e p x). elim (ℕ_discrete x k) [
        | yes i ↦ (λ j. at e' ((q ∙ ap (head_of card) i) j) (i j)) ∙ ap (λ z. z.weight) (entry_here e (head_of card k) k b old.size lh lk) ∙ zero
        | no ne ↦ let lt : x < k = omega (arith, l, ne) in ap (λ z. z.weight) r ∙ old.self p x lp lt q
      ])
      (entry_is e (head_of card k) k b old.size lh lk p x);
  other = λ p x lp lx apart. ⊎_elim
      (λ (r : (p ≡ head_of card k) × (x ≡ k) × (best e' p x ≡ b)). absurd (apart (omega (arith, r.1)) (r.0 ∙ ap (head_of card) (sym r.1))))
      (λ (r : best e' p x ≡ best e p x). ap (λ z. z.weight) r ∙ old.other p x lp lx (λ l. apart (omega (arith, l))))
      (entry_is e (head_of card k) k b old.size lh lk p x);
}
  where
    e' : Rows
    e' = with_entry e (head_of card k) k b

pub begun_none : (card : Card) (b : Best) → b.weight ≡ pos (suc card.horizon) → Begun card (replicate 32 (replicate 40 b)) 0
unfolding best
begun_none card b w = record {
  size = record { rows = refl; columns = λ p lp. ap length (get_or-replicate 32 p (replicate 40 b) [] lp) };
  self = λ p x lp l. absurd (omega arith);
  other = λ p x lp lx _. ap (λ r. (get_or r x no_best).weight) (get_or-replicate 32 p (replicate 40 b) [] lp) ∙ ap (λ z. z.weight) (get_or-replicate 40 x b no_best lx) ∙ w;
}

module _ (n : Network) where
  abbrev m : Card
  m = model n.content

  pub loaded_none : (e : Rows) → Begun m e (columns m) → Loaded m e 0
  loaded_none e b = record {
    size = b.size;
    top = λ p x lp lx. by_lt x (columns m)
        (λ l. elim (ℕ_discrete p (head_of m x)) [
          | yes q ↦ omega (arith, ints, b.self p x (subst (λ z. z < m.points) (sym q) (head_in m (well_made n) x l)) l q)
          | no ne ↦ omega (arith, ints, b.other p x lp lx (λ _. ne), horizon_in n)
        ])
        (λ ge. omega (arith, ints, b.other p x lp lx (λ l. absurd (omega arith)), horizon_in n));
    self = λ p x lp lx q. b.self p x lp lx q;
    high = λ p x lp lx. elim (ℕ_discrete p (head_of m x)) [
      | yes q ↦ omega (arith, ints, b.self p x lp lx q)
      | no ne ↦ omega (arith, ints, b.other p x (point_room n p lp) (column_room n x lx) (λ _. ne))
    ];
    stands = λ p x lp lx ne le. absurd (omega (arith, ints, b.other p x (point_room n p lp) (column_room n x lx) (λ _. ne), le));
    covers = λ i lt. absurd (omega arith);
  }
    where
      by_lt : (x k : ℕ) {A : Type 0} → (x < k → A) → (k ≤ x → A) → A
      by_lt x k f g = ⊎_elim f g (cases_lt x k)

  -- ---- given edges

  -- what a given edge of a column is
  pub record OfColumn (f : Edge) (x : ℕ) : Type 0 where
    pub source_in : f.source < m.points
    pub column_in : x < columns m
    pub is : way m f.source x f.weight ≡ f
    pub apart : f.source ≢ head_of m x
    pub low : negsuc 1439 ≤ℤ f.weight
    pub high : f.weight ≤ℤ pos 1440

  plainly : (p q : ℕ) (w : ℤ) → p < m.points → q < m.points → p ≢ q → negsuc 1439 ≤ℤ w → w ≤ℤ pos 1440 → OfColumn (edge Plain p q w) q
  plainly p q w lp lq ne low high = record {
    source_in = lp;
    column_in = point_column m q lq;
    is = way_point m p q w lq;
    apart = λ z. ne (z ∙ head_point m q lq);
    low = low;
    high = high;
  }

  pub of_column : {f : Edge} → Given m f → (x : ℕ) → column_at m f.kind f.target ≡ Some x → OfColumn f x
  of_column (given_late p a b) x q = subst (OfColumn _) (same_Some _ _ q) (plainly 0 p _ (omega arith) b (λ z. absurd (omega (arith, z))) (omega (arith, ints)) (omega (arith, ints, horizon_in n)))
  of_column (given_early p a b) x q = subst (OfColumn _) (same_Some _ _ q) (plainly p 0 _ b (omega arith) (λ z. absurd (omega (arith, z))) (omega (arith, ints)) (omega (arith, ints)))
  of_column (given_most s a) x q =
      subst (OfColumn _) (same_Some _ _ q)
      (plainly (start_of m s) (finish_of m s) _ ((well_made n).start_in s a) ((well_made n).finish_in s a) (λ z. absurd (omega (arith, z, start_before n s a))) (omega (arith, ints)) (omega (arith, ints, most_in n s a)))
  of_column (given_least s a) x q =
      subst (OfColumn _) (same_Some _ _ q)
      (plainly (finish_of m s) (start_of m s) _ ((well_made n).finish_in s a) ((well_made n).start_in s a) (λ z. absurd (omega (arith, z, start_before n s a)))
      (omega (arith, ints, most_in n s a, (well_made n).least_most s a)) (omega (arith, ints)))
  of_column (given_lower s a) x q = absurd (none-some x q)
  of_column (given_wait s a) x q =
      subst (OfColumn _) (same_Some _ _ q)
      (record {
        source_in = (well_made n).finish_in s a;
        column_in = wait_column m s a;
        is = way_wait m (finish_of m s) s _;
        apart = λ z. absurd (omega (arith, z ∙ head_wait m s, start_before n s a));
        low = omega (arith, ints, most_in n s a);
        high = omega (arith, ints);
      })
  of_column (given_tie i a) x q =
      subst (OfColumn _) (same_Some _ _ q) (plainly _ _ _ ((well_made n).from_in i a) ((well_made n).to_in i a) (apart n i a) (gap_in n i a).0 (gap_in n i a).1)

  -- an edge of no column is covered by any table
  pub no_column : {f : Edge} → Given m f → column_at m f.kind f.target ≡ None → (e : Rows) → Covered m e f
  no_column (given_late p a b) q e = absurd (none-some _ (sym q))
  no_column (given_early p a b) q e = absurd (none-some _ (sym q))
  no_column (given_most s a) q e = absurd (none-some _ (sym q))
  no_column (given_least s a) q e = absurd (none-some _ (sym q))
  no_column (given_lower s a) q e = tt
  no_column (given_wait s a) q e = absurd (none-some _ (sym q))
  no_column (given_tie i a) q e = absurd (none-some _ (sym q))

  pub given_at : (i : ℕ) → i < length (given m) → Given m (get_or (given m) i no_edge)
  given_at i lt = All-get_or (Given m) (given m) i no_edge lt (all_given m (well_made n))

  pub given_range : {f : Edge} → Given m f → (negsuc 1439 ≤ℤ f.weight) × (f.weight ≤ℤ pos 1440)
  given_range (given_late p a b) = (omega (arith, ints), omega (arith, ints, horizon_in n))
  given_range (given_early p a b) = (omega (arith, ints), omega (arith, ints))
  given_range (given_most s a) = (omega (arith, ints), omega (arith, ints, most_in n s a))
  given_range (given_least s a) = (omega (arith, ints, most_in n s a, (well_made n).least_most s a), omega (arith, ints))
  given_range (given_lower s a) = (omega (arith, ints), omega (arith, ints, most_in n s a, (well_made n).least_most s a))
  given_range (given_wait s a) = (omega (arith, ints, most_in n s a), omega (arith, ints))
  given_range (given_tie i a) = gap_in n i a

  -- an entry that is a known edge is a given one
  pub entry_given : (e : Rows) (k : ℕ) → Loaded m e k → (p x : ℕ) → p < m.points → x < columns m → p ≢ head_of m x → at e p x ≤ℤ pos m.horizon → Given m (way m p x (at e p x))
  entry_given e k load p x lp lx ne le =
      let s = load.stands p x lp lx ne le in
      subst (Given m) (s.1 no_edge) (given_at (best e p x).number s.0)

  pub near_loaded : (e : Rows) (k : ℕ) → Loaded m e k → (p x : ℕ) → p < m.points → x < columns m → (negsuc 1439 ≤ℤ at e p x) × (at e p x ≤ℤ pos 1441)
  near_loaded e k load p x lp lx = (
    elim (ℕ_discrete p (head_of m x)) [
      | yes q ↦ omega (arith, ints, load.self p x lp lx q)
      | no ne ↦ by_lt_z (pos m.horizon) (at e p x) (λ gt. omega (arith, ints, gt)) (λ le. (given_range (entry_given e k load p x lp lx ne le)).0)
    ],
    omega (arith, ints, load.high p x lp lx, horizon_in n),
  )

  -- ---- one given edge more

  module _ (e : Rows) (k : ℕ) (load : Loaded m e k) (lt : k < length (given m)) where
    abbrev f : Edge
    f = get_or (given m) k no_edge

    more : (t : Rows) → ((i : ℕ) → i < k → Covered m t (get_or (given m) i no_edge)) → Covered m t f → (i : ℕ) → i < suc k → Covered m t (get_or (given m) i no_edge)
    more t old new i li = elim (ℕ_discrete i k) [
      | yes q ↦ subst (λ j. Covered m t (get_or (given m) j no_edge)) (sym q) new
      | no ne ↦ old i (omega arith)
    ]

    pub loaded_same : Covered m e f → Loaded m e (suc k)
    loaded_same c = record { size = load.size; top = load.top; self = load.self; high = load.high; stands = load.stands; covers = more e load.covers c }

    module _ (x : ℕ) (col : column_at m f.kind f.target ≡ Some x) where
      pub of_it : OfColumn f x
      of_it = of_column (given_at k lt) x col

      -- the edge is covered exactly if the entry is no worse
      pub no_worse : (t : Rows) → at t f.source x ≤ℤ f.weight → Covered m t f
      no_worse t le = subst (Covered m t) of_it.is (way_covered m t f.source x f.weight of_it.column_in le)

      pub loaded_put : f.weight <ℤ at e f.source x → Loaded m (with_entry e f.source x (record { weight = f.weight; number = k })) (suc k)
      loaded_put less = record {
        size = sized_entry e p x b load.size lp lx;
        top = λ q y lq ly. ⊎_elim (λ r. omega (arith, ints, ap (λ w. w.weight) r.2, of_it.high)) (λ r. omega (arith, ints, ap (λ w. w.weight) r, load.top q y lq ly)) (put q y);
        self = λ q y lq ly z. ⊎_elim
            (λ r. absurd (of_it.apart (sym r.0 ∙ z ∙ ap (head_of m) r.1)))
            (λ r. ap (λ w. w.weight) r ∙ load.self q y lq ly z)
            (put q y);
        high = λ q y lq ly. omega (arith, ints, lowered m e p x b load.size lp lx (omega (arith, ints, less)) q y, load.high q y lq ly);
        stands = λ q y lq ly ne le. ⊎_elim
            (λ r. subst (λ w. Stands (given m) w.number (way m q y w.weight)) (sym r.2)
            (subst (λ z. Stands (given m) k (way m z y f.weight)) (sym r.0) (subst (λ z. Stands (given m) k (way m p z f.weight)) (sym r.1) here)))
            (λ r. subst (λ w. Stands (given m) w.number (way m q y w.weight)) (sym r) (load.stands q y lq ly ne (subst (λ w. w.weight ≤ℤ pos m.horizon) r le)))
            (put q y);
        covers = more t (λ i li. covered_still m e p x b load.size lp lx (omega (arith, ints, less)) (get_or (given m) i no_edge) (load.covers i li))
            (no_worse t (omega (arith, ints, ap (λ z. z.weight) (entry_here e p x b load.size lp lx))));
      }
        where
          p : ℕ
          p = f.source

          b : Best
          b = record { weight = f.weight; number = k }

          t : Rows
          t = with_entry e p x b

          lp : p < 32
          lp = point_room n p of_it.source_in

          lx : x < 40
          lx = column_room n x of_it.column_in

          put : (q y : ℕ) → ((q ≡ p) × (y ≡ x) × (best t q y ≡ b)) ⊎ (best t q y ≡ best e q y)
          put q y = entry_is e p x b load.size lp lx q y

          here : Stands (given m) k (way m p x f.weight)
          here = (lt, λ d. get_or_default (given m) k d no_edge lt ∙ sym of_it.is)

-- an edge that was asked for by its number
pub found_edge : (es : List Edge) (i : ℕ) (f : Edge) (r : Option Edge) → i < length es → r ≡ edge_at es i → r ≡ Some f → f ≡ get_or es i no_edge
found_edge es i f r lt q s = let a = edge_some es i (get_or es i no_edge) lt refl in cc

pub edge_there : (es : List Edge) (i : ℕ) (r : Option Edge) → i < length es → r ≡ edge_at es i → r ≡ None → {A : Type 0} → A
edge_there es i r lt q s = absurd (none-some _ (sym s ∙ q ∙ sym (edge_some es i (get_or es i no_edge) lt refl)))
