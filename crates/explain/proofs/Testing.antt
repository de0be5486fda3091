-- Given edges that make a negative loop with an edge back.
use Rattle.std.proofs.Common.{◌≡◌, ℕ, suc, ◌+◌, ◌-◌, ◌*◌, ◌<◌, ◌≢◌, List, [], ◌∷◌, ◌++◌, length, get_or, set, ℤ, pos, negsuc, ◌+ℤ◌, neg_ℤ, ◌≤ℤ◌, ◌<ℤ◌, Some, Ok, sym, ap, ◌∙◌, subst, arith}
use native.Mathlib.Decide.{ℕ_discrete}
use Rattle.std.proofs.lemmas.Int.{ints, by_lt_z}
use Rattle.std.proofs.lemmas.List.{get_or_default}
use Rattle.std.proofs.lemmas.Option.{same_Some}
use Rattle.rules.specs.declared.edges.Kind.TheVariants.{Plain}
use Rattle.rules.specs.declared.edges.Edge.{Edge}
use Rattle.rules.specs.declared.edges.Step.{Step}
use Rattle.rules.specs.Card.{Card}
use Rattle.rules.specs.Edges.{edge, Given, rule_n}
use Rattle.rules.specs.Steps.{given, no_edge, known, LawfulStep}
use Rattle.rules.proofs.Numbered.{numbered}
use Rattle.network.specs.declared.network.Network.{Network}
use Rattle.network.specs.Model.{model}
use Rattle.network.proofs.Made.{well_made}
use Rattle.steps.proofs.Numbers.{point_at, given_long}
use Rattle.explain.specs.declared.work.Best.{Best}
use Rattle.explain.specs.declared.search.Search.{Search}
use Rattle.explain.specs.Columns.{Rows, best, at, columns, head_of, way}
use Rattle.explain.specs.Explained.{Useful}
use Rattle.explain.specs.Working.{Stands, Written, Follows, Detoured, Covered, column_at, Loaded, Tested, Put, Back, Fair, Holds}
use Rattle.explain.proofs.Columns.{head_point, point_column, head_in, height_high}
use Rattle.explain.proofs.Joining.{way_point, same_way, column_back}
use Rattle.explain.proofs.Writing.{lawful_by, written_more, known_set, stands_new}
use Rattle.explain.proofs.Holding.{horizon_in, home_by, late_by}
use Rattle.explain.proofs.Loading.{OfColumn, of_column, given_at, near_loaded}

-- nothing is written yet
pub written_none : (card : Card) (steps : List Step) (k : ℕ) → k ≡ 0 → Written card steps k
written_none card steps k z = record { room = omega (arith, z); lawful = λ i lt. absurd (omega (arith, z)); useful = λ i lt. absurd (omega (arith, z)) }

pub known_none : (card : Card) (steps : List Step) (k : ℕ) → k ≡ 0 → known card steps k ≡ given card
unfolding known
known_none card steps k z = ap (known card steps) z

module _ (n : Network) (e : Rows) (load : Loaded (model n.content) e (length (given (model n.content)))) where
  abbrev m : Card
  m = model n.content

  loaded_covered : (f : Edge) → Given m f → Covered m e f
  loaded_covered f g = let a = numbered m g in subst (Covered m e) (a.2 no_edge) (load.covers a.0 a.1)

  pub home_loaded : (p : ℕ) → p < m.points → at e p 0 ≤ℤ pos 0
  home_loaded = home_by m e load.self loaded_covered

  late_loaded : (p : ℕ) → p < m.points → at e 0 p ≤ℤ pos m.horizon
  late_loaded = late_by m e load.self loaded_covered

  -- ---- by way of point 0

  abbrev pub detour_step : ℕ → ℕ → Step
  detour_step h p = record { letter = 78; left = 2 * (h - 1) + 1; right = 2 * (p - 1); makes = way m h p (pos 0 +ℤ pos m.horizon) }

  module _ (h p : ℕ) (lh : h < m.points) (lp : p < m.points) (ne : h ≢ p) (none : pos m.horizon <ℤ at e h p) where
    pub some_h : h ≢ 0
    some_h z = let a = ap (λ k. at e k p) z in absurd (omega (arith, ints, none, a, late_loaded p lp))

    pub some_p : p ≢ 0
    some_p z = let a = ap (at e h) z in absurd (omega (arith, ints, none, a, home_loaded h lh))

    home_stands : Stands (given m) (2 * (h - 1) + 1) (edge Plain h 0 (pos 0))
    home_stands = (
      omega (arith, given_long n, some_h),
      λ d. ap (λ i. get_or (given m) i d) (omega arith) ∙ point_at m (h - 1) 1 d (omega (arith, some_h)) (omega arith) ∙ ap (λ q. edge Plain q 0 (pos 0)) (omega (arith, some_h)),
    )

    away_stands : Stands (given m) (2 * (p - 1)) (edge Plain 0 p (pos m.horizon))
    away_stands = (
      omega (arith, given_long n, some_p),
      λ d. ap (λ i. get_or (given m) i d) (omega arith) ∙ point_at m (p - 1) 0 d (omega (arith, some_p)) (omega arith) ∙ ap (λ q. edge Plain 0 q (pos m.horizon)) (omega (arith, some_p)),
    )

    detour_lawful : LawfulStep m (given m) (detour_step h p)
    detour_lawful =
        subst (λ f. LawfulStep m (given m) (record { letter = 78; left = 2 * (h - 1) + 1; right = 2 * (p - 1); makes = f })) (sym (way_point m h p (pos 0 +ℤ pos m.horizon) lp))
        (lawful_by (rule_n h 0 p (pos 0) (pos m.horizon)) home_stands away_stands (omega (arith, ints), omega (arith, ints, horizon_in n)) (λ q. absurd (omega (arith, q))) (λ q. absurd (omega (arith, q))))

    detour_useful : Useful m (given m) (way m h p (pos 0 +ℤ pos m.horizon))
    detour_useful = record {
      apart = λ z. ne (z ∙ head_point m p lp);
      low = omega (arith, ints);
      high = omega (arith, ints);
      less = λ i lt k a t. let w = same_way m e (get_or (given m) i no_edge) h p (point_column m p lp) (load.covers i lt) k a t in omega (arith, ints, w, none);
    }

    -- it is written first of all
    pub detoured : (s t : Search) (step : Step) (b : Best) → s.network.now ≡ n → s.work.count ≡ 0 → step ≡ detour_step h p → Put s t step (Ok tt) → Follows s t
        → b.weight ≡ pos m.horizon → b.number ≡ length (given m) → Detoured s t h p (Ok b)
    detoured s t step b same z is (room, list, count, _) on bw bn =
        let k = s.work.count in
        let steps = s.list.now in
        let g = known_none m steps k z in
        let law = subst (λ es. LawfulStep m es (detour_step h p)) (sym g) detour_lawful in
        let worth = subst (λ es. Useful m es (way m h p (pos 0 +ℤ pos m.horizon))) (sym g) detour_useful in
        let at : t.list.now ≡ set steps k (detour_step h p) = list ∙ ap (set steps k) is in
        let es : known m t.list.now t.work.count ≡ given m ++ (way m h p (pos 0 +ℤ pos m.horizon) ∷ []) =
        (λ i. known m (at i) (count i)) ∙ known_set m steps k (detour_step h p) room ∙ ap (λ l. l ++ (way m h p (pos 0 +ℤ pos m.horizon) ∷ [])) g in
        let w-is : pos 0 +ℤ pos m.horizon ≡ b.weight = omega (arith, ints, bw) in
        let f-is : way m h p (pos 0 +ℤ pos m.horizon) ≡ edge Plain h p b.weight = way_point m h p (pos 0 +ℤ pos m.horizon) lp ∙ ap (edge Plain h p) w-is in
        let net : n ≡ t.network.now = sym (on.network ∙ same) in (
          subst (λ k. Written (model k.content) t.list.now t.work.count) net
              (subst (Written m t.list.now) (sym count) (subst (λ l. Written m l (suc k)) (sym at) (written_more m steps k (detour_step h p) room (written_none m steps k z) law worth))),
          on,
          omega (arith, count, z),
          subst (λ k. b.weight ≡ pos (model k.content).horizon) net bw,
          subst (λ k. Stands (known (model k.content) t.list.now t.work.count) b.number (edge Plain h p b.weight)) net
              (subst (λ l. Stands l b.number (edge Plain h p b.weight)) (sym es) (subst (λ f. Stands (given m ++ (way m h p (pos 0 +ℤ pos m.horizon) ∷ [])) b.number f) f-is (stands_new (given m) _ b.number bn))),
        )

  -- ---- the test of a given edge

  module _ (i : ℕ) (lt : i < length (given m)) (x : ℕ) (col : column_at m (get_or (given m) i no_edge).kind (get_or (given m) i no_edge).target ≡ Some x) where
    abbrev f : Edge
    f = get_or (given m) i no_edge

    pub it : OfColumn n f x
    it = of_column n (given_at n i lt) x col

    pub head_below : head_of m x < m.points
    head_below = head_in m (well_made n) x it.column_in

    pub near_back : (negsuc 1439 ≤ℤ at e (head_of m x) f.source) × (at e (head_of m x) f.source ≤ℤ pos 1441)
    near_back = near_loaded n e _ load (head_of m x) f.source head_below (point_column m f.source it.source_in)

    pub this_stands : Stands (given m) i (way m f.source x f.weight)
    this_stands = (lt, λ d. get_or_default (given m) i d no_edge lt ∙ sym it.is)

    pub back_given : (steps : List Step) (k : ℕ) → k ≡ 0 → (back this : Best) → back ≡ best e (head_of m x) f.source → back.weight ≤ℤ pos m.horizon → this ≡ record { weight = f.weight; number = i }
        → (back.weight +ℤ this.weight) <ℤ pos 0 → Back m (known m steps k) f.source x back this
    back_given steps k z back this is le this-is negative =
        let bw = ap (λ b. b.weight) is in
        let tw = ap (λ b. b.weight) this-is in
        let st = load.stands (head_of m x) f.source head_below (point_column m f.source it.source_in) (λ q. it.apart (sym (q ∙ head_point m f.source it.source_in))) (omega (arith, ints, le, bw)) in
        let pl = subst (λ g. Stands (given m) (best e (head_of m x) f.source).number g) (way_point m (head_of m x) f.source _ it.source_in) st in
        subst (λ es. Back m es f.source x back this) (sym (known_none m steps k z))
        (record {
          back_stands = subst (λ b. Stands (given m) b.number (edge Plain (head_of m x) f.source b.weight)) (sym is) pl;
          stands = subst (λ b. Stands (given m) b.number (way m f.source x b.weight)) (sym this-is) this_stands;
          back_near = (omega (arith, ints, bw, near_back.0), omega (arith, ints, bw, near_back.1));
          near = (omega (arith, ints, tw, it.low), omega (arith, ints, tw, it.high));
          negative = negative;
        })

    -- with the edge by way of point 0
    pub back_detour : (es : List Edge) (back this : Best) → Stands es back.number (edge Plain (head_of m x) f.source back.weight) → back.weight ≡ pos m.horizon → this ≡ record { weight = f.weight; number = i }
        → Stands es i (way m f.source x f.weight) → f.weight <ℤ neg_ℤ (pos m.horizon) → Back m es f.source x back this
    back_detour es back this st bw this-is here low =
        let tw = ap (λ b. b.weight) this-is in
        record {
          back_stands = st;
          stands = subst (λ b. Stands es b.number (way m f.source x b.weight)) (sym this-is) here;
          back_near = (omega (arith, ints, bw), omega (arith, ints, bw, horizon_in n));
          near = (omega (arith, ints, tw, it.low), omega (arith, ints, tw, it.high));
          negative = omega (arith, ints, bw, tw, low);
        }

    pub tested : neg_ℤ (pos m.horizon) ≤ℤ f.weight → pos 0 ≤ℤ (at e (head_of m x) f.source +ℤ f.weight) → Tested m e f
    tested low back y q = subst (λ z. (neg_ℤ (pos m.horizon) ≤ℤ f.weight) × (pos 0 ≤ℤ (at e (head_of m z) f.source +ℤ f.weight))) (same_Some _ _ (sym col ∙ q)) (low, back)

  -- ---- all are tested

  module _ (all : (i : ℕ) → i < length (given m) → Tested m e (get_or (given m) i no_edge)) where
    column_way : (x : ℕ) → x < columns m → (p : ℕ) (w : ℤ) → column_at m (way m p x w).kind (way m p x w).target ≡ Some x
    column_way x lx p w = column_back m x lx

    entry_tested : (p x : ℕ) → p < m.points → x < columns m → p ≢ head_of m x → at e p x ≤ℤ pos m.horizon
        → (neg_ℤ (pos m.horizon) ≤ℤ at e p x) × (pos 0 ≤ℤ (at e (head_of m x) p +ℤ at e p x))
    entry_tested p x lp lx ne le =
        let s = load.stands p x lp lx ne le in
        subst (Tested m e) (s.1 no_edge) (all (best e p x).number s.0) x (column_way x lx p (at e p x))

    fair_loaded : (p x : ℕ) → p < m.points → x < columns m → Fair m (given m) p x (best e p x)
    fair_loaded p x lp lx = record {
      self = load.self p x lp lx;
      high = load.high p x lp lx;
      low = elim (ℕ_discrete p (head_of m x)) [
        | yes q ↦ omega (arith, ints, load.self p x lp lx q)
        | no ne ↦ by_lt_z (pos m.horizon) (at e p x) (λ gt. omega (arith, ints, gt)) (λ le. (entry_tested p x lp lx ne le).0)
      ];
      first = λ z. elim (ℕ_discrete p (head_of m x)) [
        | yes q ↦ omega (arith, ints, load.self p x lp lx q)
        | no ne ↦ by_lt_z (pos m.horizon) (at e p x) (λ gt. omega (arith, ints, gt))
            (λ le. let a = ap (at e (head_of m x)) z in omega (arith, ints, (entry_tested p x lp lx ne le).1, a, home_loaded (head_of m x) (head_in m (well_made n) x lx)))
      ];
      stands = load.stands p x lp lx;
    }

    pub holds_first : (steps : List Step) (k : ℕ) → k ≡ 0 → Holds m (record { best = e; count = k }) steps
    holds_first steps k z = record {
      written = written_none m steps k z;
      size = load.size;
      fair = λ p x lp lx. subst (λ es. Fair m es p x (best e p x)) (sym (known_none m steps k z)) (fair_loaded p x lp lx);
      covers = subst (λ es. (i : ℕ) → i < length es → Covered m e (get_or es i no_edge)) (sym (known_none m steps k z)) load.covers;
      spare = omega (arith, z, height_high e load.size load.top);
    }
