use Rattle.std.proofs.Common.{◌≡◌, ℕ, ◌+◌, ◌*◌, ◌^◌, ◌<◌, ◌≤◌, List, [], length, get_or, sym, refl, ap, ◌∙◌, subst, arith, pow_pos, pow_mono, pow-add, rules}
use Rattle.std.proofs.lemmas.List.{get_or_append_left, get_or-take}
use Rattle.walks.specs.Tables.{cell, Small}
use Rattle.walks.specs.Walks.{Best}
use Rattle.walks.proofs.Tables.{whole_beyond}
use Rattle.walks.proofs.Walking.{Laws, best_same, best_one, best_chain, best_size, edges_fit}
use Rattle.walks.proofs.closure.best_walks.Given as given
use Rattle.walks.proofs.closure.best_walks.Goals as goal

laws_of : (g : given.Over) → Laws g.W.Weight.joined g.W.Weight.chosen
laws_of g = record {
  join_assoc = g.met.W.Weight.join_assoc;
  choose_assoc = g.met.W.Weight.choose_assoc;
  choose_comm = g.met.W.Weight.choose_comm;
  choose_idem = g.met.W.Weight.choose_idem;
  left_distrib = g.met.W.Weight.left_distrib;
  right_distrib = g.met.W.Weight.right_distrib;
}

pow_twice : (d : ℕ) → 2 ^ (d + 1) ≡ 2 ^ d + 2 ^ d
pow_twice d = omega (arith, pow-add 2 d 1)

pub loop-d-init : goal.loop-d-init
loop-d-init g c =
    let m = g.W.Weight in
    let edges = c.args.edges.now in (
      λ p q h j.
          best_same (laws_of g) _ _ refl
          (ap m.meaning (c.copy.ensures.here p q (omega arith) (omega arith) ∙ ap (λ row. get_or row q m.absent) (get_or-take c.args.n edges p [] h)))
          (best_one (laws_of g) _ _ p q),
      λ p q h. refl,
      λ p q h. refl,
    )

sized : (g : given.Over) (rows out : List (List g.row.W.Denot)) (n k : ℕ)
    → ((p q : ℕ) → p < n → q < n → Best g.W.Weight.joined g.W.Weight.chosen (cell g.W.Weight.meaning g.W.Weight.absent rows) n k p q (cell g.W.Weight.meaning g.W.Weight.absent out p q))
    → (m : ℕ) → Small g.W.Weight.size (cell g.W.Weight.meaning g.W.Weight.absent rows) n m
    → Small g.W.Weight.size (cell g.W.Weight.meaning g.W.Weight.absent out) n (k * m)
sized g rows out n k best m small p q i j =
    best_size g.W.Weight.size g.met.W.Weight.join_size g.met.W.Weight.choose_size small (λ r h. small r q h j) i (best p q i j)

pub double-requires : goal.double-requires
double-requires g c =
    let d = 2 ^ c.loop-d._d in
    let small = sized g _ _ _ d c.loop-d.invariant.0 _ c.requires.small in (
      search rules,
      (
        (omega arith, omega arith),
        λ p r q h i j. edges_fit _ _ d d g.W.Weight.limit (2 ^ c.args.doublings) (small p r (omega arith) (omega arith)) (small r q (omega arith) (omega arith))
            (subst (λ x. x ≤ 2 ^ c.args.doublings) (pow_twice c.loop-d._d) (pow_mono (omega arith))),
      ),
    )

pub loop-d-preserved : goal.loop-d-preserved
loop-d-preserved g c =
    let m = g.W.Weight in
    let d = c.loop-d._d in
    let n : length c.loop-d.out ≡ c.args.n = omega arith in (
      λ p q h j.
          best_same (laws_of g) _ _ (pow_twice d) (ap m.meaning (c.copy-in-loop-d.ensures.here p q (omega arith) (omega arith)) ∙ rw (← n) (c.double.ensures.here p q (omega arith) (omega arith)))
          (best_chain (laws_of g) _ _ {i = 2 ^ d} {j = 2 ^ d} {k = 2 ^ d} (pow_pos d) (omega arith) (omega arith) (c.loop-d.invariant.0 p q h j) (λ r i. c.loop-d.invariant.0 p r h i) (λ r i. c.loop-d.invariant.0 r q i j)),
      λ p q h. c.copy-in-loop-d.ensures.beyond p q (λ e f. h (omega arith) (omega arith)) ∙ c.loop-d.invariant.1 p q h,
      λ p q h. c.double.ensures.beyond p q (λ e f. h (omega arith) (omega arith)) ∙ c.loop-d.invariant.2 p q h,
    )

pub returns-clause-sized : goal.returns-clause-sized
returns-clause-sized g c m small p q h i =
    let done : c.args.doublings ≡ c.loop-d._d = omega arith in
    subst (λ x. g.W.Weight.size (g.W.Weight.meaning x) ≤ 2 ^ c.args.doublings * m)
    (sym (ap (λ row. get_or row q g.W.Weight.absent) (get_or_append_left c.loop-d.out _ [] p (omega arith))))
    (rw done (sized g _ _ _ (2 ^ c.loop-d._d) c.loop-d.invariant.0 m small p q h i))

pub returns-clause-beyond : goal.returns-clause-beyond
returns-clause-beyond g c = (
  whole_beyond g.W.Weight.absent c.args.out.now c.loop-d.out c.args.n (omega arith) (omega arith)
      (λ p q h. c.loop-d.invariant.1 p q h ∙ c.copy.ensures.beyond p q (λ e f. h (omega arith) (omega arith))),
  whole_beyond g.W.Weight.absent c.args.scratch.now c.loop-d.scratch c.args.n (omega arith) (omega arith) c.loop-d.invariant.2,
)
