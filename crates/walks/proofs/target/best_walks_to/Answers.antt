use Rattle.std.proofs.Common.{◌≡◌, ℕ, ◌+◌, ◌*◌, ◌<◌, List, get_or, sym, refl, ap, ◌∙◌, one-mul, arith, rules}
use Rattle.std.proofs.lemmas.List.{get_or_append_left, get_or-take}
use Rattle.walks.specs.Tables.{at, cell, Small, SmallRow}
use Rattle.walks.specs.Walks.{Best, toward}
use Rattle.walks.proofs.Walking.{Laws, best_same, best_one, best_chain, best_size, edges_fit, toward_other, toward_last, toward_small, toward_small_last}
use Rattle.walks.proofs.target.best_walks_to.Given as given
use Rattle.walks.proofs.target.best_walks_to.Goals as goal

laws_of : (g : given.Over) → Laws g.W.Weight.joined g.W.Weight.chosen
laws_of g = record {
  join_assoc = g.met.W.Weight.join_assoc;
  choose_assoc = g.met.W.Weight.choose_assoc;
  choose_comm = g.met.W.Weight.choose_comm;
  choose_idem = g.met.W.Weight.choose_idem;
  left_distrib = g.met.W.Weight.left_distrib;
  right_distrib = g.met.W.Weight.right_distrib;
}

-- the edges and the last edges, as the model has them
module _ (g : given.Over) where
  abbrev between : List (List g.row.W.Denot) → ℕ → ℕ → g.W.Weight.Model
  between rows = cell g.W.Weight.meaning g.W.Weight.absent rows

  abbrev last : List g.row.W.Denot → ℕ → g.W.Weight.Model
  last row = at g.W.Weight.meaning g.W.Weight.absent row

pub loop-j-init : goal.loop-j-init
loop-j-init g c = (
  λ p h. best_same (laws_of g) _ _ refl
      (ap g.W.Weight.meaning
      (get_or_append_left c.copy_from_slice.new.self _ g.W.Weight.absent p (omega arith)
      ∙ ap (λ row. get_or row p g.W.Weight.absent) c.copy_from_slice.ensures.after
      ∙ get_or-take c.args.n c.args.last.now p g.W.Weight.absent h)
      ∙ sym (toward_last c.args.n (between g c.args.edges.now) (last g c.args.last.now) p))
      (best_one (laws_of g) _ _ p c.args.n),
  λ p h. refl,
)

sized : (g : given.Over) (rows : List (List g.row.W.Denot)) (row out : List g.row.W.Denot) (n k : ℕ)
    → ((p : ℕ) → p < n → Best g.W.Weight.joined g.W.Weight.chosen (toward n (between g rows) (last g row)) n k p n (last g out p))
    → (m : ℕ) → Small g.W.Weight.size (between g rows) n m → SmallRow g.W.Weight.size (last g row) n m → SmallRow g.W.Weight.size (last g out) n (k * m)
sized g rows row out n k best m small small_last p i =
    best_size g.W.Weight.size g.met.W.Weight.join_size g.met.W.Weight.choose_size
    (toward_small n (between g rows) (last g row) g.W.Weight.size small) (toward_small_last n (between g rows) (last g row) g.W.Weight.size small_last)
    i (best p i)

pub lengthen-requires : goal.lengthen-requires
lengthen-requires g c =
    let j = c.loop-j._j in
    let small = sized g _ _ _ _ j c.loop-j.invariant.0 _ c.requires.small.0 c.requires.small.1 in (
      search rules,
      (
        search rules,
        (
          c.requires.fits.0,
          λ p r h i. edges_fit _ _ 1 j g.W.Weight.limit c.args.k (rw one-mul (c.requires.small.0 p r h i)) (small r i) (omega arith),
        ),
      ),
    )

pub loop-j-preserved : goal.loop-j-preserved
loop-j-preserved g c =
    let j = c.loop-j._j in
    let edges = between g c.args.edges.now in
    let ends = last g c.args.last.now in (
      λ p h.
          best_same (laws_of g) _ _ {j = 1 + j} (omega arith) (c.lengthen.ensures.here p h)
          (best_chain (laws_of g) _ _ {i = j} {j = 1} {k = j} (omega arith) (omega arith) (omega arith) (c.loop-j.invariant.0 p h)
          (λ r i. best_same (laws_of g) _ _ refl (sym (toward_other c.args.n edges ends p r i)) (best_one (laws_of g) _ _ p r))
          (λ r i. c.loop-j.invariant.0 r i)),
      λ p h. c.lengthen.ensures.beyond p h ∙ c.loop-j.invariant.1 p h,
    )

pub returns-clause-sized : goal.returns-clause-sized
returns-clause-sized g c =
    let done : c.args.k ≡ c.loop-j._j = omega arith in
    rw done (sized g _ _ _ _ c.loop-j._j c.loop-j.invariant.0)
