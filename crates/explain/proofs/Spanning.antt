-- Steps by L, X and R.
use Rattle.std.proofs.Common.{◌≡◌, ℕ, ◌<◌, ◌≢◌, List, pos, ◌+ℤ◌, ◌<ℤ◌, sym, refl, ap, ◌∙◌, ⊎_elim, arith}
use Rattle.std.proofs.lemmas.Int.{ints}
use Rattle.rules.specs.declared.edges.Kind.TheVariants.{Lower}
use Rattle.rules.specs.declared.edges.Step.{Step}
use Rattle.rules.specs.Card.{Card, span_count, start_of, finish_of, least_of}
use Rattle.rules.specs.Edges.{edge, Released}
use Rattle.rules.specs.Steps.{given, known, LawfulStep}
use Rattle.network.specs.declared.network.Network.{Network}
use Rattle.network.specs.Model.{model}
use Rattle.network.proofs.Made.{well_made, most_in}
use Rattle.explain.specs.declared.work.Work.{Work}
use Rattle.explain.specs.Columns.{Rows, best, at, columns, wait_of, lower_of, way}
use Rattle.explain.specs.Working.{Stands, Holds, Present}
use Rattle.explain.proofs.Columns.{column_is, lower_point, lower_wait, wait_column}
use Rattle.explain.proofs.Joining.{by_lower, by_release}
use Rattle.explain.proofs.Writing.{lawful_by}
use Rattle.explain.proofs.Holding.{near_at, given_stands}

not_letter : (card : Card) (x k : ℕ) → k ≢ 76 → k ≢ 88 → x < columns card → {A : Type 0} → lower_of card x ≡ k → A
not_letter card x k a b h e =
    ⊎_elim (λ l. absurd (a (sym e ∙ lower_point card x l))) (λ w. absurd (b (sym e ∙ ap (lower_of card) w.2 ∙ lower_wait card w.0))) (column_is card x h)

abbrev pub lower_step : Card → Rows → ℕ → ℕ → ℕ → Step
lower_step card e s number x =
    record { letter = lower_of card x; left = number; right = (best e (finish_of card s) x).number; makes = way card (start_of card s) x (pos (least_of card s) +ℤ at e (finish_of card s) x) }

abbrev pub release_step : Card → Rows → ℕ → ℕ → Step
release_step card e s p =
    record { letter = 82; left = (best e p (wait_of card s)).number; right = (best e p (wait_of card s)).number; makes = way card p (start_of card s) (at e p (wait_of card s)) }

module _ (n : Network) (work : Work) (steps : List Step) (h : Holds (model n.content) work steps) (s : ℕ) (ls : s < span_count (model n.content)) where
  abbrev m : Card
  m = model n.content

  abbrev e : Rows
  e = work.best

  pub least_small : least_of m s < 1441
  least_small = omega (arith, (well_made n).least_most s ls, most_in n s ls)

  pub lower_lawful : (number x : ℕ) → x < columns m → Stands (given m) number (edge (Lower s) (start_of m s) (finish_of m s) (pos (least_of m s))) → x ≢ wait_of m s
      → Present m e (finish_of m s) x → at e (finish_of m s) x <ℤ pos 0 → LawfulStep m (known m steps work.count) (lower_step m e s number x)
  lower_lawful number x lx st other pres early =
      let v = near_at n work steps h (finish_of m s) x ((well_made n).finish_in s ls) lx in
      lawful_by (by_lower m s (start_of m s) (finish_of m s) x (pos (least_of m s)) (at e (finish_of m s) x) lx other early)
      (given_stands m steps work.count number _ st) ((h.fair (finish_of m s) x ((well_made n).finish_in s ls) lx).stands pres.0 pres.1)
      (omega (arith, ints, v.0), omega (arith, ints, v.1, least_small)) (not_letter m x 82 (omega arith) (omega arith) lx) (not_letter m x 77 (omega arith) (omega arith) lx)

  pub release_lawful : (p : ℕ) → p < m.points → Present m e p (wait_of m s) → Released m s (at e p (wait_of m s)) → LawfulStep m (known m steps work.count) (release_step m e s p)
  release_lawful p lp pres released =
      let lx = wait_column m s ls in
      let v = near_at n work steps h p (wait_of m s) lp lx in
      let st = (h.fair p (wait_of m s) lp lx).stands pres.0 pres.1 in
      lawful_by (by_release m s p (at e p (wait_of m s)) ((well_made n).start_in s ls) released) st st (omega (arith, ints, v.0), omega (arith, ints, v.1)) (λ _. refl) (λ _. refl)
