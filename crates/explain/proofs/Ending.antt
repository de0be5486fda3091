-- How a search ends: with a negative loop, or with a full list.
use Rattle.std.proofs.Common.{◌≡◌, ℕ, suc, ◌<◌, List, pos, ◌+ℤ◌, ◌<ℤ◌, Ok, sym, ap, subst, inl, inr, arith}
use Rattle.std.proofs.lemmas.Int.{ints}
use Rattle.rules.specs.declared.edges.Edge.{Edge}
use Rattle.rules.specs.declared.edges.Step.{Step}
use Rattle.rules.specs.Card.{Card}
use Rattle.rules.specs.Steps.{LawfulStep}
use Rattle.explain.specs.declared.work.Best.{Best}
use Rattle.explain.specs.declared.search.Search.{Search}
use Rattle.network.specs.Model.{model}
use Rattle.explain.specs.declared.work.Stop.{Stop}
use Rattle.explain.specs.declared.work.Stop.TheVariants.{Loop}
use Rattle.explain.specs.Columns.{columns, head_of, letter_of, way}
use Rattle.explain.specs.Working.{card_of, known_to, Written, Shown, Onward, Follows, Ended, Put, Back}
use Rattle.explain.proofs.Columns.{letter_point, letter_wait, column_is}
use Rattle.explain.proofs.Joining.{by_chain}
use Rattle.explain.proofs.Writing.{lawful_by, shown_more, onward_set, follows_then}

-- the letters N and U are neither R nor M
pub no_r : (card : Card) (x : ℕ) → x < columns card → {A : Type 0} → letter_of card x ≡ 82 → A
no_r card x h e = elim (column_is card x h) [
  | inl l ↦ absurd (omega (arith, letter_point card x l, e))
  | inr w ↦ absurd (omega (arith, letter_wait card w.0, ap (letter_of card) w.2, e))
]

pub no_m : (card : Card) (x : ℕ) → x < columns card → {A : Type 0} → letter_of card x ≡ 77 → A
no_m card x h e = elim (column_is card x h) [
  | inl l ↦ absurd (omega (arith, letter_point card x l, e))
  | inr w ↦ absurd (omega (arith, letter_wait card w.0, ap (letter_of card) w.2, e))
]

-- the step that closes a loop
abbrev pub closing_step : Card → ℕ → Best → Best → Step
closing_step card x back this =
    record { letter = letter_of card x; left = back.number; right = this.number; makes = way card (head_of card x) x (back.weight +ℤ this.weight) }

pub closing_lawful : (card : Card) (es : List Edge) (p x : ℕ) (back this : Best) → x < columns card → Back card es p x back this → LawfulStep card es (closing_step card x back this)
closing_lawful card es p x back this h b =
    lawful_by (by_chain card (head_of card x) p x back.weight this.weight h) b.back_stands b.stands
    (omega (arith, ints, b.back_near.0, b.near.0), omega (arith, ints, b.back_near.1, b.near.1)) (no_r card x h) (no_m card x h)

module _ (s t : Search) where
  -- a step is written, or none
  pub follows_put : (step : Step) → Put s t step (Ok tt) → t.network.now ≡ s.network.now → t.list.ghost_name ≡ s.list.ghost_name → Follows s t
  follows_put step (room, is, count, same) n l = record {
    network = n;
    list = l;
    onward = subst (λ m. Onward s.work.count s.list.now m t.list.now) (sym count) (subst (Onward s.work.count s.list.now (suc s.work.count)) (sym is) (onward_set s.list.now s.work.count step));
  }

  -- a last step is written
  pub put_loop : (step : Step) → Follows s t → Put s t step (Ok tt) → Written (card_of s) s.list.now s.work.count → LawfulStep (card_of s) (known_to s) step
      → step.makes.source ≡ step.makes.target → step.makes.weight <ℤ pos 0 → Ended s t Loop
  put_loop step f (room, is, count, same) w law itself negative = record {
    follows = f;
    final = subst (λ n. Shown (model n.content) t.list.now t.work.count) (sym f.network)
        (subst (Shown (card_of s) t.list.now) (sym count)
        (subst (λ l. Shown (card_of s) l (suc s.work.count)) (sym is) (shown_more (card_of s) s.list.now s.work.count step room w law itself negative)));
  }

-- a search that went on, and then ended
pub ended_after : {s t u : Search} {stop : Stop} → Follows s t → Ended t u stop → Ended s u stop
ended_after f e = record { follows = follows_then f e.follows; final = e.final }
