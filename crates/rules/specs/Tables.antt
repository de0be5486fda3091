-- Tables of weights for a card, and when a position fits them. They are no part of the rules: the theorems show that they decide the game.
use Rattle.std.specs.Prelude.{◌≡◌, ℕ, suc, ◌<◌, ◌≤◌, Bool, ◌||◌, T, ◌≢◌, ℤ, pos, ◌+ℤ◌, ◌≤ℤ◌, Some, None}
use Rattle.rules.specs.Card.{Card, span_count, start_of, finish_of, least_of, is_finish}
use Rattle.rules.specs.declared.edges.Kind.{Kind}
use Rattle.rules.specs.declared.edges.Kind.TheVariants.{Plain, Lower, Wait, AllMost}
use Rattle.rules.specs.declared.edges.Edge.{Edge}
use Rattle.rules.specs.Edges.{edge, Given, Rule, Released, Derived}
use Rattle.rules.specs.Game.{Position}

-- two of them: D p q is the weight of a plain edge from p to q (a distance), W s p that of a wait of span s, from p to its start
abbrev pub Table : Type 0
Table = ℕ → ℕ → ℤ

-- the edge does not undercut the tables: it weighs no less than its entry
abbrev pub AboveAt : Table → Table → Kind → ℕ → ℕ → ℤ → Type 0
AboveAt D W Plain p q w = D p q ≤ℤ w
AboveAt D W (Lower s) p q w = Unit {0}
AboveAt D W (Wait s) p q w = W s p ≤ℤ w
AboveAt D W AllMost p q w = Unit {0}

-- the same of an edge as a whole
abbrev pub Above : Table → Table → Edge → Type 0
Above D W e = AboveAt D W e.kind e.source e.target e.weight

-- the edge is an entry of the tables, or a lower edge of the card
abbrev pub EntryAt : Card → Table → Table → Kind → ℕ → ℕ → ℤ → Type 0
EntryAt card D W Plain p q w = (p < card.points) × (q < card.points) × (w ≡ D p q)
EntryAt card D W (Lower s) p q w = (s < span_count card) × (p ≡ start_of card s) × (q ≡ finish_of card s) × (w ≡ pos (least_of card s))
EntryAt card D W (Wait s) p q w = (s < span_count card) × (q ≡ start_of card s) × (p < card.points) × (w ≡ W s p)
EntryAt card D W AllMost p q w = ⊥

-- the same of an edge as a whole
abbrev pub Entry : Card → Table → Table → Edge → Type 0
Entry card D W e = EntryAt card D W e.kind e.source e.target e.weight

-- The tables are closed: no given edge, and no edge that a rule makes of entries, undercuts them.
pub record Closed (card : Card) (D W : Table) : Type 0 where
  pub given : {e : Edge} → Given card e → Above D W e
  pub made : {letter : ℕ} {e f g : Edge} → Rule card letter e f g → Entry card D W e → Entry card D W f → Above D W g

-- The entries are derived, by way of edges that do not undercut the tables; from a point to itself nothing is asked.
pub record Traced (card : Card) (D W : Table) : Type 0 where
  pub plainly : (p q : ℕ) → p < card.points → q < card.points → p ≢ q → Derived card (Above D W) (edge Plain p q (D p q))
  pub waiting : (s p : ℕ) → s < span_count card → p < card.points → Derived card (Above D W) (edge (Wait s) p (start_of card s) (W s p))

-- The start keeps the tables: no point is overdue; point 0 need not have waited for a span that it starts, and R applies to its wait for any other.
pub record SoundAtStart (card : Card) (D W : Table) : Type 0 where
  pub ahead : (p : ℕ) → p < card.points → pos 0 ≤ℤ D 0 p
  pub started : (s : ℕ) → s < span_count card → start_of card s ≡ 0 → pos 0 ≤ℤ W s 0
  pub waiting : (s : ℕ) → s < span_count card → start_of card s ≢ 0 → Released card s (W s 0)

-- The position fits the tables at minute t: a point that has not happened may still happen at t, one of the set `put_off` only after t.
pub record Fits (card : Card) (D W : Table) (t : ℕ) (put_off : ℕ → Bool) (at : Position) : Type 0 where
  -- only points have happened, not after t, and point 0 at 0
  pub point : (p a : ℕ) → at p ≡ Some a → p < card.points
  pub first : at 0 ≡ Some 0
  pub past : (p a : ℕ) → at p ≡ Some a → a ≤ t
  -- two points that have happened keep their distance
  pub apart : (p q a b : ℕ) → at p ≡ Some a → at q ≡ Some b → pos b ≤ℤ (pos a +ℤ D p q)
  -- a point that has not happened is not overdue, nor will it be if it is put off
  pub ahead : (p q a : ℕ) → at p ≡ Some a → q < card.points → at q ≡ None → pos t ≤ℤ (pos a +ℤ D p q)
  pub ahead_late : (p q a : ℕ) → at p ≡ Some a → q < card.points → at q ≡ None → T (put_off q) → pos (suc t) ≤ℤ (pos a +ℤ D p q)
  -- of a span that has not finished: if it has started, whatever has happened keeps the wait for it; if not, R applies to the wait
  pub started : (s p a b : ℕ) → s < span_count card → at p ≡ Some a → at (finish_of card s) ≡ None → at (start_of card s) ≡ Some b → pos b ≤ℤ (pos a +ℤ W s p)
  pub waiting : (s p a : ℕ) → s < span_count card → at p ≡ Some a → at (finish_of card s) ≡ None → at (start_of card s) ≡ None → Released card s (W s p)

-- what is put off within a minute, once the kitchen has moved: finishes, and orders that are held
unfoldable pub late : Card → (ℕ → Bool) → ℕ → Bool
late card held p = is_finish card p || held p
