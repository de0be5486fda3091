-- What the two tests of an order work with: tables that win, and a position that fits them within minute t.
use Rattle.std.specs.Prelude.{◌≡◌, ℕ, suc, ◌<◌, ◌≤◌, Bool, cond, T, pos, ◌+ℤ◌, ◌≤ℤ◌, Some, None, Option}
use Rattle.rules.specs.Card.{Card, start_of, finish_of, is_finish}
use Rattle.rules.specs.Game.{Position}
use Rattle.rules.specs.Tables.{Table, Fits}
use Rattle.judge.specs.declared.closure.Closure.{Closure}
use Rattle.judge.specs.Closures.{distance, wait}
use Rattle.minute.specs.Standing.{Tight}

-- the points of the set `late` can no longer happen in minute t; finishes are among them
pub record WithinMinute (card : Card) (closure : Closure) (t : ℕ) (late : ℕ → Bool) (at : Position) : Type 0 where
  pub tight : Tight card closure
  pub in_time : t ≤ card.horizon
  pub fits : Fits card (distance closure) (wait closure) t late at
  pub finishes : (p : ℕ) → T (is_finish card p) → T (late p)

-- q is an order that has not been given and is not held
pub record Open (card : Card) (late : ℕ → Bool) (at : Position) (q : ℕ) : Type 0 where
  pub point : q < card.points
  pub free : T (late q) → ⊥
  pub unhappened : at q ≡ None

-- the minute of a point, or the first in which it still may happen
abbrev pub soonest : ℕ → Option ℕ → Bool → ℕ
soonest t (Some a) late = a
soonest t None late = cond late (suc t) t

-- with q at t, no point comes too late or too early, of the first n
abbrev pub PointsAllow : Table → ℕ → (ℕ → Bool) → Position → ℕ → ℕ → Type 0
PointsAllow D t late at q n = (p : ℕ) → p < n → pos (soonest t (at p) (late p)) ≤ℤ (pos t +ℤ D q p)

-- with q at t, no span that has not finished starts too late, of the first n
abbrev pub SpansAllow : Card → Table → ℕ → (ℕ → Bool) → Position → ℕ → ℕ → Type 0
SpansAllow card W t late at q n = (s : ℕ) → s < n → at (finish_of card s) ≡ None
    → pos (soonest t (at (start_of card s)) (late (start_of card s))) ≤ℤ (pos t +ℤ W s q)

-- no point, of the first n, makes q urgent at t
abbrev pub HoldAllows : Table → ℕ → Position → ℕ → ℕ → Type 0
HoldAllows D t at q n = (p a : ℕ) → p < n → at p ≡ Some a → pos (suc t) ≤ℤ (pos a +ℤ D p q)
