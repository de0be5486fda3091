-- The tables that a closure holds, and when they show that the controller can win.
use Rattle.std.specs.Prelude.{◌≡◌, ℕ, ◌<◌, List, [], ℤ, pos, ◌≢◌, slice_index_or}
use Rattle.rules.specs.Card.{Card}
use Rattle.rules.specs.Tables.{Table, Closed, Traced, SoundAtStart}
use Rattle.judge.specs.declared.closure.Closure.{Closure}
use Rattle.judge.specs.declared.target.Target.{Target}
use Rattle.judge.specs.declared.target.Target.TheVariants.{Point, Start}

-- the distance from p to q
unfoldable pub distance : Closure → Table
distance t p q = slice_index_or (slice_index_or t.distances p []) q (pos 0)

-- the wait of span s from p to its start
unfoldable pub wait : Closure → Table
wait t s p = slice_index_or (slice_index_or t.waits s []) p (pos 0)

-- the weight from a point to a target
abbrev pub entry : Closure → ℕ → Target → ℤ
entry t p (Point q) = distance t p q
entry t p (Start s) = wait t s p

-- the target is one of so many points, or the start of one of so many spans
abbrev pub Placed : ℕ → ℕ → Target → Type 0
Placed points spans (Point q) = q < points
Placed points spans (Start s) = s < spans

-- ---- writing

-- of these rows only the weight in row i at place k was written, with v
pub record PutRow {A : Type 0} (rows : List (List A)) (i k : ℕ) (v : A) (rows' : List (List A)) : Type 0 where
  pub here : (d : A) → slice_index_or (slice_index_or rows' i []) k d ≡ v
  pub others : (d : A) (j l : ℕ) → (j ≡ i → l ≢ k) → slice_index_or (slice_index_or rows' j []) l d ≡ slice_index_or (slice_index_or rows j []) l d

-- only the weight from p to x was written, with v
pub record Put (t : Closure) (p : ℕ) (x : Target) (v : ℤ) (t' : Closure) : Type 0 where
  pub here : entry t' p x ≡ v
  pub others : (r : ℕ) (y : Target) → (r ≡ p → y ≢ x) → entry t' r y ≡ entry t r y

-- ---- winning

-- the tables are closed, their entries are derived, and they are sound at the start
pub record Winning (card : Card) (t : Closure) : Type 0 where
  pub closed : Closed card (distance t) (wait t)
  pub traced : Traced card (distance t) (wait t)
  pub sound : SoundAtStart card (distance t) (wait t)
