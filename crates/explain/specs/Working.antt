-- What holds while an explanation is searched for.
use Rattle.std.specs.Borrow.{MutBor}
use Rattle.std.specs.Prelude.{◌≡◌, ℕ, suc, ◌+◌, ◌-◌, ◌<◌, ◌≤◌, Bool, true, false, ◌≢◌, List, length, ℤ, pos, negsuc, ◌+ℤ◌, neg_ℤ, ◌≤ℤ◌, ◌<ℤ◌, Some, None, Ok, Err, Option, Result, slice_index_or, slice_set}
use Rattle.rules.specs.declared.edges.Kind.{Kind}
use Rattle.rules.specs.declared.edges.Kind.TheVariants.{Plain, Lower, Wait, AllMost}
use Rattle.rules.specs.declared.edges.Edge.{Edge}
use Rattle.rules.specs.declared.edges.Step.{Step}
use Rattle.rules.specs.Card.{Card, span_count, start_of, finish_of, least_of}
use Rattle.rules.specs.Edges.{edge}
use Rattle.rules.specs.Game.{Good}
use Rattle.network.specs.Model.{model}
use Rattle.rules.specs.Steps.{given, no_edge, step_at, known, LawfulTo}
use Rattle.explain.specs.declared.work.Best.{Best}
use Rattle.explain.specs.declared.work.Work.{Work}
use Rattle.explain.specs.declared.work.Stop.{Stop}
use Rattle.explain.specs.declared.search.Search.{Search}
use Rattle.explain.specs.declared.work.Stop.TheVariants.{Loop, Spent}
use Rattle.explain.specs.Columns.{Rows, Sized, best, at, columns, wait_of, head_of, way, height}
use Rattle.explain.specs.Explained.{UsefulAt}

-- the edge of this number is e
abbrev pub Stands : List Edge → ℕ → Edge → Type 0
Stands edges i e = (i < length edges) × ((d : Edge) → slice_index_or edges i d ≡ e)

-- the first n steps of the list are lawful, and their edges are worth making
pub record Written (card : Card) (steps : List Step) (n : ℕ) : Type 0 where
  pub room : n ≤ length steps
  pub lawful : LawfulTo card steps n
  pub useful : (i : ℕ) → i < n → UsefulAt card steps i

-- what every entry keeps, where these edges are known
pub record Fair (card : Card) (edges : List Edge) (p x : ℕ) (b : Best) : Type 0 where
  pub self : p ≡ head_of card x → b.weight ≡ pos 0
  pub high : b.weight ≤ℤ pos (suc card.horizon)
  pub low : neg_ℤ (pos card.horizon) ≤ℤ b.weight
  pub first : p ≡ 0 → pos 0 ≤ℤ b.weight
  pub stands : p ≢ head_of card x → b.weight ≤ℤ pos card.horizon → Stands edges b.number (way card p x b.weight)

-- an edge is no better than the entry of its kind and points; no all-most edge is made
abbrev pub CoveredAt : Card → Rows → Kind → ℕ → ℕ → ℤ → Type 0
CoveredAt card e Plain p q w = at e p q ≤ℤ w
CoveredAt card e (Lower s) p q w = Unit {0}
CoveredAt card e (Wait s) p q w = at e p (wait_of card s) ≤ℤ w
CoveredAt card e AllMost p q w = ⊥

abbrev pub Covered : Card → Rows → Edge → Type 0
Covered card e f = CoveredAt card e f.kind f.source f.target f.weight

abbrev pub Covers : Card → Rows → List Edge → Type 0
Covers card e edges = (i : ℕ) → i < length edges → Covered card e (slice_index_or edges i no_edge)

-- The list and the table as they stand between steps. Each step lowers an entry, so there are no more steps than entries can fall.
pub record Holds (card : Card) (work : Work) (steps : List Step) : Type 0 where
  pub written : Written card steps work.count
  pub size : Sized work.best
  pub fair : (p x : ℕ) → p < card.points → x < columns card → Fair card (known card steps work.count) p x (best work.best p x)
  pub covers : Covers card work.best (known card steps work.count)
  pub spare : work.count + height work.best ≤ 3_687_680

-- ---- what the parts of the search do

-- the card of a search
abbrev pub card_of : Search → Card
card_of s = model s.network.now.content

-- the edges known to it
abbrev pub known_to : Search → List Edge
known_to s = known (card_of s) s.list.now s.work.count

-- p is a point, and x a column
abbrev pub Placed : Search → ℕ → ℕ → Type 0
Placed s p x = (p < (card_of s).points) × (x < columns (card_of s))

-- and q is a point between them
abbrev pub PlacedBy : Search → ℕ → ℕ → ℕ → Type 0
PlacedBy s p q x = (p < (card_of s).points) × (q < (card_of s).points) × (x < columns (card_of s))

-- it stands between steps
abbrev pub Ready : Search → Type 0
Ready s = Holds (card_of s) s.work s.list.now

-- steps were added after the first n, and nothing else changed
pub record Onward (n : ℕ) (steps : List Step) (m : ℕ) (steps' : List Step) : Type 0 where
  pub more : n ≤ m
  pub long : length steps' ≡ length steps
  pub later : (i : ℕ) → m ≤ i → step_at steps' i ≡ step_at steps i

-- the search went on with the same network and in the same list
pub record Follows (s t : Search) : Type 0 where
  pub network : t.network.now ≡ s.network.now
  pub list : t.list.ghost_name ≡ s.list.ghost_name
  pub onward : Onward s.work.count s.list.now t.work.count t.list.now

-- the first m steps end in a negative loop
pub record Shown (card : Card) (steps : List Step) (m : ℕ) : Type 0 where
  pub some : 0 < m
  pub room : m ≤ length steps
  pub lawful : LawfulTo card steps m
  pub useful : (i : ℕ) → suc i < m → UsefulAt card steps i
  pub itself : (step_at steps (m - 1)).makes.source ≡ (step_at steps (m - 1)).makes.target
  pub negative : (step_at steps (m - 1)).makes.weight <ℤ pos 0

-- the list is full
pub record Full (card : Card) (steps : List Step) : Type 0 where
  pub written : Written card steps (length steps)
  pub short : length steps < 6_637_824

-- what the list shows where the search ended
abbrev pub Final : Search → Stop → Type 0
Final t Loop = Shown (card_of t) t.list.now t.work.count
Final t Spent = Full (card_of t) t.list.now

-- the search ended
pub record Ended (s t : Search) (stop : Stop) : Type 0 where
  pub follows : Follows s t
  pub final : Final t stop

-- the search goes on: nothing was lowered, and R stands; or something was
pub record Went (s t : Search) (R : Type 0) (b : Bool) : Type 0 where
  pub ready : Ready t
  pub follows : Follows s t
  pub lower : (p x : ℕ) → at t.work.best p x ≤ℤ at s.work.best p x
  pub less : b ≡ true → height t.work.best < height s.work.best
  pub same : b ≡ false → (t.work.best ≡ s.work.best) × R

abbrev pub Told : Search → Search → Type 0 → Result Bool Stop → Type 0
Told s t R (Ok b) = Went s t R b
Told s t R (Err stop) = Ended s t stop

-- unless the search ended, the entry is no worse than v now
abbrev pub Taken : Rows → ℕ → ℕ → ℤ → Result Bool Stop → Type 0
Taken e p x v (Ok b) = at e p x ≤ℤ v
Taken e p x v (Err stop) = Unit {0}

-- a step is written, or there is no room for it
abbrev pub Put : Search → Search → Step → Result (Unit {0}) Stop → Type 0
Put s t step (Ok _) = (s.work.count < length s.list.now) × (t.list.now ≡ slice_set s.list.now s.work.count step) × (t.work.count ≡ suc s.work.count) × (t.work.best ≡ s.work.best)
Put s t step (Err stop) = (s.work.count ≡ length s.list.now) × (t.list.now ≡ s.list.now) × (t.work ≡ s.work) × (stop ≡ Spent)

-- an edge of column x from p, and a plain edge back to p, whose sum is negative
pub record Back (card : Card) (edges : List Edge) (p x : ℕ) (back this : Best) : Type 0 where
  pub back_stands : Stands edges back.number (edge Plain (head_of card x) p back.weight)
  pub stands : Stands edges this.number (way card p x this.weight)
  pub back_near : (negsuc 9999 ≤ℤ back.weight) × (back.weight ≤ℤ pos 9999)
  pub near : (negsuc 9999 ≤ℤ this.weight) × (this.weight ≤ℤ pos 9999)
  pub negative : (back.weight +ℤ this.weight) <ℤ pos 0

-- ---- the rules at one place, of entries that are known edges

-- the entry is a known edge
abbrev pub Present : Card → Rows → ℕ → ℕ → Type 0
Present card e p x = (p ≢ head_of card x) × (at e p x ≤ℤ pos card.horizon)

-- the entry, if it is a known edge
abbrev pub Found : Card → Rows → ℕ → ℕ → Option Best → Type 0
Found card e p x (Some b) = (b ≡ best e p x) × Present card e p x
Found card e p x None = Present card e p x → ⊥

abbrev pub RuleN : Card → Rows → ℕ → ℕ → ℕ → Type 0
RuleN card e p q x = Present card e p q → Present card e q x → at e p x ≤ℤ (at e p q +ℤ at e q x)

abbrev pub RuleL : Card → Rows → ℕ → ℕ → Type 0
RuleL card e s x = x ≢ wait_of card s → Present card e (finish_of card s) x → at e (finish_of card s) x <ℤ pos 0
    → at e (start_of card s) x ≤ℤ (pos (least_of card s) +ℤ at e (finish_of card s) x)

abbrev pub RuleR : Card → Rows → ℕ → ℕ → Type 0
RuleR card e s p = Present card e p (wait_of card s) → neg_ℤ (pos (least_of card s)) ≤ℤ at e p (wait_of card s)
    → at e p (start_of card s) ≤ℤ at e p (wait_of card s)

-- the same of the table of a search
abbrev pub Chained : Search → ℕ → ℕ → ℕ → Type 0
Chained s p q x = RuleN (card_of s) s.work.best p q x

abbrev pub Lowered : Search → ℕ → ℕ → Type 0
Lowered s i x = RuleL (card_of s) s.work.best i x

abbrev pub Released : Search → ℕ → ℕ → Type 0
Released s i p = RuleR (card_of s) s.work.best i p

-- of all numbers below n
abbrev pub Below : ℕ → (ℕ → Type 0) → Type 0
Below n P = (k : ℕ) → k < n → P k

-- of all numbers from a below n
abbrev pub Within : ℕ → ℕ → (ℕ → Type 0) → Type 0
Within a n P = (k : ℕ) → a ≤ k → k < n → P k

-- A rule, by what its calls may do, answers at k that it lowers no entry of this table.
pub record Idle (calls : MutBor Search → ℕ → Result Bool Stop → MutBor Search → Type 0) (s : Search) (k : ℕ) : Type 0 where
  pub before : MutBor Search
  pub after : MutBor Search
  pub ready : Ready before.now
  pub follows : Follows s before.now
  pub table : before.now.work.best ≡ s.work.best
  pub answers : calls before k (Ok false) after

-- no rule lowers an entry, except perhaps by way of point 0
abbrev pub Rounded : Card → Rows → Type 0
Rounded card e =
    Below (span_count card) (λ s. Below (columns card) (RuleL card e s) × Below card.points (RuleR card e s))
    × Below card.points (λ q. 0 < q → Below card.points (λ p. Below (columns card) (RuleN card e p q)))

-- the search ended, or the card is good
abbrev pub Saturated : Search → Search → Result (Unit {0}) Stop → Type 0
Saturated s t (Ok _) = Good (card_of s)
Saturated s t (Err stop) = Ended s t stop

-- ---- the table of given edges

-- the column of an edge, unless it is a lower or an all-most edge
abbrev pub column_at : Card → Kind → ℕ → Option ℕ
column_at card Plain q = Some q
column_at card (Lower s) q = None
column_at card (Wait s) q = Some (wait_of card s)
column_at card AllMost q = None

-- a given edge of this number as an entry, with its row and column
abbrev pub GivenEntry : Card → Edge → ℕ → Option (ℕ × ℕ × Best) → Type 0
GivenEntry card f number (Some (p, x, b)) = (column_at card f.kind f.target ≡ Some x) × (p ≡ f.source) × (b ≡ record { weight = f.weight; number = number })
GivenEntry card f number None = column_at card f.kind f.target ≡ None

-- the table is as good as the first k given edges
pub record Loaded (card : Card) (e : Rows) (k : ℕ) : Type 0 where
  pub size : Sized e
  pub top : (p x : ℕ) → p < 32 → x < 40 → at e p x ≤ℤ pos 1441
  pub self : (p x : ℕ) → p < card.points → x < columns card → p ≡ head_of card x → at e p x ≡ pos 0
  pub high : (p x : ℕ) → p < card.points → x < columns card → at e p x ≤ℤ pos (suc card.horizon)
  pub stands : (p x : ℕ) → p < card.points → x < columns card → p ≢ head_of card x → at e p x ≤ℤ pos card.horizon
      → Stands (given card) (best e p x).number (way card p x (at e p x))
  pub covers : (i : ℕ) → i < k → Covered card e (slice_index_or (given card) i no_edge)

-- a search that has written nothing yet, and knows the given edges alone
pub record Fresh (s : Search) : Type 0 where
  pub loaded : Loaded (card_of s) s.work.best (length (given (card_of s)))
  pub count : s.work.count ≡ 0

-- a given edge of column x is in range, and the way back makes no negative loop of it
abbrev pub Tested : Card → Rows → Edge → Type 0
Tested card e f = (x : ℕ) → column_at card f.kind f.target ≡ Some x → (neg_ℤ (pos card.horizon) ≤ℤ f.weight) × (pos 0 ≤ℤ (at e (head_of card x) f.source +ℤ f.weight))

-- an edge from h to p of weight H is made by way of point 0
abbrev pub Detoured : Search → Search → ℕ → ℕ → Result Best Stop → Type 0
Detoured s t h p (Ok b) =
    Written (card_of t) t.list.now t.work.count × Follows s t × (t.work.count ≤ 1) × (b.weight ≡ pos (card_of t).horizon) × Stands (known_to t) b.number (edge Plain h p b.weight)
Detoured s t h p (Err stop) = Ended s t stop

-- given edges pass a test, and nothing changes; or the search ends
abbrev pub Tried : Search → Search → Type 0 → Result (Unit {0}) Stop → Type 0
Tried s t R (Ok _) = (t ≡ s) × R
Tried s t R (Err stop) = Ended s t stop
