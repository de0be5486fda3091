-- How the tables of a card fall until they are closed: what they keep meanwhile, and what stands where no rule lowers them.
use Rattle.std.specs.Prelude.{◌≡◌, ℕ, zero, suc, ◌+◌, ◌-◌, ◌<◌, ◌≤◌, cond, ◌||◌, ◌≢◌, ℤ, pos, negsuc, ◌+ℤ◌, ◌-ℤ◌, neg_ℤ, ◌≤ℤ◌, ◌<ℤ◌, Some, None, Option, ◌==◌}
use Rattle.rules.specs.declared.edges.Kind.{Kind}
use Rattle.rules.specs.declared.edges.Kind.TheVariants.{Plain, Wait}
use Rattle.rules.specs.declared.edges.Edge.{Edge}
use Rattle.rules.specs.declared.parts.Span.{Span}
use Rattle.rules.specs.declared.parts.Tie.{Tie}
use Rattle.rules.specs.Card.{Card, span_count, tie_count, start_of, finish_of, least_of, most_of, from_of, to_of, gap_of}
use Rattle.rules.specs.Edges.{edge, Given, Rule, Early, Released, Derived, InRange}
use Rattle.rules.specs.Tables.{Above}
use Rattle.judge.specs.declared.closure.Closure.{Closure}
use Rattle.judge.specs.declared.target.Target.{Target}
use Rattle.judge.specs.declared.target.Target.TheVariants.{Point, Start}
use Rattle.judge.specs.Closures.{distance, wait, entry, Placed, Winning}

-- ---- a target on a card

abbrev pub In : Card → Target → Type 0
In card x = Placed card.points (span_count card) x

-- the point at which it stands
abbrev pub head : Card → Target → ℕ
head card (Point q) = q
head card (Start s) = start_of card s

-- the edge from p to it
abbrev pub edge_to : Card → ℕ → Target → ℤ → Edge
edge_to card p (Point q) v = edge Plain p q v
edge_to card p (Start s) v = edge (Wait s) p (start_of card s) v

-- it is not the point p itself
abbrev pub Off : ℕ → Target → Type 0
Off p (Point q) = p ≢ q
Off p (Start s) = Unit {0}

-- it is not the start of span s
abbrev pub Besides : ℕ → Target → Type 0
Besides s (Point q) = Unit {0}
Besides s (Start r) = s ≢ r

-- ---- what is derived

-- the edge does not undercut the tables, and its weight is in range
pub record Near (t : Closure) (e : Edge) : Type 0 where
  pub above : Above (distance t) (wait t) e
  pub in_range : InRange e

-- the edge is given, or a rule makes it of derived edges
pub data Next (card : Card) (Within : Edge → Type 0) : Edge → Type 0 where
  next_given : {e : Edge} → Given card e → Next card Within e
  next_rule : {letter : ℕ} {e f g : Edge} → Rule card letter e f g → Derived card Within e → Derived card Within f → Next card Within g

-- an edge from a point to itself of negative weight is derived in range: nobody can win
pub record Doomed (card : Card) : Type 0 where
  pub kind : Kind
  pub point : ℕ
  pub weight : ℤ
  pub loop : Derived card InRange (edge kind point point weight)
  pub negative : weight <ℤ pos 0

-- what the judge of a card works out: tables by which the controller wins, or a negative loop
abbrev pub Judged : Card → Option Closure → Type 0
Judged card (Some t) = Winning card t
Judged card None = Doomed card

-- ---- what the tables keep

pub record Holds (card : Card) (t : Closure) : Type 0 where
  -- the entries are derived, by way of edges that do not undercut the tables
  pub traced : (p : ℕ) (x : Target) → p < card.points → In card x → Off p x → Derived card (Near t) (edge_to card p x (entry t p x))
  -- they lie between -H and H; from a point to itself 0, to point 0 at most 0, from point 0 at least 0
  pub low : (p : ℕ) (x : Target) → p < card.points → In card x → neg_ℤ (pos card.horizon) ≤ℤ entry t p x
  pub high : (p : ℕ) (x : Target) → p < card.points → In card x → entry t p x ≤ℤ pos card.horizon
  pub itself : (p : ℕ) → p < card.points → distance t p p ≡ pos 0
  pub home : (p : ℕ) → p < card.points → distance t p 0 ≤ℤ pos 0
  pub first : (x : Target) → In card x → pos 0 ≤ℤ entry t 0 x

-- no entry rises
abbrev pub Falls : Closure → Closure → Type 0
Falls t t' = (p : ℕ) (x : Target) → entry t' p x ≤ℤ entry t p x

-- how far the entries can fall
abbrev pub lift : ℤ → ℕ
lift (pos n) = 1440 + n
lift (negsuc n) = 1439 - n

unfoldable pub total : ℕ → (ℕ → ℕ) → ℕ
total zero f = 0
total (suc n) f = f n + total n f

unfoldable pub height : Closure → ℕ
height t = total 32 (λ p. total 32 (λ q. lift (distance t p q))) + total 8 (λ s. total 32 (λ p. lift (wait t s p)))

-- ---- what is proposed for an entry: a weight that the next edge has, if it is lower

pub record Proposed (card : Card) (t : Closure) (p : ℕ) (x : Target) (v : ℤ) : Type 0 where
  pub low : negsuc 9999 ≤ℤ v
  pub high : v ≤ℤ pos 9999
  pub next : v <ℤ entry t p x → Next card (Near t) (edge_to card p x v)

-- the same of a weight that may be absent
pub record Offered (card : Card) (t : Closure) (p : ℕ) (x : Target) (w : Option ℤ) : Type 0 where
  pub value : ℤ
  pub there : w ≡ Some value
  pub proposed : Proposed card t p x value

-- the entry is at most the weight
abbrev pub Within : Closure → ℕ → Target → Option ℤ → Type 0
Within t p x w = (v : ℤ) → w ≡ Some v → entry t p x ≤ℤ v

-- ---- the rules at one place, and at all

abbrev pub Below : ℕ → (ℕ → Type 0) → Type 0
Below n P = (k : ℕ) → k < n → P k

-- N and U
abbrev pub Chained : Card → Closure → Target → Type 0
Chained card t x = (p q : ℕ) → p < card.points → q < card.points → entry t p x ≤ℤ (distance t p q +ℤ entry t q x)

-- L and X
abbrev pub Lowered : Card → Closure → ℕ → Target → Type 0
Lowered card t s x = Besides s x → Early (entry t (finish_of card s) x) → entry t (start_of card s) x ≤ℤ (pos (least_of card s) +ℤ entry t (finish_of card s) x)

-- R
abbrev pub Freed : Card → Closure → ℕ → ℕ → Type 0
Freed card t s p = Released card s (wait t s p) → distance t p (start_of card s) ≤ℤ wait t s p

-- the given edges
abbrev pub Tied : Card → Closure → ℕ → Type 0
Tied card t i = distance t (from_of card i) (to_of card i) ≤ℤ gap_of card i

pub record Spanned (card : Card) (t : Closure) (s : ℕ) : Type 0 where
  pub most : distance t (start_of card s) (finish_of card s) ≤ℤ pos (most_of card s)
  pub least : distance t (finish_of card s) (start_of card s) ≤ℤ neg_ℤ (pos (least_of card s))
  pub wait : wait t s (finish_of card s) ≤ℤ neg_ℤ (pos (most_of card s))

-- all rules of a span but N and U
pub record SpanRules (card : Card) (t : Closure) (s : ℕ) : Type 0 where
  pub given : Spanned card t s
  pub lowered : Below card.points (λ q. Lowered card t s (Point q))
  pub crossed : Below (span_count card) (λ r. Lowered card t s (Start r))
  pub freed : Below card.points (Freed card t s)

pub record AllRules (card : Card) (t : Closure) : Type 0 where
  pub ties : Below (tie_count card) (Tied card t)
  pub spans : Below (span_count card) (SpanRules card t)
  pub chains : Below card.points (λ q. Chained card t (Point q))
  pub waits : Below (span_count card) (λ s. Chained card t (Start s))

-- ---- what the code reads of a card

pub record IsSpan (card : Card) (s : ℕ) (r : Span) : Type 0 where
  pub start_is : r.start ≡ start_of card s
  pub finish_is : r.finish ≡ finish_of card s
  pub least_is : r.least ≡ least_of card s
  pub most_is : r.most ≡ most_of card s

pub record IsTie (card : Card) (i : ℕ) (r : Tie) : Type 0 where
  pub from_is : r.from ≡ from_of card i
  pub to_is : r.to ≡ to_of card i
  pub gap_is : r.gap ≡ gap_of card i

-- ---- how the tables begin

-- no span may last longer than the horizon
abbrev pub InTime : Card → Type 0
InTime card = (s : ℕ) → s < span_count card → most_of card s ≤ card.horizon

-- an entry to begin with: 0 to the point itself and to point 0, H to other points; for a wait what the horizon leaves, or at the finish the given edge
abbrev pub begun : Card → ℕ → Target → ℤ
begun card p (Point q) = cond (q == p || q == 0) (pos 0) (pos card.horizon)
begun card p (Start s) = cond (p == finish_of card s) (neg_ℤ (pos (most_of card s))) (pos card.horizon -ℤ pos (most_of card s))
