-- The calls on a card: when each that builds is refused, what it answers and makes, and the card that a list of calls built.
use Rattle.std.specs.Prelude.{ℕ, suc, cond, ◌||◌, List, [], ◌∷◌, ◌++◌, pos, negsuc, Some, None, Ok, Err, Option, Result, ◌==◌, int_lt, nat_le, nat_lt}
use Rattle.rules.specs.declared.parts.Tie.{Tie}
use Rattle.rules.specs.declared.edges.Step.{Step}
use Rattle.rules.specs.declared.refusal.Refusal.{Refusal}
use Rattle.rules.specs.declared.refusal.Refusal.TheVariants.{HorizonRange, PointsFull, NoPoint, StartIsFinish, BoundsRange, SpansFull, SamePoint, GapRange, TiesFull}
use Rattle.rules.specs.Card.{Card, span_count, tie_count, is_finish}

-- ---- why a call is refused: the first reason that applies, or none

-- a horizon of h
abbrev pub open_fault : ℕ → Option Refusal
open_fault h = cond (nat_lt h 1 || nat_lt 1440 h) (Some HorizonRange) None

-- an order more
abbrev pub order_fault : Card → Option Refusal
order_fault card = cond (nat_le 32 card.points) (Some PointsFull) None

-- a span more
abbrev pub span_fault : Card → ℕ → ℕ → ℕ → Option Refusal
span_fault card start least most =
    cond (nat_le card.points start) (Some NoPoint)
    (cond (is_finish card start) (Some StartIsFinish)
    (cond (nat_lt least 1 || (nat_lt most least || nat_lt 1440 most)) (Some BoundsRange)
    (cond (nat_le 32 card.points) (Some PointsFull)
    (cond (nat_le 8 (span_count card)) (Some SpansFull) None))))

-- a tie among so many points
abbrev pub among_fault : ℕ → Tie → Option Refusal
among_fault points tie =
    cond (nat_le points tie.from || nat_le points tie.to) (Some NoPoint)
    (cond (tie.from == tie.to) (Some SamePoint)
    (cond (int_lt tie.gap (negsuc 1439) || int_lt (pos 1440) tie.gap) (Some GapRange) None))

-- a tie that is tried
abbrev pub try_fault : Card → Tie → Option Refusal
try_fault card tie = among_fault card.points tie

-- the first refusal of two
abbrev pub or_else : Option Refusal → Option Refusal → Option Refusal
or_else (Some e) other = Some e
or_else None other = other

-- a tie more
abbrev pub tie_fault : Card → Tie → Option Refusal
tie_fault card tie = or_else (try_fault card tie) (cond (nat_le 96 (tie_count card)) (Some TiesFull) None)

-- ---- what a call makes of a card that takes it

-- point 0 alone
abbrev pub fresh : ℕ → Card
fresh h = record { horizon = h; points = 1; spans = []; ties = [] }

-- the next point, an order
abbrev pub with_order : Card → Card
with_order card = record { horizon = card.horizon; points = suc card.points; spans = card.spans; ties = card.ties }

-- the next span, and as its finish the next point
abbrev pub with_span : Card → ℕ → ℕ → ℕ → Card
with_span card start least most = record {
  horizon = card.horizon;
  points = suc card.points;
  spans = card.spans ++ (record { start = start; finish = card.points; least = least; most = most } ∷ []);
  ties = card.ties;
}

abbrev pub with_tie : Card → Tie → Card
with_tie card tie = record { horizon = card.horizon; points = card.points; spans = card.spans; ties = card.ties ++ (tie ∷ []) }

-- the same card with another horizon
abbrev pub with_horizon : Card → ℕ → Card
with_horizon card h = record { horizon = h; points = card.points; spans = card.spans; ties = card.ties }

-- ---- what a call answers, and what stands after it, refused or not

abbrev pub answered : {A : Type 0} → Option Refusal → A → Result A Refusal
answered (Some e) a = Err e
answered None a = Ok a

-- a refused call changes nothing
abbrev pub unless : Option Refusal → Card → Card → Card
unless (Some e) made card = card
unless None made card = made

-- a new place
abbrev pub new_place : Card
new_place = fresh 1

abbrev pub open_answer : ℕ → Result (Unit {0}) Refusal
open_answer h = answered (open_fault h) tt

abbrev pub opened : ℕ → Card → Card
opened h card = unless (open_fault h) (fresh h) card

-- an order and a span answer their new point
abbrev pub order_answer : Card → Result ℕ Refusal
order_answer card = answered (order_fault card) card.points

abbrev pub ordered : Card → Card
ordered card = unless (order_fault card) (with_order card) card

abbrev pub span_answer : Card → ℕ → ℕ → ℕ → Result ℕ Refusal
span_answer card start least most = answered (span_fault card start least most) card.points

abbrev pub spanned : ℕ → ℕ → ℕ → Card → Card
spanned start least most card = unless (span_fault card start least most) (with_span card start least most) card

-- a tie answers its number
abbrev pub tie_answer : Card → Tie → Result ℕ Refusal
tie_answer card tie = answered (tie_fault card tie) (tie_count card)

abbrev pub tied : Tie → Card → Card
tied tie card = unless (tie_fault card tie) (with_tie card tie) card

-- ---- the card that a list of calls built

-- a card is open, closed or in a run
pub data State : Type 0 where
  is_open : Card → State
  is_closed : Card → State
  in_run : Card → State

-- the card in whatever state
abbrev pub card_of : State → Card
card_of (is_open card) = card
card_of (is_closed card) = card
card_of (in_run card) = card

-- a call, with its arguments
pub data Call : Type 0 where
  -- on an open card: a new opening with this horizon; an order; a span by its start, least and most; a tie; closing it
  opens : ℕ → Call
  adds_order : Call
  adds_span : ℕ → ℕ → ℕ → Call
  adds_tie : Tie → Call
  closes : Call
  -- on a closed card: its mark; a tie that is tried; a horizon that serves; steps into a list of so many places; the reading of a list; reopening it; a run
  checks : Call
  tries : Tie → Call
  stretches : Call
  explains : ℕ → Call
  reads : List Step → Call
  reopens : Call
  begins : Call
  -- on a run: a minute; a point's minute; its end
  plays : Call
  asks : ℕ → Call
  ends : Call

-- a change of an open card; another state does not take the call, and stays
abbrev pub if_open : (Card → Card) → State → State
if_open change (is_open card) = is_open (change card)
if_open change (is_closed card) = is_closed card
if_open change (in_run card) = in_run card

abbrev pub close : State → State
close (is_open card) = is_closed card
close (is_closed card) = is_closed card
close (in_run card) = in_run card

abbrev pub reopen : State → State
reopen (is_open card) = is_open card
reopen (is_closed card) = is_open card
reopen (in_run card) = in_run card

abbrev pub begin : State → State
begin (is_open card) = is_open card
begin (is_closed card) = in_run card
begin (in_run card) = in_run card

abbrev pub end : State → State
end (is_open card) = is_open card
end (is_closed card) = is_closed card
end (in_run card) = is_closed card

-- what a call makes of a state: only openings, orders, spans and ties change the card, and only where they are not refused
abbrev pub after_call : Call → State → State
after_call (opens h) state = if_open (opened h) state
after_call adds_order state = if_open ordered state
after_call (adds_span start least most) state = if_open (spanned start least most) state
after_call (adds_tie tie) state = if_open (tied tie) state
after_call closes state = close state
after_call checks state = state
after_call (tries tie) state = state
after_call stretches state = state
after_call (explains places) state = state
after_call (reads steps) state = state
after_call reopens state = reopen state
after_call begins state = begin state
after_call plays state = state
after_call (asks point) state = state
after_call ends state = end state

abbrev pub after_calls : List Call → State → State
after_calls [] state = state
after_calls (call ∷ calls) state = after_calls calls (after_call call state)

-- what a list of calls, the first of them first, built from a new place
abbrev pub built : List Call → State
built calls = after_calls calls (is_open new_place)
