-- The edge that a letter makes of a left and a right edge, if there is one: the rules, computed.
use Rattle.std.specs.Prelude.{ℕ, cond, ◌&&◌, pos, negsuc, ◌+ℤ◌, neg_ℤ, Some, None, Option, ◌==◌, int_le, int_lt}
use Rattle.rules.specs.declared.edges.Kind.{Kind}
use Rattle.rules.specs.declared.edges.Kind.TheVariants.{Plain, Lower, Wait, AllMost}
use Rattle.rules.specs.declared.edges.Edge.{Edge}
use Rattle.rules.specs.Card.{Card, least_of}
use Rattle.rules.specs.Edges.{edge}

-- ---- an edge for one kind, and none for the others

abbrev pub if_plain : Kind → Option Edge → Option Edge
if_plain Plain made = made
if_plain (Lower s) made = None
if_plain (Wait s) made = None
if_plain AllMost made = None

abbrev pub if_lower : Kind → (ℕ → Option Edge) → Option Edge
if_lower Plain made = None
if_lower (Lower s) made = made s
if_lower (Wait s) made = None
if_lower AllMost made = None

abbrev pub if_wait : Kind → (ℕ → Option Edge) → Option Edge
if_wait Plain made = None
if_wait (Lower s) made = None
if_wait (Wait s) made = made s
if_wait AllMost made = None

abbrev pub if_all_most : Kind → Option Edge → Option Edge
if_all_most Plain made = None
if_all_most (Lower s) made = None
if_all_most (Wait s) made = None
if_all_most AllMost made = made

-- ---- edges

-- an edge whose weight is in range
abbrev pub ranged : Edge → Option Edge
ranged e = cond (int_le (negsuc 999_999) e.weight && int_le e.weight (pos 1_000_000)) (Some e) None

-- the edge of kind k from the left edge's source to the right edge's target, where the two meet
abbrev pub chained : Kind → Edge → Edge → Option Edge
chained k l r = cond (l.target == r.source) (ranged (edge k l.source r.target (l.weight +ℤ r.weight))) None

-- the same edge, of kind k
abbrev pub turned : Kind → Edge → Option Edge
turned k e = ranged (edge k e.source e.target e.weight)

-- ---- letters

abbrev pub by_n : Edge → Edge → Option Edge
by_n l r = if_plain l.kind (if_plain r.kind (chained Plain l r))

abbrev pub by_u : Edge → Edge → Option Edge
by_u l r = if_plain l.kind (if_wait r.kind (λ s. chained (Wait s) l r))

abbrev pub by_l : Edge → Edge → Option Edge
by_l l r = cond (int_lt r.weight (pos 0)) (if_lower l.kind (λ k. if_plain r.kind (chained Plain l r))) None

abbrev pub by_x : Edge → Edge → Option Edge
by_x l r = cond (int_lt r.weight (pos 0)) (if_lower l.kind (λ k. if_wait r.kind (λ s. cond (k == s) None (chained (Wait s) l r)))) None

abbrev pub by_r : Card → Edge → Option Edge
by_r card l = if_wait l.kind (λ s. cond (int_le (neg_ℤ (pos (least_of card s))) l.weight) (turned Plain l) None)

-- the same edge among those of the AllMax projection, if it is plain or a wait
abbrev pub projected : Kind → Option Edge → Option Edge
projected Plain made = made
projected (Lower s) made = None
projected (Wait s) made = made
projected AllMost made = None

abbrev pub by_m : Edge → Option Edge
by_m l = projected l.kind (turned AllMost l)

abbrev pub by_s : Edge → Edge → Option Edge
by_s l r = if_all_most l.kind (if_all_most r.kind (chained AllMost l r))

unfoldable pub makes : Card → ℕ → Edge → Edge → Option Edge
makes card letter l r =
    cond (letter == 78) (by_n l r)
    (cond (letter == 85) (by_u l r)
    (cond (letter == 76) (by_l l r)
    (cond (letter == 88) (by_x l r)
    (cond (letter == 82) (by_r card l)
    (cond (letter == 77) (by_m l)
    (cond (letter == 83) (by_s l r) None))))))
