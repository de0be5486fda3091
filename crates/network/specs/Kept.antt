-- What every card keeps, as facts over its content.
use Rattle.std.specs.Prelude.{◌≡◌, ℕ, ◌+◌, ◌<◌, ◌≤◌, length, pos, negsuc, ◌≤ℤ◌, ◌≢◌, slice_index_or, slice_set}
use Rattle.rules.specs.declared.parts.Span.{Span}
use Rattle.rules.specs.declared.parts.Tie.{Tie}
use Rattle.rules.specs.Card.{no_span, no_tie}
use Rattle.network.specs.declared.content.Content.{Content}

-- the numbers are within their limits; one tie more than a card may have can be on trial
abbrev pub Counts : Content → Type 0
Counts c = ((1 ≤ c.horizon) × (c.horizon ≤ 1440)) × ((1 ≤ c.points) × (c.points ≤ 32)) × ((c.spanned ≤ 8) × (c.tied ≤ 97))

-- the arrays are as long as they are declared
abbrev pub Lengths : Content → Type 0
Lengths c = (length c.spans ≡ 8) × (length c.ties ≡ 97)

-- a span lasts 1 ≤ least ≤ most ≤ 1440 minutes
abbrev pub Lasts : Span → Type 0
Lasts s = (1 ≤ s.least) × (s.least ≤ s.most) × (s.most ≤ 1440)

abbrev pub SpansLast : Content → Type 0
SpansLast c = (s : ℕ) → s < c.spanned → Lasts (slice_index_or c.spans s no_span)

-- it leads to a later point
abbrev pub Leads : ℕ → Span → Type 0
Leads points s = (s.start < s.finish) × (s.finish < points)

abbrev pub SpansLead : Content → Type 0
SpansLead c = (s : ℕ) → s < c.spanned → Leads c.points (slice_index_or c.spans s no_span)

-- a later span has a later finish
abbrev pub SpansRise : Content → Type 0
SpansRise c = (s : ℕ) → s < c.spanned → (r : ℕ) → r < s → (slice_index_or c.spans r no_span).finish < (slice_index_or c.spans s no_span).finish

-- a tie leads from a point to another
abbrev pub Joins : ℕ → Tie → Type 0
Joins points t = (t.from < points) × (t.to < points) × (t.from ≢ t.to)

abbrev pub TiesJoin : Content → Type 0
TiesJoin c = (i : ℕ) → i < c.tied → Joins c.points (slice_index_or c.ties i no_tie)

-- its gap is within its limits
abbrev pub Near : Tie → Type 0
Near t = (negsuc 1439 ≤ℤ t.gap) × (t.gap ≤ℤ pos 1440)

abbrev pub TiesNear : Content → Type 0
TiesNear c = (i : ℕ) → i < c.tied → Near (slice_index_or c.ties i no_tie)

-- all of it
abbrev pub Kept : Content → Type 0
Kept c = Counts c × (Lengths c × (SpansLast c × (SpansLead c × (SpansRise c × (TiesJoin c × (TiesNear c × Unit {0}))))))

-- the content with the tie in its next place among its ties
abbrev pub counted : Content → Content
counted c = record { horizon = c.horizon; points = c.points; spanned = c.spanned; spans = c.spans; tied = c.tied + 1; ties = c.ties }

-- the content with another tie in its next place
abbrev pub with_spare : Content → Tie → Content
with_spare c t = record { horizon = c.horizon; points = c.points; spanned = c.spanned; spans = c.spans; tied = c.tied; ties = slice_set c.ties c.tied t }
