-- Derived edges: where they lie, and that they stay derived within wider limits and under tables that fall.
use Rattle.std.proofs.Common.{◌≡◌, ℕ, ◌<◌, ℤ, pos, ◌≤ℤ◌, refl, arith}
use Rattle.std.proofs.lemmas.Int.{ints}
use Rattle.rules.specs.Card.{Card, WellMade, span_count, start_of, finish_of, least_of}
use Rattle.rules.specs.declared.edges.Kind.{Kind}
use Rattle.rules.specs.declared.edges.Kind.TheVariants.{Plain, Lower, Wait, AllMost}
use Rattle.rules.specs.declared.edges.Edge.{Edge}
use Rattle.rules.specs.Edges.{Given, given_late, given_early, given_most, given_least, given_lower, given_wait, given_tie, Rule, rule_n, rule_u, rule_l, rule_x, rule_r, rule_m, rule_mw, rule_s, Derived, by_given, by_rule}
use Rattle.rules.specs.Tables.{Table, AboveAt, Above}

-- ---- where the edges of each kind lie

abbrev ShapeAt : Card → Kind → ℕ → ℕ → ℤ → Type 0
ShapeAt card Plain p q w = (p < card.points) × (q < card.points)
ShapeAt card (Lower s) p q w = (s < span_count card) × (p ≡ start_of card s) × (q ≡ finish_of card s) × (w ≡ pos (least_of card s))
ShapeAt card (Wait s) p q w = (s < span_count card) × (q ≡ start_of card s) × (p < card.points)
ShapeAt card AllMost p q w = (p < card.points) × (q < card.points)

abbrev pub Shape : Card → Edge → Type 0
Shape card e = ShapeAt card e.kind e.source e.target e.weight

module _ (card : Card) (made : WellMade card) where
  pub start_below : {p s : ℕ} → s < span_count card → p ≡ start_of card s → p < card.points
  start_below {p} {s} h e = omega (arith, made.start_in s h)

  given_shape : {e : Edge} → Given card e → Shape card e
  given_shape (given_late p h k) = (made.some_point, k)
  given_shape (given_early p h k) = (k, made.some_point)
  given_shape (given_most s h) = (made.start_in s h, made.finish_in s h)
  given_shape (given_least s h) = (made.finish_in s h, made.start_in s h)
  given_shape (given_lower s h) = (h, refl, refl, refl)
  given_shape (given_wait s h) = (h, refl, made.finish_in s h)
  given_shape (given_tie i h) = (made.from_in i h, made.to_in i h)

  rule_shape : {letter : ℕ} {e f g : Edge} → Rule card letter e f g → Shape card e → Shape card f → Shape card g
  rule_shape (rule_n p q r u v) a b = (a.0, b.1)
  rule_shape (rule_u s p q r u v) a b = (b.0, b.1, a.0)
  rule_shape (rule_l s p q r u v h) a b = (start_below a.0 a.1, b.1)
  rule_shape (rule_x k s p q r u v n h) a b = (b.0, b.1, start_below a.0 a.1)
  rule_shape (rule_r s p q v h) a b = (a.2, start_below a.0 a.1)
  rule_shape (rule_m p q v) a b = a
  rule_shape (rule_mw s p q v) a b = (a.2, start_below a.0 a.1)
  rule_shape (rule_s p q r u v) a b = (a.0, b.1)

  pub shape : {Within : Edge → Type 0} {e : Edge} → Derived card Within e → Shape card e
  shape (by_given g w) = given_shape g
  shape (by_rule r a b w) = rule_shape r (shape a) (shape b)

-- ---- limits

-- what is derived within narrow limits is derived within wider ones
pub derived_wider : {card : Card} {Near Far : Edge → Type 0} → ((e : Edge) → Near e → Far e) → {e : Edge} → Derived card Near e → Derived card Far e
derived_wider wider (by_given g w) = by_given g (wider _ w)
derived_wider wider (by_rule r a b w) = by_rule r (derived_wider wider a) (derived_wider wider b) (wider _ w)

-- what does not undercut the tables does not undercut lower ones
pub above_lower : (D W D' W' : Table) → ((p q : ℕ) → D' p q ≤ℤ D p q) → ((s p : ℕ) → W' s p ≤ℤ W s p) → (e : Edge) → Above D W e → Above D' W' e
above_lower D W D' W' low low-wait e = at_kind e.kind
  where
    at_kind : (k : Kind) → AboveAt D W k e.source e.target e.weight → AboveAt D' W' k e.source e.target e.weight
    at_kind Plain h = omega (arith, ints, low e.source e.target, h)
    at_kind (Lower s) h = h
    at_kind (Wait s) h = omega (arith, ints, low-wait s e.source, h)
    at_kind AllMost h = h
