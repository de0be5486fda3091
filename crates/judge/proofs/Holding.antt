-- What tables keep as an entry falls, and how the parts of a pass follow one another.
use Rattle.std.proofs.Common.{◌≡◌, ℕ, ◌+◌, ◌<◌, Bool, true, false, ◌||◌, ◌⊎◌, ℤ, pos, negsuc, ◌+ℤ◌, neg_ℤ, ◌≤ℤ◌, ◌<ℤ◌, Ok, Err, Option, Result, sym, refl, ap, ◌∙◌, subst, ⊎_elim, arith, below_more}
use Rattle.std.specs.Result.{IsErr}
use Rattle.std.specs.Borrow.{MutBor}
use Rattle.std.proofs.lemmas.Int.{ints}
use Rattle.std.proofs.lemmas.Bool.{true≢false, false≢true}
use Rattle.rules.specs.declared.parts.Span.{Span}
use Rattle.rules.specs.Card.{Card, span_count}
use Rattle.rules.specs.Edges.{Derived}
use Rattle.rules.proofs.Derived.{derived_wider}
use Rattle.network.specs.declared.network.Network.{Network}
use Rattle.network.specs.Model.{model}
use Rattle.network.proofs.Made.{well_made}
use Rattle.network.proofs.Parts.{span_count_is}
use Rattle.judge.specs.declared.closure.Closure.{Closure}
use Rattle.judge.specs.declared.target.Target.{Target}
use Rattle.judge.specs.declared.target.Target.TheVariants.{Point, Start}
use Rattle.judge.specs.declared.target.NegativeLoop.{NegativeLoop}
use Rattle.judge.specs.Closures.{distance, entry, Placed, Put}
use Rattle.judge.specs.declared.relaxation.Relaxation.{Relaxation}
use Rattle.judge.specs.Closing.{In, head, edge_to, Off, Near, Doomed, Holds, Falls, height, Proposed, Offered, Below, IsSpan}
use Rattle.judge.specs.Falling.{card_of, Sound, Onward, Went, Told, Idle}
use Rattle.judge.proofs.Heights.{at_put, put_falls, height_drops}
use Rattle.judge.proofs.Deriving.{near_falls, next_wider, derive, near_entry, head_in, low_at, high_at, proposed_as}

-- ---- places are within the arrays

module _ (n : Network) where
  pub point_room : (p : ℕ) → p < (model n.content).points → p < 32
  point_room p lp = omega (arith, n.counts.1.1)

  pub span_room : (s : ℕ) → s < span_count (model n.content) → s < 8
  span_room s ls = omega (arith, span_count_is n, n.counts.2.0)

  pub target_room : (x : Target) → In (model n.content) x → Placed 32 8 x
  target_room (Point q) lx = point_room q lx
  target_room (Start s) lx = span_room s lx

-- ---- the points of a span are the card's

pub span_as : {card : Card} {s : ℕ} {r : Span} {start finish : ℕ} → start ≡ r.start → finish ≡ r.finish → IsSpan card s r
    → IsSpan card s (record { start = start; finish = finish; least = r.least; most = r.most })
span_as e f is = record { start_is = e ∙ is.start_is; finish_is = f ∙ is.finish_is; least_is = is.least_is; most_is = is.most_is }

module _ (n : Network) (s : ℕ) {r : Span} (is : IsSpan (model n.content) s r) (ls : s < span_count (model n.content)) where
  pub start_on : r.start < (model n.content).points
  start_on = omega (arith, is.start_is, (well_made n).start_in s ls)

  pub finish_on : r.finish < (model n.content).points
  finish_on = omega (arith, is.finish_is, (well_made n).finish_in s ls)

-- ---- the entry that leads back

pub back_at : (r : Relaxation) (p : ℕ) (x : Target) {h : ℕ} {v : ℤ} → Sound r → p < (card_of r).points → In (card_of r) x → h ≡ head (card_of r) x → v ≡ distance r.closure h p → (v ≡ distance r.closure (head (card_of r) x) p) × (negsuc 1439 ≤ℤ v) × (v ≤ℤ pos 1440)
back_at r p x sound lp lx e f =
    let n = r.network.now in
    let lh = head_in n x lx in
    let b = f ∙ ap (λ q. distance r.closure q p) e in
    (b, omega (arith, ints, b, low_at n r.closure sound _ (Point p) lh lp), omega (arith, ints, b, high_at n r.closure sound _ (Point p) lh lp))

-- ---- an entry falls

module _ (n : Network) {t t' : Closure} {p : ℕ} {x : Target} {v : ℤ}
    (holds : Holds (model n.content) t) (lp : p < (model n.content).points) (lx : In (model n.content) x) (offer : Proposed (model n.content) t p x v)
    (less : v <ℤ entry t p x) (back : pos 0 ≤ℤ (v +ℤ distance t (head (model n.content) x) p)) (put : Put t p x v t') where
  abbrev card : Card
  card = model n.content

  falls : Falls t t'
  falls = put_falls put less

  lh : head card x < card.points
  lh = head_in n x lx

  low_new : neg_ℤ (pos card.horizon) ≤ℤ v
  low_new = omega (arith, ints, back, holds.high (head card x) (Point p) lh lp)

  high_new : v ≤ℤ pos card.horizon
  high_new = omega (arith, ints, less, holds.high p x lp lx)

  new : Derived card (Near t') (edge_to card p x v)
  new = derive (next_wider (near_falls falls) (offer.next less)) (near_entry card t' p x v (omega (arith, ints, put.here)) offer.low offer.high)

  abbrev Either : ℕ → Target → Type 0
  Either r y = ((r ≡ p) × (y ≡ x) × (entry t' r y ≡ v)) ⊎ (entry t' r y ≡ entry t r y)

  traced_new : (r : ℕ) (y : Target) → r < card.points → In card y → Off r y → Derived card (Near t') (edge_to card r y (entry t' r y))
  traced_new r y lr ly off =
      ⊎_elim
      (λ s. subst (λ z. Derived card (Near t') (edge_to card r y z)) (sym s.2) (subst (λ z. Derived card (Near t') (edge_to card r z v)) (sym s.1) (subst (λ z. Derived card (Near t') (edge_to card z x v)) (sym s.0) new)))
      (λ s. subst (λ z. Derived card (Near t') (edge_to card r y z)) (sym s) (derived_wider (near_falls falls) (holds.traced r y lr ly off)))
      (at_put put r y)

  itself_new : (r : ℕ) → r < card.points → distance t' r r ≡ pos 0
  itself_new r lr =
      ⊎_elim
      (λ (s : (r ≡ p) × (Point r ≡ x) × (distance t' r r ≡ v)).
      let here : x ≡ Point p = sym s.1 ∙ ap Point s.0 in
      absurd (omega (arith, ints, less, back, ap (entry t p) here, ap (λ y. distance t (head card y) p) here, holds.itself p lp)))
      (λ (s : distance t' r r ≡ distance t r r). s ∙ holds.itself r lr)
      (at_put put r (Point r))

  home_new : (r : ℕ) → r < card.points → distance t' r 0 ≤ℤ pos 0
  home_new r lr =
      ⊎_elim
      (λ (s : (r ≡ p) × (Point 0 ≡ x) × (distance t' r 0 ≡ v)). omega (arith, ints, s.2, less, ap (entry t p) (sym s.1), holds.home p lp))
      (λ (s : distance t' r 0 ≡ distance t r 0). omega (arith, ints, s, holds.home r lr))
      (at_put put r (Point 0))

  first_new : (y : Target) → In card y → pos 0 ≤ℤ entry t' 0 y
  first_new y ly =
      ⊎_elim
      (λ (s : (0 ≡ p) × (y ≡ x) × (entry t' 0 y ≡ v)). omega (arith, ints, s.2, back, ap (λ q. distance t (head card x) q) s.0, holds.home (head card x) lh))
      (λ (s : entry t' 0 y ≡ entry t 0 y). omega (arith, ints, s, holds.first y ly))
      (at_put put 0 y)

  holds_new : Holds card t'
  holds_new = record {
    traced = traced_new;
    low = λ r y lr ly. ⊎_elim (λ s. omega (arith, ints, s.2, low_new)) (λ s. omega (arith, ints, s, holds.low r y lr ly)) (at_put put r y);
    high = λ r y lr ly. ⊎_elim (λ s. omega (arith, ints, s.2, high_new)) (λ s. omega (arith, ints, s, holds.high r y lr ly)) (at_put put r y);
    itself = itself_new;
    home = home_new;
    first = first_new;
  }

  height_less : height t' < height t
  height_less = height_drops t t' falls p (point_room n p lp) x (target_room n x lx) (omega (arith, ints, put.here, low_new, n.counts.0.1)) (omega (arith, ints, put.here, less))

pub went_put : {r : Relaxation} {t' : Closure} {p : ℕ} {x : Target} {v : ℤ} → Sound r → p < (card_of r).points → In (card_of r) x → Proposed (card_of r) r.closure p x v → v <ℤ entry r.closure p x → pos 0 ≤ℤ (v +ℤ distance r.closure (head (card_of r) x) p) → Put r.closure p x v t' → (Stands : Type 0) → Went r (record { network = r.network; closure = t' }) Stands true
went_put {r = r} sound lp lx offer less back put Stands =
    let n = r.network.now in
    record {
      onward = record { network = refl; sound = holds_new n sound lp lx offer less back put; falls = put_falls put less };
      less = λ _. height_less n sound lp lx offer less back put;
      same = λ e. absurd (true≢false e);
    }

-- ---- parts of a pass

pub onward_card : {r r' : Relaxation} → Onward r r' → card_of r' ≡ card_of r
onward_card o = ap (λ z. model z.content) o.network

pub onward_then : {r r' r'' : Relaxation} → Onward r r' → Onward r' r'' → Onward r r''
onward_then o o' = record {
  network = o'.network ∙ o.network;
  sound = o'.sound;
  falls = λ p x. omega (arith, ints, o.falls p x, o'.falls p x);
}

-- what holds of the card before holds of it after
pub along : {r r' : Relaxation} → Onward r r' → (P : Card → Type 0) → P (card_of r) → P (card_of r')
along o P h = subst P (sym (onward_card o)) h

-- and the other way round
pub before : {r r' : Relaxation} → Onward r r' → (P : Card → Type 0) → P (card_of r') → P (card_of r)
before o P h = subst P (onward_card o) h

pub proposed_along : {r r' : Relaxation} {p p' : ℕ} {x x' : Target} {v v' : ℤ} → Onward r r' → p' ≡ p → x' ≡ x → v' ≡ v → Proposed (card_of r) r'.closure p x v → Proposed (card_of r') r'.closure p' x' v'
proposed_along {r' = r'} {p' = p'} {x' = x'} {v' = v'} o e f g h = along o (λ card. Proposed card r'.closure p' x' v') (proposed_as e f g h)

pub went_none : {r : Relaxation} {Stands : Type 0} → Sound r → Stands → Went r r Stands false
went_none sound stands = record {
  onward = record { network = refl; sound = sound; falls = λ p x. omega (arith, ints) };
  less = λ e. absurd (false≢true e);
  same = λ _. (refl, stands);
}

-- one part after another
pub went_then : {r r' r'' : Relaxation} {P Q R : Type 0} (b b' : Bool) → Went r r' P b → Went r' r'' Q b' → (r' ≡ r → P → Q → R) → Went r r'' R (b || b')
went_then {r} {r'} {r''} {P} {Q} {R} b b' w w' f = record {
  onward = onward_then w.onward w'.onward;
  less = less b b' w.less w'.less (λ e. (w.same e).0) (λ e. (w'.same e).0);
  same = same b b' w.same w'.same;
}
  where
    less : (b b' : Bool) → (b ≡ true → height r'.closure < height r.closure) → (b' ≡ true → height r''.closure < height r'.closure) → (b ≡ false → r' ≡ r) → (b' ≡ false → r'' ≡ r') → b || b' ≡ true → height r''.closure < height r.closure
    less true true l l' s s' e = omega (arith, l refl, l' refl)
    less true false l l' s s' e = subst (λ z. height z.closure < height r.closure) (sym (s' refl)) (l refl)
    less false true l l' s s' e = subst (λ z. height r''.closure < height z.closure) (s refl) (l' refl)
    less false false l l' s s' e = absurd (false≢true e)

    same : (b b' : Bool) → (b ≡ false → (r' ≡ r) × P) → (b' ≡ false → (r'' ≡ r') × Q) → b || b' ≡ false → (r'' ≡ r) × R
    same true b' s s' e = absurd (true≢false e)
    same false true s s' e = absurd (true≢false e)
    same false false s s' e = ((s' refl).0 ∙ (s refl).0, f (s refl).0 (s refl).1 (s' refl).1)

pub went_both : {r r' r'' : Relaxation} (P Q : Relaxation → Type 0) {b b' : Bool} → Went r r' (P r) b → Went r' r'' (Q r') b' → Went r r'' (P r × Q r) (b || b')
went_both P Q {b} {b'} w w' = went_then b b' w w' (λ q p r. (p, subst Q q r))

pub went_as : {r r' : Relaxation} {P Q : Type 0} {b : Bool} → Went r r' P b → (P → Q) → Went r r' Q b
went_as w f = record { onward = w.onward; less = w.less; same = λ e. ((w.same e).0, f (w.same e).1) }

pub told_as : (r r' : Relaxation) {P Q : Type 0} (answer : Result Bool NegativeLoop) → Told r r' P answer → (P → Q) → Told r r' Q answer
told_as r r' (Ok b) w f = went_as w f
told_as r r' (Err e) w f = w

-- a negative loop that is found later was there before
pub told_err : (r r' r'' : Relaxation) (Stands : Type 0) (answer : Result Bool NegativeLoop) → IsErr answer → Onward r r' → Doomed (card_of r') → Told r r'' Stands answer
told_err r r' r'' Stands (Ok b) e o d = absurd (false≢true e)
told_err r r' r'' Stands (Err x) e o d = before o Doomed d

-- ---- a rule at several numbers in turn

-- what it tells of the tables as they stood then, it tells of the first, if nothing fell
pub went_more : {r r' r'' : Relaxation} (P : Relaxation → ℕ → Type 0) (k : ℕ) {b b' : Bool} → Went r r' (Below k (P r)) b → Went r' r'' (P r' k) b' → Went r r'' (Below (k + 1) (P r)) (b || b')
went_more {r = r} P k {b} {b'} w w' = went_then b b' w w' (λ q below here. below_more (P r) k below (subst (λ z. P z k) q here))

module _ (calls : MutBor Relaxation → ℕ → Result Bool NegativeLoop → MutBor Relaxation → Type 0) where
  pub went_idle : (shown left : MutBor Relaxation) (k : ℕ) {b : Bool} → Went shown.now left.now (Unit {0}) b → calls shown k (Ok b) left → Went shown.now left.now (Idle calls shown.now k) b
  went_idle shown left k w a = record {
    onward = w.onward;
    less = w.less;
    same = λ e. ((w.same e).0, record { shown = shown; left = left; shows = refl; answers = subst (λ z. calls shown k (Ok z) left) e a });
  }

  -- what it tells of each number where nothing falls, all of them tell
  pub went_each : {r r' : Relaxation} {b : Bool} (m n : ℕ) (P : Relaxation → ℕ → Type 0) → m ≡ n → Went r r' (Below m (Idle calls r)) b → ((k : ℕ) (shown left : MutBor Relaxation) → k < n → calls shown k (Ok false) left → Went shown.now left.now (P shown.now k) false) → Went r r' (Below n (P r)) b
  went_each m n P e w each = went_as w (λ below k lk.
      let i = below k (omega arith) in
      subst (λ z. P z k) i.shows ((each k i.shown i.left lk i.answers).same refl).1)

  pub told_each : (r r' : Relaxation) (m n : ℕ) (P : Relaxation → ℕ → Type 0) (answer : Result Bool NegativeLoop) → m ≡ n → Told r r' (Below m (Idle calls r)) answer → ((k : ℕ) (shown left : MutBor Relaxation) → k < n → calls shown k (Ok false) left → Went shown.now left.now (P shown.now k) false) → Told r r' (Below n (P r)) answer
  told_each r r' m n P (Ok b) e w each = went_each m n P e w each
  told_each r r' m n P (Err x) e d each = d

-- ---- what was proposed stays proposed as tables fall

pub proposed_falls : {card : Card} {t t' : Closure} {p : ℕ} {x : Target} {v : ℤ} → Falls t t' → Proposed card t p x v → Proposed card t' p x v
proposed_falls {p = p} {x = x} falls w = record {
  low = w.low;
  high = w.high;
  next = λ less. next_wider (near_falls falls) (w.next (omega (arith, ints, less, falls p x)));
}

pub offered_falls : {card : Card} {t t' : Closure} {p : ℕ} {x : Target} {w : Option ℤ} → Falls t t' → Offered card t p x w → Offered card t' p x w
offered_falls falls o = record { value = o.value; there = o.there; proposed = proposed_falls falls o.proposed }

pub offered_onward : {r r' : Relaxation} {p : ℕ} {x : Target} {w : Option ℤ} → Onward r r' → Offered (card_of r) r.closure p x w → Offered (card_of r') r'.closure p x w
offered_onward {r' = r'} {p = p} {x = x} {w = w} o offer = along o (λ card. Offered card r'.closure p x w) (offered_falls o.falls offer)
