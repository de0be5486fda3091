-- The law of whole runs, by induction on the minutes played.
use Rattle.std.proofs.Common.{◌≡◌, ℕ, zero, suc, ◌+◌, ◌-◌, ◌<◌, ◌≤◌, Bool, true, false, ◌&&◌, leb, List, length, sym, refl, ap, ◌∙◌, subst, subst₂, ⊎_elim, add-one, arith}
use Rattle.std.proofs.lemmas.Bool.{false≢true, cases_lt, lt-ltb, le-leb, ltb-true}
use Rattle.rules.specs.declared.refusal.Refusal.{Refusal}
use Rattle.rules.specs.Card.{Card, WellMade, span_count, least_of, most_of}
use Rattle.rules.specs.Game.{Position, Good, Win, Mid, opening, heard, no_point}
use Rattle.kitchen.specs.declared.track.Track.{Track}
use Rattle.kitchen.specs.declared.track.Status.{Status}
use Rattle.kitchen.specs.declared.track.Status.TheVariants.{Cold, On, Done as Over}
use Rattle.kitchen.specs.Tracks.{within, fit}
use Rattle.kitchen.specs.Kitchens.{Lawful, Next, Stepped, Advanced, begun as begun-span}
use Rattle.kitchen.specs.Parts.{parts, whole}
use Rattle.minute.specs.Minutes.{nothing_yet}
use Rattle.minute.specs.Meets.{track_at, Within, FitsCard, Agrees, Ready}
use Rattle.minute.specs.Standing.{Sensible}
use Rattle.minute.specs.Played.{Meaning, Minute, Starts, StartIf, starting, ended}
use Rattle.minute.proofs.Starting.{kindled, starts_long, starts_beyond, starts_each}
use Rattle.minute.proofs.Middle.{Midway, midway, law, opening_law, none_heard}
use Rattle.minute.proofs.After.{sensible_again, agrees_again}
use Rattle.minute.proofs.Game.{heard_wins, ordered_wins}
use Rattle.run.specs.Runs.{Stage}
use Rattle.run.specs.Plays.{Fault, barred, played, short, unfit, disagrees}
use Rattle.run.specs.Whole.{bare, Partner, History, begun, more, RunsWin}
use Rattle.run.proofs.Stand.{sensible_first}

-- ---- a kitchen's spans over a minute

within_on : (l m : ℕ) (s s' : Status) → within l m s ≡ true → Next l m s s' → within l m s' ≡ true
within_on l m Cold s' w n = ap (within l m) n
within_on l m (On e) s' w n = ⊎_elim
    (λ x. ap (within l m) x.0 ∙ lt-ltb (e + 1) m x.1)
    (λ x. ap (within l m) x.0 ∙ both (leb l (e + 1)) (leb (e + 1) m) (le-leb l (e + 1) x.1) (le-leb (e + 1) m (omega (arith, ltb-true e m w))))
    n
  where
    both : (a b : Bool) → a ≡ true → b ≡ true → (a && b) ≡ true
    both a b p q = ap (λ z. z && b) p ∙ q
within_on l m (Over d) s' w n = ap (within l m) n ∙ w

stepped_fit : (t u : Track) → fit t ≡ true → Stepped t u → fit u ≡ true
stepped_fit t u f s =
    let p = parts t f in
    whole u (record {
      low = omega (arith, p.low, s.least);
      wide = omega (arith, p.wide, s.least, s.most);
      high = omega (arith, p.high, s.most);
      is = subst₂ (λ l m. within l m u.status ≡ true) (sym s.least) (sym s.most) (within_on t.least t.most t.status u.status p.is s.status);
    })

begun_fit : (t : Track) → fit t ≡ true → fit (begun-span t) ≡ true
begun_fit t f = let p = parts t f in whole (begun-span t) (record { low = p.low; wide = p.wide; high = p.high; is = lt-ltb 0 t.most (omega (arith, p.low, p.wide)) })

kindled_fit : (b : Bool) (t : Track) → fit t ≡ true → fit (kindled b t) ≡ true
kindled_fit true t f = begun_fit t f
kindled_fit false t f = f

pub lawful_on : (ts ms : List Track) → Lawful ts → Advanced ts ms → Lawful ms
lawful_on ts ms ok adv = (omega (arith, ok.0, adv.long), λ i lt. let h : i < length ts = omega (arith, adv.long) in stepped_fit (track_at ts i) (track_at ms i) (ok.1 i h) (adv.each i h))

within_kindled : (l m : ℕ) (b : Bool) (t : Track) → Within l m t → Within l m (kindled b t)
within_kindled l m true t w = record { low = w.low; high = w.high }
within_kindled l m false t w = w

module _ (new : ℕ → Bool) (n : ℕ) (ms us : List Track) (s : Starts bare new n ms us) where
  each : (i : ℕ) → (b : Bool) × (track_at us i ≡ kindled b (track_at ms i))
  each i = ⊎_elim (λ lt. (new i, starts_each bare new n ms us s i lt)) (λ le. (false, starts_beyond bare new n ms us s i le)) (cases_lt i n)

  lawful_started : Lawful ms → Lawful us
  lawful_started ok = (
    omega (arith, ok.0, starts_long bare new n ms us s),
    λ i lt. let x = each i in subst (λ t. fit t ≡ true) (sym x.1) (kindled_fit x.0 (track_at ms i) (ok.1 i (omega (arith, starts_long bare new n ms us s)))),
  )

  fits_started : (card : Card) → FitsCard card ms → FitsCard card us
  fits_started card f = record {
    enough = omega (arith, f.enough, starts_long bare new n ms us s);
    each = λ i lt. let x = each i in subst (Within (least_of card i) (most_of card i)) (sym x.1) (within_kindled (least_of card i) (most_of card i) x.0 (track_at ms i) (f.each i lt));
  }

fits_on : (card : Card) (ts ms : List Track) → FitsCard card ts → Advanced ts ms → FitsCard card ms
fits_on card ts ms f adv = record {
  enough = omega (arith, f.enough, adv.long);
  each = λ i lt. let s = adv.each i (omega (arith, f.enough)) in record { low = omega (arith, (f.each i lt).low, s.least); high = omega (arith, (f.each i lt).high, s.most) };
}

-- ---- one minute

module _ (card : Card) (made : WellMade card) (t : ℕ) (at then : Position) (spans left : List Track) (se : Sensible card t at) (time : t ≤ card.horizon)
    (p : Partner card t at spans) (m : Minute bare card t at then spans left) where
  ready : Ready card t at spans 32
  ready = record { in_time = time; room = omega arith; fits = p.fits; agrees = p.agrees }

  -- the kitchen's move, either way
  moved_lawful : Lawful m.moved
  moved_lawful = ⊎_elim
      (λ lt. lawful_on spans m.moved p.lawful (m.heard.later lt).0.0)
      (λ le. subst Lawful (sym (m.heard.first (omega arith)).1) p.lawful)
      (cases_lt 0 t)

  moved_fits : FitsCard card m.moved
  moved_fits = ⊎_elim
      (λ lt. fits_on card spans m.moved p.fits (m.heard.later lt).0.0)
      (λ le. subst (FitsCard card) (sym (m.heard.first (omega arith)).1) p.fits)
      (cases_lt 0 t)

  mid : Midway card t m.middle m.moved
  mid = midway bare card made t 32 at m.middle spans m.moved se ready moved_lawful m.heard

  pub sensible_next : Sensible card (suc t) then
  sensible_next = subst (λ n. Sensible card n then) (add-one t) (sensible_again card made t m.middle then m.moved mid m.ordered)

  pub partner_next : Partner card (suc t) then left
  partner_next = record {
    lawful = lawful_started (starting card then t) (span_count card) m.moved left m.started moved_lawful;
    fits = fits_started (starting card then t) (span_count card) m.moved left m.started card moved_fits;
    agrees = subst (λ n. Agrees card then n left) (add-one t) (agrees_again card made t m.middle then m.moved mid m.ordered bare m.moved left refl m.started);
  }

  -- the controller can win once the finishes are heard
  mid_wins : Good card → (0 < t → Win card (suc card.horizon - t) t at) → Mid card (card.horizon - t) t m.middle no_point
  mid_wins good wins = ⊎_elim
      (λ lt.
      let x = m.heard.later lt in
      let left-then : suc card.horizon - t ≡ suc (card.horizon - t) = omega arith in
      subst (λ f. Mid card (card.horizon - t) t f no_point) (sym x.1)
      (heard_wins card (card.horizon - t) t at (ended card at m.moved) (subst (λ k. Win card k t at) left-then (wins lt)) (law card made t 32 at spans m.moved se ready x.0.0 moved_lawful)))
      (λ le.
      let e : t ≡ 0 = omega arith in
      let k : card.horizon ≡ card.horizon - t = omega arith in
      subst (λ f. Mid card (card.horizon - t) t f no_point) (none_heard card ∙ sym (m.heard.first e).0)
      (subst₂ (λ j n. Mid card j n (heard card 0 no_point opening) no_point) k (sym e) (heard_wins card card.horizon 0 opening no_point good (opening_law card made))))
      (cases_lt 0 t)

  pub wins_next : Good card → (0 < t → Win card (suc card.horizon - t) t at) → Win card (suc card.horizon - suc t) (suc t) then
  wins_next good wins =
      let e : card.horizon - t ≡ suc card.horizon - suc t = omega arith in
      subst (λ k. Win card k (suc t) then) e (ordered_wins card t m.middle then m.ordered (mid_wins good wins))

-- ---- whole runs

record Facts (card : Card) (t : ℕ) (at : Position) : Type 0 where
  in_time : t ≤ suc card.horizon
  sensible : Sensible card t at
  wins : 0 < t → Win card (suc card.horizon - t) t at

facts : (card : Card) → WellMade card → Good card → (t : ℕ) (at : Position) → History card t at → Facts card t at
facts card made good t at begun = record { in_time = omega arith; sensible = sensible_first card nothing_yet refl; wins = λ lt. absurd (omega arith) }
facts card made good n then (more t at _ spans left h time p m) =
    let f = facts card made good t at h in
    record {
      in_time = omega (arith, time);
      sensible = sensible_next card made t at then spans left f.sensible time p m;
      wins = λ _. wins_next card made t at then spans left f.sensible time p m good f.wins;
    }

-- nothing stands against a minute that can be played
pub none_against : (s : Stage) (spans : List Track) (places : ℕ) → s.live ≡ true → Ready s.card s.next s.position spans places → (why : Refusal) → Fault s spans places why → ⊥
none_against s spans places live r why (barred e) = false≢true (sym e ∙ live)
none_against s spans places live r why (played e h) = omega (arith, r.in_time)
none_against s spans places live r why (short e h k) = omega (arith, r.room)
none_against s spans places live r why (unfit e h k n) = n r.fits
none_against s spans places live r why (disagrees e h k f n) = n r.agrees

pub runs_win : RunsWin
runs_win card made good t at h =
    let f = facts card made good t at h in
    record {
      in_time = f.in_time;
      past = f.sensible.past;
      wins = f.wins;
      done = λ e. let z : suc card.horizon - t ≡ 0 = omega arith in subst (λ k. Win card k t at) z (f.wins (omega arith));
      partner = λ then spans left time p m. partner_next card made t at then spans left f.sensible time p m;
      accepted = λ spans places time p room. none_against _ spans places refl (record { in_time = time; room = room; fits = p.fits; agrees = p.agrees });
    }

-- ---- what a kitchen as a whole does, its spans do

starts_bare : {K : Type 0} (means : Meaning K) (new : ℕ → Bool) (n : ℕ) (k l : K) → Starts means new n k l → Starts bare new n (means.spans k) (means.spans l)
starts_bare means new zero k l h = ap means.spans h
starts_bare means new (suc n) k l h = (means.spans h.0, starts_bare means new n k h.0 h.1, one (new n) h.2)
  where
    one : (b : Bool) → StartIf means b n h.0 l → StartIf bare b n (means.spans h.0) (means.spans l)
    one true x = (x.0, tt)
    one false x = ap means.spans x

pub minute_bare : {K : Type 0} (means : Meaning K) (card : Card) (t : ℕ) (at then : Position) (k l : K) → Minute means card t at then k l → Minute bare card t at then (means.spans k) (means.spans l)
minute_bare means card t at then k l m = record {
  middle = m.middle;
  moved = means.spans m.moved;
  heard = record { first = λ e. ((m.heard.first e).0, ap means.spans (m.heard.first e).1); later = λ lt. (((m.heard.later lt).0.0, tt), (m.heard.later lt).1) };
  ordered = m.ordered;
  started = starts_bare means (starting card then t) (span_count card) m.moved l m.started;
}

-- ---- the history of a run as the code holds it

pub history_first : (card : Card) (at : Position) → at ≡ nothing_yet → History card 0 at
history_first card at e = subst (History card 0) (sym e) begun

pub history_on : {K : Type 0} (means : Meaning K) (card : Card) (t places : ℕ) (at then : Position) (k l : K)
    → Lawful (means.spans k) → Ready card t at (means.spans k) places → Minute means card t at then k l → History card t at → History card (t + 1) then
history_on means card t places at then k l ok r m h =
    subst (λ n. History card n then) (sym (add-one t))
    (more t at then (means.spans k) (means.spans l) h r.in_time (record { lawful = ok; fits = r.fits; agrees = r.agrees }) (minute_bare means card t at then k l m))
