-- From a run that stands and a kitchen that agrees to the middle of the minute, when the finishes are heard.
use Rattle.std.proofs.Common.{◌≡◌, ℕ, ◌+◌, ◌<◌, ◌≤◌, true, false, T, ◌≢◌, ◌⊎◌, List, length, Some, None, Option, sym, refl, ap, ◌∙◌, subst, subst₂, inl, inr, ⊎_elim, arith}
use mathlib.Core.Path.{fun_ext}
use Rattle.std.proofs.lemmas.Bool.{false≢true, cases_eq, cases_lt, ne_eqb}
use Rattle.rules.specs.Card.{Card, WellMade, span_count, start_of, finish_of, least_of, most_of, finish_among}
use Rattle.rules.specs.Game.{Position, Lawful, opening, after, heard, only, no_point}
use Rattle.rules.specs.Tables.{Fits, late}
use Rattle.rules.proofs.Flags.{so, so_back, not_so}
use Rattle.rules.proofs.Basics.{clash, same, known_by, and_left, and_right, and_both, among_is, is_among, after_old, after_back, after_none, after_not, after_new, after_nothing, only_is, is_only, opening_is, opening_zero}
use Rattle.rules.proofs.Strategy.{start_fits, kitchen_fits}
use Rattle.kitchen.specs.declared.track.Track.{Track}
use Rattle.kitchen.specs.declared.track.Status.TheVariants.{Cold}
use Rattle.kitchen.specs.Tracks.{within, is_done}
use Rattle.kitchen.specs.Kitchens.{Advanced, Lawful as LawfulSpans}
use Rattle.kitchen.specs.Parts.{parts}
use Rattle.judge.specs.declared.closure.Closure.{Closure}
use Rattle.judge.specs.Closures.{distance, wait}
use Rattle.minute.specs.Minutes.{is_none, is_at}
use Rattle.minute.specs.Meets.{track_at, Tells, Ready}
use Rattle.minute.specs.Standing.{Sensible, Standing}
use Rattle.minute.specs.Played.{Meaning, ended, Heard}
use Rattle.minute.proofs.Meeting.{tells_from}
use Rattle.minute.proofs.Ending.{may_end, must_end, told_on, cold_told}

none_out : (o : Option ℕ) → T (is_none o) → o ≡ None
none_out None e = refl
none_out (Some a) e = absurd e

-- what is known once the finishes are heard
pub record Midway (card : Card) (t : ℕ) (mid : Position) (spans : List Track) : Type 0 where
  pub past : (p a : ℕ) → mid p ≡ Some a → a ≤ t
  pub begun : (s : ℕ) → s < span_count card → mid (start_of card s) ≡ None → mid (finish_of card s) ≡ None
  pub enough : span_count card ≤ length spans
  -- a span is told as it is, unless its start happens now
  pub seen : (s : ℕ) → s < span_count card →
      (Tells (t + 1) (mid (start_of card s)) (mid (finish_of card s)) (track_at spans s).status × (is_at t (mid (start_of card s)) ≡ false))
      ⊎ (((track_at spans s).status ≡ Cold) × (mid (start_of card s) ≡ Some t) × (mid (finish_of card s) ≡ None))

-- ---- later than minute 0

module _ (card : Card) (made : WellMade card) (t places : ℕ) (at : Position) (ts ms : List Track) (st : Sensible card t at)
    (re : Ready card t at ts places) (adv : Advanced ts ms) (ok : LawfulSpans ms) where
  in_ts : (s : ℕ) → s < span_count card → s < length ts
  in_ts s lt = omega (arith, re.fits.enough)

  inside : (s : ℕ) → s < span_count card → within (track_at ts s).least (track_at ts s).most (track_at ms s).status ≡ true
  inside s lt =
      let x = adv.each s (in_ts s lt) in
      subst₂ (λ l m. within l m (track_at ms s).status ≡ true) x.least x.most (parts (track_at ms s) (ok.1 s (omega (arith, in_ts s lt, adv.long)))).is

  unended : (s : ℕ) → T (ended card at ms s) → at (finish_of card s) ≡ None
  unfolding ended
  unended s e = none_out (at (finish_of card s)) (and_right (is_done (track_at ms s).status) _ e)

  may : (s : ℕ) → s < span_count card → T (ended card at ms s) → (a : ℕ) × (at (start_of card s) ≡ Some a) × (a + least_of card s ≤ t) × (t ≤ a + most_of card s)
  unfolding ended
  may s lt e =
      let w = re.fits.each s lt in
      may_end (least_of card s) (most_of card s) t (track_at ts s).least (track_at ts s).most w.low w.high (track_at ms s).status (inside s lt)
      (at (start_of card s)) (at (finish_of card s)) (track_at ts s).status (re.agrees s lt) (adv.each s (in_ts s lt)).status (so (and_left (is_done (track_at ms s).status) _ e)) (unended s e)

  must : (s a : ℕ) → s < span_count card → at (start_of card s) ≡ Some a → at (finish_of card s) ≡ None → t ≡ a + most_of card s → T (ended card at ms s)
  unfolding ended
  must s a lt h n e =
      let w = re.fits.each s lt in
      let d = must_end (least_of card s) (most_of card s) t (track_at ts s).least (track_at ts s).most w.low w.high (track_at ms s).status (inside s lt)
      (at (start_of card s)) (at (finish_of card s)) (track_at ts s).status a (re.agrees s lt) (adv.each s (in_ts s lt)).status h n e in
      and_both (is_done (track_at ms s).status) (is_none (at (finish_of card s))) (so_back d) (so_back (ap is_none n))

  pub law : Lawful card t at (ended card at ms)
  law = record {
    started = λ s lt e n. clash (may s lt e).1 n;
    unfinished = λ s lt e. unended s e;
    within = λ s a lt e h.
        let x = may s lt e in
        let z : x.0 ≡ a = same x.1 h in
        (omega (arith, x.2), omega (arith, x.3));
    forced = must;
  }

  finish_new : (s : ℕ) → s < span_count card → ended card at ms s ≡ true → heard card t (ended card at ms) at (finish_of card s) ≡ Some t
  finish_new s lt e = after_new t (finish_among card (ended card at ms)) at (finish_of card s) (is_among card (ended card at ms) s lt (so_back e)) (unended s (so_back e))

  finish_kept : (s : ℕ) → s < span_count card → ended card at ms s ≡ false → heard card t (ended card at ms) at (finish_of card s) ≡ at (finish_of card s)
  finish_kept s lt e =
      after_not t (finish_among card (ended card at ms)) at (finish_of card s)
      (λ h.
      let x = among_is card (ended card at ms) (finish_of card s) h in
      false≢true (sym e ∙ subst (λ r. ended card at ms r ≡ true) (made.finish_apart x.0 s x.1 lt x.3) (so x.2)))

  told : (s : ℕ) → s < span_count card → Tells (t + 1) (at (start_of card s)) (heard card t (ended card at ms) at (finish_of card s)) (track_at ms s).status
  unfolding ended
  told s lt =
      told_on (track_at ts s).least (track_at ts s).most t (track_at ms s).status (heard card t (ended card at ms) at (finish_of card s)) (at (start_of card s)) (at (finish_of card s)) (track_at ts s).status
      (re.agrees s lt) (adv.each s (in_ts s lt)).status (finish_new s lt) (finish_kept s lt)

  early : (o : Option ℕ) → ((a : ℕ) → o ≡ Some a → a < t) → is_at t o ≡ false
  early None h = refl
  early (Some a) h = ne_eqb a t (λ e. absurd (omega (arith, h a refl)))

  -- a span that had not started has not ended
  not_ended : (s : ℕ) → s < span_count card → at (start_of card s) ≡ None → heard card t (ended card at ms) at (finish_of card s) ≡ None
  not_ended s lt n = finish_kept s lt (not_so (λ e. clash (may s lt e).1 n)) ∙ st.begun s lt n

  module _ (s : ℕ) (lt : s < span_count card) where
    abbrev Seen : Type 0
    Seen = (Tells (t + 1) (heard card t (ended card at ms) at (start_of card s)) (heard card t (ended card at ms) at (finish_of card s)) (track_at ms s).status × (is_at t (heard card t (ended card at ms) at (start_of card s)) ≡ false))
        ⊎ (((track_at ms s).status ≡ Cold) × (heard card t (ended card at ms) at (start_of card s) ≡ Some t) × (heard card t (ended card at ms) at (finish_of card s) ≡ None))

    cold_now : at (start_of card s) ≡ None → (track_at ms s).status ≡ Cold
    cold_now n = cold_told (t + 1) (at (start_of card s)) (heard card t (ended card at ms) at (finish_of card s)) (track_at ms s).status n (told s lt)

    seen_cold : at (start_of card s) ≡ None → Seen
    seen_cold n = ⊎_elim
        (λ m. inl (tells_from (t + 1) _ _ None _ _ Cold m refl (cold_now n) tt, ap (is_at t) m))
        (λ x. inr (cold_now n, ⊎_elim (λ y. clash y n) (λ y. x.1 ∙ ap Some y.2) (after_back t (finish_among card (ended card at ms)) at (start_of card s) x.0 x.1), not_ended s lt n))
        (known_by (heard card t (ended card at ms) at (start_of card s)))

    seen_on : (a : ℕ) → at (start_of card s) ≡ Some a → Seen
    seen_on a h =
        let e : heard card t (ended card at ms) at (start_of card s) ≡ at (start_of card s) = after_old t (finish_among card (ended card at ms)) at (start_of card s) a h ∙ sym h in
        inl (tells_from (t + 1) _ _ _ _ _ _ e refl refl (told s lt), ap (is_at t) e ∙ early (at (start_of card s)) (st.past (start_of card s)))

    seen_now : Seen
    seen_now = ⊎_elim seen_cold (λ x. seen_on x.0 x.1) (known_by (at (start_of card s)))

  later_mid : Midway card t (heard card t (ended card at ms) at) ms
  later_mid = record {
    past = λ p a h. ⊎_elim (λ x. omega (arith, st.past p a x)) (λ x. omega (arith, x.2)) (after_back t (finish_among card (ended card at ms)) at p a h);
    begun = λ s lt h. not_ended s lt (after_none t (finish_among card (ended card at ms)) at (start_of card s) h).0;
    enough = omega (arith, re.fits.enough, adv.long);
    seen = seen_now;
  }

-- ---- minute 0

pub opening_other : (p : ℕ) → p ≢ 0 → opening p ≡ None
opening_other p n = ⊎_elim (λ e. e) (λ x. absurd (n (opening_is p x.0 x.1).0)) (known_by (opening p))

-- no span can end before it has started
pub opening_law : (card : Card) → WellMade card → Lawful card 0 opening no_point
opening_law card made = record {
  started = λ s lt e n. e;
  unfinished = λ s lt e. absurd e;
  within = λ s a lt e h. absurd e;
  forced = λ s a lt h n e. absurd (omega (arith, made.one_least s lt, made.least_most s lt));
}

pub none_heard : (card : Card) → heard card 0 no_point opening ≡ opening
none_heard card = after_nothing 0 (finish_among card no_point) opening (λ p h. (among_is card no_point p h).2)

module _ (card : Card) (made : WellMade card) (places : ℕ) (at : Position) (ts : List Track) (st : Sensible card 0 at) (re : Ready card 0 at ts places) where
  cold : (s : ℕ) → s < span_count card → (track_at ts s).status ≡ Cold
  cold s lt = cold_told 0 (at (start_of card s)) (at (finish_of card s)) (track_at ts s).status (st.nothing refl (start_of card s)) (re.agrees s lt)

  no_finish : (s : ℕ) → s < span_count card → opening (finish_of card s) ≡ None
  no_finish s lt = opening_other (finish_of card s) (λ e. absurd (omega (arith, made.finish_later s lt)))

  first_mid : Midway card 0 opening ts
  first_mid = record {
    past = λ p a h. omega (arith, (opening_is p a h).1);
    begun = λ s lt h. no_finish s lt;
    enough = re.fits.enough;
    seen = λ s lt. ⊎_elim
        (λ e. inr (cold s lt, ap opening e ∙ opening_zero, no_finish s lt))
        (λ ne. let o = opening_other (start_of card s) ne in inl (tells_from 1 _ _ None _ _ Cold o refl (cold s lt) tt, ap (is_at 0) o))
        (cases_eq (start_of card s) 0);
  }

pub opened : (at : Position) → ((p : ℕ) → at p ≡ None) → after 0 (only 0) at ≡ opening
opened at empty = fun_ext (λ p. ⊎_elim
    (λ e. subst (λ x. after 0 (only 0) at x ≡ opening x) (sym e) (after_new 0 (only 0) at 0 (is_only 0 0 refl) (empty 0) ∙ sym opening_zero))
    (λ n. after_not 0 (only 0) at p (λ h. n (only_is 0 p h)) ∙ empty p ∙ sym (opening_other p n))
    (cases_eq p 0))

-- either way
pub midway : {K : Type 0} (means : Meaning K) (card : Card) → WellMade card → (t places : ℕ) (at mid : Position) (k m : K)
    → Sensible card t at → Ready card t at (means.spans k) places → LawfulSpans (means.spans m) → Heard means card t at mid k m → Midway card t mid (means.spans m)
midway means card made t places at mid k m st re ok h =
    ⊎_elim
    (λ lt. let x = h.later lt in subst (λ f. Midway card t f (means.spans m)) (sym x.1) (later_mid card made t places at (means.spans k) (means.spans m) st re x.0.0 ok))
    (λ le.
    let e : t ≡ 0 = omega arith in
    let x = h.first e in
    subst₂ (λ f l. Midway card t f (means.spans l)) (sym x.0) (sym x.1)
    (subst (λ n. Midway card n opening (means.spans k)) (sym e) (first_mid card made places at (means.spans k) (subst (λ n. Sensible card n at) e st) (subst (λ n. Ready card n at (means.spans k) places) e re))))
    (cases_lt 0 t)

-- and the position fits the tables
pub mid_fits : {K : Type 0} (means : Meaning K) (card : Card) → WellMade card → (closure : Closure) (t places : ℕ) (at mid : Position) (k m : K)
    → Standing card closure t at → Ready card t at (means.spans k) places → LawfulSpans (means.spans m) → Heard means card t at mid k m
    → Fits card (distance closure) (wait closure) t (late card no_point) mid
mid_fits means card made closure t places at mid k m st re ok h =
    ⊎_elim
    (λ lt.
    let x = h.later lt in
    subst (Fits card (distance closure) (wait closure) t (late card no_point)) (sym x.1)
    (kitchen_fits card (distance closure) (wait closure) made st.tight.closed t at (ended card at (means.spans m)) (st.fits lt) (law card made t places at (means.spans k) (means.spans m) st.sensible re x.0.0 ok)))
    (λ le.
    let e : t ≡ 0 = omega arith in
    subst₂ (λ n f. Fits card (distance closure) (wait closure) n (late card no_point) f) (sym e) (none_heard card ∙ sym (h.first e).0)
    (kitchen_fits card (distance closure) (wait closure) made st.tight.closed 0 opening no_point (start_fits card (distance closure) (wait closure) made st.tight.sound) (opening_law card made)))
    (cases_lt 0 t)
