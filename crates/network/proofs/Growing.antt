-- One span or tie more: what a call that is not refused brings, and that the content keeps what it kept.
use Rattle.std.proofs.Common.{◌≡◌, ℕ, ◌+◌, ◌<◌, ◌≤◌, ◌≢◌, List, length, get_or, set, Option, Some, None, Result, Ok, Err, refl, sym, ap, ◌∙◌, add-one, arith, length-set, get_or-set_other, get_or-set_same, below_more}
use Rattle.std.proofs.lemmas.Bool.Decides.{nat_tests}
use Rattle.std.proofs.lemmas.Int.{ints}
use Rattle.std.proofs.lemmas.List.{take_more_set, set-set, set-get_or}
use Rattle.rules.specs.declared.parts.Span.{Span}
use Rattle.rules.specs.declared.parts.Tie.{Tie}
use Rattle.rules.specs.declared.refusal.Refusal.{Refusal}
use Rattle.rules.specs.declared.refusal.Refusal.TheVariants.{TiesFull}
use Rattle.rules.specs.Card.{Card, no_span, no_tie, span_count, tie_count}
use Rattle.rules.specs.Calls.{span_fault, try_fault, tie_fault, tie_answer, answered, unless, spanned, tied, with_span, with_tie}
use Rattle.network.specs.declared.content.Content.{Content}
use Rattle.network.specs.declared.network.Network.{Network}
use Rattle.network.specs.Model.{model}
use Rattle.network.specs.Kept.{Lasts, Leads, Joins, Near, Kept, counted, with_spare}
use Rattle.network.proofs.Parts.{span_count_is, tie_count_is}

-- a check that passes found no fault
pub passed : (f : Option Refusal) (r : Result (Unit {0}) Refusal) → r ≡ answered f tt → r ≡ Ok tt → f ≡ None
passed None r e k = refl
passed (Some x) r e k = cc

-- one that fails tells it
pub failed : (f : Option Refusal) (r : Result (Unit {0}) Refusal) (x : Refusal) → r ≡ answered f tt → r ≡ Err x → f ≡ Some x
failed None r x e k = cc
failed (Some y) r x e k = cc

pub span_free : (card : Card) (a l u : ℕ) → span_fault card a l u ≡ None
    → (a < card.points) × (1 ≤ l) × (l ≤ u) × (u ≤ 1440) × (card.points < 32) × (span_count card < 8)
span_free card a l u e = grind (arith, nat_tests)

pub try_free : (card : Card) (t : Tie) → try_fault card t ≡ None → Joins card.points t × Near t
try_free card t e = grind (arith, nat_tests, ints)

pub room_left : (card : Card) (t : Tie) → try_fault card t ≡ None → tie_count card < 96 → tie_fault card t ≡ None
room_left card t e h = rw e (grind (arith, nat_tests))

pub no_room : (card : Card) (t : Tie) → try_fault card t ≡ None → 96 ≤ tie_count card → tie_fault card t ≡ Some TiesFull
no_room card t e h = rw e (grind (arith, nat_tests))

-- what holds of the first n elements, and of y, holds of the first n + 1 with y at n
pub each_set : {X : Type 0} (P : X → Type 0) (d : X) (xs : List X) (n : ℕ) (y : X) → ((k : ℕ) → k < n → P (get_or xs k d)) → n < length xs → P y
    → (k : ℕ) → k < n + 1 → P (get_or (set xs n y) k d)
each_set P d xs n y each room here =
    below_more _ _ (λ k lt. let ne : k ≢ n = omega arith in rw get_or-set_other (each k lt)) (rw get_or-set_same here)

-- finishes go on to rise
abbrev Rise : List Span → ℕ → Type 0
Rise xs n = (s : ℕ) → s < n → (r : ℕ) → r < s → (get_or xs r no_span).finish < (get_or xs s no_span).finish

pub rise_set : (xs : List Span) (n : ℕ) (y : Span) → Rise xs n → n < length xs → ((k : ℕ) → k < n → (get_or xs k no_span).finish < y.finish) → Rise (set xs n y) (n + 1)
rise_set xs n y rise room above =
    below_more _ _
    (λ s lt r h. let ns : s ≢ n = omega arith in let nr : r ≢ n = omega arith in
    let es = get_or-set_other xs n s y no_span ns in let er = get_or-set_other xs n r y no_span nr in rw (es, er) (rise s lt r h))
    (λ r h. let nr : r ≢ n = omega arith in let er = get_or-set_other xs n r y no_span nr in let en = get_or-set_same xs n y no_span room in rw (en, er) (above r h))

-- ---- the whole content, in the form in which a network's ghost fields are asked for

-- one span more
abbrev pub span_pushed : Content → Span → Content
span_pushed c y = record { horizon = c.horizon; points = c.points + 1; spanned = c.spanned + 1; spans = set c.spans c.spanned y; tied = c.tied; ties = c.ties }

-- one tie more
abbrev pub tie_pushed : Content → Tie → Content
tie_pushed c t = counted (with_spare c t)

-- a tie that was on trial leaves the content as it was
pub restored : (c : Content) (t : Tie) → with_spare (with_spare c t) (get_or c.ties c.tied no_tie) ≡ c
restored c t =
    ap (λ (ts : List Tie). let r : Content = record { horizon = c.horizon; points = c.points; spanned = c.spanned; spans = c.spans; tied = c.tied; ties = ts } in r)
    (set-set c.ties c.tied t (get_or c.ties c.tied no_tie) ∙ set-get_or c.ties c.tied no_tie)

module _ (n : Network) where
  pub span_kept : (a l u : ℕ) → span_fault (model n.content) a l u ≡ None → Kept (span_pushed n.content (record { start = a; finish = n.content.points; least = l; most = u }))
  span_kept a l u free =
      let c = n.content in
      let y : Span = record { start = a; finish = c.points; least = l; most = u } in
      let f = span_free (model c) a l u free in
      let few : c.spanned < 8 = omega (arith, f.5, span_count_is n) in
      let room : c.spanned < length c.spans = omega arith in (
        (omega arith, (omega arith, omega (arith, f.4)), (omega arith, omega arith)),
        (
          (length-set c.spans c.spanned y ∙ n.lengths.0, n.lengths.1),
          (
            each_set Lasts no_span c.spans c.spanned y n.last room (f.1, f.2, f.3),
            (
              each_set (Leads (c.points + 1)) no_span c.spans c.spanned y (λ k h. ((n.lead k h).0, omega (arith, (n.lead k h).1))) room (f.0, omega arith),
              (
                rise_set c.spans c.spanned y n.rise room (λ k h. (n.lead k h).1),
                (
                  (λ i h. (omega (arith, (n.joined i h).0), omega (arith, (n.joined i h).1), (n.joined i h).2)),
                  (n.near, tt),
                ),
              ),
            ),
          ),
        ),
      )

  pub tie_kept : (t : Tie) → try_fault (model n.content) t ≡ None → n.content.tied < 97 → Kept (tie_pushed n.content t)
  tie_kept t free some =
      let c = n.content in
      let f = try_free (model c) t free in
      let room : c.tied < length c.ties = omega arith in (
        (omega arith, (omega arith, omega arith), (omega arith, omega arith)),
        (
          (n.lengths.0, length-set c.ties c.tied t ∙ n.lengths.1),
          (
            n.last,
            (
              n.lead,
              (
                n.rise,
                (
                  each_set (Joins c.points) no_tie c.ties c.tied t n.joined room f.0,
                  (each_set Near no_tie c.ties c.tied t n.near room f.1, tt),
                ),
              ),
            ),
          ),
        ),
      )

  -- it stands for the card with the span, or the tie
  pub model_span : (a l u : ℕ) → span_fault (model n.content) a l u ≡ None
      → model (span_pushed n.content (record { start = a; finish = n.content.points; least = l; most = u })) ≡ spanned a l u (model n.content)
  model_span a l u free =
      let c = n.content in
      let y : Span = record { start = a; finish = c.points; least = l; most = u } in
      let f = span_free (model c) a l u free in
      let room : c.spanned < length c.spans = omega (arith, f.5, span_count_is n) in
      let e = take_more_set c.spans c.spanned y room in
      (λ i. record { horizon = c.horizon; points = add-one c.points i; spans = e i; ties = (model c).ties }) ∙ ap (λ g. unless g (with_span (model c) a l u) (model c)) (sym free)

  pub model_tie : (t : Tie) → n.content.tied < 97 → model (tie_pushed n.content t) ≡ with_tie (model n.content) t
  model_tie t some =
      let c = n.content in
      let room : c.tied < length c.ties = omega arith in
      let e = take_more_set c.ties c.tied t room in
      (λ i. record { horizon = c.horizon; points = c.points; spans = (model c).spans; ties = e i })

  pub tie_full : (t : Tie) → try_fault (model n.content) t ≡ None → 96 ≤ n.content.tied
      → (Err TiesFull ≡ tie_answer (model n.content) t) × (model n.content ≡ tied t (model n.content))
  tie_full t free full =
      let m = model n.content in
      let e = no_room m t free (omega (arith, tie_count_is n)) in
      (ap (λ f. answered f (tie_count m)) (sym e), ap (λ f. unless f (with_tie m t) m) (sym e))

  pub tie_added : (t : Tie) → try_fault (model n.content) t ≡ None → n.content.tied < 96
      → (Ok n.content.tied ≡ tie_answer (model n.content) t) × (model (tie_pushed n.content t) ≡ tied t (model n.content))
  tie_added t free room =
      let m = model n.content in
      let e = room_left m t free (omega (arith, tie_count_is n)) in
      (ap Ok (sym (tie_count_is n)) ∙ ap (λ f. answered f (tie_count m)) (sym e), model_tie t (omega arith) ∙ ap (λ f. unless f (with_tie m t) m) (sym e))
