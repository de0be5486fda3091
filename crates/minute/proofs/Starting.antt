-- Starting spans one after the other.
use Rattle.std.proofs.Common.{◌≡◌, ℕ, zero, suc, ◌+◌, ◌<◌, ◌≤◌, Bool, true, false, ◌≢◌, List, length, Ok, Err, Result, sym, refl, ap, ◌∙◌, subst, ⊎_elim, add-one, arith, get_or-set_other, get_or-set_same}
use native.Mathlib.Decide.{ℕ_discrete}
use Rattle.std.proofs.lemmas.List.{length-set}
use Rattle.rules.specs.declared.refusal.Refusal.{Refusal}
use Rattle.kitchen.specs.declared.track.Track.{Track}
use Rattle.kitchen.specs.declared.track.Status.TheVariants.{Cold}
use Rattle.kitchen.specs.Tracks.{no_track}
use Rattle.kitchen.specs.Kitchens.{Started, begun}
use Rattle.minute.specs.Meets.{track_at}
use Rattle.minute.specs.Played.{Meaning, Start, StartIf, Starts}

-- a span that is there and cold is started
pub accepted : (ts us : List Track) (s : ℕ) (r : Result (Unit {0}) Refusal) → s < length ts → (track_at ts s).status ≡ Cold → Started ts s r us → r ≡ Ok tt
accepted ts us s (Ok u) lt c h = refl
accepted ts us s (Err e) lt c h = absurd (⊎_elim (λ x. omega (arith, x.0)) (λ x. x.1 c) h.0)

-- a span as it is if it is started
abbrev pub kindled : Bool → Track → Track
kindled true x = begun x
kindled false x = x

module _ {K : Type 0} (means : Meaning K) (new : ℕ → Bool) where
  start_long : (b : Bool) (s : ℕ) (k m : K) → StartIf means b s k m → length (means.spans m) ≡ length (means.spans k)
  start_long true s k m h = ap length h.0.2 ∙ length-set (means.spans k) s _
  start_long false s k m h = ap (λ x. length (means.spans x)) h

  start_here : (b : Bool) (s : ℕ) (k m : K) → StartIf means b s k m → track_at (means.spans m) s ≡ kindled b (track_at (means.spans k) s)
  start_here true s k m h = ap (λ ts. track_at ts s) h.0.2 ∙ get_or-set_same (means.spans k) s (begun (track_at (means.spans k) s)) no_track h.0.0
  start_here false s k m h = ap (λ x. track_at (means.spans x) s) h

  start_other : (b : Bool) (s j : ℕ) (k m : K) → j ≢ s → StartIf means b s k m → track_at (means.spans m) j ≡ track_at (means.spans k) j
  start_other true s j k m n h = ap (λ ts. track_at ts j) h.0.2 ∙ get_or-set_other (means.spans k) s j (begun (track_at (means.spans k) s)) no_track n
  start_other false s j k m n h = ap (λ x. track_at (means.spans x) j) h

  pub starts_long : (n : ℕ) (k m : K) → Starts means new n k m → length (means.spans m) ≡ length (means.spans k)
  starts_long zero k m h = ap (λ x. length (means.spans x)) h
  starts_long (suc n) k m h = start_long (new n) n h.0 m h.2 ∙ starts_long n k h.0 h.1

  pub starts_beyond : (n : ℕ) (k m : K) → Starts means new n k m → (j : ℕ) → n ≤ j → track_at (means.spans m) j ≡ track_at (means.spans k) j
  starts_beyond zero k m h j le = ap (λ x. track_at (means.spans x) j) h
  starts_beyond (suc n) k m h j le = start_other (new n) n j h.0 m (λ e. absurd (omega arith)) h.2 ∙ starts_beyond n k h.0 h.1 j (omega arith)

  pub starts_each : (n : ℕ) (k m : K) → Starts means new n k m → (j : ℕ) → j < n → track_at (means.spans m) j ≡ kindled (new j) (track_at (means.spans k) j)
  starts_each zero k m h j lt = absurd (omega arith)
  starts_each (suc n) k m h j lt =
      elim (ℕ_discrete j n) [
        | yes e ↦ subst (λ x. track_at (means.spans m) x ≡ kindled (new x) (track_at (means.spans k) x)) (sym e) (start_here (new n) n h.0 m h.2 ∙ ap (kindled (new n)) (starts_beyond n k h.0 h.1 n (omega arith)))
        | no d ↦ start_other (new n) n j h.0 m d h.2 ∙ starts_each n k h.0 h.1 j (omega arith)
      ]

  -- one span more
  pub skips : (n : ℕ) (k m : K) → Starts means new n k m → new n ≡ false → Starts means new (n + 1) k m
  skips n k m h e = subst (λ x. Starts means new x k m) (sym (add-one n)) (m, h, subst (λ b. StartIf means b n m m) (sym e) refl)

  pub starts_one : (n : ℕ) (k l m : K) → Starts means new n k l → new n ≡ true → Start means n l m → Starts means new (n + 1) k m
  starts_one n k l m h e s = subst (λ x. Starts means new x k m) (sym (add-one n)) (l, h, subst (λ b. StartIf means b n l m) (sym e) s)
