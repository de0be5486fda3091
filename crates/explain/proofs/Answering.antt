-- What the end of a search tells of the list.
use Rattle.std.proofs.Common.{◌≡◌, ℕ, suc, ◌+◌, ◌-◌, ◌<◌, ◌≤◌, List, length, take, drop, pos, ◌<ℤ◌, Ok, sym, ap, ◌∙◌, subst, arith, length-take-le}
use Rattle.std.proofs.lemmas.List.{same_lists, get_or-take, get_or-drop, length-drop, get_or_default}
use Rattle.rules.specs.declared.edges.Step.{Step}
use Rattle.rules.specs.Card.{Card, WellMade}
use Rattle.rules.specs.Game.{Good}
use Rattle.rules.specs.Steps.{step_at, LawfulTo, Closing, passes, Reads}
use Rattle.rules.proofs.Listed.{lists_tell}
use Rattle.network.specs.Model.{model}
use Rattle.network.proofs.Made.{well_made}
use Rattle.explain.specs.declared.search.Search.{Search}
use Rattle.explain.specs.declared.work.Stop.TheVariants.{Loop}
use Rattle.explain.specs.Explained.{Explains, Explained}
use Rattle.explain.specs.Working.{Onward, Shown, card_of, Ended}
use Rattle.explain.proofs.Writing.{Agree, lawful_agree, useful_agree}

module _ (card : Card) (made : WellMade card) (before list : List Step) (k : ℕ) (on : Onward 0 before k list) (shown : Shown card list k) where
  abbrev kept : List Step
  kept = take k list

  long : length kept ≡ k
  long = length-take-le k list shown.room

  agree : Agree k list kept
  unfolding step_at
  agree i h = get_or-take k list i _ h

  closing : Closing kept
  closing =
      let last : step_at list (k - 1) ≡ step_at kept (length kept - 1) = sym (agree (k - 1) (omega (arith, shown.some))) ∙ ap (λ z. step_at kept (z - 1)) (sym long) in
      record {
        some_step = omega (arith, long, shown.some);
        itself = subst (λ s. s.makes.source ≡ s.makes.target) last shown.itself;
        negative = subst (λ s. s.makes.weight <ℤ pos 0) last shown.negative;
      }

  passing : Reads card kept passes
  passing = (subst (LawfulTo card kept) (sym long) (lawful_agree card list kept k agree shown.lawful), closing)

  same_after : drop k list ≡ drop k before
  unfolding step_at
  same_after =
      same_lists (drop k list) (drop k before) (omega (arith, length-drop k list, length-drop k before, on.long))
      (λ i d h.
      let lt : k + i < length list = omega (arith, length-drop k list, h) in
      let lt' : k + i < length before = omega (arith, on.long) in
      get_or-drop k list i d ∙ get_or_default list (k + i) d _ lt ∙ on.later (k + i) (omega arith) ∙ get_or_default before (k + i) _ d lt' ∙ sym (get_or-drop k before i d))

  pub told : (k ≤ length list) × Explains card kept × (drop k list ≡ drop k before) × (length list ≡ length before) × (Good card → ⊥)
  told = (
    shown.room,
    record { passing = passing; useful = λ i h. let lt : suc i < k = omega (arith, long, h) in useful_agree card list kept k i (omega arith) agree (shown.useful i lt) },
    same_after,
    on.long,
    λ g. lists_tell card made kept passing g,
  )

-- a search that began with an empty list, and ended with a negative loop
pub explained : (s t : Search) → s.work.count ≡ 0 → Ended s t Loop → Explained (card_of s) s.list.now t.list.now (Ok t.work.count)
explained s t z e =
    subst (λ n. Explained (model n.content) s.list.now t.list.now (Ok t.work.count)) e.follows.network
    (told (card_of t) (well_made t.network.now) s.list.now t.list.now t.work.count (subst (λ k. Onward k s.list.now t.work.count t.list.now) z e.follows.onward) e.final)
