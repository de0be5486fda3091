use Rattle.std.proofs.Common.{◌≡◌, ℕ, List, [], ◌∷◌, length, MatchOption, subst, rules, tests}
use Rattle.std.specs.Array.Iter.{array_into_iter_items}
use Rattle.std.proofs.lemmas.Iterator.{YieldsList, first_from_find}
use Rattle.std.proofs.lemmas.Iterator.Consumers.{YieldsList-from_shown}
use Rattle.rules.specs.Calls.{with_horizon}
use Rattle.rules.specs.Game.{Good}
use Rattle.network.specs.Model.{model}
use Rattle.network.proofs.Made.{well_made}
use Rattle.judge.proofs.Telling.{stretched}
use Rattle.judge.proofs.marking.stretch.Goals as goal

-- an iterator that shows the items that are left gives them
yields : {S : Type 0} (items : S → List ℕ) (s : S) (xs : List ℕ) → items s ≡ xs → YieldsList (λ t r u. MatchOption r ((length (items t) ≡ 0) × (u ≡ t)) (λ x. items t ≡ x ∷ items u)) (λ x. x) s xs
yields items s xs e =
    subst (YieldsList _ (λ x. x) s) e
    (YieldsList-from_shown (λ t r u. MatchOption r ((length (items t) ≡ 0) × (u ≡ t)) (λ x. items t ≡ x ∷ items u)) (λ x. x) items (λ t u h. h.0) (λ t x u h. h) s)

pub returns : goal.returns
returns c =
    let n = c.args.network.now in
    let own = c.horizon-own.result in
    let items : array_into_iter_items c.into_iter.result ≡ own ∷ 1440 ∷ [] = c.into_iter.ensures.into_iter_gives.0 in
    stretched (model n.content) (well_made n) own c.find.result c.horizon-own.ensures n.counts.0.1
    (first_from_find _ _ c.find.result (λ h. Good (with_horizon (model n.content) h)) (λ h. Good (with_horizon (model n.content) h) → ⊥) c.find.ensures.ran
    (yields array_into_iter_items c.into_iter.result (own ∷ 1440 ∷ []) items)
    (λ x q k. search (rules, tests)) (λ x q k. search (rules, tests)))
