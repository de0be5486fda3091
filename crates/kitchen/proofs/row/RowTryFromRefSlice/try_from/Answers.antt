use Rattle.std.proofs.Common.{◌≡◌, ℕ, ◌<◌, List, length, map, get_or, sym, ap, ◌∙◌, arith}
use Rattle.std.proofs.lemmas.List.{length-map, get_or-map}
use Rattle.std.proofs.lemmas.Result.{err_from_is_err_and}
use Rattle.kitchen.proofs.Made.{sofar_more, sofar_bad}
use Rattle.kitchen.proofs.row.RowTryFromRefSlice.try_from.Goals as goal

-- the bounds of the element at a place
at : {X : Type 0} (f : X → ℕ × ℕ) (xs : List X) (i : ℕ) (x : X) (b : ℕ × ℕ) → i < length xs → x ≡ get_or xs i x → b ≡ f x → b ≡ get_or (map f xs) i (0, 0)
at f xs i x b lt e g = g ∙ ap f e ∙ sym (get_or-map f xs i x (0, 0) lt)

pub returns-in_err-push : goal.returns-in_err-push
returns-in_err-push g c =
    let f = g.B.Bounded.bounds in
    let xs = c.args.given.now in
    let n = length-map xs f in
    let p = err_from_is_err_and c.from_residual.result c.from_residual.ensures.1 in
    rw (p.1, p.2) (sofar_bad (map f xs) c.loop-bounded.bounded-index _ _ _ _ (omega arith) (omega arith) (at f xs _ _ _ (omega arith) c.bounded-item.is c.bounds-least.ensures) c.in_err-push.ensures)

pub loop-bounded-preserved : goal.loop-bounded-preserved
loop-bounded-preserved g c =
    let f = g.B.Bounded.bounds in
    let xs = c.args.given.now in
    let n = length-map xs f in
    sofar_more (map f xs) c.loop-bounded.bounded-index _ _ _ (omega arith) (at f xs _ _ _ (omega arith) c.bounded-item.is c.bounds-least.ensures) c.loop-bounded.invariant c.in_ok-push.ensures
