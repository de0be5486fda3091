use Rattle.std.proofs.Common.{◌≡◌, ◌+ℤ◌, refl, ◌∙◌, arith}
use Rattle.network.specs.Model.{model}
use Rattle.network.proofs.Made.{well_made}
use Rattle.explain.specs.Columns.{way}
use Rattle.explain.specs.Working.{known_to}
use Rattle.explain.proofs.Columns.{head_in}
use Rattle.explain.proofs.Ending.{closing_step, closing_lawful, put_loop}
use Rattle.explain.proofs.search.Search.close.Goals as goal

pub joined-step-requires-clause-place : goal.joined-step-requires-clause-place
joined-step-requires-clause-place c =
    let n = c.args.self.now.network.now in
    (omega (arith, c.head-head.ensures, head_in (model n.content) (well_made n) c.args.x c.requires.place.1), c.requires.place.1)

pub returns-in-Ok : goal.returns-in-Ok
returns-in-Ok c =
    let s = c.args.self.now in
    let m = model s.network.now.content in
    let l = c.letter-letter.ensures in
    let h = c.head-head.ensures in
    let is : c.joined-step.result ≡ closing_step m c.args.x c.args.back c.args.edge =
    c.joined-step.ensures ∙ (λ i. record { letter = l i; left = c.args.back.number; right = c.args.edge.number; makes = way m (h i) c.args.x (c.args.back.weight +ℤ c.args.edge.weight) }) in
    put_loop s c.write.new.self _ c.in-Ok.ensures.follows (rw is at c.in-Ok.ensures.put) c.requires.written
    (closing_lawful m (known_to s) c.args.p c.args.x c.args.back c.args.edge c.requires.place.1 c.requires.back) refl c.requires.back.negative
