use Rattle.std.proofs.Common.{◌≡◌, ◌∙◌, ◌-◌, ◌<◌, ◌≤◌, length, arith}
use Rattle.rules.specs.Steps.{step_at}
use Rattle.network.specs.Model.{model}
use Rattle.steps.proofs.Reading.{known_given, known_made, known_none}
use Rattle.steps.proofs.reads.edge_at.Goals as goal

pub returns-then-number-given : goal.returns-then-number-given
returns-then-number-given c =
    c.given_edge.ensures ∙ known_given (model c.args.network.now.content) c.args.made.now (length c.args.made.now) c.args.number (omega (arith, c.given_count-given.ensures))

pub returns-in_err-step : goal.returns-in_err-step
returns-in_err-step c =
    let past : length c.args.made.now ≤ c.args.number - c.given_count-given.result = grind arith in
    c.from_residual.ensures ∙ known_none (model c.args.network.now.content) c.args.made.now (length c.args.made.now) c.args.number (omega (arith, c.given_count-given.ensures))

pub returns : goal.returns
unfolding step_at
returns c =
    let i = c.args.number - c.given_count-given.result in
    let within : i < length c.args.made.now = grind arith in
    let same : c.in_ok-step.step.now ≡ step_at c.args.made.now i = grind arith in
    known_made (model c.args.network.now.content) c.args.made.now (length c.args.made.now) i _ within (grind arith) c.args.number (omega (arith, c.given_count-given.ensures))
