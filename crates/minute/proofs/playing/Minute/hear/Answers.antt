use Rattle.std.proofs.Common.{refl, ◌∙◌, arith}
use Rattle.minute.specs.Minutes.{at}
use Rattle.minute.proofs.Middle.{opened}
use Rattle.minute.proofs.playing.Minute.hear.Goals as goal

pub returns-then-self-eq0 : goal.returns-then-self-eq0
returns-then-self-eq0 g c = record { first = λ e. (c.set.ensures ∙ opened (at c.args.position.now.minutes) (c.requires.nothing e), refl); later = λ lt. absurd (omega (arith, c.if-self-eq0.true)) }
