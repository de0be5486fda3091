use Rattle.std.proofs.Common.{refl, arith}
use Rattle.std.proofs.lemmas.Bool.{both_ways}
use Rattle.run.specs.Plays.{played, short, unfit, disagrees}
use Rattle.run.proofs.play.check_ready.Goals as goal

pub returns-then-minute-horizon : goal.returns-then-minute-horizon
returns-then-minute-horizon g c = played refl (omega arith)

pub returns-then-places-lt-PLACES : goal.returns-then-places-lt-PLACES
returns-then-places-lt-PLACES g c = short refl (omega arith) (omega arith)

pub returns-then-not-fits_card : goal.returns-then-not-fits_card
returns-then-not-fits_card g c = unfit refl (omega arith) (omega arith) (λ f. both_ways c.fits_card.result c.if-not-fits_card.true (c.fits_card.ensures.1 f))

pub returns-then-not-agrees : goal.returns-then-not-agrees
returns-then-not-agrees g c =
    disagrees refl (omega arith) (omega arith) (c.fits_card.ensures.0 c.if-not-fits_card.false)
    (λ f. both_ways c.agrees.result c.if-not-agrees.true (c.agrees.ensures.1 f))
