use Rattle.rules.proofs.Strategy.{start_fits, kitchen_fits, minute_ends, end_done}
use Rattle.rules.proofs.theorems.fits_to_the_end.Goals as goal

pub returns : goal.returns
returns c = record { start = start_fits; kitchen = kitchen_fits; minute = minute_ends; end = end_done }
