use Rattle.rules.proofs.Strategy.{fits_wins}
use Rattle.rules.proofs.Exact.{fits_exact, choices_exact}
use Rattle.rules.proofs.theorems.choices_are_exact.Goals as goal

pub returns : goal.returns
returns c = record { wins = fits_wins; exact = fits_exact; choices = choices_exact }
