use Rattle.rules.proofs.Strategy.{tables_win}
use Rattle.rules.proofs.Marks.{marks_exact}
use Rattle.rules.proofs.theorems.tables_win.Goals as goal

pub returns : goal.returns
returns c = record { win = tables_win; exact = marks_exact }
