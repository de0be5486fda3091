use Rattle.std.proofs.Common.{◌≡◌, sym, arith}
use Rattle.std.proofs.lemmas.Int.{ints}
use Rattle.minute.proofs.choice.Choice.lets_hold.Goals as goal

pub returns-in-Some : goal.returns-in-Some
returns-in-Some c = (
  λ lt a h. let s : c.in-Some.a ≡ a = cc in grind (arith, ints),
  λ all. let s = all c.in-Some.a (sym c.in-Some.ensures) in grind (arith, ints),
)
