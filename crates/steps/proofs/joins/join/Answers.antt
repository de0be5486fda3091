use Rattle.std.proofs.Common.{◌≡◌, arith}
use Rattle.std.proofs.lemmas.Bool.Decides.{nat_tests}
use Rattle.steps.specs.Makes.{makes}
use Rattle.steps.proofs.joins.join.Goals as goal

pub returns-in-N : goal.returns-in-N
unfolding makes
returns-in-N c = let e : c.args.letter ≡ 78 = omega arith in rw e c.join_plain.ensures

pub returns-in-U : goal.returns-in-U
unfolding makes
returns-in-U c = let e : c.args.letter ≡ 85 = omega arith in rw e c.join_wait.ensures

pub returns-in-L : goal.returns-in-L
unfolding makes
returns-in-L c = let e : c.args.letter ≡ 76 = omega arith in rw e c.lower_plain.ensures

pub returns-in-X : goal.returns-in-X
unfolding makes
returns-in-X c = let e : c.args.letter ≡ 88 = omega arith in rw e c.lower_wait.ensures

pub returns-in-R : goal.returns-in-R
unfolding makes
returns-in-R c = let e : c.args.letter ≡ 82 = omega arith in rw e c.release.ensures

pub returns-in-M : goal.returns-in-M
unfolding makes
returns-in-M c = let e : c.args.letter ≡ 77 = omega arith in rw e c.project.ensures

pub returns-in-S : goal.returns-in-S
unfolding makes
returns-in-S c = let e : c.args.letter ≡ 83 = omega arith in rw e c.join_all_most.ensures

pub returns-in_default : goal.returns-in_default
unfolding makes
returns-in_default c = grind (arith, nat_tests)
