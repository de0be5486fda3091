use Rattle.std.proofs.Common.{◌≡◌, true, length}
use Rattle.network.specs.Model.{model}
use Rattle.minute.specs.Minutes.{marked}
use Rattle.minute.proofs.Hearing.{found}
use Rattle.minute.proofs.decide.finishes.Given as goal

abbrev pub invariant-loop-span : goal.invariant-loop-span
invariant-loop-span l = (length l.marks ≡ 32) × (marked l.marks ≡ found (model l.network.content) (λ _. true) l.span-index)
