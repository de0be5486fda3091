-- The number that stands for each refusal.
use Rattle.std.specs.Prelude.{ℕ}
use Rattle.rules.specs.declared.refusal.Refusal.{Refusal}
use Rattle.rules.specs.declared.refusal.Refusal.TheVariants as refusal

abbrev pub number_of : Refusal → ℕ
number_of refusal.HorizonRange = 1
number_of refusal.PointsFull = 2
number_of refusal.NoPoint = 3
number_of refusal.StartIsFinish = 4
number_of refusal.BoundsRange = 5
number_of refusal.SpansFull = 6
number_of refusal.SamePoint = 7
number_of refusal.GapRange = 8
number_of refusal.TiesFull = 9
number_of refusal.Barred = 10
number_of refusal.KitchenUnfit = 11
number_of refusal.HorizonPlayed = 12
number_of refusal.ShortBuffer = 13
number_of refusal.KitchenDisagrees = 14
number_of refusal.StepsSpent = 15
number_of refusal.CardGood = 16
number_of (refusal.StepUnlawful place) = 17
number_of refusal.NoLoop = 18
number_of refusal.NoSpan = 23
number_of refusal.NotCold = 24
