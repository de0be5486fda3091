-- Facts that have one proof at most, so that a ghost field can state them.
use Rattle.std.proofs.Common.{ℕ, Bool, ℤ}
use mathlib.Core.Logic.{∥∥₁_elim}
use denote.Struct.Props.{props}
use Rattle.rules.specs.Card.{Card}
use Rattle.rules.specs.declared.edges.Kind.{Kind}
use Rattle.rules.specs.declared.edges.Kind.TheVariants.{Plain, Lower, Wait, AllMost}
use Rattle.rules.specs.Game.{Position}
use Rattle.rules.specs.Tables.{Table, AboveAt, Closed, SoundAtStart, Fits}
use Rattle.rules.proofs.Basics.{option_set}
use Rattle.judge.specs.declared.closure.Closure.{Closure}
use Rattle.network.specs.Model.{model}
use Rattle.minute.specs.Minutes.{at, marked}
use Rattle.minute.specs.Standing.{Sensible, Tight, Standing}
use Rattle.minute.specs.Deciding.{WithinMinute}
use Rattle.minute.specs.declared.choice.Choice.{Choice}

above_prop : (D W : Table) (k : Kind) (p q : ℕ) (w : ℤ) → IsProp (AboveAt D W k p q w)
above_prop D W Plain p q w = hlevel props
above_prop D W (Lower s) p q w = hlevel props
above_prop D W (Wait s) p q w = hlevel props
above_prop D W AllMost p q w = hlevel props

closed_prop : (card : Card) (D W : Table) → IsProp (Closed card D W)
closed_prop card D W = hlevel (props, above_prop)

sound_prop : (card : Card) (D W : Table) → IsProp (SoundAtStart card D W)
sound_prop card D W = hlevel props

pub fits_prop : (card : Card) (D W : Table) (t : ℕ) (off : ℕ → Bool) (at : Position) → IsProp (Fits card D W t off at)
fits_prop card D W t off at = hlevel (props, option_set)

tight_prop : (card : Card) (closure : Closure) → IsProp (Tight card closure)
tight_prop card closure = hlevel (props, closed_prop, sound_prop)

sensible_prop : (card : Card) (t : ℕ) (at : Position) → IsProp (Sensible card t at)
sensible_prop card t at = hlevel (props, option_set)

pub standing_prop : (card : Card) (closure : Closure) (t : ℕ) (at : Position) → IsProp (Standing card closure t at)
standing_prop card closure t at = hlevel (props, tight_prop, sensible_prop, fits_prop)

within_prop : (card : Card) (closure : Closure) (t : ℕ) (late : ℕ → Bool) (at : Position) → IsProp (WithinMinute card closure t late at)
within_prop card closure t late at = hlevel (props, tight_prop, fits_prop)

-- what a choice keeps, taken out of its ghost field
pub within : (k : Choice) → WithinMinute (model k.minute.network.now.content) k.closure.now k.minute.t (marked k.late.now) (at k.position.now.minutes)
within k = ∥∥₁_elim k.fits (within_prop _ _ _ _ _) (λ w. w)
