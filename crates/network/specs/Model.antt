-- The card that a content stands for.
use Rattle.std.specs.Prelude.{take}
use Rattle.rules.specs.Card.{Card}
use Rattle.network.specs.declared.content.Content.{Content}

abbrev pub model : Content → Card
model c = record { horizon = c.horizon; points = c.points; spans = take c.spanned c.spans; ties = take c.tied c.ties }
