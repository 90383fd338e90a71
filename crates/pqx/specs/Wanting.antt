-- What the options of a command line come to.
use Rattle.std.specs.Prelude.{ℕ}
use Rattle.explore.specs.declared.evictions.Evictions.{Evictions}
use Rattle.explore.specs.declared.evictions.Evictions.TheVariants.{None as no_word, All as every_word, Drawn as drawn_words}
use Rattle.explore.specs.declared.part.Wanted.{Wanted}
use Rattle.options.specs.declared.pqx.Choice.{Choice}
use Rattle.options.specs.declared.pqx.Choice.TheVariants.{None as none_chosen, All as all_chosen, Drawn as drawn_chosen}
use Rattle.options.specs.declared.pqx.PointOptions.{PointOptions}

-- no word is evicted, every one, or those of the draws that begin at this state
abbrev pub evictions_by : Choice → ℕ → Evictions
evictions_by none_chosen draw = no_word
evictions_by all_chosen draw = every_word
evictions_by drawn_chosen draw = drawn_words draw

-- the points from one on, so many of them or all
abbrev pub wanted_by : PointOptions → Wanted
wanted_by asked = record {
  evictions = evictions_by asked.choice asked.draw;
  part = record { from = asked.from; count = asked.count };
}
