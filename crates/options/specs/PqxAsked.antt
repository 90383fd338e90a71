-- What a command of `pqx` asks, by what its options were given.
use Rattle.std.specs.Prelude.{◌≡◌, ◌≢◌, ◌⊎◌, List, Option, Some, None, codes, option_map, ⊤}
use Rattle.clap.specs.Words.{Row, Text}
use Rattle.options.specs.Asked.{name_in, values_in}
use Rattle.options.specs.declared.limits.TheConstants.{DEFAULT_DRAW, MAX_DRAW, MAX_POINT}
use Rattle.options.specs.Numbers.{Fits, decimal_value, given_text, number_of}
use Rattle.options.specs.declared.pqx.Choice.{Choice}
use Rattle.options.specs.declared.pqx.Choice.TheVariants.{None as no_word, All as all_words, Drawn as drawn_words}
use Rattle.options.specs.declared.pqx.PointOptions.{PointOptions}
use Rattle.options.specs.declared.pqx.CheckOptions.{CheckOptions}
use Rattle.options.specs.declared.pqx.RunOptions.{RunOptions}
use Rattle.options.specs.declared.pqx.PqxAsked.{PqxAsked}
use Rattle.options.specs.declared.pqx.BrokerPointOptions.{BrokerPointOptions}
use Rattle.options.specs.declared.pqx.PqxAsked.TheVariants.{Run, Points, Alone, Check, BrokerRun, BrokerPoints}

-- the words that are kept are those of the choice that is given, and none where none is
abbrev pub Chooses : Option Text → Choice → Type 0
Chooses given no_word = (given ≡ None) ⊎ (given ≡ Some (codes "none"))
Chooses given all_words = given ≡ Some (codes "all")
Chooses given drawn_words = given ≡ Some (codes "drawn")

-- no choice is given, or one of the three
abbrev pub IsChoice : Option Text → Type 0
IsChoice None = ⊤
IsChoice (Some text) = (text ≡ codes "none") ⊎ (text ≡ codes "all") ⊎ (text ≡ codes "drawn")

-- no task is given, or one of the two
abbrev pub IsTask : Option Text → Type 0
IsTask None = ⊤
IsTask (Some text) = (text ≡ codes "run") ⊎ (text ≡ codes "points")

-- to follow a whole broker's script there are no words to choose
abbrev pub AreTaken : Option Text → (Text → Option Text) → Type 0
AreTaken None given = ⊤
AreTaken (Some text) given =
    text ≡ codes "run" → (given (codes "evict") ≡ None) × (given (codes "draw") ≡ None)

-- the options of a report on points say this
pub record AsksPoints (given : Text → Option Text) (o : PointOptions) : Type 0 where
  pub choice : Chooses (given (codes "evict")) o.choice
  pub fit : Fits 0 MAX_DRAW (given (codes "draw"))
  pub draw : o.draw ≡ number_of DEFAULT_DRAW (given (codes "draw"))
  pub from_fits : Fits 0 MAX_POINT (given (codes "from"))
  pub from : o.from ≡ number_of 0 (given (codes "from"))
  pub count_fits : Fits 0 MAX_POINT (given (codes "count"))
  pub count : o.count ≡ option_map decimal_value (given (codes "count"))
  pub page : given_text o.page ≡ given (codes "page")

-- those of one on a whole broker's points say this
pub record AsksBrokerPoints (given : Text → Option Text) (o : BrokerPointOptions) : Type 0 where
  pub task : given (codes "task") ≡ Some (codes "points")
  pub choice : Chooses (given (codes "evict")) o.choice
  pub fit : Fits 0 MAX_DRAW (given (codes "draw"))
  pub draw : o.draw ≡ number_of DEFAULT_DRAW (given (codes "draw"))

-- the options of a transcript say this
pub record AsksRun (given : Text → Option Text) (o : RunOptions) : Type 0 where
  pub page : given_text o.page ≡ given (codes "page")

-- the options of a verdict on a recording say this
pub record AsksCheck (given : Text → Option Text) (o : CheckOptions) : Type 0 where
  pub page : given_text o.page ≡ given (codes "page")

-- the command and the values of its options ask this
abbrev pub Asks : Option Text → (Text → Option Text) → PqxAsked → Type 0
Asks command given (Run o) = (command ≢ Some (codes "points")) × (command ≢ Some (codes "alone"))
    × (command ≢ Some (codes "check")) × (command ≢ Some (codes "broker")) × AsksRun given o
Asks command given (Points o) = (command ≡ Some (codes "points")) × AsksPoints given o
Asks command given Alone = command ≡ Some (codes "alone")
Asks command given (Check o) = (command ≡ Some (codes "check")) × AsksCheck given o
Asks command given BrokerRun = (command ≡ Some (codes "broker")) × IsTask (given (codes "task"))
    × (given (codes "task") ≢ Some (codes "points")) × AreTaken (given (codes "task")) given
Asks command given (BrokerPoints o) = (command ≡ Some (codes "broker")) × AsksBrokerPoints given o

-- each option and word that has one of some values, or a number, was given such a one, where it is taken at all
pub record AllFit (given : Text → Option Text) : Type 0 where
  pub choice : IsChoice (given (codes "evict"))
  pub draw : Fits 0 MAX_DRAW (given (codes "draw"))
  pub from : Fits 0 MAX_POINT (given (codes "from"))
  pub count : Fits 0 MAX_POINT (given (codes "count"))
  pub task : IsTask (given (codes "task"))
  pub taken : AreTaken (given (codes "task")) given

-- the command that a parse met asks this, with what its options were given
abbrev pub CommandAsks : Option (Text × List Row) → PqxAsked → Type 0
CommandAsks met o = Asks (name_in met) (values_in met) o

-- what its options were given fits
abbrev pub CommandFits : Option (Text × List Row) → Type 0
CommandFits met = AllFit (values_in met)
