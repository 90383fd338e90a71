-- What a script says.
use Rattle.std.specs.Prelude.{List, Option}
use Rattle.grammar.specs.declared.commands.Command.{Command}
use Rattle.grammar.specs.declared.commands.QueueLine.{QueueLine}

-- which queue is followed, if any, and what is done on it
pub record Scripted : Type 0 where
  pub queue : Option QueueLine
  pub commands : List Command
