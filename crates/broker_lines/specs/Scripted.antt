-- What a broker's script says.
use Rattle.std.specs.Prelude.{List, Option}
use Rattle.broker_lines.specs.declared.statements.BrokerLine.{BrokerLine}
use Rattle.broker_lines.specs.declared.statements.Statement.{Statement}

-- which broker is followed, if any, and what is done on it
pub record Scripted : Type 0 where
  pub broker : Option BrokerLine
  pub statements : List Statement
