-- A line that no row serves says nothing.
use Rattle.std.proofs.Common.{ℕ, List}
use Rattle.std.specs.Prelude.{Option, Some, None, MatchOption}
use Rattle.broker_lines.specs.Grammar.{SaysStatement}
use Rattle.broker_lines.specs.Rows.{IsNoCreation, IsOfNoQueue, IsOfNoImage, IsOfNoBroker}
use Rattle.broker_lines.specs.declared.statements.Statement.{Statement}
use Rattle.broker_lines.specs.declared.statements.Statement.TheVariants.{Create, BeginCreation, CreateStep, CreateSteps, Find, List as list_queues, Rotate, Renew, Image, SetWord, Boot, Whole, On, Told, Asks}

none_of : (line : List ℕ) → IsNoCreation line → IsOfNoQueue line → IsOfNoImage line → IsOfNoBroker line → (statement : Statement)
    → SaysStatement line statement → ⊥
none_of line creation queue image broker (Create name kind) = creation.create name kind
none_of line creation queue image broker (BeginCreation name kind most) = creation.begin name kind most
none_of line creation queue image broker CreateStep = creation.step
none_of line creation queue image broker (CreateSteps most) = creation.steps most
none_of line creation queue image broker (Find name) = queue.find name
none_of line creation queue image broker list_queues = broker.list
none_of line creation queue image broker Rotate = broker.rotate
none_of line creation queue image broker (Renew name) = queue.renew name
none_of line creation queue image broker Image = image.image
none_of line creation queue image broker (SetWord word value) = image.set word value
none_of line creation queue image broker Boot = image.boot
none_of line creation queue image broker (Whole command) = broker.whole command
none_of line creation queue image broker (On name command) = queue.on name command
none_of line creation queue image broker (Told name client) = queue.told name client
none_of line creation queue image broker (Asks name ask) = queue.asks name ask

pub no_row : (line : List ℕ) → IsNoCreation line → IsOfNoQueue line → IsOfNoImage line → (r : Option Statement)
    → MatchOption r (IsOfNoBroker line) (SaysStatement line)
    → MatchOption r ((statement : Statement) → SaysStatement line statement → ⊥) (SaysStatement line)
no_row line creation queue image (Some statement) says = says
no_row line creation queue image None broker = none_of line creation queue image broker
