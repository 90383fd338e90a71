-- The lines of a broker's script, each as its words, and the limits of the numbers in them.
use Rattle.std.specs.Prelude.{◌≡◌, ◌≤◌, ◌<◌, ◌^◌, ℕ, Bool, true, false, List, [], ◌∷◌, ◌++◌, codes, decimal}
use Rattle.words.specs.PlainQueue.{FitsValue}
use Rattle.words.specs.Text.{value_text}
use Rattle.words.specs.declared.call.Call.{Call}
use Rattle.words.specs.declared.call.Call.TheVariants.{Enq as enq_call, Deq as deq_call}
use Rattle.arena.specs.Limits.{AreCounts}
use Rattle.arena.specs.Shape.{Counts}
use Rattle.directory.specs.Name.{IsName}
use Rattle.grammar.specs.Grammar.{command_words, kind_word, IsServed}
use Rattle.grammar.specs.Lines.{words_of}
use Rattle.grammar.specs.declared.commands.Command.{Command}
use Rattle.grammar.specs.declared.commands.Command.TheVariants.{Enq, NumberedEnq, Deq, NumberedDeq, Step, End, Evict, Crash, Recover, RecoverBy, Content, Order, Again}
use Rattle.grammar.specs.declared.limits.TheConstants.{MAX_CLIENT_NUMBER, MAX_STEPS}
use Rattle.broker_lines.specs.declared.statements.Ask.{Ask}
use Rattle.broker_lines.specs.declared.statements.Ask.TheVariants.{Request, Plain, Begin}
use Rattle.broker_lines.specs.declared.statements.BrokerLine.{BrokerLine}
use Rattle.broker_lines.specs.declared.statements.Statement.{Statement}
use Rattle.broker_lines.specs.declared.statements.Statement.TheVariants.{Create, BeginCreation, CreateStep, CreateSteps, Find, List as list_queues, Rotate, Renew, Image, SetWord, Boot, Whole, On, Told, Asks}

-- `broker T K`
abbrev pub broker_words : BrokerLine → List (List ℕ)
broker_words broker = codes "broker" ∷ decimal broker.clients ∷ decimal broker.records ∷ []

-- how many clients and records each of its queues has
abbrev pub counts_by : BrokerLine → Counts
counts_by broker = record { clients = broker.clients; records = broker.records }

-- the word before a line on the queue of this name: `NAME:`
abbrev pub label : List ℕ → List ℕ
label name = name ++ codes ":"

-- `enq V`, `deq`
abbrev pub call_words : Call → List (List ℕ)
call_words (enq_call value) = codes "enq" ∷ value_text value ∷ []
call_words deq_call = codes "deq" ∷ []

-- a client's call with its number, as it follows what is asked
abbrev pub numbered_call_words : ℕ → ℕ → Call → List (List ℕ)
numbered_call_words client number call = decimal client ∷ decimal number ∷ call_words call

-- `request C N CALL`, `plain C CALL`, `begin C N CALL`
abbrev pub ask_words : Ask → List (List ℕ)
ask_words (Request client number call) = codes "request" ∷ decimal client.0 ∷ decimal number ∷ call_words call
ask_words (Plain client call) = codes "plain" ∷ decimal client.0 ∷ call_words call
ask_words (Begin client number call) = codes "begin" ∷ decimal client.0 ∷ decimal number ∷ call_words call

-- `create NAME KIND`, `create NAME KIND M`, `create-step`, `create-step M`, `find NAME`, `list`, `rotate`,
-- `renew NAME`, `image`, `set W N`, `boot`, a line of a queue's script that is about the whole memory, `NAME: ` and one
-- that is about the queue, `NAME: told C`, and `NAME: ` and what a client asks the session
abbrev pub statement_words : Statement → List (List ℕ)
statement_words (Create name kind) = codes "create" ∷ name ∷ kind_word kind ∷ []
statement_words (BeginCreation name kind most) = codes "create" ∷ name ∷ kind_word kind ∷ decimal most ∷ []
statement_words CreateStep = codes "create-step" ∷ []
statement_words (CreateSteps most) = codes "create-step" ∷ decimal most ∷ []
statement_words (Find name) = codes "find" ∷ name ∷ []
statement_words list_queues = codes "list" ∷ []
statement_words Rotate = codes "rotate" ∷ []
statement_words (Renew name) = codes "renew" ∷ name ∷ []
statement_words Image = codes "image" ∷ []
statement_words (SetWord word value) = codes "set" ∷ decimal word ∷ decimal value ∷ []
statement_words Boot = codes "boot" ∷ []
statement_words (Whole command) = command_words command
statement_words (On name command) = label name ∷ command_words command
statement_words (Told name client) = label name ∷ codes "told" ∷ decimal client.0 ∷ []
statement_words (Asks name ask) = label name ∷ ask_words ask

-- whether a line of a queue's script is about the whole memory, or about the act before
abbrev pub is_whole : Command → Bool
is_whole (Enq client value) = false
is_whole (NumberedEnq client number value) = false
is_whole (Deq client) = false
is_whole (NumberedDeq client number) = false
is_whole (Step client most) = false
is_whole (End client) = false
is_whole (Evict word) = true
is_whole Crash = true
is_whole Recover = true
is_whole (RecoverBy most) = true
is_whole Content = false
is_whole Order = false
is_whole Again = true

-- the queues have some clients, and each of them some records, no more than the most
abbrev pub IsServedBroker : BrokerLine → Type 0
IsServedBroker broker = AreCounts broker.clients broker.records

-- an item fits in the memory, a client's number is one byte, and a call's number has 64 bits
abbrev pub IsServedCall : Call → Type 0
IsServedCall (enq_call value) = FitsValue value
IsServedCall deq_call = Unit {0}

abbrev pub IsServedAsk : Ask → Type 0
IsServedAsk (Request client number call) =
    (client.0 ≤ MAX_CLIENT_NUMBER) × (number < 2 ^ 64) × IsServedCall call
IsServedAsk (Plain client call) = (client.0 ≤ MAX_CLIENT_NUMBER) × IsServedCall call
IsServedAsk (Begin client number call) =
    (client.0 ≤ MAX_CLIENT_NUMBER) × (number < 2 ^ 64) × IsServedCall call

-- a name is one of a queue's, a line asks for some steps, not too many, and a client's number is one byte
abbrev pub IsServedStatement : Statement → Type 0
IsServedStatement (Create name kind) = IsName name
IsServedStatement (BeginCreation name kind most) = IsName name × (1 ≤ most) × (most ≤ MAX_STEPS)
IsServedStatement CreateStep = Unit {0}
IsServedStatement (CreateSteps most) = (1 ≤ most) × (most ≤ MAX_STEPS)
IsServedStatement (Find name) = IsName name
IsServedStatement list_queues = Unit {0}
IsServedStatement Rotate = Unit {0}
IsServedStatement (Renew name) = IsName name
IsServedStatement Image = Unit {0}
IsServedStatement (SetWord word value) = (word < 2 ^ 64) × (value < 2 ^ 64)
IsServedStatement Boot = Unit {0}
IsServedStatement (Whole command) = IsServed command × (is_whole command ≡ true)
IsServedStatement (On name command) = IsName name × IsServed command × (is_whole command ≡ false)
IsServedStatement (Told name client) = IsName name × (client.0 ≤ MAX_CLIENT_NUMBER)
IsServedStatement (Asks name ask) = IsName name × IsServedAsk ask

-- a line says this broker, or this, or the rest of one asks for this: it has its words, within the limits
pub record SaysBroker (line : List ℕ) (broker : BrokerLine) : Type 0 where
  pub words : words_of line ≡ broker_words broker
  pub served : IsServedBroker broker

pub record SaysAsk (text : List ℕ) (ask : Ask) : Type 0 where
  pub words : words_of text ≡ ask_words ask
  pub served : IsServedAsk ask

pub record SaysStatement (line : List ℕ) (statement : Statement) : Type 0 where
  pub words : words_of line ≡ statement_words statement
  pub served : IsServedStatement statement
