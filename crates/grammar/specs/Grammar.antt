-- The lines that are served, each as its words, and the limits of the numbers in them.
use Rattle.std.specs.Prelude.{◌≡◌, ◌≤◌, ◌<◌, ◌^◌, ℕ, Bool, true, false, List, [], ◌∷◌, codes, decimal}
use Rattle.std.specs.List.{join_with_byte}
use Rattle.grammar.specs.Lines.{words_of}
use Rattle.arena.specs.Limits.{AreCounts}
use Rattle.arena.specs.Shape.{Shape, shape_of}
use Rattle.words.specs.declared.call.Kind.{Kind}
use Rattle.words.specs.declared.call.Kind.TheVariants.{Durable, Log}
use Rattle.words.specs.PlainQueue.{FitsValue}
use Rattle.words.specs.Text.{value_text}
use Rattle.grammar.specs.declared.limits.TheConstants.{MAX_CLIENT_NUMBER, MAX_STEPS}
use Rattle.grammar.specs.declared.commands.Command.{Command}
use Rattle.grammar.specs.declared.commands.Command.TheVariants.{Enq, NumberedEnq, Deq, NumberedDeq, Step, End, Evict, Crash, Recover, RecoverBy, Content, Order, Again}
use Rattle.grammar.specs.declared.commands.QueueLine.{QueueLine}

abbrev pub kind_word : Kind → List ℕ
kind_word Durable = codes "durable"
kind_word Log = codes "log"

-- `queue durable T K`
abbrev pub queue_words : QueueLine → List (List ℕ)
queue_words queue = codes "queue" ∷ kind_word queue.kind ∷ decimal queue.clients ∷ decimal queue.records ∷ []

-- `enq C V`, `enq C N V`, `deq C`, `deq C N`, `step C M`, `end C`, `evict W`, `crash`, `recover`, `recover M`,
-- `content`, `order`, `again`
abbrev pub command_words : Command → List (List ℕ)
command_words (Enq client value) = codes "enq" ∷ decimal client.0 ∷ value_text value ∷ []
command_words (NumberedEnq client number value) =
    codes "enq" ∷ decimal client.0 ∷ decimal number ∷ value_text value ∷ []
command_words (Deq client) = codes "deq" ∷ decimal client.0 ∷ []
command_words (NumberedDeq client number) = codes "deq" ∷ decimal client.0 ∷ decimal number ∷ []
command_words (Step client most) = codes "step" ∷ decimal client.0 ∷ decimal most ∷ []
command_words (End client) = codes "end" ∷ decimal client.0 ∷ []
command_words (Evict word) = codes "evict" ∷ decimal word ∷ []
command_words Crash = codes "crash" ∷ []
command_words Recover = codes "recover" ∷ []
command_words (RecoverBy most) = codes "recover" ∷ decimal most ∷ []
command_words Content = codes "content" ∷ []
command_words Order = codes "order" ∷ []
command_words Again = codes "again" ∷ []

-- a command as its line has it
abbrev pub command_text : Command → List ℕ
command_text command = join_with_byte 32 (command_words command)

-- a queue has some clients, and each of them some records, no more than the most
abbrev pub IsServedQueue : QueueLine → Type 0
IsServedQueue queue = AreCounts queue.clients queue.records

-- the shape that a queue line asks for
abbrev pub shape_by : QueueLine → Shape
shape_by queue = shape_of queue.kind (record { clients = queue.clients; records = queue.records })

-- a client's number is one byte, a value fits in the memory, a call's number and a word's have 64, and a line asks for
-- some steps, not too many
abbrev pub IsServed : Command → Type 0
IsServed (Enq client value) = (client.0 ≤ MAX_CLIENT_NUMBER) × FitsValue value
IsServed (NumberedEnq client number value) = (client.0 ≤ MAX_CLIENT_NUMBER) × (number < 2 ^ 64) × FitsValue value
IsServed (Deq client) = client.0 ≤ MAX_CLIENT_NUMBER
IsServed (NumberedDeq client number) = (client.0 ≤ MAX_CLIENT_NUMBER) × (number < 2 ^ 64)
IsServed (Step client most) = (client.0 ≤ MAX_CLIENT_NUMBER) × (1 ≤ most) × (most ≤ MAX_STEPS)
IsServed (End client) = client.0 ≤ MAX_CLIENT_NUMBER
IsServed (Evict word) = word < 2 ^ 64
IsServed Crash = Unit {0}
IsServed Recover = Unit {0}
IsServed (RecoverBy most) = (1 ≤ most) × (most ≤ MAX_STEPS)
IsServed Content = Unit {0}
IsServed Order = Unit {0}
IsServed Again = Unit {0}

-- whether a queue of this kind has such a command: calls on a log queue have numbers, those on a durable one have none
abbrev pub is_on : Kind → Command → Bool
is_on Durable (Enq client value) = true
is_on Durable (Deq client) = true
is_on Durable (NumberedEnq client number value) = false
is_on Durable (NumberedDeq client number) = false
is_on Log (Enq client value) = false
is_on Log (Deq client) = false
is_on Log (NumberedEnq client number value) = true
is_on Log (NumberedDeq client number) = true
is_on kind (Step client most) = true
is_on kind (End client) = true
is_on kind (Evict word) = true
is_on kind Crash = true
is_on kind Recover = true
is_on kind (RecoverBy most) = true
is_on kind Content = true
is_on kind Order = true
is_on kind Again = true

-- whether a command only shows something
abbrev pub is_shown : Command → Bool
is_shown Content = true
is_shown Order = true
is_shown _ = false

-- a line says this queue, or this command: it has its words, within the limits
pub record SaysQueue (line : List ℕ) (queue : QueueLine) : Type 0 where
  pub words : words_of line ≡ queue_words queue
  pub served : IsServedQueue queue

pub record SaysCommand (line : List ℕ) (command : Command) : Type 0 where
  pub words : words_of line ≡ command_words command
  pub served : IsServed command

-- it says this command, which a queue of this kind has; or none that it has
abbrev pub SaysOn : Kind → List ℕ → Command → Type 0
SaysOn kind line command = SaysCommand line command × (is_on kind command ≡ true)

abbrev pub SaysNoneOn : Kind → List ℕ → Type 0
SaysNoneOn kind line = (command : Command) → SaysCommand line command → is_on kind command ≡ true → ⊥
