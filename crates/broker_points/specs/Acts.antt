-- The acts of a broker's script: each is a line of its own that makes one step.
use Rattle.std.specs.Prelude.{◌≡◌, ℕ, Bool, true, false, not, List, [], ◌∷◌, ◌++◌, replicate}
use Rattle.directory.specs.declared.limits.TheConstants.{CREATION_STEPS}
use Rattle.grammar.specs.declared.commands.Command.{Command}
use Rattle.grammar.specs.declared.commands.Command.TheVariants.{Enq, Deq, Step, End, Recover, RecoverBy, Content, Order, Again}
use Rattle.words.specs.declared.call.Call.{Call}
use Rattle.words.specs.declared.call.Call.TheVariants.{Enq as enq_call, Deq as deq_call}
use Rattle.words.specs.declared.call.Client.{Client}
use Rattle.playing.specs.Play.{most_alone}
use Rattle.playing.specs.declared.lines.Line.{Line}
use Rattle.playing.specs.declared.lines.Line.TheVariants.{Refused}
use Rattle.broker_lines.specs.declared.printed.Printed.{Printed}
use Rattle.broker_lines.specs.declared.printed.Printed.TheVariants.{Whole, Of, Unsound}
use Rattle.broker_lines.specs.declared.statements.Ask.{Ask}
use Rattle.broker_lines.specs.declared.statements.Ask.TheVariants.{Request, Plain, Begin}
use Rattle.broker_lines.specs.declared.statements.Statement.{Statement}
use Rattle.broker_lines.specs.declared.statements.Statement.TheVariants.{Create, BeginCreation, CreateStep, CreateSteps, Find, List as list_queues, Rotate, Renew, Image, SetWord, Boot, Whole as whole, On, Told, Asks}
use Rattle.broker_script.specs.Asking.{asker}
use Rattle.broker_script.specs.Play.{Played}
use Rattle.broker_script.specs.Transcript.{FollowsLine}

-- a refused act gives one line that says so
abbrev pub is_refusal : Line → Bool
is_refusal (Refused refusal) = true
is_refusal _ = false

abbrev pub says_refused : Printed → Bool
says_refused (Whole line) = is_refusal line
says_refused (Of name line) = is_refusal line
says_refused (Unsound rule) = true
says_refused _ = false

abbrev pub is_refused : List Printed → Bool
is_refused [] = false
is_refused (line ∷ lines) = says_refused line

-- no recovery has as many steps: a step past its end is refused
unfoldable pub most_recovery : ℕ
most_recovery = 4294967295

-- what a line of a queue's script attempts at a time, and how often at most
abbrev pub act_of : Command → Command
act_of (Step client most) = Step client 1
act_of (End client) = Step client 1
act_of Recover = RecoverBy 1
act_of (RecoverBy most) = RecoverBy 1
act_of command = command

abbrev pub times_of : Command → ℕ
times_of (Step client most) = most
times_of (End client) = most_alone
times_of Recover = most_recovery
times_of (RecoverBy most) = most
times_of Content = 0
times_of Order = 0
times_of Again = 0
times_of _ = 1

-- how what is asked begins: a call without a number as a call of a durable queue does
abbrev pub plain_command : Client → Call → Command
plain_command client (enq_call value) = Enq client value
plain_command client deq_call = Deq client

abbrev pub beginning : List ℕ → Ask → Statement
beginning name (Request client number call) = Asks name (Begin client number call)
beginning name (Plain client call) = On name (plain_command client call)
beginning name (Begin client number call) = Asks name (Begin client number call)

-- and how many steps it goes on by at most
abbrev pub steps_of : Ask → ℕ
steps_of (Request client number call) = most_alone
steps_of (Plain client call) = most_alone
steps_of (Begin client number call) = 0

-- what a line attempts, act by act. A creation begins with no step; what only shows something attempts nothing
abbrev pub attempts_of : Statement → List Statement
attempts_of (Create name kind) = BeginCreation name kind 0 ∷ replicate CREATION_STEPS CreateStep
attempts_of (BeginCreation name kind most) = BeginCreation name kind 0 ∷ replicate most CreateStep
attempts_of CreateStep = replicate 1 CreateStep
attempts_of (CreateSteps most) = replicate most CreateStep
attempts_of Rotate = replicate 1 Rotate
attempts_of (Renew name) = replicate 1 (Renew name)
attempts_of Image = replicate 1 Image
attempts_of (SetWord word value) = replicate 1 (SetWord word value)
attempts_of Boot = replicate 1 Boot
attempts_of (whole command) = replicate (times_of command) (whole (act_of command))
attempts_of (On name command) = replicate (times_of command) (On name (act_of command))
attempts_of (Find name) = []
attempts_of list_queues = []
attempts_of (Told name client) = []
attempts_of (Asks name ask) = beginning name ask ∷ replicate (steps_of ask) (On name (Step (asker ask) 1))

-- an act was attempted, and accepted or refused
pub record IsAttempted (old : Played) (act : Statement) (accepted : Bool) (new : Played) : Type 0 where
  pub lines : List Printed
  pub followed : FollowsLine old act lines new
  pub answer : accepted ≡ not (is_refused lines)

-- acts attempted one after another, up to the first that is refused, and which of them were accepted: a step past the
-- one that answers is refused, and so is one past the end of a creation or a recovery
pub data Attempts : Played → List Statement → List Statement → Played → Type 0 where
  all_made : {old : Played} → Attempts old [] [] old
  ends_at : {old new : Played} {act : Statement} {rest : List Statement} (attempt : IsAttempted old act false new)
      → Attempts old (act ∷ rest) [] new
  goes_on : {old next new : Played} {act : Statement} {rest acts : List Statement}
      (attempt : IsAttempted old act true next) (more : Attempts next rest acts new)
      → Attempts old (act ∷ rest) (act ∷ acts) new

-- the acts of some lines, one after the other
pub data AreActsOf : Played → List Statement → List Statement → Type 0 where
  no_line : {old : Played} → AreActsOf old [] []
  line : {old next : Played} {statement : Statement} {statements acts rest : List Statement}
      (made : Attempts old (attempts_of statement) acts next) (more : AreActsOf next statements rest)
      → AreActsOf old (statement ∷ statements) (acts ++ rest)
