-- A line that no row serves says no command.
use Rattle.std.proofs.Common.{ℕ, List}
use Rattle.std.specs.Prelude.{Option, Some, None, MatchOption}
use Rattle.grammar.specs.Grammar.{SaysCommand}
use Rattle.grammar.specs.Rows.{IsNoCall, IsNoMemoryLine, IsNoCrashLine}
use Rattle.grammar.specs.declared.commands.Command.{Command}
use Rattle.grammar.specs.declared.commands.Command.TheVariants.{Enq, NumberedEnq, Deq, NumberedDeq, Step, End, Evict, Crash, Recover, RecoverBy, Content, Order, Again}

none_of : (line : List ℕ) → IsNoCall line → IsNoMemoryLine line → IsNoCrashLine line → (command : Command) → SaysCommand line command → ⊥
none_of line calls memory crashes (Enq client value) = calls.enq client value
none_of line calls memory crashes (NumberedEnq client number value) = calls.numbered_enq client number value
none_of line calls memory crashes (Deq client) = calls.deq client
none_of line calls memory crashes (NumberedDeq client number) = calls.numbered_deq client number
none_of line calls memory crashes (Step client most) = calls.step client most
none_of line calls memory crashes (End client) = calls.end client
none_of line calls memory crashes (Evict word) = memory.evict word
none_of line calls memory crashes Crash = crashes.crash
none_of line calls memory crashes Recover = crashes.recover
none_of line calls memory crashes (RecoverBy most) = crashes.recover_by most
none_of line calls memory crashes Content = memory.content
none_of line calls memory crashes Order = memory.order
none_of line calls memory crashes Again = memory.again

pub no_row : (line : List ℕ) → IsNoCall line → IsNoMemoryLine line → (r : Option Command) → MatchOption r (IsNoCrashLine line) (SaysCommand line) → MatchOption r ((command : Command) → SaysCommand line command → ⊥) (SaysCommand line)
no_row line calls memory (Some command) says = says
no_row line calls memory None crashes = none_of line calls memory crashes
