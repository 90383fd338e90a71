-- Scripts without `again`, of which no line is put off.
use Rattle.std.specs.Prelude.{◌≡◌, ◌≢◌, All, Bool, true, false, List, [], ◌∷◌, ◌++◌, Option, Some, None, filter}
use Rattle.words.specs.declared.refusal.Refusal.TheVariants.{NoMemory}
use Rattle.grammar.specs.declared.commands.Command.TheVariants.{Again}
use Rattle.playing.specs.declared.lines.Line.TheVariants.{Refused}
use Rattle.broker_lines.specs.Grammar.{counts_by}
use Rattle.broker_lines.specs.declared.printed.Printed.{Printed}
use Rattle.broker_lines.specs.declared.printed.Printed.TheVariants.{Whole as whole_line}
use Rattle.broker_lines.specs.declared.statements.BrokerLine.{BrokerLine}
use Rattle.broker_lines.specs.declared.statements.Statement.{Statement}
use Rattle.broker_lines.specs.declared.statements.Statement.TheVariants.{Whole}
use Rattle.broker_script.specs.Play.{Played}
use Rattle.broker_script.specs.PutOff.{IsPutOff}
use Rattle.broker_script.specs.Transcript.{FollowsLine, IsPlayedBy}

-- a script without its lines `again`
abbrev pub is_act : Statement → Bool
is_act (Whole Again) = false
is_act _ = true

abbrev pub without_again : List Statement → List Statement
without_again statements = filter is_act statements

-- no act is made again
abbrev pub HasNoAgain : List Statement → Type 0
HasNoAgain statements = All (λ statement. statement ≢ Whole Again) statements

-- lines without those that say that memory was refused
abbrev pub is_answer : Printed → Bool
is_answer (whole_line (Refused NoMemory)) = false
is_answer _ = true

abbrev pub without_refusals : List Printed → List Printed
without_refusals lines = filter is_answer lines

-- some lines, one after the other, of which none is put off. Each is followed on a broker that is as the one before
-- left it, but for how many accesses its memory had, and for the room in histories
pub data FollowsPlainly : Played → List Statement → List Printed → Type 0 where
  all_followed : {old : Played} → FollowsPlainly old [] []
  next_line : {old : Played} {statement : Statement} {statements : List Statement} (from to : Played)
      (first rest : List Printed) (same : IsPutOff old from) (line : FollowsLine from statement first to)
      (lines : FollowsPlainly to statements rest) → FollowsPlainly old (statement ∷ statements) (first ++ rest)

-- the lines of a script that is followed so
abbrev pub ArePlainLinesOf : Option BrokerLine → List Statement → List Printed → Type 0
ArePlainLinesOf None statements lines = lines ≡ []
ArePlainLinesOf (Some broker) statements lines =
    IsPlayedBy FollowsPlainly (counts_by broker) statements lines

-- lines without refusals are such lines of the script without its lines `again`
abbrev pub ArePlainButForRefusals : Option BrokerLine → List Statement → List Printed → Type 0
ArePlainButForRefusals broker statements lines =
    ArePlainLinesOf broker (without_again statements) (without_refusals lines)
