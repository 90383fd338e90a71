-- What a text says as a broker's script, and which of its lines is the first bad one.
use Rattle.std.specs.Prelude.{◌≡◌, ◌⊎◌, ◌≤◌, ◌<◌, ℕ, ◌-◌, Bool, true, false, not, ◌&&◌, ◌||◌, List, [], ◌∷◌, ◌++◌, Option, Some, None, IfSome, length, map, take, filter, All, bytes_eq}
use Rattle.std.specs.List.{list_any}
use Rattle.words.specs.declared.refusal.Refusal.{Refusal}
use Rattle.words.specs.declared.refusal.Refusal.TheVariants.{BadLine, NoMemory}
use Rattle.grammar.specs.Grammar.{is_on}
use Rattle.grammar.specs.Lines.{words_of, is_statement}
use Rattle.grammar.specs.declared.commands.Command.{Command}
use Rattle.grammar.specs.declared.limits.TheConstants.{MAX_LINES}
use Rattle.broker_lines.specs.Grammar.{broker_words, statement_words, IsServedBroker, IsServedStatement, SaysStatement}
use Rattle.broker_lines.specs.Scripted.{Scripted}
use Rattle.broker_lines.specs.declared.statements.BrokerLine.{BrokerLine}
use Rattle.broker_lines.specs.declared.statements.Statement.{Statement}
use Rattle.broker_lines.specs.declared.statements.Statement.TheVariants.{Create, BeginCreation, On}

-- whether a line creates a queue of this name, and one of a kind that has this command
abbrev pub creates : List ℕ → Statement → Bool
creates name (Create other kind) = bytes_eq other name
creates name (BeginCreation other kind most) = bytes_eq other name
creates name _ = false

abbrev pub creates_for : List ℕ → Command → Statement → Bool
creates_for name command (Create other kind) = bytes_eq other name && is_on kind command
creates_for name command (BeginCreation other kind most) = bytes_eq other name && is_on kind command
creates_for name command _ = false

-- whether a line may come after these: one on a queue that some of them create may only where one of those creates it
-- of a kind that has the command
abbrev pub may_follow : List Statement → Statement → Bool
may_follow before (On name command) =
    not (list_any (creates name) before) || list_any (creates_for name command) before
may_follow before _ = true

-- each line may come after those before it
abbrev pub MayFollowAll : List Statement → List Statement → Type 0
MayFollowAll before [] = Unit {0}
MayFollowAll before (statement ∷ statements) =
    (may_follow before statement ≡ true) × MayFollowAll (before ++ statement ∷ []) statements

-- the words of a script's lines: the broker's first, then each statement's
abbrev pub script_words : Option BrokerLine → List Statement → List (List (List ℕ))
script_words None statements = map statement_words statements
script_words (Some broker) statements = broker_words broker ∷ map statement_words statements

-- these lines say this script: not too many lines, and those that aren't skipped are its broker's line, if it has one,
-- and then its statements'
pub record Says (lines : List (List ℕ)) (broker : Option BrokerLine) (statements : List Statement) : Type 0 where
  pub few : length lines ≤ MAX_LINES
  pub words : map words_of (filter is_statement lines) ≡ script_words broker statements
  pub broker_first : broker ≡ None → statements ≡ []
  pub broker_served : IfSome broker IsServedBroker
  pub served : All IsServedStatement statements
  pub of_kind : MayFollowAll [] statements

-- the same of a script as one value
abbrev pub SaysScript : List (List ℕ) → Scripted → Type 0
SaysScript lines script = Says lines script.broker script.statements

-- the lines before this one say a script, and with it they say none
pub record IsFirstBad (lines : List (List ℕ)) (number : ℕ) : Type 0 where
  pub some : 1 ≤ number
  pub there : number ≤ length lines
  pub good : (broker : Option BrokerLine) × (statements : List Statement)
      × Says (take (number - 1) lines) broker statements
  pub bad : (broker : Option BrokerLine) (statements : List Statement) → Says (take number lines) broker statements → ⊥

-- why lines are not read as a script: there was no memory, or this is the first bad one
abbrev pub IsWhyUnread : List (List ℕ) → Refusal → Type 0
IsWhyUnread lines refusal =
    (refusal ≡ NoMemory) ⊎ ((number : ℕ) × (refusal ≡ BadLine number) × IsFirstBad lines number)

-- a line says this, and it may come after these; it says nothing that may
abbrev pub SaysAfter : List Statement → List ℕ → Statement → Type 0
SaysAfter before line statement = SaysStatement line statement × (may_follow before statement ≡ true)

abbrev pub SaysNoneAfter : List Statement → List ℕ → Type 0
SaysNoneAfter before line =
    (statement : Statement) → SaysStatement line statement → may_follow before statement ≡ true → ⊥

-- whatever lines said the script so far, they say the new one with this line
abbrev pub Continues : Option BrokerLine → List Statement → List ℕ → Option BrokerLine → List Statement → Type 0
Continues broker statements line new_broker new_statements =
    (lines : List (List ℕ)) → Says lines broker statements → length lines < MAX_LINES
    → Says (lines ++ line ∷ []) new_broker new_statements

-- whatever lines said the script so far, they say none with this line
abbrev pub EndsBadly : Option BrokerLine → List Statement → List ℕ → Type 0
EndsBadly broker statements line =
    (lines : List (List ℕ)) → Says lines broker statements
    → (other : Option BrokerLine) (more : List Statement) → Says (lines ++ line ∷ []) other more → ⊥
