-- What a text says as a script, and which of its lines is the first bad one.
use Rattle.std.specs.Prelude.{◌≡◌, ◌⊎◌, ◌≤◌, ◌<◌, ℕ, ◌-◌, List, [], ◌∷◌, ◌++◌, Option, Some, None, true, IfSome, length, map, take, filter, All}
use Rattle.words.specs.declared.refusal.Refusal.{Refusal}
use Rattle.words.specs.declared.refusal.Refusal.TheVariants.{BadLine, NoMemory}
use Rattle.grammar.specs.Lines.{words_of, is_statement}
use Rattle.grammar.specs.Grammar.{queue_words, command_words, IsServedQueue, IsServed, is_on}
use Rattle.grammar.specs.Scripted.{Scripted}
use Rattle.grammar.specs.declared.limits.TheConstants.{MAX_LINES}
use Rattle.grammar.specs.declared.commands.Command.{Command}
use Rattle.grammar.specs.declared.commands.QueueLine.{QueueLine}

-- the words of a script's lines: the queue's first, then each command's
abbrev pub script_words : Option QueueLine → List Command → List (List (List ℕ))
script_words None commands = map command_words commands
script_words (Some queue) commands = queue_words queue ∷ map command_words commands

-- these lines say this script: not too many lines, and those that aren't skipped are its queue's line, if it has one,
-- and then its commands'
pub record Says (lines : List (List ℕ)) (queue : Option QueueLine) (commands : List Command) : Type 0 where
  pub few : length lines ≤ MAX_LINES
  pub words : map words_of (filter is_statement lines) ≡ script_words queue commands
  pub queue_first : queue ≡ None → commands ≡ []
  pub queue_served : IfSome queue IsServedQueue
  pub commands_served : All IsServed commands
  pub of_kind : IfSome queue (λ q. All (λ command. is_on q.kind command ≡ true) commands)

-- the same of a script as one value
abbrev pub SaysScript : List (List ℕ) → Scripted → Type 0
SaysScript lines script = Says lines script.queue script.commands

-- the lines before this one say a script, and with it they say none
pub record IsFirstBad (lines : List (List ℕ)) (number : ℕ) : Type 0 where
  pub some : 1 ≤ number
  pub there : number ≤ length lines
  pub good : (queue : Option QueueLine) × (commands : List Command) × Says (take (number - 1) lines) queue commands
  pub bad : (queue : Option QueueLine) (commands : List Command) → Says (take number lines) queue commands → ⊥

-- why lines are not read as a script: there was no memory, or this is the first bad one
abbrev pub IsWhyUnread : List (List ℕ) → Refusal → Type 0
IsWhyUnread lines refusal =
    (refusal ≡ NoMemory) ⊎ ((number : ℕ) × (refusal ≡ BadLine number) × IsFirstBad lines number)

-- whatever lines said the script so far, they say the new one with this line
abbrev pub Continues : Option QueueLine → List Command → List ℕ → Option QueueLine → List Command → Type 0
Continues queue commands line new_queue new_commands =
    (lines : List (List ℕ)) → Says lines queue commands → length lines < MAX_LINES
    → Says (lines ++ line ∷ []) new_queue new_commands

-- whatever lines said the script so far, they say none with this line
abbrev pub EndsBadly : Option QueueLine → List Command → List ℕ → Type 0
EndsBadly queue commands line =
    (lines : List (List ℕ)) → Says lines queue commands
    → (other : Option QueueLine) (more : List Command) → Says (lines ++ line ∷ []) other more → ⊥
