-- What the words of a command line ask.
use Rattle.std.specs.Prelude.{◌≡◌, ◌⊎◌, List, [], Option}
use Rattle.clap.specs.Words.{Text, IsAmong, fault_of, kind_of, subcommand_of}
use Rattle.clap.specs.declared.error.Error.{Error}
use Rattle.clap.specs.declared.error.kind.ErrorKind.TheVariants.{OutOfMemory, ValueValidation}
use Rattle.options.specs.Asked.{AsksFor, FitsAll, name_in, values_in}
use Rattle.options.specs.declared.asked.Asked.{Asked}
use Rattle.command_lines.specs.Commands.{pqd_app}

-- the command that the words name
abbrev pub command_name : List Text → Option Text
command_name words = name_in (subcommand_of pqd_app words)

-- the value that the words give an option of that command
abbrev pub given : List Text → Text → Option Text
given words = values_in (subcommand_of pqd_app words)

-- the words ask this, and clap finds no fault with them
pub record IsAsked (words : List Text) (asked : Asked) : Type 0 where
  pub faultless : fault_of pqd_app words ≡ []
  pub asks : AsksFor (command_name words) (given words) asked

-- memory ran out, or the fault is one that clap finds with the words, or a number does not fit its option
abbrev pub Refuses : List Text → Error → Type 0
Refuses words e = (kind_of e ≡ OutOfMemory)
    ⊎ (IsAmong (kind_of e) (fault_of pqd_app words)
    ⊎ ((kind_of e ≡ ValueValidation) × ¬ (FitsAll (command_name words) (given words))))
