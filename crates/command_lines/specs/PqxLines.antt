-- What the words of a command line ask of `pqx`.
use Rattle.std.specs.Prelude.{◌≡◌, ◌⊎◌, List, []}
use Rattle.clap.specs.Words.{Text, IsAmong, fault_of, kind_of, subcommand_of}
use Rattle.clap.specs.declared.error.Error.{Error}
use Rattle.clap.specs.declared.error.kind.ErrorKind.TheVariants.{OutOfMemory, ValueValidation}
use Rattle.options.specs.Asked.{name_in, values_in}
use Rattle.options.specs.PqxAsked.{AllFit, Asks}
use Rattle.options.specs.declared.pqx.PqxAsked.{PqxAsked}
use Rattle.command_lines.specs.PqxCommands.{pqx_app}

-- the words ask this, and clap finds no fault with them
pub record IsPqxAsked (words : List Text) (o : PqxAsked) : Type 0 where
  pub faultless : fault_of pqx_app words ≡ []
  pub asks : Asks (name_in (subcommand_of pqx_app words)) (values_in (subcommand_of pqx_app words)) o

-- memory ran out, or the fault is one that clap finds with the words, or a value does not fit its option
abbrev pub RefusesPqx : List Text → Error → Type 0
RefusesPqx words e = (kind_of e ≡ OutOfMemory)
    ⊎ (IsAmong (kind_of e) (fault_of pqx_app words)
    ⊎ ((kind_of e ≡ ValueValidation) × ¬ (AllFit (values_in (subcommand_of pqx_app words)))))
