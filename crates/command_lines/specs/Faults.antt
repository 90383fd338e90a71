-- What a fault of the system is, before anything runs.
use Rattle.std.specs.declared.io.ErrorKind.{ErrorKind}
use Rattle.std.specs.declared.io.ErrorKind.TheVariants.{OutOfMemory}
use Rattle.words.specs.declared.refusal.Refusal.{Refusal}
use Rattle.words.specs.declared.refusal.Refusal.TheVariants.{NoMemory, ReadFailed}

-- where something was to be read: want of memory, or else a failed read
abbrev pub refusal_of_system : ErrorKind → Refusal
refusal_of_system OutOfMemory = NoMemory
refusal_of_system _ = ReadFailed
