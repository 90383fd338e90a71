-- What a fault says of what went wrong.
use Rattle.words.specs.declared.refusal.Refusal.{Refusal}
use Rattle.words.specs.declared.refusal.Refusal.TheVariants.{BadLine}
use Rattle.pqx.specs.declared.Fault.{Fault}
use Rattle.pqx.specs.declared.Fault.TheVariants.{Line, Refused}

-- a bad line is told with its number, any other refusal as it is
abbrev pub fault_of : Refusal → Fault
fault_of (BadLine number) = Line number (BadLine number)
fault_of refusal = Refused refusal
