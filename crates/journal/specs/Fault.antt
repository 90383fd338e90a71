-- The text of each fault.
use Rattle.std.specs.Prelude.{ℕ, List, codes}
use Rattle.words.specs.Refusal.{refusal_text}
use Rattle.journal.specs.declared.fault.Fault.{Fault}
use Rattle.journal.specs.declared.fault.Fault.TheVariants.{Refused, BadSum}

-- as a refusal's, or its name
abbrev pub fault_text : Fault → List ℕ
fault_text (Refused refusal) = refusal_text refusal
fault_text BadSum = codes "BadSum"
