-- What is known of a call, as it is said.
use Rattle.std.specs.Prelude.{ℕ, List, Option}
use Rattle.words.specs.declared.told.Outcome.{Outcome}
use Rattle.words.specs.declared.told.Outcome.TheVariants.{NotTaken}
use Rattle.events.specs.declared.event.Event.{Event}
use Rattle.findings.specs.Findings.{IsKnown, IsLearnt}
use Rattle.findings.proofs.Offered.{NothingKnown}
use Rattle.deciding.specs.declared.reading.Heard.{Heard}
use Rattle.deciding.specs.declared.reading.Heard.TheVariants.{Replied, Refused, Nothing}

abbrev pub IsHeard : List Event → List (Option Outcome) → ℕ → Heard → Type 0
IsHeard events learnt p (Replied reply) = IsKnown events learnt p reply
IsHeard events learnt p Refused = IsLearnt learnt p NotTaken
IsHeard events learnt p Nothing = NothingKnown events learnt p
