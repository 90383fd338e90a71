-- Whose call an event begins, and under which number.
use Rattle.std.specs.Prelude.{ℕ, Option, None, Some}
use Rattle.events.specs.declared.event.Event.{Event}
use Rattle.events.specs.declared.event.Event.TheVariants.{Call, Crash, Ready, Return}

abbrev pub caller_of : Option Event → Option (ℕ × ℕ)
caller_of (Some (Call client number call)) = Some (client.0, number)
caller_of (Some (Return client reply)) = None
caller_of (Some Crash) = None
caller_of (Some (Ready told)) = None
caller_of None = None
