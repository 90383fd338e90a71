-- What a pass over facts carries along: which clients have calls under way, and whether the system is down.
use Rattle.std.specs.Prelude.{ℕ, ◌≡◌, ◌<◌, ◌≤◌, ◌+◌, ◌↔◌, List, Bool, Some, slice_get, get_or, length, IsTrue}
use Rattle.words.specs.declared.call.Call.{Call}
use Rattle.words.specs.declared.call.Client.{Client}
use Rattle.events.specs.declared.event.Event.{Event}
use Rattle.events.specs.History.{CallAt, IsDown, IsUnderWay}
use Rattle.findings.specs.Filling.{MayStandAmongAny}

-- the event at p may stand there, and has a number by its place if it is a Call
pub record StandsRightly (events : List Event) (p : ℕ) : Type 0 where
  pub may : (event : Event) → slice_get events p ≡ Some event → MayStandAmongAny events p event
  pub number : (number : ℕ) (client : Client) (call : Call) → CallAt events p client number call → number ≡ p + 1

-- before p: of each client one more than the place at which its last call began, 0 once that returned, and one more
-- than the place of the last Crash: the call has no end exactly if it began behind that
pub record IsStanding (events : List Event) (p : ℕ) (begun : List ℕ) (crashed : ℕ) (down : Bool) : Type 0 where
  pub under_way : (client : Client) (d : ℕ) → client.0 < length begun
      → (crashed < get_or begun client.0 d) ↔ IsUnderWay events client p
  pub low : (k d : ℕ) → k < length begun → get_or begun k d ≤ p
  pub early : crashed ≤ p
  pub is_down : IsTrue down ↔ IsDown events p
