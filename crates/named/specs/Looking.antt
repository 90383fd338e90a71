-- A client that looks at an open queue of a ready broker, and acts on it.
use Rattle.std.specs.Prelude.{◌≡◌, ℕ, Some, Ok}
use Rattle.words.specs.declared.call.Client.{Client}
use Rattle.interleave.specs.State.{State}
use Rattle.interleave.specs.Verdicts.{number_under_way}
use Rattle.named.specs.Brokers.{Brokered, admission, world_at}
use Rattle.named.specs.declared.looks.Look.{Look}

-- the slot is open, and no act of the client's is refused before its queue is looked at. Who knows this once acts
-- without a look: only the broker's stop ends it
pub record IsOpenTo (b : Brokered) (slot : ℕ) (client : Client) : Type 0 where
  pub world : State
  pub here : world_at b slot ≡ Some world
  pub admitted : admission b client ≡ Ok tt

-- what a client finds in a world
abbrev pub look_at : Client → State → Look
look_at client w = record { kind = w.shape.kind; calling = number_under_way w client }
