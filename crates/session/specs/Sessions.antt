-- A session: a broker, and for each of its slots and clients the last verdict that the client was given.
use Rattle.std.specs.Prelude.{◌≡◌, ◌<◌, ℕ, Bool, true, false, not, List, [], Option, Some, None, slice_index_or}
use Rattle.words.specs.declared.call.Client.{Client}
use Rattle.words.specs.declared.call.Kind.TheVariants.{Durable as durable_kind, Log as log_kind}
use Rattle.words.specs.declared.told.Verdict.{Verdict}
use Rattle.directory.specs.Directory.{HasQueue}
use Rattle.directory.specs.declared.queue.Queue.{Queue}
use Rattle.interleave.specs.State.{State}
use Rattle.interleave.specs.Verdicts.{IsLast, IsRecalled, IsRested}
use Rattle.named.specs.Brokers.{Brokered, IsWell, is_down, world_at}

-- the broker, and the verdicts by slot and client
pub record Sessioned : Type 0 where
  pub broker : Brokered
  pub kept : List (List (Option Verdict))

-- the last verdict that is kept in a place, if there is one
abbrev pub kept_in : List (List (Option Verdict)) → ℕ → ℕ → Option Verdict
kept_in kept slot client = slice_index_or (slice_index_or kept slot []) client None

abbrev pub kept_at : Sessioned → ℕ → Client → Option Verdict
kept_at s slot client = kept_in s.kept slot client.0

-- the broker is ready
abbrev pub is_up : Brokered → Bool
is_up b = not (is_down b)

-- what is kept for the clients of a log queue: each verdict is recalled right; where the broker is ready it is the
-- client's last; and where the queue alone is ready yet, nobody has called since its clients were told
pub record AreVerdictsRight (up : Bool) (w : State) (kept : ℕ → Option Verdict) : Type 0 where
  pub recalled : (client : Client) → client.0 < w.shape.clients → IsRecalled w client (kept client.0)
  pub last : up ≡ true → (client : Client) → client.0 < w.shape.clients → IsLast w client (kept client.0)
  pub rested : up ≡ false → w.recovery ≡ None → IsRested w

-- a closed slot has nothing kept; of a durable queue nothing is said
abbrev pub IsSlotRight : Bool → Option State → (ℕ → Option Verdict) → Type 0
IsSlotRight up (Some w) kept = w.shape.kind ≡ log_kind → AreVerdictsRight up w kept
IsSlotRight up None kept = (client : ℕ) → kept client ≡ None

-- what holds of a session at every moment
pub record IsRight (s : Sessioned) : Type 0 where
  pub well : IsWell s.broker
  pub slots : (slot : ℕ) → IsSlotRight (is_up s.broker) (world_at s.broker slot) (kept_in s.kept slot)

-- the slot has a log queue, and the client is one of its clients
pub record IsLogClient (b : Brokered) (slot : ℕ) (client : Client) : Type 0 where
  pub world : State
  pub here : world_at b slot ≡ Some world
  pub log : world.shape.kind ≡ log_kind
  pub few : client.0 < world.shape.clients

-- the slot has a durable queue, by the directory
pub record HasDurableQueue (b : Brokered) (slot : ℕ) : Type 0 where
  pub queue : Queue
  pub has : HasQueue b.directory slot queue
  pub durable : queue.kind ≡ durable_kind

-- nobody has called a log queue of the broker since it was made or booted, or last recovered or rotated
pub record IsUncalled (b : Brokered) : Type 0 where
  pub rested : (slot : ℕ) (w : State) → world_at b slot ≡ Some w → w.shape.kind ≡ log_kind → w.recovery ≡ None
      → IsRested w
