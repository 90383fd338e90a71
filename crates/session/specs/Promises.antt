-- What is promised of the numbers of a session's clients, at every moment.
use Rattle.std.specs.Prelude.{◌≡◌, ◌<◌, ◌≤◌, ℕ, Option, Some, None}
use Rattle.words.specs.declared.call.Client.{Client}
use Rattle.words.specs.declared.call.Kind.TheVariants.{Log as log_kind}
use Rattle.words.specs.declared.call.Reply.{Reply}
use Rattle.words.specs.declared.limits.TheConstants.{MAX_CLIENTS}
use Rattle.words.specs.declared.told.Verdict.{Verdict}
use Rattle.interleave.specs.Numbers.{AreNumbersOnce}
use Rattle.interleave.specs.State.{State}
use Rattle.interleave.specs.Verdicts.{IsIdle, IsReplyOf, IsTakenByBase, NoneIsAbove, floor_by, floor_in, taken_as}
use Rattle.named.specs.Brokers.{world_at}
use Rattle.named.specs.Promises.{KeepsPromises}
use Rattle.session.specs.Keeping.{IsSettled}
use Rattle.session.specs.Sessions.{IsLogClient, Sessioned, kept_at}

-- this is the reply of a client's number in the queue of a slot
abbrev pub IsReplyIn : Option State → Client → ℕ → Reply → Type 0
IsReplyIn (Some w) client number reply = IsReplyOf w client number reply
IsReplyIn None client number reply = ⊥

abbrev pub IsReplyAt : Sessioned → ℕ → Client → ℕ → Reply → Type 0
IsReplyAt s slot client number reply = IsReplyIn (world_at s.broker slot) client number reply

-- a client's number has one reply
abbrev pub HaveOneReply : State → Type 0
HaveOneReply w =
    (client : Client) (number : ℕ) (reply other : Reply) → client.0 < MAX_CLIENTS → IsReplyOf w client number reply
    → IsReplyOf w client number other → reply ≡ other

-- what is kept of a client that has no call under way: none of its calls with a later number is in the order, nor,
-- where the verdict is NotTaken, one with that number; with nothing kept none is. Nor does the base tell that such a
-- number took effect. So each number that took effect is settled: it never runs again. And the queue's floor is the one
-- by the verdict: a number that may run is stale only above the greatest
pub record IsKeptRight (w : State) (client : Client) (last : Option Verdict) : Type 0 where
  pub none_later : NoneIsAbove w client (floor_by last)
  pub none_told_later : (number : ℕ) (reply : Reply) → IsTakenByBase w client number reply → number ≤ floor_by last
  pub settled : (number : ℕ) (reply : Reply) → IsReplyOf w client number reply → IsSettled last number reply
  pub floor : floor_in w.queue client ≡ floor_by last

-- no number stands twice in an order; a reply that is kept is that of its number, also while the broker is down or the
-- client calls; and what is kept is right of the client's last number where the broker is ready
pub record KeepsNumbers (s : Sessioned) : Type 0 where
  pub broker : KeepsPromises s.broker
  pub replies : (slot : ℕ) (client : Client) (number : ℕ) (reply : Reply) → IsLogClient s.broker slot client
      → kept_at s slot client ≡ Some (taken_as number reply) → IsReplyAt s slot client number reply
  pub once : (slot : ℕ) (w : State) → world_at s.broker slot ≡ Some w → AreNumbersOnce w
  pub kept : (slot : ℕ) (w : State) (client : Client) → s.broker.recovery ≡ None → world_at s.broker slot ≡ Some w
      → w.shape.kind ≡ log_kind → client.0 < w.shape.clients → IsIdle w client
      → IsKeptRight w client (kept_at s slot client)

abbrev pub IsReplyIfNumbered : Sessioned → ℕ → Client → Option ℕ → Reply → Type 0
IsReplyIfNumbered s slot client (Some number) reply = IsReplyAt s slot client number reply
IsReplyIfNumbered s slot client None reply = Unit {0}
