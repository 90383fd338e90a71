-- A broker that goes on from the kept words of a moment, and the session over it.
use Rattle.std.specs.Prelude.{◌≡◌, ◌<◌, ◌≤◌, ℕ, false, List, Some, take}
use Rattle.words.specs.declared.call.Call.{Call}
use Rattle.words.specs.declared.call.Client.{Client}
use Rattle.words.specs.declared.call.Kind.TheVariants.{Log as log_kind}
use Rattle.words.specs.declared.call.Reply.{Reply}
use Rattle.persist.specs.Memory.{Words, words_at_rest}
use Rattle.journal.specs.Frame.{Batch}
use Rattle.journal.specs.Journal.{words_after}
use Rattle.journal_file.specs.OnDevice.{OnDevice}
use Rattle.events.specs.Orders.{IsTakenAs}
use Rattle.events.specs.Replay.{call_at}
use Rattle.interleave.specs.Holds.{IsExplained}
use Rattle.interleave.specs.State.{State, kept_content, order_in}
use Rattle.named.specs.Brokers.{Brokered, world_at}
use Rattle.session.specs.Keeping.{IsSettled, told_when_asked}
use Rattle.session.specs.Sessions.{Sessioned, kept_at}
use Rattle.workers.specs.Moments.{GoesOnLater}
use Rattle.lasting.specs.Lasting.{HasMoments, ReadsLater, ReadsMoment}
use Rattle.workers.specs.Marks.{RanNumbered}
use Rattle.desk.specs.Telling.{IsReplied}
use Rattle.desk.specs.declared.calls.Asked.{Asked}
use Rattle.serving.specs.Image.{IsOpenedOver}
use Rattle.opening.specs.Opening.{IsOpened, IsQueueOpened}

-- each number of a client of a log queue that is settled in the session is so, with its reply, by what the broker tells
-- the client
abbrev pub AreSettledBy : Sessioned → Brokered → Type 0
AreSettledBy s b =
    (slot : ℕ) (w : State) (client : Client) (number : ℕ) (reply : Reply) → world_at s.broker slot ≡ Some w
    → w.shape.kind ≡ log_kind → client.0 < w.shape.clients → IsSettled (kept_at s slot client) number reply
    → IsSettled (told_when_asked b slot client.0) number reply

-- it has each queue of the session: of its shape, and it holds and tells what that one kept. What is settled in the
-- session is so by what it tells
pub record GoesOnFrom (s : Sessioned) (b : Brokered) : Type 0 where
  pub queues : (slot : ℕ) (w : State) → world_at s.broker slot ≡ Some w
      → IsQueueOpened w.shape w.words.kept (world_at b slot)
  pub settled : AreSettledBy s b

-- the broker was opened on what a stop left of a journal. The batches that are read of it begin with so many at whose
-- end the earlier session was at a moment
pub record IsReopenedFrom (earlier : Sessioned) (b : Brokered) : Type 0 where
  pub first : Sessioned
  pub key : List ℕ
  pub base : List ℕ
  pub batches : List Batch
  pub count : ℕ
  pub session : ℕ → Sessioned
  pub left : List ℕ
  pub reads : ReadsMoment first key base batches count session left
  pub few : ℕ
  pub among : few ≤ reads.whole
  pub earlier_is : session few ≡ earlier
  pub opened : IsOpened (words_at_rest (words_after (take reads.whole batches) base)) b

-- a session over such a broker
pub record IsRestartedFrom (earlier next : Sessioned) : Type 0 where
  pub broker : Brokered
  pub reopened : IsReopenedFrom earlier broker
  pub over : IsOpenedOver broker next

-- the session came of the earlier one over several lives: it goes on from there, or from a restart
pub data LivesOn (earlier : Sessioned) : Sessioned → Type 0 where
  within : {now : Sessioned} (on : GoesOnLater earlier now) → LivesOn earlier now
  restarted : {last next now : Sessioned} (before : LivesOn earlier last) (restart : IsRestartedFrom last next)
      (on : GoesOnLater next now) → LivesOn earlier now

-- the words that are read of what a stop left
abbrev pub words_read : {first s : Sessioned} {j : OnDevice} {has : HasMoments first j} {bytes : List ℕ}
    → ReadsLater first s j has bytes → Words
words_read {first} {s} {j} {has} left = words_at_rest (words_after (take left.reads.whole has.batches) has.base)

-- the broker was opened on them, and the session of their moment goes on from this one
pub record IsReopenedLater (first now : Sessioned) (b : Brokered) : Type 0 where
  pub j : OnDevice
  pub has : HasMoments first j
  pub bytes : List ℕ
  pub left : ReadsLater first now j has bytes
  pub opened : IsOpened (words_read left) b

-- each reply that stands in its client's list, at a session from which this one goes on, and whose call ran with a
-- number in a log queue: by what the broker tells the client, the number is settled with it
abbrev pub AreRepliesSettledBy : Sessioned → Sessioned → Brokered → Type 0
AreRepliesSettledBy first now b =
    (client : Client) (asked : Asked) (reply : Reply) (number : ℕ) (replied : IsReplied first now client asked reply)
    → RanNumbered replied.session client replied.has.entry number
    → IsSettled (told_when_asked b replied.has.entry.queue.0 client.0) number reply

-- The call took effect once and for all, with this reply. It is in the order that explains what its queue's history had
-- when all stopped, and after the restart the queue holds what the replay of that order leaves.
pub record IsHeldAfter (b : Brokered) (slot place : ℕ) (call : Call) (reply : Reply) : Type 0 where
  pub left : State
  pub explained : IsExplained left
  pub names : call_at left.log.events place ≡ Some call
  pub taken : IsTakenAs (order_in left) place reply
  pub world : State
  pub is : world_at b slot ≡ Some world
  pub holds : kept_content world ≡ kept_content left

-- each reply that stands in its client's list, where the call ran, of a queue of either kind, and no history has ended
-- since
abbrev pub AreRepliesHeld : Sessioned → Sessioned → Brokered → Type 0
AreRepliesHeld first now b =
    (client : Client) (asked : Asked) (reply : Reply) (place : ℕ) (replied : IsReplied first now client asked reply)
    → replied.has.entry.place ≡ Some place → replied.later.ended ≡ false
    → IsHeldAfter b replied.has.entry.queue.0 place asked.call reply
