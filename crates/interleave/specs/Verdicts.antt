-- The numbers of a log queue's calls, and the last verdict that a client was given: what each goes on to say.
use Rattle.std.specs.Prelude.{◌≡◌, ◌<◌, ◌≤◌, ◌⊎◌, ℕ, Option, Some, None, slice_get, slice_index, slice_index_or}
use Rattle.std.specs.Option.{option_map}
use Rattle.words.specs.declared.call.Client.{Client}
use Rattle.words.specs.declared.call.Reply.{Reply}
use Rattle.words.specs.declared.limits.TheConstants.{MAX_CLIENTS}
use Rattle.words.specs.declared.told.Outcome.TheVariants.{Taken}
use Rattle.words.specs.declared.told.Told.{Told}
use Rattle.words.specs.declared.told.Told.TheVariants.{None as told_none, Verdict as told_verdict, Row as told_row}
use Rattle.words.specs.declared.told.Verdict.{Verdict}
use Rattle.interleave.specs.LogQueue.{floor_of, verdict_of}
use Rattle.events.specs.Orders.{IsTakenAs}
use Rattle.protocol.specs.declared.UnderWay.{UnderWay}
use Rattle.interleave.specs.Numbers.{HasNumber, IsEntryOf}
use Rattle.interleave.specs.Queue.{told_in, told_to}
use Rattle.interleave.specs.State.{State, kept_tells, order_in}
use Rattle.interleave.specs.declared.queue.Queue.{Queue}
use Rattle.interleave.specs.declared.queue.Queue.TheVariants.{Durable, Log}

-- the number of the call that a client has under way, if it has one
abbrev pub number_of_call : Option UnderWay → Option ℕ
number_of_call call = option_map (λ (u : UnderWay). u.begun.number) call

abbrev pub number_under_way : State → Client → Option ℕ
number_under_way w client = number_of_call (slice_index_or w.calls client.0 None)

-- the client has none
abbrev pub IsIdle : State → Client → Type 0
IsIdle w client = slice_index_or w.calls client.0 None ≡ None

-- the number took effect, with this reply
abbrev pub taken_as : ℕ → Reply → Verdict
taken_as number reply = record { number = number; outcome = Taken reply }

-- what is told of a verdict, or of none
abbrev pub told_as : Option Verdict → Told
told_as (Some verdict) = told_verdict verdict
told_as None = told_none

-- the floor of a client's numbers by its last verdict
abbrev pub floor_by : Option Verdict → ℕ
floor_by last = floor_of (told_as last)

-- the client's floor in a log queue
abbrev pub floor_in : Queue → Client → ℕ
floor_in (Durable reports) client = 0
floor_in (Log clients) client = slice_index clients.floors client.0

-- what the kept words tell the client
abbrev pub kept_told : State → Client → Told
kept_told w client = told_to (kept_tells w) client

-- the client's call with this number stands in the order with this reply
pub record IsTakenNumber (w : State) (client : Client) (number : ℕ) (reply : Reply) : Type 0 where
  pub place : ℕ
  pub has_number : HasNumber w.log.events client place number
  pub taken : IsTakenAs (order_in w) place reply

-- it took effect with this reply before the history began: the base tells so
abbrev pub IsTakenByBase : State → Client → ℕ → Reply → Type 0
IsTakenByBase w client number reply = slice_get w.told client.0 ≡ Some (told_verdict (taken_as number reply))

-- the reply of a client's number: the one or the other
abbrev pub IsReplyOf : State → Client → ℕ → Reply → Type 0
IsReplyOf w client number reply = IsTakenNumber w client number reply ⊎ IsTakenByBase w client number reply

-- each of the client's numbers in the order is at most this floor
abbrev pub NoneIsAbove : State → Client → ℕ → Type 0
NoneIsAbove w client floor =
    (i number : ℕ) → IsEntryOf w.log.events (order_in w) i client number → number ≤ floor

-- a verdict is told of a number above this floor
abbrev pub IsToldAbove : ℕ → Told → Type 0
IsToldAbove floor (told_verdict verdict) = floor < verdict.number
IsToldAbove floor (told_row row) = ⊥
IsToldAbove floor told_none = ⊥

-- what holds at every moment of a verdict that a client was once given: a reply is that of its number; the kept words
-- tell the verdict, or one of a number above its floor; and the client's floor is not below that
pub record IsRecalled (w : State) (client : Client) (last : Option Verdict) : Type 0 where
  pub reply : (number : ℕ) (reply : Reply) → last ≡ Some (taken_as number reply) → IsReplyOf w client number reply
  pub told : (kept_told w client ≡ told_as last) ⊎ IsToldAbove (floor_by last) (kept_told w client)
  pub floor : w.recovery ≡ None → floor_by last ≤ floor_in w.queue client

-- the last verdict that a client of a ready queue was given: its floor is the one by that, and while it has no call
-- under way the kept words tell just that
pub record IsLast (w : State) (client : Client) (last : Option Verdict) : Type 0 where
  pub floor : floor_in w.queue client ≡ floor_by last
  pub told : IsIdle w client → kept_told w client ≡ told_as last

-- nobody has called since the clients of a ready queue were told: what each was told is its last verdict
pub record IsRested (w : State) : Type 0 where
  pub nobody : (client : Client) → IsIdle w client
  pub last : (client : Client) → client.0 < MAX_CLIENTS
      → IsLast w client (verdict_of (slice_get (told_in w.queue) client.0))
