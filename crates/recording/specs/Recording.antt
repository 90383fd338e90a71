-- What a recording says of its calls and values.
use Rattle.std.specs.Prelude.{ℕ, ◌<◌, ◌≢◌, List, length, slice_index, Option, Some, None, slice_get, unwrap_or}
use Rattle.words.specs.PlainQueue.{Value}
use Rattle.words.specs.declared.call.Call.{Call}
use Rattle.words.specs.declared.call.Call.TheVariants.{Enq, Deq}
use Rattle.words.specs.declared.call.Reply.{Reply}
use Rattle.words.specs.declared.call.Reply.TheVariants.{Done, Got, Empty}
use Rattle.findings.specs.Ranks.{ranked}
use Rattle.recording.specs.declared.act.Said.{Said}
use Rattle.recording.specs.declared.act.Said.TheVariants.{Done as said_done, Got as said_got, Empty as said_empty}
use Rattle.recording.specs.declared.act.CallOf.{CallOf}
use Rattle.recording.specs.declared.act.Recording.{Recording}

-- the message that stands for a value: its number among those that are put
abbrev pub message : Recording → ℕ → Value
message recording value = ranked (unwrap_or (slice_get recording.ranks.items value) 4294967295)

-- the reply that was said
abbrev pub reply_of : Recording → Said → Reply
reply_of recording said_done = Done
reply_of recording (said_got value) = Got (message recording value)
reply_of recording said_empty = Empty

-- a call that puts this value, or a take
abbrev pub call_with : Recording → Option ℕ → Call
call_with recording (Some value) = Enq (message recording value)
call_with recording None = Deq

-- what a call asks for
abbrev pub asked_by : Recording → CallOf → Call
asked_by recording call = call_with recording call.puts

-- no two of the numbers are the same
pub record AreDistinct (numbers : List ℕ) : Type 0 where
  pub each : (j k : ℕ) → j < k → k < length numbers → slice_index numbers j ≢ slice_index numbers k
