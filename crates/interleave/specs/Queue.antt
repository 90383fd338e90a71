-- What a queue keeps for its clients beside its memory.
use Rattle.std.specs.Prelude.{ℕ, List, Result, Ok, Err, slice_get, unwrap_or, slice_index, slice_set, if◌then◌else◌}
use Rattle.words.specs.declared.call.Client.{Client}
use Rattle.words.specs.declared.call.Kind.{Kind}
use Rattle.words.specs.declared.call.Kind.TheVariants.{Durable as durable_kind, Log as log_kind}
use Rattle.words.specs.declared.refusal.Refusal.{Refusal}
use Rattle.words.specs.declared.refusal.Refusal.TheVariants.{StaleNumber}
use Rattle.words.specs.declared.told.Told.{Told}
use Rattle.words.specs.declared.told.Told.TheVariants.{None as told_none}
use Rattle.interleave.specs.DurableQueue.{no_calls}
use Rattle.interleave.specs.LogQueue.{is_stale, told_queue, new_queue as new_log_queue}
use Rattle.interleave.specs.declared.queue.Queue.{Queue}
use Rattle.interleave.specs.declared.queue.Queue.TheVariants.{Durable, Log}

-- what its clients were last told
abbrev pub told_in : Queue → List Told
told_in (Durable told) = told
told_in (Log clients) = clients.told

-- what a client was, and nothing where there is no such client
abbrev pub told_to : List Told → Client → Told
told_to told client = unwrap_or (slice_get told client.0) told_none

-- that of a new queue
abbrev pub new_queue : Kind → ℕ → Queue
new_queue durable_kind clients = Durable (no_calls clients)
new_queue log_kind clients = Log new_log_queue

-- the number of a call in the history, or why it may not begin
abbrev pub number_check : Queue → Client → ℕ → Result ℕ Refusal
number_check (Durable told) client number = Ok 0
number_check (Log clients) client number =
    if is_stale (slice_index clients.floors client.0) number then Err StaleNumber else Ok number

-- recovery told its clients this; a log queue has its floors from it
abbrev pub queue_with_reports : Queue → List Told → Queue
queue_with_reports (Durable old) told = Durable told
queue_with_reports (Log clients) told = Log (told_queue told)

-- the number of an answered call becomes the floor of its client
abbrev pub after_return : Queue → Client → ℕ → Queue
after_return (Durable told) client number = Durable told
after_return (Log clients) client number = Log (record clients { floors = slice_set clients.floors client.0 number })
