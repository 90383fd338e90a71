-- For which calls, of those that found no room, their queue begins in fresh records.
use Rattle.std.specs.Prelude.{◌≤◌, ◌-◌, ◌/◌, ℕ}
use Rattle.std.specs.Int.{div_ceil}
use Rattle.words.specs.declared.call.Call.{Call}
use Rattle.words.specs.declared.call.Call.TheVariants.{Enq, Deq}
use Rattle.words.specs.declared.call.Client.{Client}
use Rattle.workers.specs.declared.looks.Usage.{Usage}

-- how many records a client has left in fresh ones, where the queue holds so much: two are taken up by what the client
-- was told, and the items are dealt out to all clients in turn
abbrev pub leaves_free : Usage → ℕ → ℕ
leaves_free usage client = usage.records - 2 - div_ceil (usage.items - client) usage.clients

-- an eighth of a client's records
abbrev pub eighth : ℕ → ℕ
eighth records = records / 8

-- An enqueue is worth it where each client has an eighth of its records left, and one at least: the first client has
-- the fewest. A dequeue is worth it where its own client has one left, since each dequeue makes the queue shorter
abbrev pub IsWorthIt : Usage → Client → Call → Type 0
IsWorthIt usage client (Enq value) = (1 ≤ leaves_free usage 0) × (eighth usage.records ≤ leaves_free usage 0)
IsWorthIt usage client Deq = 1 ≤ leaves_free usage client.0
