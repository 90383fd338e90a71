-- The words of a broker: a head, a directory of its slots, and a block for the queue of each slot.
use Rattle.std.specs.Prelude.{ℕ, List, take, drop, ◌+◌, ◌*◌, ◌-◌, ◌/◌, ◌%◌, ◌<◌, Option, Some, None, ◌==◌, nat_lt, if◌then◌else◌, ◌≡◌}
use Rattle.arena.specs.Shape.{Counts}
use Rattle.arena.specs.declared.form.Form.{Form}
use Rattle.arena.specs.declared.form.Form.TheVariants.{OfItems, OfValues}
use Rattle.arena.specs.declared.broker.TheConstants.{SLOTS, HEAD_WORDS, DIRECTORY_WORDS, BLOCKS_FROM}
use Rattle.arena.specs.declared.broker.BrokerPlace.{BrokerPlace}
use Rattle.arena.specs.declared.broker.BrokerPlace.TheVariants.{Clients, Records, FirstName, SecondName, QueueKind, Gate, Block}

-- a block has room for a queue of either kind: it has as many words as a log queue's layout, the longer of the two
abbrev pub block_size_of : ℕ → ℕ → ℕ
block_size_of clients records = 9 + 2 * clients + 11 * (clients * records)

-- the same of a broker with these counts
abbrev pub block_len : Counts → ℕ
block_len c = block_size_of c.clients c.records

-- so it is in either form
abbrev pub block_size_in : Form → ℕ → ℕ → ℕ
block_size_in OfItems clients records = block_size_of clients records
block_size_in OfValues clients records = 6 + 2 * clients + 8 * (clients * records)

-- where a slot's words in the directory begin, and where its block does
abbrev pub directory_from : ℕ → ℕ
directory_from slot = HEAD_WORDS + DIRECTORY_WORDS * slot

abbrev pub block_from_in : Form → Counts → ℕ → ℕ
block_from_in form c slot = BLOCKS_FROM + slot * block_size_in form c.clients c.records

abbrev pub broker_size_in : Form → Counts → ℕ
broker_size_in form c = BLOCKS_FROM + SLOTS * block_size_in form c.clients c.records

-- the words of a slot's block
abbrev pub block_in : Form → Counts → ℕ → List ℕ → List ℕ
block_in form c slot ws = take (block_size_in form c.clients c.records) (drop (block_from_in form c slot) ws)

-- in the form that queues run in
abbrev pub block_from : Counts → ℕ → ℕ
block_from c slot = BLOCKS_FROM + slot * block_size_of c.clients c.records

abbrev pub broker_size : Counts → ℕ
broker_size c = BLOCKS_FROM + SLOTS * block_size_of c.clients c.records

-- the layout has the place
abbrev pub IsBrokerPlace : Counts → BrokerPlace → Type 0
IsBrokerPlace c Clients = Unit {0}
IsBrokerPlace c Records = Unit {0}
IsBrokerPlace c (FirstName slot) = slot.0 < SLOTS
IsBrokerPlace c (SecondName slot) = slot.0 < SLOTS
IsBrokerPlace c (QueueKind slot) = slot.0 < SLOTS
IsBrokerPlace c (Gate slot) = slot.0 < SLOTS
IsBrokerPlace c (Block slot word) = (slot.0 < SLOTS) × (word < block_size_of c.clients c.records)

abbrev pub broker_word : Counts → BrokerPlace → ℕ
broker_word c Clients = 0
broker_word c Records = 1
broker_word c (FirstName slot) = directory_from slot.0
broker_word c (SecondName slot) = directory_from slot.0 + 1
broker_word c (QueueKind slot) = directory_from slot.0 + 2
broker_word c (Gate slot) = directory_from slot.0 + 3
broker_word c (Block slot word) = block_from c slot.0 + word

-- the layout has the place, and this is its word
abbrev pub IsPlaceOfWord : Counts → ℕ → BrokerPlace → Type 0
IsPlaceOfWord c word place = IsBrokerPlace c place × (broker_word c place ≡ word)

abbrev pub directory_place : ℕ → ℕ → BrokerPlace
directory_place slot field =
    if field == 0 then FirstName (record { 0 = slot })
    else (if field == 1 then SecondName (record { 0 = slot })
    else (if field == 2 then QueueKind (record { 0 = slot }) else Gate (record { 0 = slot })))

abbrev pub block_place : ℕ → ℕ → BrokerPlace
block_place slot word = Block (record { 0 = slot }) word

-- the place of a word after the head, counted from there, and of one after the directory
abbrev pub place_past_head : ℕ → BrokerPlace
place_past_head w = directory_place (w / DIRECTORY_WORDS) (w % DIRECTORY_WORDS)

abbrev pub place_past_directory : Counts → ℕ → BrokerPlace
place_past_directory c w = block_place (w / block_size_of c.clients c.records) (w % block_size_of c.clients c.records)

abbrev pub broker_place : Counts → ℕ → Option BrokerPlace
broker_place c w =
    if w == 0 then Some Clients
    else (if w == 1 then Some Records
    else (if nat_lt w BLOCKS_FROM then Some (place_past_head (w - HEAD_WORDS))
    else (if nat_lt w (broker_size c) then Some (place_past_directory c (w - BLOCKS_FROM))
    else None)))
