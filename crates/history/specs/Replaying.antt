-- What the replay of an order makes of a history.
use Rattle.std.specs.Prelude.{◌≡◌, ℕ, List, Result, IfOk}
use Rattle.words.specs.PlainQueue.{Value}
use Rattle.events.specs.Explains.{IsExplained}
use Rattle.events.specs.Replay.{IsFirstWrong, Replays, call_at, queue_after, queue_after_call}
use Rattle.events.specs.declared.event.Entry.{Entry}
use Rattle.events.specs.declared.event.Event.{Event}
use Rattle.events.specs.declared.event.History.{History}
use Rattle.events.specs.declared.event.Order.{Order}

-- what it leaves on the plain queue
abbrev pub left_by : History → Order → List Value
left_by history order = queue_after history.events.items history.base.items order.entries.items

-- the order explains the history, and this is what its replay leaves
abbrev pub IsExplainedLeaving : History → Order → List Value → Type 0
IsExplainedLeaving history order content = IsExplained history order × (content ≡ left_by history order)

-- the call of an entry leaves this of a queue
abbrev pub CallLeaves : List Event → List Value → Entry → List Value → Type 0
CallLeaves events queue entry left = left ≡ queue_after_call queue (call_at events entry.place)

-- so it is of what a replay left, where memory was there for it and it gave every reply
abbrev pub IfReplayed : {X Y E : Type 0} → Result (Result X Y) E → (X → Type 0) → Type 0
IfReplayed result P = IfOk result (λ answer. IfOk answer P)

-- it gives every reply in the order
abbrev pub ReplaysIn : History → Order → Type 0
ReplaysIn history order = Replays history.events.items history.base.items order.entries.items

-- the first entry of the order that names no call or has another reply stands at i
abbrev pub IsFirstWrongIn : History → Order → ℕ → Type 0
IsFirstWrongIn history order i = IsFirstWrong history.events.items history.base.items order.entries.items i
