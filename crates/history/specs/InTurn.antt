-- A client's calls that run to their ends one after another.
use Rattle.std.specs.Prelude.{ℕ, ◌≡◌, ◌+◌, ⊤, List, [], ◌∷◌, fold}
use Rattle.words.specs.PlainQueue.{Value, reply_of, served}
use Rattle.words.specs.declared.call.Call.{Call}
use Rattle.words.specs.declared.call.Client.{Client}
use Rattle.words.specs.declared.call.Reply.{Reply}
use Rattle.words.specs.declared.told.Told.{Told}
use Rattle.events.specs.Explains.{Explains}
use Rattle.events.specs.Replay.{queue_after}
use Rattle.events.specs.declared.event.Event.{Event}
use Rattle.events.specs.declared.event.Event.TheVariants.{Call as call_event, Return as return_event}
use Rattle.events.specs.declared.event.Entry.{Entry}

-- a call, with its number, and the reply that it returned
pub record Turn : Type 0 where
  pub number : ℕ
  pub call : Call
  pub reply : Reply

-- each call, and then its return
abbrev pub events_in_turn : Client → List Turn → List Event
events_in_turn client [] = []
events_in_turn client (turn ∷ turns) =
    call_event client turn.number turn.call ∷ return_event client turn.reply ∷ events_in_turn client turns

-- each reply is the plain queue's
abbrev pub AreServed : List Value → List Turn → Type 0
AreServed queue [] = ⊤
AreServed queue (turn ∷ turns) = (turn.reply ≡ reply_of queue turn.call) × AreServed (served queue turn.call) turns

-- the calls in the order in which they were made, where the first begins at this place
abbrev pub order_in_turn : ℕ → List Turn → List Entry
order_in_turn place [] = []
order_in_turn place (turn ∷ turns) =
    record { place = place; reply = turn.reply } ∷ order_in_turn (place + 2) turns

-- what the plain queue holds after them
abbrev pub queue_in_turn : List Value → List Turn → List Value
queue_in_turn base turns = fold (λ queue turn. served queue turn.call) base turns

-- this order explains the events of these turns, from this base, whatever was told before
abbrev pub ExplainsTurns : Client → List Turn → List Value → List Entry → Type 0
ExplainsTurns client turns base order = (told : List Told) × Explains base told (events_in_turn client turns) order

-- what its replay leaves
abbrev pub left_after : Client → List Turn → List Value → List Entry → List Value
left_after client turns base order = queue_after (events_in_turn client turns) base order
