-- The plain queue: a list of values, first in, first out.
use Rattle.std.specs.Prelude.{ℕ, Bool, ◌&&◌, nat_le, nat_lt, List, [], ◌∷◌, ◌++◌, length}
use Rattle.std.specs.List.{list_all}
use Rattle.words.specs.declared.call.Call.{Call}
use Rattle.words.specs.declared.call.Call.TheVariants.{Enq, Deq}
use Rattle.words.specs.declared.call.Reply.{Reply}
use Rattle.words.specs.declared.call.Reply.TheVariants.{Done, Got, Empty}
use Rattle.words.specs.declared.item.TheConstants.{ITEM_BYTES}
use Rattle.words.specs.Item.{IsItem}

-- what a message is, and which of them the memory can hold
abbrev pub Value : Type 0
Value = List ℕ

abbrev pub FitsValue : Value → Type 0
FitsValue value = IsItem value

abbrev pub fits_value : Value → Bool
fits_value value = nat_le (length value) ITEM_BYTES && list_all (λ byte. nat_lt byte 256) value

-- what it answers to a call
abbrev pub reply_of : List Value → Call → Reply
reply_of queue (Enq value) = Done
reply_of (first ∷ rest) Deq = Got first
reply_of [] Deq = Empty

-- what it holds then: an enqueue appends, a dequeue removes the first, and leaves an empty queue as it is
abbrev pub served : List Value → Call → List Value
served queue (Enq value) = queue ++ value ∷ []
served (first ∷ rest) Deq = rest
served [] Deq = []
