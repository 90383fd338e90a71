-- A rotation: the history ends, and another begins on what the queue holds and tells.
use Rattle.std.specs.Prelude.{◌≡◌, ◌≤◌, ℕ, Bool, List, Option, None, Result, Ok, Err, is_some, is_ok}
use Rattle.std.specs.Prelude.{slice_index_or, if◌then◌else◌}
use Rattle.std.specs.List.{list_any}
use Rattle.words.specs.declared.call.Client.{Client}
use Rattle.words.specs.declared.refusal.Refusal.{Refusal}
use Rattle.words.specs.declared.refusal.Refusal.TheVariants.{NotReady, Busy, NoMemory}
use Rattle.words.specs.declared.told.Told.{Told}
use Rattle.persist.specs.Memory.{Words}
use Rattle.protocol.specs.Rotated.{empty_trace}
use Rattle.protocol.specs.declared.UnderWay.{UnderWay}
use Rattle.interleave.specs.Core.{CoreState, state_of}
use Rattle.interleave.specs.Holds.{Holds}
use Rattle.interleave.specs.Numbers.{IsEntryOf, told_floor}
use Rattle.interleave.specs.Queue.{told_in}
use Rattle.interleave.specs.State.{State, is_down, kept_content, kept_tells, order_in, AreToldOfAnnounced}
use Rattle.interleave.specs.Turn.{NobodyCalls}
use Rattle.interleave.specs.declared.queue.Queue.{Queue}
use Rattle.interleave.specs.declared.queue.Queue.TheVariants.{Durable, Log}

-- the clients are told this, and the floors of a log queue stay
abbrev pub queue_with_told : Queue → List Told → Queue
queue_with_told (Durable old) told = Durable told
queue_with_told (Log clients) told = Log (record clients { told = told })

-- the world in which the next history begins: its base holds what the kept words hold, and tells what they tell
abbrev pub after_rotation : State → State
after_rotation w = record w {
  queue = queue_with_told w.queue (kept_tells w);
  base = kept_content w;
  told = kept_tells w;
  log = empty_trace;
}

-- recovery is not under way, and no call is
pub record IsQuiet (w : State) : Type 0 where
  pub ready : w.recovery ≡ None
  pub nobody : (t : ℕ) → slice_index_or w.calls t None ≡ None

-- whether any client has a call under way
abbrev pub some_client_calls : List (Option UnderWay) → Bool
some_client_calls calls = list_any (λ call. is_some call) calls

-- why the history may not end now, the first reason that applies
abbrev pub rotate_result : Bool → State → Result Unit Refusal
rotate_result full w =
    if is_down w then Err NotReady
    else (if some_client_calls w.calls then Err Busy else (if full then Err NoMemory else Ok tt))

-- what an attempt at a rotation leaves, where memory is refused to it (`full`) or not
abbrev pub after_rotate : Bool → State → State
after_rotate full w = if is_ok (rotate_result full w) then after_rotation w else w

-- the same of a core, with these kept words and whatever is cached: its history ended, and another begins; and what
-- holds of every world holds of it still
abbrev pub BeginsAnew : List ℕ → CoreState → CoreState → Type 0
BeginsAnew kept old new = (ws : Words) → ws.kept ≡ kept → state_of new ws ≡ after_rotation (state_of old ws)

abbrev pub HoldsAnew : List ℕ → CoreState → CoreState → Type 0
HoldsAnew kept old new = (ws : Words) → ws.kept ≡ kept → Holds (state_of old ws) → Holds (state_of new ws)

abbrev pub IsLeftByRotate : Bool → List ℕ → CoreState → CoreState → Type 0
IsLeftByRotate full kept old new = (ws : Words) → ws.kept ≡ kept → state_of new ws ≡ after_rotate full (state_of old ws)

-- what the kept words tell each client, and so the next history's base, is right of its announced call in this one
abbrev pub IsBaseToldRightly : State → Type 0
IsBaseToldRightly w = AreToldOfAnnounced (record w { queue = queue_with_told w.queue (kept_tells w) })

-- each number in the order is at most the floor by what the kept words tell its client
abbrev pub AreNumbersTold : State → Type 0
AreNumbersTold w =
    (i number : ℕ) (client : Client) → IsEntryOf w.log.events (order_in w) i client number
    → number ≤ told_floor (kept_tells w) client

-- no client has calls of one number in both orders
abbrev pub ShareNoNumber : State → State → Type 0
ShareNoNumber old new =
    (i j number : ℕ) (client : Client) → IsEntryOf old.log.events (order_in old) i client number
    → IsEntryOf new.log.events (order_in new) j client number → ⊥

-- the history of the one world has ended, and that of the other begins: its clients were told what the one's kept words
-- tell, which is right of their announced calls, and nobody calls
pub record IsHandedOn (old new : State) : Type 0 where
  pub told : told_in new.queue ≡ kept_tells old
  pub announced : IsBaseToldRightly old
  pub numbers : AreNumbersTold old
  pub nobody : NobodyCalls new
