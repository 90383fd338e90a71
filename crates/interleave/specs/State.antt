-- The state of a world, and what each act makes of it.
use Rattle.std.specs.Prelude.{◌≡◌, ℕ, zero, suc, ◌+◌, Bool, false, true, is_ok, is_some, length, List, [], ◌∷◌, Option, Some, None, Result, Ok, Err, replicate, slice_get, slice_index_or, slice_set, nat_lt, if◌then◌else◌, ◌==◌}
use Rattle.words.specs.PlainQueue.{Value}
use Rattle.words.specs.declared.call.Call.{Call}
use Rattle.words.specs.declared.call.Client.{Client}
use Rattle.words.specs.declared.call.Reply.{Reply}
use Rattle.words.specs.declared.told.Told.{Told}
use Rattle.words.specs.declared.refusal.Refusal.{Refusal}
use Rattle.words.specs.declared.refusal.Refusal.TheVariants.{AlreadyReady, Busy, NoClient, NoMemory, NoRoom, NoWord, NotReady, StaleNumber}
use Rattle.persist.specs.Changes.{change_of}
use Rattle.persist.specs.declared.access.Change.{Change}
use Rattle.persist.specs.Memory.{Words, words_after_access, zero_words, words_after_eviction, words_after_crash}
use Rattle.arena.specs.Layout.{place_at, size_of}
use Rattle.arena.specs.Shape.{Shape}
use Rattle.arena.specs.Words.{bumps}
use Rattle.arena.specs.Content.{kept_content as content_of}
use Rattle.arena.specs.declared.place.Place.{Place}
use Rattle.stepper.specs.Step.{after_one}
use Rattle.stepper.specs.declared.resume.After.{After}
use Rattle.stepper.specs.declared.resume.After.TheVariants.{More, Done}
use Rattle.helping.specs.Table.{access_of}
use Rattle.helping.specs.declared.op.Op.{Op}
use Rattle.events.specs.Effects.{order_of}
use Rattle.events.specs.declared.event.Entry.{Entry}
use Rattle.sound_words.specs.Sound.{AreSoundWords}
use Rattle.sound_words.specs.Told.{tells_by}
use Rattle.recover.specs.Table.{boot_recovery, access_of as recovery_access}
use Rattle.stepper.specs.declared.resume.After.TheVariants.{More as go_on, Done as Ready}
use Rattle.recover.specs.declared.recovery.Recovery.{Recovery}
use Rattle.protocol.specs.Announced.{IsToldOfAnnounced}
use Rattle.protocol.specs.Measure.{most_steps, steps_left}
use Rattle.protocol.specs.Recovered.{IsRecovered}
use Rattle.protocol.specs.Machine.{World, Trace, begun_of, call_begun, with_start, next_of, with_step, with_next, with_eviction, with_crash as machine_crashed, next_recovery, recovery_left, recovery_events}
use Rattle.protocol.specs.declared.UnderWay.{UnderWay}
use Rattle.interleave.specs.Values.{memory_by_place}
use Rattle.interleave.specs.Calls.{answer_of, idle_result, waiting_result}
use Rattle.interleave.specs.Queue.{new_queue, told_in, number_check, after_return, queue_with_reports}
use Rattle.protocol.specs.declared.acts.Act.{Act}
use Rattle.protocol.specs.declared.acts.Act.TheVariants.{Start, Step, Evict, Crash, Recover}
use Rattle.interleave.specs.declared.queue.Queue.{Queue}

-- a world of a queue of this shape: its words, what it keeps for its clients, the call that each has under way, what
-- the queue held and told where the history begins, what happened since, and the recovery that is under way
pub record State : Type 0 where
  pub shape : Shape
  pub words : Words
  pub queue : Queue
  pub calls : List (Option UnderWay)
  pub base : List Value
  pub told : List Told
  pub log : Trace
  pub recovery : Option Recovery

-- the machine that a ready world is: its words by their places
abbrev pub machine_of : Shape → Words → List (Option UnderWay) → List Value → List Told → Trace → World
machine_of s ws calls base told log = record {
  shape = s;
  memory = memory_by_place s ws;
  calls = λ j. slice_index_or calls j None;
  recovery = None;
  base = base;
  told = told;
  log = log;
}

abbrev pub machine : State → World
machine w = record (machine_of w.shape w.words w.calls w.base w.told w.log) { recovery = w.recovery }

-- recovery is under way
abbrev pub is_down : State → Bool
is_down w = is_some w.recovery

-- a new world
abbrev pub new_world : Shape → State
new_world s = record {
  shape = s;
  words = zero_words (size_of s);
  queue = new_queue s.kind s.clients;
  calls = replicate s.clients None;
  base = [];
  told = told_in (new_queue s.kind s.clients);
  log = record { events = []; issued = []; effects = [] };
  recovery = None;
}

-- the same over these words
abbrev pub world_over : Shape → Words → State
world_over s ws = record (new_world s) { words = ws }

-- how many records a client has used
abbrev pub used_by : State → Client → ℕ
used_by w client = bumps (machine w).memory.cached client.0

-- the load of its bump word is the one access of a start, also where that is all it comes to
abbrev pub after_bump_load : State → State
after_bump_load w = record w { words = words_after_access w.words }

-- the client begins a call, with its next record
abbrev pub after_call_began : State → Client → ℕ → Call → State
after_call_began w client number call = record {
  shape = w.shape;
  words = words_after_access w.words;
  queue = w.queue;
  calls = slice_set w.calls client.0 (Some (call_begun (machine w) (begun_of (machine w) client number call)));
  base = w.base;
  told = w.told;
  log = (with_start (machine w) client number call).log;
  recovery = w.recovery;
}

-- why a start is refused, the first reason that applies, or the number that the call has in the history
abbrev pub number_of_idle : Queue → Client → ℕ → Call → Result Unit Refusal → Result ℕ Refusal
number_of_idle queue client number call (Err refusal) = Err refusal
number_of_idle queue client number call (Ok u) = number_check queue client number

abbrev pub number_to_start : State → Client → ℕ → Call → Result ℕ Refusal
number_to_start w client number call =
    number_of_idle w.queue client number call (idle_result (is_down w) (slice_get w.calls client.0))

-- a client whose records are used up begins nothing, nor does one for which there is no memory (`full`)
abbrev pub start_with : Bool → State → Client → Call → Result ℕ Refusal → State
start_with full w client call (Err refusal) = w
start_with full w client call (Ok number) =
    if used_by w client == w.shape.records then after_bump_load w
    else (if full then after_bump_load w else after_call_began w client number call)

abbrev pub start_result_with : Bool → State → Client → Result ℕ Refusal → Result Unit Refusal
start_result_with full w client (Err refusal) = Err refusal
start_result_with full w client (Ok number) =
    if used_by w client == w.shape.records then Err NoRoom
    else (if full then Err NoMemory else Ok tt)

-- what a start leaves, and what it answers
abbrev pub after_start : Bool → State → Client → ℕ → Call → State
after_start full w client number call = start_with full w client call (number_to_start w client number call)

abbrev pub start_result : Bool → State → Client → ℕ → Call → Result Unit Refusal
start_result full w client number call = start_result_with full w client (number_to_start w client number call)

-- what one that is accepted found: the queue is ready, the client has no call under way, and the queue takes its number
-- for this one
pub record IsStartable (w : State) (client : Client) (number n : ℕ) : Type 0 where
  pub up : is_down w ≡ false
  pub idle : slice_get w.calls client.0 ≡ Some None
  pub taken : number_check w.queue client number ≡ Ok n

-- whether one may be refused so
abbrev pub is_start_refusal : Refusal → Bool
is_start_refusal NoClient = true
is_start_refusal NotReady = true
is_start_refusal Busy = true
is_start_refusal StaleNumber = true
is_start_refusal NoRoom = true
is_start_refusal NoMemory = true
is_start_refusal _ = false

abbrev pub queue_left : Queue → UnderWay → After Op Reply → Queue
queue_left queue u (More op) = queue
queue_left queue u (Done reply) = after_return queue u.begun.client u.begun.number

-- the client's call makes the one access of its waiting point, and goes on by the table
abbrev pub after_one_access : State → Client → UnderWay → State
after_one_access w client u = record {
  shape = w.shape;
  words = after_one w.shape (access_of w.shape.kind u.op) w.words;
  queue = queue_left w.queue u (next_of (machine w) u);
  calls = slice_set w.calls client.0 (with_next u (next_of (machine w) u));
  base = w.base;
  told = w.told;
  log = (with_step (machine w) client u).log;
  recovery = w.recovery;
}

abbrev pub step_with : Bool → State → Client → Result UnderWay Refusal → State
step_with full w client (Err refusal) = w
step_with full w client (Ok u) = if full then w else after_one_access w client u

abbrev pub step_result_with : Bool → State → Result UnderWay Refusal → Result (Option Reply) Refusal
step_result_with full w (Err refusal) = Err refusal
step_result_with full w (Ok u) = if full then Err NoMemory else Ok (answer_of (next_of (machine w) u))

-- what a step leaves, and what it answers
abbrev pub after_step : Bool → State → Client → State
after_step full w client = step_with full w client (waiting_result (is_down w) (slice_get w.calls client.0))

abbrev pub step_result : Bool → State → Client → Result (Option Reply) Refusal
step_result full w client = step_result_with full w (waiting_result (is_down w) (slice_get w.calls client.0))

-- what an eviction leaves, and what it answers. A word past the layout, which a memory of a block's size has, is 0 in
-- both values for good
abbrev pub evict_with : State → ℕ → Option Place → State
evict_with w word None = w
evict_with w word (Some place) =
    record w { words = words_after_eviction word w.words; log = (with_eviction (machine w) place).log }

abbrev pub evict_result_with : State → ℕ → Option Place → Result (Option Change) Refusal
evict_result_with w word None = if nat_lt word (length w.words.cached) then Ok None else Err NoWord
evict_result_with w word (Some place) = Ok (change_of w.words word)

abbrev pub after_evict : State → ℕ → State
after_evict w word = evict_with w word (place_at w.shape word)

abbrev pub evict_result : State → ℕ → Result (Option Change) Refusal
evict_result w word = evict_result_with w word (place_at w.shape word)

-- a crash leaves the kept words alone: calls under way end, and recovery begins anew
abbrev pub after_stop : State → State
after_stop w = record {
  shape = w.shape;
  words = words_after_crash w.words;
  queue = w.queue;
  calls = replicate (length w.calls) None;
  base = w.base;
  told = w.told;
  log = (machine_crashed (machine w)).log;
  recovery = Some boot_recovery;
}

-- what a crash leaves, and what it answers: it takes the memory of one event
abbrev pub after_crash : Bool → State → State
after_crash full w = if full then w else after_stop w

abbrev pub crash_result : Bool → Result Unit Refusal
crash_result full = if full then Err NoMemory else Ok tt

-- whether the queue is ready now
abbrev pub is_ready : After Recovery (List Told) → Bool
is_ready (go_on r) = false
is_ready (Ready told) = true

-- once recovery is at its end, each client is told what it read
abbrev pub queue_at_ready : Queue → After Recovery (List Told) → Queue
queue_at_ready queue (go_on r) = queue
queue_at_ready queue (Ready told) = queue_with_reports queue told

-- recovery makes the one access of its waiting point, and goes on by the table; nothing takes effect by it
abbrev pub after_recovery_step : State → Recovery → State
after_recovery_step w r = record {
  shape = w.shape;
  words = after_one w.shape (recovery_access w.shape.kind r.at) w.words;
  queue = queue_at_ready w.queue (next_recovery (machine w) r);
  calls = w.calls;
  base = w.base;
  told = w.told;
  log = record w.log { events = recovery_events w.log.events (next_recovery (machine w) r) };
  recovery = recovery_left (next_recovery (machine w) r);
}

abbrev pub recover_with : Bool → State → Option Recovery → State
recover_with full w None = w
recover_with full w (Some r) = if full then w else after_recovery_step w r

abbrev pub recover_result_with : Bool → State → Option Recovery → Result Bool Refusal
recover_result_with full w None = Err AlreadyReady
recover_result_with full w (Some r) = if full then Err NoMemory else Ok (is_ready (next_recovery (machine w) r))

-- what a step of recovery leaves, and what it answers
abbrev pub after_recover : Bool → State → State
after_recover full w = recover_with full w w.recovery

abbrev pub recover_result : Bool → State → Result Bool Refusal
recover_result full w = recover_result_with full w w.recovery

-- what an attempt at an act leaves, where memory is refused to it (`full`) or not; an eviction takes none
abbrev pub after_attempt : Bool → State → Act ℕ → State
after_attempt full w (Start client number call) = after_start full w client number call
after_attempt full w (Step client) = after_step full w client
after_attempt full w (Evict word) = after_evict w word
after_attempt full w Crash = after_crash full w
after_attempt full w Recover = after_recover full w

-- whether the act is accepted then
abbrev pub is_accepted_with : Bool → State → Act ℕ → Bool
is_accepted_with full w (Start client number call) = is_ok (start_result full w client number call)
is_accepted_with full w (Step client) = is_ok (step_result full w client)
is_accepted_with full w (Evict word) = is_ok (evict_result w word)
is_accepted_with full w Crash = is_ok (crash_result full)
is_accepted_with full w Recover = is_ok (recover_result full w)

-- an accepted act counts as one
abbrev pub count_of : Bool → ℕ
count_of true = 1
count_of false = 0

-- an act, memory being there
abbrev pub after_act : State → Act ℕ → State
after_act w act = after_attempt false w act

-- whether it is accepted
abbrev pub is_accepted : State → Act ℕ → Bool
is_accepted w act = is_accepted_with false w act

-- a whole list of acts; a refused one is passed over
abbrev pub after_acts : State → List (Act ℕ) → State
after_acts w [] = w
after_acts w (act ∷ acts) = after_acts (after_act w act) acts

-- how many of the acts are accepted
abbrev pub taken_of : State → List (Act ℕ) → ℕ
taken_of w [] = 0
taken_of w (act ∷ acts) = count_of (is_accepted w act) + taken_of (after_act w act) acts

-- a client's call goes on alone, so many steps
abbrev pub after_alone : ℕ → State → Client → State
after_alone zero w client = w
after_alone (suc steps) w client = after_step false (after_alone steps w client) client

-- so many steps alone, the last of which answers so
abbrev pub IsAnsweredAlone : State → Client → ℕ → Reply → Type 0
IsAnsweredAlone w client zero reply = ⊥
IsAnsweredAlone w client (suc steps) reply = step_result false (after_alone steps w client) client ≡ Ok (Some reply)

-- the order in which the calls took effect
abbrev pub order_in : State → List Entry
order_in w = order_of w.log.effects

-- what the kept words tell the clients
abbrev pub kept_tells : State → List Told
kept_tells w = tells_by w.shape (machine w).memory.kept

-- each client was told of its announced call: of the last one that took the record which its kept announcement names
abbrev pub AreToldOfAnnounced : State → Type 0
AreToldOfAnnounced w =
    (client : Client) (told : Told) → slice_get (told_in w.queue) client.0 ≡ Some told
    → IsToldOfAnnounced w.shape (machine w).memory.kept w.told w.log client told

-- they are such as recovery leaves, where it comes to its end: the head, the tail and the answers are right
abbrev pub IsMended : State → Type 0
IsMended w = IsRecovered w.shape (machine w).memory.kept

-- they are words that recovery can begin with
abbrev pub IsKeptSound : State → Type 0
IsKeptSound w = AreSoundWords w.shape w.words.kept

-- how many steps recovery has left at most, and how many it has in any world
abbrev pub steps_to_ready : State → ℕ
steps_to_ready w = steps_left (machine w)

abbrev pub most_to_ready : Shape → ℕ
most_to_ready s = most_steps s

-- what the kept words hold
abbrev pub kept_content : State → List Value
kept_content w = content_of w.shape (machine w).memory.kept
