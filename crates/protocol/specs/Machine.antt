-- The machine: a queue's words by their places, the calls under way, the history, and what each act makes of them.
use Rattle.std.specs.Prelude.{◌≡◌, ℕ, ◌≤◌, ◌<◌, List, [], ◌∷◌, ◌++◌, length, Option, Some, None, if◌then◌else◌, ◌==◌}
use Rattle.words.specs.PlainQueue.{FitsValue, Value}
use Rattle.words.specs.declared.call.Call.{Call}
use Rattle.words.specs.declared.call.Call.TheVariants.{Enq, Deq}
use Rattle.words.specs.declared.call.Client.{Client}
use Rattle.words.specs.declared.call.Kind.{Kind}
use Rattle.words.specs.declared.call.Kind.TheVariants.{Durable, Log}
use Rattle.words.specs.declared.call.Reply.{Reply}
use Rattle.words.specs.declared.call.Reply.TheVariants.{Done as done, Got}
use Rattle.words.specs.declared.limits.TheConstants.{MAX_CALL_NUMBER}
use Rattle.words.specs.declared.told.Told.{Told}
use Rattle.persist.specs.Memory.{Access, Load, Store, Cas, Flush, Fence}
use Rattle.arena.specs.Shape.{Shape, record_of, owner}
use Rattle.arena.specs.Place.{is_same}
use Rattle.arena.specs.Words.{bumps, values}
use Rattle.arena.specs.declared.place.Place.{Place}
use Rattle.arena.specs.declared.place.Place.TheVariants.{Next, Mark, Cell, Status}
use Rattle.stepper.specs.Step.{place_of, kept_by}
use Rattle.stepper.specs.declared.resume.After.{After}
use Rattle.stepper.specs.declared.resume.After.TheVariants.{More, Done}
use Rattle.stepper.specs.declared.prepare.Begun.{Begun}
use Rattle.helping.specs.Table.{access_of, successor, begun_at}
use Rattle.helping.specs.declared.op.Op.{Op}
use Rattle.helping.specs.declared.op.Op.TheVariants.{DequeueLoadNext}
use Rattle.events.specs.Effects.{with_effect, with_pending, without_pending, with_settled, settled_effects}
use Rattle.events.specs.declared.event.Effect.{Effect}
use Rattle.events.specs.declared.event.Event.{Event}
use Rattle.events.specs.declared.event.Event.TheVariants.{Call as call_event, Return as return_event, Crash as crash_event, Ready as ready_event}
use Rattle.recover.specs.Table.{access_of as recovery_access, recovery_after, boot_recovery}
use Rattle.stepper.specs.declared.resume.After.TheVariants.{More as go_on, Done as Ready}
use Rattle.recover.specs.declared.recovery.Recovery.{Recovery}
use Rattle.protocol.specs.declared.Issued.{Issued}
use Rattle.protocol.specs.declared.UnderWay.{UnderWay}

-- two values for each place
pub record Memory : Type 0 where
  pub cached : Place → ℕ
  pub kept : Place → ℕ

-- the values with another one at the place
abbrev pub put : (Place → ℕ) → Place → ℕ → Place → ℕ
put f p v q = if is_same p q then v else f q

-- what an access leaves, and what a fence or an eviction
abbrev pub with_store : Memory → Place → ℕ → Memory
with_store m p v = record { cached = put m.cached p v; kept = m.kept }

abbrev pub with_fence : Memory → Place → Memory
with_fence m p = record { cached = m.cached; kept = put m.kept p (m.cached p) }

abbrev pub with_access : Memory → Access Place → Memory
with_access m (Load p) = m
with_access m (Store p v) = with_store m p v
with_access m (Cas p old new) = if m.cached p == old then with_store m p new else m
with_access m (Flush p) = m
with_access m (Fence p) = with_fence m p

-- the trace: the history, the records that its calls took, and when they took effect
pub record Trace : Type 0 where
  pub events : List Event
  pub issued : List Issued
  pub effects : List Effect

-- the machine; `base` and `told` are what the queue held and told where the history begins
pub record World : Type 0 where
  pub shape : Shape
  pub memory : Memory
  pub calls : ℕ → Option UnderWay
  pub recovery : Option Recovery
  pub base : List Value
  pub told : List Told
  pub log : Trace

-- what the client has under way becomes this
abbrev pub with_call : (ℕ → Option UnderWay) → ℕ → Option UnderWay → ℕ → Option UnderWay
with_call calls client call j = if j == client then call else calls j

-- the effects, where the call with this record takes effect, or what it found counts
abbrev pub effects_on_take : Reply → ℕ → Option UnderWay → List Effect → List Effect
effects_on_take reply moment (Some u) effects = with_effect u.place reply moment effects
effects_on_take reply moment None effects = effects

abbrev pub effects_on_count : Option UnderWay → List Effect → List Effect
effects_on_count (Some u) effects = with_settled u.place effects
effects_on_count None effects = effects

-- the call whose record has this number, if it is under way
abbrev pub call_with : World → ℕ → Option UnderWay
call_with w number = w.calls (owner w.shape number)

-- a kept word has a new value: a call takes effect when its link or its claim is kept, and an empty dequeue counts when
-- its answer is
abbrev pub effects_on_keep : World → Place → ℕ → List Effect
effects_on_keep w (Next n) new = effects_on_take done (length w.log.events) (call_with w new) w.log.effects
effects_on_keep w (Mark n) new =
    effects_on_take (Got (values w.memory.kept n.0)) (length w.log.events) (call_with w new) w.log.effects
effects_on_keep w (Cell c) new = if new == 1 then effects_on_count (call_with w c.0) w.log.effects else w.log.effects
effects_on_keep w (Status e) new = if new == 2 then effects_on_count (call_with w e.0) w.log.effects else w.log.effects
effects_on_keep w _ new = w.log.effects

-- the effects once the place's word is kept
abbrev pub after_keeping : World → Place → List Effect
after_keeping w p =
    if w.memory.kept p == w.memory.cached p then w.log.effects else effects_on_keep w p (w.memory.cached p)

-- a dequeue that looks at what follows the sentinel may find the queue empty; what it found before counts no more
abbrev pub effects_on_look : ℕ → ℕ → ℕ → List Effect → List Effect
effects_on_look place moment found effects =
    if found == 0 then with_pending place moment (without_pending place effects) else without_pending place effects

abbrev pub after_fence : World → Option Place → List Effect
after_fence w (Some p) = after_keeping w p
after_fence w None = w.log.effects

-- the effects after a call's step
abbrev pub effects_after : World → UnderWay → Op → List Effect
effects_after w u (DequeueLoadNext p) =
    effects_on_look u.place (length w.log.events) (w.memory.cached (Next p.first)) w.log.effects
effects_after w u op = after_fence w (kept_by (access_of w.shape.kind op))

-- what a step leaves under way, and the events
abbrev pub with_next : UnderWay → After Op Reply → Option UnderWay
with_next u (More op) = Some (record u { op = op })
with_next u (Done reply) = None

abbrev pub events_after : List Event → Client → After Op Reply → List Event
events_after events client (More op) = events
events_after events client (Done reply) = events ++ return_event client reply ∷ []

-- the client's call makes its access, and goes on by the table
abbrev pub next_of : World → UnderWay → After Op Reply
next_of w u = successor w.shape.kind u.op (w.memory.cached (place_of (access_of w.shape.kind u.op)))

abbrev pub with_step : World → Client → UnderWay → World
with_step w client u = record w {
  memory = with_access w.memory (access_of w.shape.kind u.op);
  calls = with_call w.calls client.0 (with_next u (next_of w u));
  log = record {
    events = events_after w.log.events client (next_of w u);
    issued = w.log.issued;
    effects = effects_after w u u.op;
  };
}

-- the call that a client begins, with its next record
abbrev pub begun_of : World → Client → ℕ → Call → Begun
begun_of w client number call = record {
  client = client;
  used = bumps w.memory.cached client.0;
  token = record { 0 = record_of w.shape client.0 (bumps w.memory.cached client.0) };
  number = number;
  call = call;
}

abbrev pub call_begun : World → Begun → UnderWay
call_begun w b = record { place = length w.log.events; begun = b; op = begun_at w.shape.kind b }

abbrev pub with_start_of : World → Begun → World
with_start_of w b = record w {
  calls = with_call w.calls b.client.0 (Some (call_begun w b));
  log = record {
    events = w.log.events ++ call_event b.client b.number b.call ∷ [];
    issued = w.log.issued ++ record { place = length w.log.events; begun = b } ∷ [];
    effects = w.log.effects;
  };
}

abbrev pub with_start : World → Client → ℕ → Call → World
with_start w client number call = with_start_of w (begun_of w client number call)

-- the environment keeps a word
abbrev pub with_eviction : World → Place → World
with_eviction w p = record w {
  memory = with_fence w.memory p;
  log = record { events = w.log.events; issued = w.log.issued; effects = after_keeping w p };
}

-- the whole system stops: what is not kept is lost, calls under way end, and recovery begins anew
abbrev pub with_crash : World → World
with_crash w = record w {
  memory = record { cached = w.memory.kept; kept = w.memory.kept };
  calls = λ j. None;
  recovery = Some boot_recovery;
  log = record {
    events = w.log.events ++ crash_event ∷ [];
    issued = w.log.issued;
    effects = settled_effects w.log.effects;
  };
}

-- recovery makes its access, and goes on by the table
abbrev pub next_recovery : World → Recovery → After Recovery (List Told)
next_recovery w r = recovery_after w.shape r (w.memory.cached (place_of (recovery_access w.shape.kind r.at)))

abbrev pub recovery_left : After Recovery (List Told) → Option Recovery
recovery_left (go_on r) = Some r
recovery_left (Ready told) = None

abbrev pub recovery_events : List Event → After Recovery (List Told) → List Event
recovery_events events (go_on r) = events
recovery_events events (Ready told) = events ++ ready_event told ∷ []

abbrev pub with_recovery_step : World → Recovery → World
with_recovery_step w r = record w {
  memory = with_access w.memory (recovery_access w.shape.kind r.at);
  recovery = recovery_left (next_recovery w r);
  log = record {
    events = recovery_events w.log.events (next_recovery w r);
    issued = w.log.issued;
    effects = after_fence w (kept_by (recovery_access w.shape.kind r.at));
  };
}

-- all words 0, nobody called
abbrev pub new_world : Shape → List Told → World
new_world s told = record {
  shape = s;
  memory = record { cached = λ p. 0; kept = λ p. 0 };
  calls = λ j. None;
  recovery = None;
  base = [];
  told = told;
  log = record { events = []; issued = []; effects = [] };
}

-- the number of a call fits the kind of the queue: 0 in a durable one, 1 to 2^40 in a log queue
abbrev pub FitsKind : Kind → ℕ → Type 0
FitsKind Durable number = number ≡ 0
FitsKind Log number = (1 ≤ number) × (number ≤ MAX_CALL_NUMBER)

abbrev pub FitsCall : Call → Type 0
FitsCall (Enq value) = FitsValue value
FitsCall Deq = Unit {0}

-- the client may start the call: the queue is ready, it has none under way, and a record is left
pub record MayStart (w : World) (client : Client) (number : ℕ) (call : Call) : Type 0 where
  pub ready : w.recovery ≡ None
  pub is_client : client.0 < w.shape.clients
  pub idle : w.calls client.0 ≡ None
  pub record_left : bumps w.memory.cached client.0 < w.shape.records
  pub number_fits : FitsKind w.shape.kind number
  pub call_fits : FitsCall call

-- the client has this call under way, and the queue is ready
pub record MayStep (w : World) (client : Client) (u : UnderWay) : Type 0 where
  pub ready : w.recovery ≡ None
  pub waits : w.calls client.0 ≡ Some u
