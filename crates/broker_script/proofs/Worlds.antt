-- The queue of a slot in a broker that is ready is a world that acts as one alone does.
use Rattle.std.proofs.Common.{◌≡◌, ◌≢◌, refl, sym, ap, ap₂, ◌∙◌, subst, ℕ, List, ◌<◌, ◌≤◌, Bool, true, false, length, get_or, if◌then◌else◌}
use Rattle.std.proofs.lemmas.Bool.{false≢true}
use Rattle.std.proofs.lemmas.Option.{slice_get_past, slice_get_within, slice_get-get_or}
use borrow.Author.Tests.{ltb-false}
use Rattle.std.specs.Prelude.{Option, Some, None, Result, Ok, Err, IsSome, is_ok, is_some, slice_get, unwrap_or}
use Rattle.words.specs.declared.call.Call.{Call}
use Rattle.words.specs.declared.call.Client.{Client}
use Rattle.words.specs.declared.call.Reply.{Reply}
use Rattle.words.specs.declared.refusal.Refusal.{Refusal}
use Rattle.words.specs.declared.refusal.Refusal.TheVariants.{NoClient, NoMemory, NotReady}
use Rattle.words.specs.declared.call.Kind.TheVariants.{Durable}
use Rattle.arena.specs.Shape.{shape_of}
use Rattle.arena.specs.declared.broker.TheConstants.{SLOTS}
use Rattle.directory.specs.Directory.{HasQueue}
use Rattle.directory.specs.declared.queue.Queue.{Queue}
use Rattle.events.specs.declared.event.Entry.{Entry}
use Rattle.events.specs.declared.event.Event.{Event}
use Rattle.interleave.specs.Calls.{is_no_memory, waiting_result}
use Rattle.interleave.specs.Rules.{Rule, starting, stepping}
use Rattle.interleave.proofs.Facts.{unstarted_by_nobody}
use Rattle.interleave.specs.State.{State, new_world, order_in, after_start, after_step, is_down as is_world_down, start_result, start_result_with, start_with, step_result, step_result_with, step_with}
use Rattle.protocol.specs.declared.UnderWay.{UnderWay}
use Rattle.named.specs.Acting.{IsActAt}
use Rattle.named.specs.Brokers.{Brokered, IsWell, admission, answer_if, answer_at, has_client, world_at, world_of}
use Rattle.named.specs.Slots.{acted, answered, IfWorld}
use Rattle.named.specs.declared.slot.Slot.{Slot}
use Rattle.named.specs.declared.slot.Slot.TheVariants.{Closed, Open}
use Rattle.playing.specs.Transcript.{order_lines}
use Rattle.broker_script.specs.Play.{the_world}

-- what is there is what it is
some_or : {A : Type 0} (o : Option A) (other : A) → IsSome o → o ≡ Some (unwrap_or o other)
some_or (Some a) other there = refl
some_or None other there = absurd (false≢true there)

pub open_world : (b : Brokered) (slot : ℕ) → IsSome (world_at b slot) → world_at b slot ≡ Some (the_world b slot)
open_world b slot is_open = some_or (world_at b slot) (new_world (shape_of Durable b.counts)) is_open

pub is_world : (b : Brokered) (slot : ℕ) (w : State) → world_at b slot ≡ Some w → the_world b slot ≡ w
is_world b slot w is = ap (λ (o : Option State). unwrap_or o (new_world (shape_of Durable b.counts))) is

-- the order that its world has, as lines
order_from : (o : Option State) (other : State) (events : List Event) (entries : List Entry) → IsSome o
    → IfWorld o (λ w. events ≡ w.log.events) → IfWorld o (λ w. entries ≡ order_in w)
    → order_lines events entries ≡ order_lines (unwrap_or o other).log.events (order_in (unwrap_or o other))
order_from (Some w) other events entries there events_are order_is = ap₂ order_lines events_are order_is
order_from None other events entries there events_are order_is = absurd (false≢true there)

pub order_there : (b : Brokered) (slot : ℕ) (events : List Event) (entries : List Entry) → IsSome (world_at b slot)
    → IfWorld (world_at b slot) (λ w. events ≡ w.log.events) → IfWorld (world_at b slot) (λ w. entries ≡ order_in w)
    → order_lines events entries ≡ order_lines (the_world b slot).log.events (order_in (the_world b slot))
order_there b slot events entries is_open events_are order_is =
    order_from (world_at b slot) (new_world (shape_of Durable b.counts)) events entries is_open events_are order_is

-- a slot with a queue is one of the eight
within : (b : Brokered) → IsWell b → (slot : ℕ) (o : Option Slot) → slice_get b.slots slot ≡ o → IsSome (world_of b.words o)
    → slot < SLOTS
within b well slot (Some s) is there = subst (λ (n : ℕ). slot < n) well.count (slice_get_within b.slots slot s is)
within b well slot None is there = absurd (false≢true there)

pub open_within : (b : Brokered) → IsWell b → (slot : ℕ) → IsSome (world_at b slot) → slot < SLOTS
open_within b well slot is_open = within b well slot (slice_get b.slots slot) refl is_open

-- nothing is something
none_is_some : {A B : Type 0} (a : A) → None ≡ Some a → B
none_is_some a e = absurd (cc (e))

-- its world has as many clients as the broker
clients_of : (b : Brokered) → IsWell b → (slot : ℕ) (o : Option Slot) → slice_get b.slots slot ≡ o → (w : State)
    → world_of b.words o ≡ Some w → length w.calls ≡ b.counts.clients
clients_of b well slot (Some Closed) is w here = none_is_some w here
clients_of b well slot (Some (Open block)) is w here =
    let at = well.slots slot (Open block) is in
    ap (λ (o : Option State). length (unwrap_or o w).calls) (sym here) ∙ at.well.holds.safe.clients ∙ ap (λ s. s.clients) at.shape
clients_of b well slot None is w here = none_is_some w here

pub world_clients : (b : Brokered) → IsWell b → (slot : ℕ) (w : State) → world_at b slot ≡ Some w
    → length w.calls ≡ b.counts.clients
world_clients b well slot w here = clients_of b well slot (slice_get b.slots slot) refl w here

-- a client that the broker has not has no place in it
pub no_place : (b : Brokered) → IsWell b → (slot : ℕ) (w : State) → world_at b slot ≡ Some w → (client : Client)
    → has_client b client ≡ false → slice_get w.calls client.0 ≡ None
no_place b well slot w here client away =
    slice_get_past w.calls client.0
    (subst (λ (n : ℕ). n ≤ client.0) (sym (world_clients b well slot w here)) (ltb-false _ _ away))

-- who is admitted
pub admitted : (b : Brokered) (client : Client) → has_client b client ≡ true → b.recovery ≡ None
    → admission b client ≡ Ok tt
admitted b client here ready =
    ap (λ (h : Bool). if h then (if is_some b.recovery then Err NotReady else Ok tt) else Err NoClient) here
    ∙ ap (λ r. if is_some r then Err NotReady else Ok tt) ready

pub not_admitted : (b : Brokered) (client : Client) → has_client b client ≡ false → admission b client ≡ Err NoClient
not_admitted b client away =
    ap (λ (h : Bool). if h then (if is_some b.recovery then Err NotReady else Ok tt) else Err NoClient) away

-- what is answered of an open slot to a client that is admitted
pub answer_here : {T : Type 0} (f : State → Result T Refusal) (b : Brokered) (slot : ℕ) (client : Client) (w : State)
    → admission b client ≡ Ok tt → world_at b slot ≡ Some w → answer_at f b slot client ≡ f w
answer_here f b slot client w admission_is here =
    ap (λ (a : Result Unit Refusal). answer_if a (answered f (world_at b slot))) admission_is
    ∙ ap (answered f) here

-- an act of a client that is admitted, and of one that there is not
here : {A : Type 0} (rule : Rule A) (slot : ℕ) (client : Client) (old : Brokered) (result : Result A Refusal) (new : Brokered)
    (w : State) → IsActAt rule slot client old result new → admission old client ≡ Ok tt → world_at old slot ≡ Some w
    → is_no_memory result ≡ false
    → (result ≡ rule.answers false w) × (world_at new slot ≡ Some (rule.leaves false w))
here rule slot client old result new w act may is memory = (
  act.answers ∙ answer_here (rule.answers (is_no_memory result)) old slot client w may is
      ∙ ap (λ full. rule.answers full w) memory,
  act.world
      ∙ ap (λ (a : Result Unit Refusal). if is_ok a then acted (rule.leaves (is_no_memory result)) (world_at old slot) else world_at old slot) may
      ∙ ap (acted (rule.leaves (is_no_memory result))) is ∙ ap (λ full. Some (rule.leaves full w)) memory,
)

away : {A : Type 0} (rule : Rule A) (slot : ℕ) (client : Client) (old : Brokered) (result : Result A Refusal) (new : Brokered)
    → IsActAt rule slot client old result new → admission old client ≡ Err NoClient
    → (result ≡ Err NoClient) × (world_at new slot ≡ world_at old slot)
away rule slot client old result new act may = (
  act.answers ∙ ap (λ (a : Result Unit Refusal). answer_if a (answered (rule.answers (is_no_memory result)) (world_at old slot))) may,
  act.world
      ∙ ap (λ (a : Result Unit Refusal). if is_ok a then acted (rule.leaves (is_no_memory result)) (world_at old slot) else world_at old slot) may,
)

-- a result that is not for want of memory
pub had_memory : {A : Type 0} (r : Result A Refusal) → r ≢ Err NoMemory → is_no_memory r ≡ false
had_memory (Ok a) other = refl
had_memory (Err NoMemory) other = absurd (other refl)
had_memory (Err _) other = refl

-- what a start of no client comes to, in the world itself
no_start : (w : State) (client : Client) (number : ℕ) (call : Call) → slice_get w.calls client.0 ≡ None
    → start_result false w client number call ≡ Err NoClient
no_start w client number call none = ap (start_result_with false w client) (unstarted_by_nobody w client number call none)

no_start_left : (w : State) (client : Client) (number : ℕ) (call : Call) → slice_get w.calls client.0 ≡ None
    → after_start false w client number call ≡ w
no_start_left w client number call none =
    ap (start_with false w client call) (unstarted_by_nobody w client number call none)

no_step : (w : State) (client : Client) → slice_get w.calls client.0 ≡ None → step_result false w client ≡ Err NoClient
no_step w client none =
    ap (λ (o : Option (Option UnderWay)). step_result_with false w (waiting_result (is_world_down w) o)) none

no_step_left : (w : State) (client : Client) → slice_get w.calls client.0 ≡ None → after_step false w client ≡ w
no_step_left w client none =
    ap (λ (o : Option (Option UnderWay)). step_with false w client (waiting_result (is_world_down w) o)) none

-- a start, and a step, by what it answers and leaves, as in the world alone
pub record IsAsAlone {A : Type 0} (rule : Rule A) (slot : ℕ) (old : Brokered) (result : Result A Refusal) (new : Brokered)
    : Type 0 where
  pub answers : result ≡ rule.answers false (the_world old slot)
  pub world : world_at new slot ≡ Some (rule.leaves false (the_world old slot))

by_start : (slot : ℕ) (client : Client) (number : ℕ) (call : Call) (old : Brokered) (result : Result Unit Refusal)
    (new : Brokered) (there : Bool) → has_client old client ≡ there
    → IsActAt (starting client number call) slot client old result new → IsWell old → old.recovery ≡ None
    → world_at old slot ≡ Some (the_world old slot) → is_no_memory result ≡ false
    → IsAsAlone (starting client number call) slot old result new
by_start slot client number call old result new true is act well ready there_is memory =
    let both = here (starting client number call) slot client old result new (the_world old slot) act
    (admitted old client is ready) there_is memory in
    record { answers = both.0; world = both.1 }
by_start slot client number call old result new false is act well ready there_is memory =
    let none = no_place old well slot (the_world old slot) there_is client is in
    let both = away (starting client number call) slot client old result new act (not_admitted old client is) in
    record {
      answers = both.0 ∙ sym (no_start (the_world old slot) client number call none);
      world = both.1 ∙ there_is ∙ ap Some (sym (no_start_left (the_world old slot) client number call none));
    }

pub started_alone : (slot : ℕ) (client : Client) (number : ℕ) (call : Call) (old : Brokered) (result : Result Unit Refusal)
    (new : Brokered) → IsActAt (starting client number call) slot client old result new → IsWell old
    → old.recovery ≡ None → IsSome (world_at old slot) → result ≢ Err NoMemory
    → IsAsAlone (starting client number call) slot old result new
started_alone slot client number call old result new act well ready is_open memory =
    by_start slot client number call old result new (has_client old client) refl act well ready
    (open_world old slot is_open) (had_memory result memory)

by_step : (slot : ℕ) (client : Client) (old : Brokered) (result : Result (Option Reply) Refusal)
    (new : Brokered) (there : Bool) → has_client old client ≡ there
    → IsActAt (stepping client) slot client old result new → IsWell old → old.recovery ≡ None
    → world_at old slot ≡ Some (the_world old slot) → is_no_memory result ≡ false
    → IsAsAlone (stepping client) slot old result new
by_step slot client old result new true is act well ready there_is memory =
    let both = here (stepping client) slot client old result new (the_world old slot) act
    (admitted old client is ready) there_is memory in
    record { answers = both.0; world = both.1 }
by_step slot client old result new false is act well ready there_is memory =
    let none = no_place old well slot (the_world old slot) there_is client is in
    let both = away (stepping client) slot client old result new act (not_admitted old client is) in
    record {
      answers = both.0 ∙ sym (no_step (the_world old slot) client none);
      world = both.1 ∙ there_is ∙ ap Some (sym (no_step_left (the_world old slot) client none));
    }

pub stepped_alone : (slot : ℕ) (client : Client) (old : Brokered) (result : Result (Option Reply) Refusal)
    (new : Brokered) → IsActAt (stepping client) slot client old result new → IsWell old
    → old.recovery ≡ None → IsSome (world_at old slot) → result ≢ Err NoMemory
    → IsAsAlone (stepping client) slot old result new
stepped_alone slot client old result new act well ready is_open memory =
    by_step slot client old result new (has_client old client) refl act well ready
    (open_world old slot is_open) (had_memory result memory)

-- a slot that the directory has a queue for is open
listed : (b : Brokered) → IsWell b → (slot : ℕ) (queue : Queue) → HasQueue b.directory slot queue → (o : Option Slot)
    → slice_get b.slots slot ≡ o → IsSome (world_of b.words o)
listed b well slot queue has (Some Closed) is = none_is_some queue.kind (well.kinds slot Closed (Some queue) is has)
listed b well slot queue has (Some (Open block)) is = refl
listed b well slot queue has None is =
    let small : slot < length b.slots =
    subst (λ (n : ℕ). slot < n) (well.listed.count ∙ sym well.count) (slice_get_within b.directory slot (Some queue) has) in
    none_is_some (get_or b.slots slot Closed) (sym is ∙ slice_get-get_or b.slots slot Closed small)

pub listed_open : (b : Brokered) → IsWell b → (slot : ℕ) (queue : Queue) → HasQueue b.directory slot queue
    → IsSome (world_at b slot)
listed_open b well slot queue has = listed b well slot queue has (slice_get b.slots slot) refl
