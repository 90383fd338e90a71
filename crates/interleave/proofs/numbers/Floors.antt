-- Each act of a world keeps what its floors say of calls under way, and of what the kept words tell.
use Rattle.std.specs.Prelude.{nat_lt, unwrap_or}
use Rattle.std.proofs.Common.{◌≡◌, ◌≢◌, ℕ, ◌<◌, inl, inr, Bool, true, false, if◌then◌else◌, List, length, map, Option, Some}
use Rattle.std.proofs.Common.{None, slice_get, slice_index, slice_set, refl, sym, ap, ◌∙◌, arith, ⊎_elim, get_or-set_other}
use Rattle.std.proofs.lemmas.Bool.{cases_eq}
use Rattle.std.proofs.lemmas.Grind.{get_or-set_at}
use Rattle.std.proofs.lemmas.List.{get_or-map}
use Rattle.std.proofs.lemmas.Option.{unwrap_or-slice_get}
use Rattle.words.specs.declared.call.Call.{Call}
use Rattle.words.specs.declared.call.Client.{Client}
use Rattle.words.specs.declared.call.Kind.{Kind}
use Rattle.words.specs.declared.call.Kind.TheVariants.{Durable as durable_kind, Log as log_kind}
use Rattle.words.specs.declared.call.Reply.{Reply}
use Rattle.words.specs.declared.told.Told.{Told}
use Rattle.words.specs.declared.told.Told.TheVariants.{None as told_none, Verdict as told_verdict}
use Rattle.words.specs.declared.limits.TheConstants.{MAX_CLIENTS}
use Rattle.interleave.specs.LogQueue.{floor_of, new_queue as new_clients}
use Rattle.interleave.specs.LogQueue.{LogClients}
use Rattle.arena.specs.Shape.{Shape}
use Rattle.arena.specs.declared.place.Place.{Place}
use Rattle.stepper.specs.declared.resume.After.{After}
use Rattle.stepper.specs.declared.resume.After.TheVariants.{More, Done}
use Rattle.helping.specs.Table.{access_of}
use Rattle.helping.specs.declared.op.Op.{Op}
use Rattle.recover.specs.Table.{boot_recovery}
use Rattle.words.specs.Told.{no_call}
use Rattle.sound_words.specs.Told.{tells_by, told_by}
use Rattle.recover.specs.declared.recovery.Recovery.{Recovery}
use Rattle.events.specs.Effects.{order_of}
use Rattle.protocol.specs.Machine.{World, MayStart, MayStep, with_access, with_call, with_next}
use Rattle.protocol.specs.Machine.{next_of, begun_of, call_begun, effects_after, events_after, next_recovery}
use Rattle.protocol.specs.Machine.{new_world as new_machine, recovery_left}
use Rattle.protocol.specs.Machine.{with_start, with_step, with_eviction, with_crash, with_recovery_step}
use Rattle.protocol.specs.declared.UnderWay.{UnderWay}
use Rattle.protocol.specs.invariants.Worlds.{Inv}
use Rattle.protocol.proofs.Facts.{call_other, call_same, calling, is_ready, no_calls, still_alike, told_are_now}
use Rattle.protocol.proofs.Facts.{told_at, told_is}
use Rattle.interleave.specs.Floors.{AreFloorsRightIn, AreFloorsTold, FloorsFit}
use Rattle.interleave.specs.Numbers.{AreNumbersRisingIn}
use Rattle.interleave.specs.Queue.{new_queue}
use Rattle.interleave.specs.Ranges.{IsOfKind}
use Rattle.interleave.specs.State.{queue_at_ready, queue_left}
use Rattle.interleave.specs.Verdicts.{taken_as}
use Rattle.interleave.specs.declared.queue.Queue.{Queue}
use Rattle.interleave.specs.declared.queue.Queue.TheVariants.{Durable, Log}
use Rattle.interleave.proofs.numbers.Numbers.{IsAboveFloor}
use Rattle.interleave.proofs.words.Values.{zero_at}
use Rattle.interleave.proofs.verdicts.Steps.{IsToldStill, machine_told, told_answered, told_evicted, told_stepped}

none_some : {X : Type 0} {x : X} → None ≡ Some x → ⊥
none_some e = cc

-- a client has one call under way
one_call : {u x : UnderWay} → Some u ≡ Some x → u ≡ x
one_call e = cc

is_log : (kind : Kind) (clients : LogClients) → IsOfKind kind (Log clients) → kind ≡ log_kind
is_log log_kind clients is = refl
is_log durable_kind clients is = absurd is

-- where nobody calls
pub floors_unused : (w : World) → ((j : ℕ) → w.calls j ≡ None) → (floors : List ℕ) → AreFloorsTold w floors
    → FloorsFit w floors
floors_unused w nobody floors told = record {
  above = λ client u at. absurd (none_some (sym (nobody client.0) ∙ at));
  told = λ up. told;
}

-- so it is while recovery is under way
pub floors_down : (w : World) → ((j : ℕ) → w.calls j ≡ None) → (r : Recovery) → w.recovery ≡ Some r → (queue : Queue)
    → AreFloorsRightIn queue w
floors_down w nobody r down (Durable reports) = tt
floors_down w nobody r down (Log clients) = record {
  above = λ client u at. absurd (none_some (sym (nobody client.0) ∙ at));
  told = λ up. absurd (none_some (sym up ∙ down));
}

-- in a new machine nothing is told, and all floors are 0
nothing_told : (s : Shape) (base : List Told) (client : Client) → floor_of (machine_told (new_machine s base) client) ≡ 0
nothing_told s base client = go (nat_lt client.0 s.clients) s.kind
  where
    go : (b : Bool) (kind : Kind) → floor_of (if b then no_call kind else told_none) ≡ 0
    go true durable_kind = refl
    go true log_kind = refl
    go false kind = refl

pub floors_new : (s : Shape) (base : List Told) (kind : Kind) (clients : ℕ)
    → AreFloorsRightIn (new_queue kind clients) (new_machine s base)
floors_new s base durable_kind clients = tt
floors_new s base log_kind clients =
    floors_unused (new_machine s base) (λ j. refl) new_clients.floors
    (λ client few idle. zero_at MAX_CLIENTS client.0 ∙ sym (nothing_told s base client))

-- a start
pub floors_started : (w : World) (client : Client) (number : ℕ) (call : Call) → MayStart w client number call
    → (queue : Queue) → IsAboveFloor queue client number → AreFloorsRightIn queue w
    → AreFloorsRightIn queue (with_start w client number call)
floors_started w client number call may (Durable reports) over v = tt
floors_started w client number call may (Log clients) over v = record {
  above = λ c u at. ⊎_elim
      (λ same.
      let is : call_begun w (begun_of w client number call) ≡ u =
      one_call (sym (call_same w.calls client.0 began c.0 same) ∙ at) in
      let number_is : number ≡ u.begun.number = ap (λ (y : UnderWay). y.begun.number) is in
      let floor : slice_index clients.floors c.0 ≡ slice_index clients.floors client.0 =
      ap (λ (t : ℕ). slice_index clients.floors t) same in
      omega (arith, floor, over, number_is))
      (λ ne. v.above c u (sym (call_other w.calls client.0 began c.0 ne) ∙ at))
      (cases_eq c.0 client.0);
  told = λ up c few idle. ⊎_elim
      (λ same. absurd (none_some (sym idle ∙ call_same w.calls client.0 began c.0 same)))
      (λ ne. v.told up c few (sym (call_other w.calls client.0 began c.0 ne) ∙ idle))
      (cases_eq c.0 client.0);
}
  where
    began : Option UnderWay
    began = Some (call_begun w (begun_of w client number call))

-- what is told is the same, or of the call under way: it is the same for a client that has none
told_if_idle : (w : World) (client : Client) (told : Told) → w.calls client.0 ≡ None → IsToldStill w client told
    → floor_of (machine_told w client) ≡ floor_of told
told_if_idle w client told idle (inl same) = ap floor_of (sym same)
told_if_idle w client told idle (inr own) = absurd (none_some (sym idle ∙ own.1))

-- a step
pub floors_stepped : (w : World) → Inv w → (client : Client) (u : UnderWay) → MayStep w client u → (queue : Queue)
    → IsOfKind w.shape.kind queue → AreNumbersRisingIn queue w.told w.log.events (order_of w.log.effects)
    → client.0 < MAX_CLIENTS → AreFloorsRightIn queue w
    → AreFloorsRightIn (queue_left queue u (next_of w u)) (with_step w client u)
floors_stepped w inv client u may queue kind rising few v = go (next_of w u) refl queue kind rising v
  where
    who : u.begun.client.0 ≡ client.0
    who = (calling w (is_ready w inv may.ready).working client.0 u may.waits).1.who

    -- what the step makes of the machine, where the call goes on so
    stepped : After Op Reply → World
    stepped next = record w {
      memory = with_access w.memory (access_of w.shape.kind u.op);
      calls = with_call w.calls client.0 (with_next u next);
      log = record {
        events = events_after w.log.events client next;
        issued = w.log.issued;
        effects = effects_after w u u.op;
      };
    }

    -- a client that had no call is told the same
    stays : w.shape.kind ≡ log_kind → (c : Client) → c.0 < MAX_CLIENTS → w.calls c.0 ≡ None
        → floor_of (machine_told w c) ≡ floor_of (machine_told (with_step w client u) c)
    stays log c below idle =
        told_if_idle w c (machine_told (with_step w client u) c) idle (told_stepped w inv log client u may c below)

    goes_on : (floors : List ℕ) (op : Op) → w.shape.kind ≡ log_kind → FloorsFit w floors
        → FloorsFit (stepped (More op)) floors
    goes_on floors op log fit = record {
      above = λ c x at. ⊎_elim
          (λ same.
          let is : (let y : UnderWay = record u { op = op } in y) ≡ x =
          one_call (sym (call_same w.calls client.0 call c.0 same) ∙ at) in
          let number : u.begun.number ≡ x.begun.number = ap (λ (y : UnderWay). y.begun.number) is in
          let floor : slice_index floors c.0 ≡ slice_index floors client.0 =
          ap (λ (t : ℕ). slice_index floors t) same in
          let over = fit.above client u may.waits in
          omega (arith, number, floor, over))
          (λ ne. fit.above c x (sym (call_other w.calls client.0 call c.0 ne) ∙ at))
          (cases_eq c.0 client.0);
      told = λ up c below idle. ⊎_elim
          (λ same. absurd (none_some (sym idle ∙ call_same w.calls client.0 call c.0 same)))
          (λ ne.
          let was : w.calls c.0 ≡ None = sym (call_other w.calls client.0 call c.0 ne) ∙ idle in
          fit.told up c below was ∙ stays log c below was)
          (cases_eq c.0 client.0);
    }
      where
        call : Option UnderWay
        call = with_next u (More op)

    answers : (floors : List ℕ) (reply : Reply) → next_of w u ≡ Done reply → w.shape.kind ≡ log_kind
        → client.0 < length floors → FloorsFit w floors
        → FloorsFit (stepped (Done reply)) (slice_set floors u.begun.client.0 u.begun.number)
    answers floors reply ends log within fit = record {
      above = λ c x at. ⊎_elim
          (λ same. absurd (none_some (sym (call_same w.calls client.0 None c.0 same) ∙ at)))
          (λ ne.
          let floor = at_other c.0 ne in
          let over = fit.above c x (sym (call_other w.calls client.0 None c.0 ne) ∙ at) in
          omega (arith, floor, over))
          (cases_eq c.0 client.0);
      told = λ up c below idle. ⊎_elim
          (λ same.
          let reply_told : machine_told (with_step w client u) c ≡ told_verdict (taken_as u.begun.number reply) =
          ap (λ (t : ℕ). told_by w.shape (with_step w client u).memory.kept t) same
          ∙ told_answered w inv log client u may reply ends few in
          at_this c.0 same ∙ ap floor_of (sym reply_told))
          (λ ne.
          let was : w.calls c.0 ≡ None = sym (call_other w.calls client.0 None c.0 ne) ∙ idle in
          at_other c.0 ne ∙ fit.told up c below was ∙ stays log c below was)
          (cases_eq c.0 client.0);
    }
      where
        new : List ℕ
        new = slice_set floors u.begun.client.0 u.begun.number

        at_this : (t : ℕ) → t ≡ client.0 → slice_index new t ≡ u.begun.number
        at_this t e =
            get_or-set_at floors u.begun.client.0 t u.begun.number 0 (e ∙ sym who) (omega (arith, within, who))

        at_other : (t : ℕ) → t ≢ client.0 → slice_index new t ≡ slice_index floors t
        at_other t ne = get_or-set_other floors u.begun.client.0 t u.begun.number 0 (λ e. ne (e ∙ who))

    go : (next : After Op Reply) → next_of w u ≡ next → (queue : Queue) → IsOfKind w.shape.kind queue
        → AreNumbersRisingIn queue w.told w.log.events (order_of w.log.effects) → AreFloorsRightIn queue w
        → AreFloorsRightIn (queue_left queue u next) (stepped next)
    go (More op) e (Durable reports) kind rising v = tt
    go (More op) e (Log clients) kind rising v = goes_on clients.floors op (is_log w.shape.kind clients kind) v
    go (Done reply) e (Durable reports) kind rising v = tt
    go (Done reply) e (Log clients) kind rising v =
        answers clients.floors reply e (is_log w.shape.kind clients kind) (omega (arith, rising.sixteen, few)) v

-- an eviction
pub floors_evicted : (w : World) → Inv w → (p : Place) (queue : Queue) → IsOfKind w.shape.kind queue
    → AreFloorsRightIn queue w → AreFloorsRightIn queue (with_eviction w p)
floors_evicted w inv p (Durable reports) kind v = tt
floors_evicted w inv p (Log clients) kind v = record {
  above = v.above;
  told = λ up client few idle.
      v.told up client few idle
      ∙ told_if_idle w client (machine_told (with_eviction w p) client) idle
      (told_evicted w inv (is_log w.shape.kind clients kind) p up client few);
}

-- a crash
pub floors_crashed : (w : World) (queue : Queue) → AreFloorsRightIn queue (with_crash w)
floors_crashed w = floors_down (with_crash w) (λ j. refl) boot_recovery refl

-- recovery is done: clients have their floors by what they are told, which is what the kept words tell
floors_readied : (w : World) → Inv w → (r : Recovery) → w.recovery ≡ Some r → (tells : List Told)
    → next_recovery w r ≡ Done tells → FloorsFit (with_recovery_step w r) (map floor_of tells)
floors_readied w inv r recovers tells ends =
    floors_unused after (no_calls w inv r recovers) (map floor_of tells) (λ client few idle.
    get_or-map floor_of tells client.0 told_none 0 (omega (arith, few, sixteen))
    ∙ ap floor_of (sym (unwrap_or-slice_get tells client.0 told_none)
    ∙ ap (λ (o : Option Told). unwrap_or o told_none)
    (ap (λ (ts : List Told). slice_get ts client.0) all_told ∙ told_at w.shape after.memory.kept client.0 few)))
  where
    after : World
    after = with_recovery_step w r

    sixteen : length tells ≡ 16
    sixteen = (told_is w inv r recovers tells ends).0

    all_told : tells ≡ tells_by w.shape after.memory.kept
    all_told = told_are_now w inv r recovers tells ends ∙ sym (still_alike w inv r recovers).tells

-- a step of recovery
pub floors_recovered : (w : World) → Inv w → (r : Recovery) → w.recovery ≡ Some r → (queue : Queue)
    → AreFloorsRightIn (queue_at_ready queue (next_recovery w r)) (with_recovery_step w r)
floors_recovered w inv r recovers queue = go (next_recovery w r) refl queue
  where
    go : (next : After Recovery (List Told)) → next_recovery w r ≡ next → (queue : Queue)
        → AreFloorsRightIn (queue_at_ready queue next) (with_recovery_step w r)
    go (More x) e queue =
        floors_down (with_recovery_step w r) (no_calls w inv r recovers) x (ap recovery_left e) queue
    go (Done tells) e (Durable reports) = tt
    go (Done tells) e (Log clients) = floors_readied w inv r recovers tells e
