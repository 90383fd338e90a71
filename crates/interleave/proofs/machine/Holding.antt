-- Each act keeps what holds of a world, and is the machine's.
use Rattle.words.specs.PlainQueue.{Value, FitsValue}
use Rattle.words.specs.declared.call.Reply.{Reply}
use Rattle.std.proofs.Common.{[], ◌≡◌, ◌≢◌, ◌+◌, ◌-◌, ◌++◌, nat_lt, ℕ, zero, suc, replicate, ◌<◌, ◌≤◌, inl, inr, Bool, true, false, if◌then◌else◌, ◌==◌, List, ◌∷◌, map, length, Option, Some, None, Result, Ok, Err, slice_get, slice_index, slice_index_or, slice_set, refl, sym, ap, ◌∙◌, subst, arith, get_or-set_other}
use Rattle.std.specs.Prelude.{is_some, filter}
use mathlib.Core.Path.{fun_ext}
use Rattle.std.proofs.lemmas.Bool.Decides.{eqb_tells}
use Rattle.std.proofs.lemmas.Grind.{get_or-set_at}
use Rattle.std.proofs.lemmas.Option.{slice_get_within, get_or_from_slice_get}
use Rattle.std.proofs.lemmas.Bool.Decides.{nat_tests}
use Rattle.std.proofs.lemmas.Bool.{eqb-false, cases_lt, lt-ltb, le-ltb}
use Rattle.words.specs.declared.call.Call.{Call}
use Rattle.words.specs.declared.call.Call.TheVariants.{Enq, Deq}
use Rattle.words.specs.declared.call.Client.{Client}
use Rattle.words.specs.declared.refusal.Refusal.{Refusal}
use Rattle.interleave.specs.LogQueue.{is_stale}
use Rattle.words.specs.declared.call.Kind.{Kind}
use Rattle.words.specs.declared.call.Kind.TheVariants.{Durable as durable_kind, Log as log_kind}
use Rattle.persist.specs.Memory.{words_after_eviction}
use Rattle.arena.specs.Layout.{place_at, size_of, word_at}
use Rattle.arena.specs.declared.place.Place.{Place}
use Rattle.arena.specs.Ranges.{Fits}
use Rattle.arena.specs.Shape.{Shape}
use Rattle.std.proofs.lemmas.List.{length-replicate}
use Rattle.arena.specs.declared.place.Place.TheVariants.{Bump}
use Rattle.stepper.specs.Step.{value_found, place_of, IsReadInRange}
use Rattle.stepper.specs.declared.resume.After.{After}
use Rattle.stepper.specs.declared.resume.After.TheVariants.{More, Done}
use Rattle.helping.specs.Table.{access_of}
use Rattle.helping.specs.declared.op.Op.{Op}
use Rattle.protocol.specs.Machine.{World, Memory, MayStart, MayStep, FitsKind, FitsCall, with_call, with_next, next_of}
use Rattle.protocol.specs.Machine.{begun_of, call_begun, with_start, with_step, with_eviction, with_fence}
use Rattle.protocol.specs.Machine.{with_crash as machine_crashed, with_recovery_step, next_recovery, recovery_events}
use Rattle.protocol.specs.Machine.{new_world as new_machine}
use Rattle.protocol.specs.declared.UnderWay.{UnderWay}
use Rattle.recover.specs.Table.{access_of as recovery_access, recovery_after}
use Rattle.words.specs.Told.{no_call as no_call_told}
use Rattle.stepper.specs.declared.resume.After.{After}
use Rattle.stepper.specs.declared.resume.After.TheVariants.{More as go_on, Done as Ready}
use Rattle.recover.specs.declared.recovery.Recovery.{Recovery}
use Rattle.events.specs.Effects.{entry_of, order_of, settled_effects}
use Rattle.events.specs.declared.event.Effect.{Effect}
use Rattle.words.specs.declared.told.Told.{Told}
use Rattle.words.specs.declared.told.Told.TheVariants.{None as told_none}
use Rattle.interleave.specs.Calls.{waiting_result}
use Rattle.interleave.specs.Floors.{AreFloorsRightIn}
use Rattle.interleave.specs.Holds.{Holds, IsExplained, Invariant, from_invariant, to_invariant}
use Rattle.interleave.specs.Queue.{new_queue, told_in}
use Rattle.interleave.specs.Ranges.{IsOfKind, IsSafe, IfCall}
use Rattle.interleave.specs.Reuse.{AreAccountedFor}
use Rattle.interleave.specs.Values.{value_of_place, memory_by_place}
use Rattle.interleave.specs.State.{IsStartable, State, new_world, machine, is_down, queue_left, after_one_access, after_bump_load}
use Rattle.interleave.specs.State.{after_call_began, used_by, number_to_start, start_with, step_with}
use Rattle.interleave.specs.State.{evict_with, after_start, after_step, after_evict, after_stop, after_crash}
use Rattle.interleave.specs.State.{queue_at_ready, after_recovery_step, recover_with, after_recover, order_in}
use Rattle.interleave.specs.declared.queue.Queue.{Queue}
use Rattle.interleave.specs.declared.queue.Queue.TheVariants.{Durable, Log}
use Rattle.interleave.proofs.words.Accesses.{AccessFits, access_fits, recovery_access_fits, at_place, in_range}
use Rattle.events.specs.Parts.{IsPartOf}
use Rattle.events.proofs.Facts.{part_same}
use Rattle.protocol.proofs.Facts.{explained, inv_crashed, inv_evicted, inv_new, inv_recovered, inv_started, inv_stepped}
use Rattle.protocol.proofs.Facts.{no_calls, part_evicted, part_stepped, recovery_point, recovery_reads as reads_fit}
use Rattle.protocol.proofs.Facts.{recovery_silent, zero_fits}
use Rattle.protocol.specs.Acts.{TellsNothing}
use Rattle.interleave.proofs.machine.Invariants.{agreement}
use Rattle.interleave.proofs.machine.Effects.{place_of_word}
use Rattle.interleave.proofs.machine.Starts.{IsTaken, startable, taken}
use Rattle.interleave.proofs.numbers.Numbers.{IsAboveFloor, above_taken, numbers_are_once, numbers_begun}
use Rattle.interleave.proofs.numbers.Numbers.{numbers_crashed, numbers_evicted, numbers_gone_on, numbers_new}
use Rattle.interleave.proofs.numbers.Numbers.{numbers_recovered}
use Rattle.interleave.proofs.numbers.Floors.{floors_crashed, floors_evicted, floors_new, floors_recovered}
use Rattle.interleave.proofs.numbers.Floors.{floors_started, floors_stepped}
use Rattle.interleave.proofs.records.Accounts.{accounted_crashed, accounted_evicted, accounted_none}
use Rattle.interleave.proofs.records.Accounts.{accounted_recovered, accounted_started, accounted_stepped}
use Rattle.interleave.proofs.words.Ranges.{call_fits as call_in_range, IsSafe-accessed, IsSafe-gone_on, IsSafe-begun}
use Rattle.interleave.proofs.words.Ranges.{IsSafe-evicted}
use Rattle.interleave.proofs.words.Values.{shown_accessed, shown_evicted, shown_at, shown_zero, zero_at}

-- a client's place in the list of calls is its call
pub calls_with : (calls : List (Option UnderWay)) (t : ℕ) (x : Option UnderWay) → t < length calls → (λ j. slice_index_or (slice_set calls t x) j None) ≡ with_call (λ j. slice_index_or calls j None) t x
calls_with calls t x within = fun_ext (λ j. elim (eqb_tells j t) [
  | inl e ↦ rw e.0 (get_or-set_at calls t j x None e.1 within)
  | inr e ↦ rw e.0 (get_or-set_other calls t j x None e.1)
])

pub kind_left : (kind : Kind) (queue : Queue) (u : UnderWay) (a : After Op Reply) → IsOfKind kind queue → IsOfKind kind (queue_left queue u a)
kind_left kind queue u (More op) h = h
kind_left durable_kind (Durable told) u (Done reply) h = h
kind_left durable_kind (Log clients) u (Done reply) h = h
kind_left log_kind (Durable told) u (Done reply) h = h
kind_left log_kind (Log clients) u (Done reply) h = h

-- a client that has a call waiting
pub waiting_is : (down : Bool) (o : Option (Option UnderWay)) (u : UnderWay) → waiting_result down o ≡ Ok u → o ≡ Some (Some u)
waiting_is down None u e = cc
waiting_is true (Some call) u e = cc
waiting_is false (Some None) u e = cc
waiting_is false (Some (Some v)) u e = let same : v ≡ u = cc in ap (λ x. Some (Some x)) same

-- recovery is not under way
pub is_none : {X : Type 0} (o : Option X) → is_some o ≡ false → o ≡ None
is_none None e = refl
is_none (Some x) e = cc

-- the number of a call that may start is of the queue's kind
number_few : (kind : Kind) (number : ℕ) → FitsKind kind number → number ≤ 1099511627776
number_few durable_kind number h = omega (arith, h)
number_few log_kind number h = h.1

value_few : (call : Call) → FitsCall call → (v : Value) → call ≡ Enq v → FitsValue v
value_few (Enq value) h v e = let same : value ≡ v = cc in subst FitsValue same h
value_few Deq h v e = cc

-- a call as its type has it
pub call_fits : (call : Call) → ((v : Value) → call ≡ Enq v → FitsValue v) → FitsCall call
call_fits (Enq value) h = h value refl
call_fits Deq h = tt

not_stale : (floor number : ℕ) → is_stale floor number ≡ false → (1 ≤ number) × (number ≤ 1099511627776)
not_stale floor number h = grind (arith, nat_tests, h)

number_of_queue : (kind : Kind) (queue : Queue) (client : Client) (number n : ℕ) → IsOfKind kind queue
    → IsTaken queue client number n → FitsKind kind n
number_of_queue durable_kind (Durable told) client number n h its = its
number_of_queue log_kind (Log clients) client number n h its =
    subst (FitsKind log_kind) (sym its.1) (not_stale (slice_index clients.floors client.0) number its.0)
number_of_queue durable_kind (Log clients) client number n h its = absurd h
number_of_queue log_kind (Durable told) client number n h its = absurd h

pub number_fits_kind : (w : State) (client : Client) (number n : ℕ) → IsOfKind w.shape.kind w.queue
    → IsStartable w client number n → FitsKind w.shape.kind n
number_fits_kind w client number n h found =
    number_of_queue w.shape.kind w.queue client number n h (taken w.queue client number n found.taken)

get_copies : {X : Type 0} (n t : ℕ) (x : X) → t < n → slice_get (replicate n x) t ≡ Some x
get_copies zero t x h = absurd (omega (arith, h))
get_copies (suc n) zero x h = refl
get_copies (suc n) (suc t) x h = get_copies n t x (omega (arith, h))

get_first : {X : Type 0} (n t : ℕ) (x : X) (ys : List X) → t < n → slice_get (replicate n x ++ ys) t ≡ Some x
get_first zero t x ys h = absurd (omega (arith, h))
get_first (suc n) zero x ys h = refl
get_first (suc n) (suc t) x ys h = get_first n t x ys (omega (arith, h))

get_second : {X : Type 0} (n m t : ℕ) (x y : X) → n ≤ t → t < n + m → slice_get (replicate n x ++ replicate m y) t ≡ Some y
get_second zero m t x y le h = get_copies m t y (omega (arith, h))
get_second (suc n) m zero x y le h = absurd (omega (arith, le))
get_second (suc n) m (suc t) x y le h = get_second n m t x y (omega (arith, le)) (omega (arith, h))

-- so many copies of one item, and then so many of another
get_both : {X : Type 0} (n m t : ℕ) (x y : X) → t < n + m → slice_get (replicate n x ++ replicate m y) t ≡ Some (if nat_lt t n then x else y)
get_both n m t x y h = elim (cases_lt t n) [
  | inl lt ↦ rw (lt-ltb t n lt) (get_first n t x (replicate m y) lt)
  | inr ge ↦ rw (le-ltb t n (omega (arith, ge))) (get_second n m t x y (omega (arith, ge)) h)
]

-- what a new queue tells
pub tells_nothing : (s : Shape) → 1 ≤ s.clients → s.clients ≤ 16 → TellsNothing s (told_in (new_queue s.kind s.clients))
tells_nothing s some few = go s.kind
  where
    go : (kind : Kind) (t : ℕ) → t < 16 → slice_get (told_in (new_queue kind s.clients)) t ≡ Some (if nat_lt t s.clients then no_call_told kind else told_none)
    go durable_kind t h = get_both s.clients (16 - s.clients) t _ told_none (omega (arith, h, few))
    go log_kind t h = get_copies 16 t told_none h ∙ same (nat_lt t s.clients)
      where
        same : (b : Bool) → (let o : Option Told = Some told_none in o) ≡ Some (if b then told_none else told_none)
        same true = refl
        same false = refl

-- of clients none of whom calls
pub no_call : (n t : ℕ) → slice_index_or (replicate n (let x : Option UnderWay = None in x)) t None ≡ None
no_call zero t = refl
no_call (suc n) zero = refl
no_call (suc n) (suc t) = no_call n t

-- what waited to count is in no order
settled_twice : (es : List Effect) → filter (λ (e : Effect). e.settled) (filter (λ (e : Effect). e.settled) es) ≡ filter (λ (e : Effect). e.settled) es
settled_twice [] = refl
settled_twice (e ∷ es) = go e.settled refl (settled_twice es)
  where
    tail : List Effect
    tail = filter (λ (x : Effect). x.settled) es

    go : (b : Bool) → e.settled ≡ b → filter (λ (x : Effect). x.settled) tail ≡ tail → filter (λ (x : Effect). x.settled) (if b then e ∷ tail else tail) ≡ (if b then e ∷ tail else tail)
    go true is twice =
        ap (λ (c : Bool). if c then e ∷ filter (λ (x : Effect). x.settled) tail else filter (λ (x : Effect). x.settled) tail) is ∙ ap (λ t. e ∷ t) twice
    go false is twice = twice

settled_order : (es : List Effect) → order_of (settled_effects es) ≡ order_of es
settled_order es = ap (map entry_of) (settled_twice es)

-- where a call is under way, recovery is not
pub ready_if_called : (w : State) (client : Client) (u : UnderWay) → Holds w → slice_get w.calls client.0 ≡ Some (Some u) → w.recovery ≡ None
ready_if_called w client u holds here = go w.recovery refl
  where
    go : (o : Option Recovery) → w.recovery ≡ o → w.recovery ≡ None
    go None e = e
    go (Some r) e =
        let none : slice_index_or w.calls client.0 None ≡ None = no_calls (machine w) (from_invariant _ holds.inv) r e client.0 in
        let some : slice_index_or w.calls client.0 None ≡ Some u = get_or_from_slice_get w.calls client.0 (Some u) None here in
        cc

-- the call that waits may step
pub may_step : (w : State) (client : Client) (u : UnderWay) → Holds w → slice_get w.calls client.0 ≡ Some (Some u) → MayStep (machine w) client u
may_step w client u holds here = record { ready = ready_if_called w client u holds here; waits = get_or_from_slice_get w.calls client.0 (Some u) None here }

-- a step of a world is the machine's
pub gone_on_is : (w : State) (client : Client) (u : UnderWay) → Holds w → slice_get w.calls client.0 ≡ Some (Some u) → machine (after_one_access w client u) ≡ with_step (machine w) client u
gone_on_is w client u holds here =
    let s = w.shape in
    let a = access_of s.kind u.op in
    let fits = call_in_range s w.words w.calls client.0 u holds.safe here in
    let memory = shown_accessed s w.words a (at_place s a (access_fits s s.kind u.op refl fits.point)) holds.safe.words.room (omega (arith, holds.safe.words.room, holds.safe.words.same)) in
    let calls = calls_with w.calls client.0 (with_next u (next_of (machine w) u)) (slice_get_within w.calls client.0 (Some u) here) in
    ap (λ (m : Memory). let x : World = record (machine (after_one_access w client u)) { memory = m } in x) memory
    ∙ ap (λ (f : ℕ → Option UnderWay). let x : World = record (with_step (machine w) client u) { calls = f } in x) calls

pub holds_gone_on : (w : State) (client : Client) (u : UnderWay) → Holds w → slice_get w.calls client.0 ≡ Some (Some u) → Holds (after_one_access w client u)
holds_gone_on w client u holds here =
    let may = may_step w client u holds here in
    let inv = from_invariant _ holds.inv in
    let after = inv_stepped (machine w) inv client u may in
    let few : client.0 < 16 = omega (arith, slice_get_within w.calls client.0 (Some u) here, holds.safe.clients, holds.safe.few) in
    record {
      safe = IsSafe-gone_on w.shape w.words w.calls w.base w.told w.log client.0 u holds.safe here;
      kind = kind_left w.shape.kind w.queue u (next_of (machine w) u) holds.kind;
      inv = subst Invariant (sym (gone_on_is w client u holds here)) (to_invariant _ after);
      numbers = numbers_gone_on w client u inv after may holds.numbers;
      floors = subst (AreFloorsRightIn (after_one_access w client u).queue) (sym (gone_on_is w client u holds here))
          (floors_stepped (machine w) inv client u may w.queue holds.kind holds.numbers few holds.floors);
      records = subst AreAccountedFor (sym (gone_on_is w client u holds here))
          (accounted_stepped (machine w) inv client u may holds.records);
    }

-- a word that is counted is as it was
holds_counted : (w : State) → Holds w → Holds (after_bump_load w)
holds_counted w holds = record {
  safe = record {
    words = record { room = holds.safe.words.room; same = holds.safe.words.same; cached_count = holds.safe.words.cached_count; count = holds.safe.words.count; cached = holds.safe.words.cached; kept = holds.safe.words.kept };
    clients = holds.safe.clients;
    few = holds.safe.few;
    calls_fit = holds.safe.calls_fit;
  };
  kind = holds.kind;
  inv = holds.inv;
  numbers = holds.numbers;
  floors = holds.floors;
  records = holds.records;
}

-- a start of a world is the machine's
begun_state_is : (w : State) (client : Client) (number : ℕ) (call : Call) → slice_get w.calls client.0 ≡ Some None → machine (after_call_began w client number call) ≡ with_start (machine w) client number call
begun_state_is w client number call idle =
    let m = machine w in
    ap (λ (f : ℕ → Option UnderWay). let x : World = record (with_start m client number call) { calls = f } in x)
    (calls_with w.calls client.0 (Some (call_begun m (begun_of m client number call))) (slice_get_within w.calls client.0 None idle))

pub may_start : (w : State) (client : Client) (number : ℕ) (call : Call) → Holds w → w.recovery ≡ None → slice_get w.calls client.0 ≡ Some None → used_by w client ≢ w.shape.records → FitsKind w.shape.kind number → FitsCall call → MayStart (machine w) client number call
may_start w client number call holds ready idle left number_fits call_fits =
    let s = w.shape in
    let client_in : client.0 < s.clients = omega (arith, slice_get_within w.calls client.0 None idle, holds.safe.clients) in
    let used = shown_at s w.words.cached (Bump client) client_in in
    let few : slice_index w.words.cached (word_at w.shape (Bump client)) ≤ s.records = holds.safe.words.cached (Bump client) client_in tt in
    record {
      ready = ready;
      is_client = client_in;
      idle = get_or_from_slice_get w.calls client.0 None None idle;
      record_left = omega (arith, used, few, left);
      number_fits = number_fits;
      call_fits = call_fits;
    }

holds_begun : (w : State) (client : Client) (number : ℕ) (call : Call) → Holds w → w.recovery ≡ None → slice_get w.calls client.0 ≡ Some None → used_by w client ≢ w.shape.records → FitsKind w.shape.kind number → IsAboveFloor w.queue client number → FitsCall call → Holds (after_call_began w client number call)
holds_begun w client number call holds ready idle left number_fits above call_fits =
    let s = w.shape in
    let within = slice_get_within w.calls client.0 None idle in
    let may = may_start w client number call holds ready idle left number_fits call_fits in
    let safe = IsSafe-begun s w.words w.calls client (used_by w client) number (length w.log.events) call holds.safe within may.record_left (number_few s.kind number number_fits) (value_few call call_fits) in
    let inv = subst Invariant (sym (begun_state_is w client number call idle)) (to_invariant _ (inv_started (machine w) (from_invariant _ holds.inv) client number call may)) in
    record {
      safe = record {
        words = record { room = safe.words.room; same = safe.words.same; cached_count = safe.words.cached_count; count = safe.words.count; cached = safe.words.cached; kept = safe.words.kept };
        clients = safe.clients;
        few = safe.few;
        calls_fit = safe.calls_fit;
      };
      kind = holds.kind;
      inv = inv;
      numbers = numbers_begun w client number call (from_invariant _ holds.inv) (from_invariant _ inv) (omega (arith, within, holds.safe.clients, holds.safe.few)) above holds.numbers;
      floors = subst (AreFloorsRightIn w.queue) (sym (begun_state_is w client number call idle))
          (floors_started (machine w) client number call may w.queue above holds.floors);
      records = subst AreAccountedFor (sym (begun_state_is w client number call idle))
          (accounted_started (machine w) client number call may holds.records);
    }

-- whatever a start answers
pub holds_after_start : (full : Bool) (w : State) (client : Client) (number : ℕ) (call : Call) → Holds w → FitsCall call → Holds (after_start full w client number call)
holds_after_start full w client number call holds fits = from_check (number_to_start w client number call) refl
  where
    started_if : (n : ℕ) → w.recovery ≡ None → slice_get w.calls client.0 ≡ Some None → FitsKind w.shape.kind n → IsAboveFloor w.queue client n → (no_room : Bool) → (used_by w client == w.shape.records) ≡ no_room → Holds (if no_room then after_bump_load w else (if full then after_bump_load w else after_call_began w client n call))
    started_if n ready idle number_fits above true e = holds_counted w holds
    started_if n ready idle number_fits above false e = by_memory full
      where
        by_memory : (f : Bool) → Holds (if f then after_bump_load w else after_call_began w client n call)
        by_memory true = holds_counted w holds
        by_memory false = holds_begun w client n call holds ready idle (eqb-false _ _ e) number_fits above fits

    from_check : (r : Result ℕ Refusal) → number_to_start w client number call ≡ r → Holds (start_with full w client call r)
    from_check (Err refusal) e = holds
    from_check (Ok n) e =
        let found = startable w client number n call e in
        started_if n (is_none w.recovery found.up) found.idle (number_fits_kind w client number n holds.kind found)
        (above_taken w.queue client number n (taken w.queue client number n found.taken))
        (used_by w client == w.shape.records) refl

-- whatever a step answers
pub holds_after_step : (full : Bool) (w : State) (client : Client) → Holds w → Holds (after_step full w client)
holds_after_step full w client holds = from_waiting (waiting_result (is_down w) (slice_get w.calls client.0)) refl
  where
    from_waiting : (r : Result UnderWay Refusal) → waiting_result (is_down w) (slice_get w.calls client.0) ≡ r → Holds (step_with full w client r)
    from_waiting (Err refusal) e = holds
    from_waiting (Ok u) e = by_memory full
      where
        by_memory : (f : Bool) → Holds (if f then w else after_one_access w client u)
        by_memory true = holds
        by_memory false = holds_gone_on w client u holds (waiting_is _ _ u e)

-- an eviction of a world is the machine's
pub evicted_is : (w : State) (word : ℕ) (p : Place) → Holds w → place_at w.shape word ≡ Some p → machine (evict_with w word (Some p)) ≡ with_eviction (machine w) p
evicted_is w word p holds named =
    let s = w.shape in
    let at = place_of_word s word p named in
    let memory : memory_by_place s (words_after_eviction word w.words) ≡ with_fence (memory_by_place s w.words) p =
    ap (λ (v : ℕ). memory_by_place s (words_after_eviction v w.words)) (sym at.1)
    ∙ shown_evicted s w.words p at.0 (omega (arith, holds.safe.words.room, holds.safe.words.same)) in
    ap (λ (m : Memory). let x : World = record (with_eviction (machine w) p) { memory = m } in x) memory

pub holds_after_evict : (w : State) (word : ℕ) → Holds w → Holds (after_evict w word)
holds_after_evict w word holds = from_place (place_at w.shape word) refl
  where
    from_place : (o : Option Place) → place_at w.shape word ≡ o → Holds (evict_with w word o)
    from_place None e = holds
    from_place (Some p) e =
        let s = w.shape in
        let at = place_of_word s word p e in
        let safe = IsSafe-evicted s w.words w.calls p at.0 holds.safe in
        record {
          safe = subst (λ v. IsSafe s (words_after_eviction v w.words) w.calls) at.1 safe;
          kind = holds.kind;
          inv = subst Invariant (sym (evicted_is w word p holds e)) (to_invariant _ (inv_evicted (machine w) (from_invariant _ holds.inv) p));
          numbers = numbers_evicted w word p (from_invariant _ holds.inv) holds.numbers;
          floors = subst (AreFloorsRightIn w.queue) (sym (evicted_is w word p holds e))
              (floors_evicted (machine w) (from_invariant _ holds.inv) p w.queue holds.kind holds.floors);
          records = subst AreAccountedFor (sym (evicted_is w word p holds e))
              (accounted_evicted (machine w) (from_invariant _ holds.inv) p holds.records);
        }

-- at every moment the order explains the history, and the kept words hold what its replay leaves
pub explained_world : (w : State) → Holds w → IsExplained w
explained_world w holds =
    let e = explained (machine w) (from_invariant _ holds.inv) in
    record {
      history = e.0;
      explains = e.1;
      agrees = agreement (machine w) (from_invariant _ holds.inv);
      numbers = numbers_are_once w e.1.is_order.once holds.numbers;
    }

-- nothing that stands in the order is taken back
pub part_after_start : (full : Bool) (w : State) (client : Client) (number : ℕ) (call : Call) → order_in (after_start full w client number call) ≡ order_in w
part_after_start full w client number call = from_check (number_to_start w client number call)
  where
    from_check : (r : Result ℕ Refusal) → order_in (start_with full w client call r) ≡ order_in w
    from_check (Err refusal) = refl
    from_check (Ok n) = both (used_by w client == w.shape.records) full
      where
        both : (a b : Bool) → order_in (if a then after_bump_load w else (if b then after_bump_load w else after_call_began w client n call)) ≡ order_in w
        both true b = refl
        both false true = refl
        both false false = refl

pub part_after_step : (full : Bool) (w : State) (client : Client) → Holds w → IsPartOf (order_in w) (order_in (after_step full w client))
part_after_step full w client holds = from_waiting (waiting_result (is_down w) (slice_get w.calls client.0)) refl
  where
    from_waiting : (r : Result UnderWay Refusal) → waiting_result (is_down w) (slice_get w.calls client.0) ≡ r → IsPartOf (order_in w) (order_in (step_with full w client r))
    from_waiting (Err refusal) e = part_same (order_in w)
    from_waiting (Ok u) e = by_memory full
      where
        by_memory : (f : Bool) → IsPartOf (order_in w) (order_in (if f then w else after_one_access w client u))
        by_memory true = part_same (order_in w)
        by_memory false = part_stepped (machine w) (from_invariant _ holds.inv) client u (may_step w client u holds (waiting_is _ _ u e))

pub part_after_evict : (w : State) (word : ℕ) → Holds w → IsPartOf (order_in w) (order_in (after_evict w word))
part_after_evict w word holds = from_place (place_at w.shape word)
  where
    from_place : (o : Option Place) → IsPartOf (order_in w) (order_in (evict_with w word o))
    from_place None = part_same (order_in w)
    from_place (Some p) = part_evicted (machine w) (from_invariant _ holds.inv) p

-- a crash of a world is the machine's
pub crashed_is : (w : State) → machine (after_stop w) ≡ machine_crashed (machine w)
crashed_is w =
    let calls : (λ (j : ℕ). slice_index_or (replicate (length w.calls) (let x : Option UnderWay = None in x)) j None) ≡ (λ j. None) = fun_ext (no_call (length w.calls)) in
    ap (λ (f : ℕ → Option UnderWay). let x : World = record (machine_crashed (machine w)) { calls = f } in x) calls

holds_crashed : (w : State) → Holds w → Holds (after_stop w)
holds_crashed w holds =
    let inv = subst Invariant (sym (crashed_is w)) (to_invariant _ (inv_crashed (machine w) (from_invariant _ holds.inv))) in
    record {
      safe = record {
        words = record { room = omega (arith, holds.safe.words.room, holds.safe.words.same); same = refl; cached_count = holds.safe.words.count; count = holds.safe.words.count; cached = holds.safe.words.kept; kept = holds.safe.words.kept };
        clients = length-replicate (length w.calls) None ∙ holds.safe.clients;
        few = holds.safe.few;
        calls_fit = λ t. subst (IfCall w.shape) (sym (no_call (length w.calls) t)) tt;
      };
      kind = holds.kind;
      inv = inv;
      numbers = numbers_crashed w (from_invariant _ inv) holds.numbers;
      floors = subst (AreFloorsRightIn w.queue) (sym (crashed_is w)) (floors_crashed (machine w) w.queue);
      records = subst AreAccountedFor (sym (crashed_is w))
          (accounted_crashed (machine w) (from_invariant _ holds.inv) holds.records);
    }

pub holds_after_crash : (full : Bool) (w : State) → Holds w → Holds (after_crash full w)
holds_after_crash true w holds = holds
holds_after_crash false w holds = holds_crashed w holds

pub part_after_crash : (full : Bool) (w : State) → order_in (after_crash full w) ≡ order_in w
part_after_crash true w = refl
part_after_crash false w = settled_order w.log.effects

-- recovery's access is at a place, and what it may write fits there
pub access_of_recovery : (w : State) (r : Recovery) → Holds w → w.recovery ≡ Some r → AccessFits w.shape (recovery_access w.shape.kind r.at)
access_of_recovery w r holds e = recovery_access_fits w.shape w.shape.kind r.at refl (recovery_point (machine w) (from_invariant _ holds.inv) r e)

-- what recovery finds there is in range
pub recovery_reads : (w : State) (r : Recovery) → Holds w → w.recovery ≡ Some r
    → IsReadInRange w.shape (recovery_access w.shape.kind r.at) (value_found w.shape (recovery_access w.shape.kind r.at) w.words)
recovery_reads w r holds e =
    let s = w.shape in
    let a = recovery_access s.kind r.at in
    let same = shown_at s w.words.cached (place_of a) (at_place s a (access_of_recovery w r holds e)) in
    in_range s a (value_found w.shape a w.words) (subst (Fits s (place_of a)) same (reads_fit (machine w) (from_invariant _ holds.inv) r e))

-- and it goes on as the machine's does
pub recovery_next : (w : State) (r : Recovery) → Holds w → w.recovery ≡ Some r
    → recovery_after w.shape r (value_found w.shape (recovery_access w.shape.kind r.at) w.words) ≡ next_recovery (machine w) r
recovery_next w r holds e =
    let s = w.shape in
    let a = recovery_access s.kind r.at in
    ap (recovery_after s r) (sym (shown_at s w.words.cached (place_of a) (at_place s a (access_of_recovery w r holds e))))

-- a step of recovery of a world is the machine's
pub recovered_is : (w : State) (r : Recovery) → Holds w → w.recovery ≡ Some r → machine (after_recovery_step w r) ≡ with_recovery_step (machine w) r
recovered_is w r holds e =
    let s = w.shape in
    let a = recovery_access s.kind r.at in
    let memory = shown_accessed s w.words a (at_place s a (access_of_recovery w r holds e)) holds.safe.words.room (omega (arith, holds.safe.words.room, holds.safe.words.same)) in
    let effects : w.log.effects ≡ (with_recovery_step (machine w) r).log.effects = sym (recovery_silent (machine w) (from_invariant _ holds.inv) r e) in
    ap (λ (m : Memory). let x : World = record (machine (after_recovery_step w r)) { memory = m } in x) memory
    ∙ ap (λ (es : List Effect). let x : World = record (with_recovery_step (machine w) r) { log = record { events = recovery_events w.log.events (next_recovery (machine w) r); issued = w.log.issued; effects = es } } in x) effects

kind_recovered : (kind : Kind) (queue : Queue) (next : After Recovery (List Told)) → IsOfKind kind queue → IsOfKind kind (queue_at_ready queue next)
kind_recovered kind queue (go_on r) h = h
kind_recovered durable_kind (Durable told) (Ready t) h = h
kind_recovered durable_kind (Log clients) (Ready t) h = h
kind_recovered log_kind (Durable told) (Ready t) h = h
kind_recovered log_kind (Log clients) (Ready t) h = h

holds_recovered : (w : State) (r : Recovery) → Holds w → w.recovery ≡ Some r → Holds (after_recovery_step w r)
holds_recovered w r holds e =
    let s = w.shape in
    let safe = IsSafe-accessed s w.words w.calls (recovery_access s.kind r.at) (access_of_recovery w r holds e) holds.safe in
    let inv = subst Invariant (sym (recovered_is w r holds e)) (to_invariant _ (inv_recovered (machine w) (from_invariant _ holds.inv) r e)) in
    record {
      safe = record { words = safe.words; clients = safe.clients; few = safe.few; calls_fit = safe.calls_fit };
      kind = kind_recovered s.kind w.queue (next_recovery (machine w) r) holds.kind;
      inv = inv;
      numbers = numbers_recovered w r (from_invariant _ inv) holds.kind holds.numbers;
      floors = subst (AreFloorsRightIn (after_recovery_step w r).queue) (sym (recovered_is w r holds e))
          (floors_recovered (machine w) (from_invariant _ holds.inv) r e w.queue);
      records = subst AreAccountedFor (sym (recovered_is w r holds e))
          (accounted_recovered (machine w) (from_invariant _ holds.inv) r e holds.records);
    }

pub holds_after_recover : (full : Bool) (w : State) → Holds w → Holds (after_recover full w)
holds_after_recover full w holds = go w.recovery refl full
  where
    go : (o : Option Recovery) → w.recovery ≡ o → (f : Bool) → Holds (recover_with f w o)
    go None e f = holds
    go (Some r) e true = holds
    go (Some r) e false = holds_recovered w r holds e

pub part_after_recover : (full : Bool) (w : State) → order_in (after_recover full w) ≡ order_in w
part_after_recover full w = go w.recovery full
  where
    go : (o : Option Recovery) (f : Bool) → order_in (recover_with f w o) ≡ order_in w
    go None f = refl
    go (Some r) true = refl
    go (Some r) false = refl

-- a new world
new_is : (s : Shape) → machine (new_world s) ≡ new_machine s (new_world s).told
new_is s =
    let words : value_of_place s (replicate (size_of s) 0) ≡ (λ p. 0) = shown_zero s (size_of s) in
    let calls : (λ (j : ℕ). slice_index_or (replicate s.clients (let x : Option UnderWay = None in x)) j None) ≡ (λ j. None) = fun_ext (no_call s.clients) in
    let w : World = new_machine s (new_world s).told in
    ap (λ (f : Place → ℕ). let x : World = record (machine (new_world s)) { memory = record { cached = f; kept = f } } in x) words
    ∙ ap (λ (f : ℕ → Option UnderWay). let x : World = record w { calls = f } in x) calls

pub holds_new : (s : Shape) → 1 ≤ s.clients → s.clients ≤ 16 → IsOfKind s.kind (new_queue s.kind s.clients) → Holds (new_world s)
holds_new s some few kind =
    let size = size_of s in
    let zeros : List ℕ = replicate size 0 in
    let long : length zeros ≡ size = length-replicate size 0 in
    let fit : (p : Place) → Fits s p (slice_index zeros (word_at s p)) = λ p. subst (Fits s p) (sym (zero_at size (word_at s p))) (zero_fits s p) in
    record {
      safe = record {
        words = record { room = omega (arith, long); same = refl; cached_count = inl long; count = inl long; cached = λ p at read. fit p; kept = λ p at read. fit p };
        clients = length-replicate s.clients None;
        few = few;
        calls_fit = λ t. subst (IfCall s) (sym (no_call s.clients t)) tt;
      };
      kind = kind;
      inv = subst Invariant (sym (new_is s)) (to_invariant _ (inv_new s (new_world s).told some few (tells_nothing s some few)));
      numbers = numbers_new s.kind s.clients;
      floors = subst (AreFloorsRightIn (new_world s).queue) (sym (new_is s))
          (floors_new s (new_world s).told s.kind s.clients);
      records = accounted_none (machine (new_world s)) refl;
    }

pub new_kind : (kind : Kind) (clients : ℕ) → IsOfKind kind (new_queue kind clients)
new_kind durable_kind clients = tt
new_kind log_kind clients = tt
