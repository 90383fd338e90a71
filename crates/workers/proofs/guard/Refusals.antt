-- Why the calls of a session under the lock are refused, and that a settled number runs no more.
use Rattle.std.proofs.Common.{◌≡◌, ◌∙◌, ◌⊎◌, inl, inr, ◌+◌, ◌<◌, ℕ, Bool, true, false, length, List, Option, Some, None, Result, Ok, Err, refl, sym, ap, subst, slice_get, arith, true≢false}
use Rattle.std.proofs.Common.{slice_index_or, unwrap_or}
use Rattle.std.specs.Prelude.{◌==◌, IfErr, IsSome, IsTrue, ◌||◌, is_some, nat_lt, if◌then◌else◌}
use Rattle.std.specs.List.{list_any}
use Rattle.std.proofs.lemmas.Bool.{eq-eqb, lt-ltb, ltb-false}
use Rattle.std.proofs.lemmas.Bool.Decides.{nat_tests}
use Rattle.std.proofs.lemmas.Option.{slice_get-get_or, slice_get_within, unwrap_or-slice_get}
use Rattle.words.specs.declared.call.Call.{Call}
use Rattle.words.specs.declared.call.Client.{Client}
use Rattle.words.specs.declared.call.Kind.{Kind}
use Rattle.words.specs.declared.call.Kind.TheVariants.{Durable as durable_kind, Log as log_kind}
use Rattle.words.specs.declared.call.Reply.{Reply}
use Rattle.words.specs.declared.limits.TheConstants.{MAX_CALL_NUMBER}
use Rattle.words.specs.declared.refusal.Refusal.{Refusal}
use Rattle.words.specs.declared.refusal.Refusal.TheVariants.{BadName, Busy, DirectoryFull, Exists, Gap, NoClient, NoMemory}
use Rattle.words.specs.declared.refusal.Refusal.TheVariants.{NoQueue, NotReady, Old, StaleNumber, WrongKind}
use Rattle.words.specs.declared.told.Outcome.{Outcome}
use Rattle.words.specs.declared.told.Outcome.TheVariants.{NotTaken, Taken}
use Rattle.words.specs.declared.told.Verdict.{Verdict}
use Rattle.arena.specs.declared.broker.SlotId.{SlotId}
use Rattle.directory.specs.Directory.{HasName, HasQueue, IsNamed}
use Rattle.directory.specs.declared.queue.Queue.{Queue as AnyQueue}
use Rattle.interleave.specs.Calls.{is_no_memory}
use Rattle.interleave.specs.State.{State, start_result}
use Rattle.interleave.specs.Verdicts.{number_of_call, number_under_way}
use Rattle.interleave.proofs.Facts.{IsWhyUnstarted, why_unstarted}
use Rattle.named.specs.Brokers.{Brokered, IsNotCreated, answer_at, answer_if, has_client, world_at}
use Rattle.named.specs.Finding.{IsPlaced}
use Rattle.protocol.specs.declared.UnderWay.{UnderWay}
use Rattle.named.specs.Brokers.{is_down as is_broker_down}
use Rattle.named.specs.Rotating.{has_calls_in, rotate_result}
use Rattle.named.specs.Slots.{answered}
use Rattle.named.specs.declared.recovery.BrokerRecovery.{BrokerRecovery}
use Rattle.named.proofs.Facts.{listed_open}
use Rattle.session.specs.Keeping.{IsSettled}
use Rattle.session.specs.Numbers.{by_last, by_number, by_outcome, missed}
use Rattle.session.specs.Requests.{IsBegunBy, IsRequestBegun, answer_to, as_begun, beginning, is_kind, number_or_zero, queue_admission}
use Rattle.session.specs.Requests.{request_admission}
use Rattle.session.specs.Sessions.{IsLogClient, Sessioned, kept_at}
use Rattle.session.proofs.Facts.{clients_there, holds_there, up_there}
use Rattle.workers.specs.Following.{Guarded, IsGuardedWell}
use Rattle.workers.specs.Lists.{ends_open, events_at, events_of}
use Rattle.workers.specs.Refusals.{IsSettledStart, IsWhyNotTold, IsWhyRefused, WasSettled, is_rotation_refusal}
use Rattle.workers.specs.Refusals.{is_settled_refusal, kind_asked}
use Rattle.workers.specs.Seen.{IsRefusedAt, IsRefusedIn, IsWhyNotCreated, begun_to}
use Rattle.workers.specs.declared.entry.Entry.{Entry}
use Rattle.workers.specs.Coming.{CameThrough}
use Rattle.workers.specs.declared.entry.Request.{Request}
use Rattle.workers.proofs.brokers.Comings.{queues_through}
use Rattle.workers.proofs.seats.FirstSession.{all_clients, is_client, none_calls}
use Rattle.workers.proofs.guard.Acts.{CallsNow}
use Rattle.workers.proofs.brokers.QueueKinds.{kind_of_queue}
use Rattle.workers.proofs.histories.Steps.{calls_now}

-- a name that a queue had at the beginning is taken for good
pub taken_still : (first now : Brokered) (was : Bool) (name : List ℕ) → CameThrough first was now → HasName first.directory name
    → HasName now.directory name
taken_still first now was name came has = record {
  slot = has.slot;
  here = record {
    queue = has.here.queue;
    has = queues_through first was now came has.slot has.here.queue has.here.has;
    named = has.here.named;
  };
}

-- a queue of this name that there was when the seats were given is in the slot that has the name now
module _ (all : ℕ) (first : Sessioned) (g : Guarded) (well : IsGuardedWell all first g) (slot : ℕ) (name : List ℕ)
    (named : IsNamed g.session.broker.directory slot name) (was : ℕ) (q : AnyQueue)
    (has : HasQueue first.broker.directory was q) (called : q.name ≡ name) where
  still : HasQueue g.session.broker.directory was q
  still = queues_through first.broker g.rotated g.session.broker well.came was q has

  pub slot_still : was ≡ slot
  slot_still =
      well.promises.broker.well.listed.once was slot q named.queue still named.has (called ∙ sym named.named)

  pub queue_there : HasQueue g.session.broker.directory slot q
  queue_there = subst (λ (n : ℕ). HasQueue g.session.broker.directory n q) slot_still still

-- a refusal, if it is one, has this reason
abbrev pub Within : {T : Type 0} → (Refusal → Type 0) → Result T Refusal → Type 0
Within P r = IfErr r P

-- one of two
chosen : {T : Type 0} (P : Refusal → Type 0) (b : Bool) (x y : Result T Refusal) → (b ≡ true → Within P x)
    → (b ≡ false → Within P y) → Within P (if b then x else y)
chosen P true x y left right = left refl
chosen P false x y left right = right refl

-- what a number comes to: Old and Gap are of numbers alone
module _ (P : Refusal → Type 0) (old : P Old) (gap : P Gap) where
  missed_within : (last number : ℕ) → Within P (missed last number)
  missed_within last number = chosen P (nat_lt number last) (Err Old) (Err Gap) (λ e. old) (λ e. gap)

  outcome_within : (outcome : Outcome) (last number : ℕ) → Within P (by_outcome outcome last number)
  outcome_within (Taken reply) last number =
      chosen P (number == last) (Ok (Some reply)) _ (λ e. tt)
      (λ e. chosen P (number == last + 1) (Ok None) (missed last number) (λ f. tt) (λ f. missed_within last number))
  outcome_within NotTaken last number =
      chosen P (number == last) (Ok None) (missed last number) (λ e. tt) (λ e. missed_within last number)

  last_within : (last : Option Verdict) (number : ℕ) → Within P (by_last last number)
  last_within (Some verdict) number = outcome_within verdict.outcome verdict.number number
  last_within None number = chosen P (number == 1) (Ok None) (Err Gap) (λ e. tt) (λ e. gap)

  number_within : (last : Option Verdict) (number : ℕ) → Within P (by_number last number)
  number_within last number =
      chosen P (number == 0) (Err Old) (by_last last number) (λ e. old) (λ e. last_within last number)

-- a call that is under way by the queue
some_call : (w : State) (client : Client) → is_some (number_under_way w client) ≡ true
    → (u : UnderWay) × (slice_get w.calls client.0 ≡ Some (Some u))
some_call w client some = go (slice_get w.calls client.0) refl
  where
    none : slice_index_or w.calls client.0 None ≡ None → ⊥
    none is = true≢false (sym some ∙ ap (λ (o : Option UnderWay). is_some (number_of_call o)) is)

    go : (o : Option (Option UnderWay)) → slice_get w.calls client.0 ≡ o
        → (u : UnderWay) × (slice_get w.calls client.0 ≡ Some (Some u))
    go None at =
        absurd (none (sym (unwrap_or-slice_get w.calls client.0 None)
        ∙ ap (λ (o : Option (Option UnderWay)). unwrap_or o None) at))
    go (Some None) at =
        absurd (none (sym (unwrap_or-slice_get w.calls client.0 None)
        ∙ ap (λ (o : Option (Option UnderWay)). unwrap_or o None) at))
    go (Some (Some u)) at = (u, at)

module _ (all : ℕ) (first : Sessioned) (g : Guarded) (well : IsGuardedWell all first g) (client : Client)
    (list : List Entry) (known : slice_get g.rows client.0 ≡ Some list) (ended : ends_open list ≡ false)
    (queue : SlotId) (r : Request) (named : IsNamed g.session.broker.directory queue.0 r.name) where
  abbrev s : Sessioned
  s = g.session

  abbrev asked : Option ℕ
  asked = r.number

  -- stale is a number that the start has said to be too great
  abbrev Why : Refusal → Type 0
  Why e = (e ≡ StaleNumber → MAX_CALL_NUMBER < number_or_zero asked) → IsWhyRefused first list r e

  closed : world_at s.broker queue.0 ≡ None → Why NoQueue
  closed none stale has =
      let is_open = listed_open s.broker queue.0 named.queue well.promises.broker.well named.has in
      absurd (cc (is_open, none))

  calling : CallsNow (events_at s.broker queue.0) client → Why Busy
  calling calls stale up = absurd (none_calls all first g well up client list known ended queue.0 calls)

  -- a client's act is refused by its queue, or before
  by_act : {T : Type 0} (f : State → Result T Refusal)
      → ((w : State) → s.broker.recovery ≡ None → world_at s.broker queue.0 ≡ Some w → Within Why (f w))
      → Within Why (answer_at f s.broker queue.0 client)
  by_act {T} f own = go (has_client s.broker client) (is_client all first g well client list known) s.broker.recovery
      refl (world_at s.broker queue.0) refl
    where
      let_in : Bool → Option BrokerRecovery → Result Unit Refusal
      let_in h o = if h then (if is_some o then Err NotReady else Ok tt) else Err NoClient

      go : (h : Bool) → h ≡ true → (o : Option BrokerRecovery) → s.broker.recovery ≡ o → (world : Option State)
          → world_at s.broker queue.0 ≡ world → Within Why (answer_if (let_in h o) (answered f world))
      go false never o up world there = absurd (true≢false (sym never))
      go true _ (Some r) up world there = λ stale. refl
      go true _ None up None there = closed there
      go true _ None up (Some w) there = own w up there

  module _ (w : State) (up : s.broker.recovery ≡ None) (here : world_at s.broker queue.0 ≡ Some w) where
    calls_here : (u : UnderWay) → slice_get w.calls client.0 ≡ Some (Some u) → Why Busy
    calls_here u at =
        calling (subst (λ (o : Option State). CallsNow (events_of o) client) (sym here)
        (calls_now w (holds_there s.broker well.promises.broker.well queue.0 w here)
        (up_there s.broker well.promises.broker.well queue.0 w here up) client u at))

    busy_here : is_some (number_under_way w client) ≡ true → Why Busy
    busy_here some = let call = some_call w client some in calls_here call.0 call.1

    -- it is of the kind that a call is for, if there was such a queue
    other_kind : (kind : Kind) → kind ≡ kind_asked asked → is_kind kind w.shape.kind ≡ false → Why WrongKind
    other_kind kind is other stale slot q has called same =
        let there = queue_there all first g well queue.0 r.name named slot q has called in
        let its = kind_of_queue s.broker well.promises.broker.well queue.0 w q here there in
        no_other (kind_asked asked) (ap (λ (k : Kind). is_kind k w.shape.kind) (sym is)
        ∙ other) (its ∙ same)
      where
        no_other : (k : Kind) → is_kind k w.shape.kind ≡ false → w.shape.kind ≡ k → ⊥
        no_other durable_kind never e = true≢false (sym (ap (is_kind durable_kind) e) ∙ never)
        no_other log_kind never e = true≢false (sym (ap (is_kind log_kind) e) ∙ never)

    -- why a start is refused
    unstarted : (refusal : Refusal) → IsWhyUnstarted w client (number_or_zero asked) refusal → Why refusal
    unstarted NoClient none = absurd (none_there (slice_get-get_or w.calls client.0 None below) none)
      where
        none_there : {x : Option UnderWay} → slice_get w.calls client.0 ≡ Some x → slice_get w.calls client.0 ≡ None → ⊥
        none_there e f = absurd (cc (e, f))

        below : client.0 < length w.calls
        below =
            let few = slice_get_within g.rows client.0 list known in
            let clients = (holds_there s.broker well.promises.broker.well queue.0 w here).safe.clients in
            let same = clients_there s.broker well.promises.broker.well queue.0 w here in
            omega (arith, few, well.clients, clients, same, all_clients all first g well)
    unstarted Busy call = calls_here call.0 call.1
    unstarted StaleNumber why = λ stale. stale refl
    unstarted NoQueue why = absurd (cc (why))
    unstarted WrongKind why = absurd (cc (why))
    unstarted Old why = absurd (cc (why))
    unstarted Gap why = absurd (cc (why))
    unstarted _ why = λ stale. why

    start_within : (full : Bool) (call : Call)
        → Within Why (as_begun (start_result full w client (number_or_zero asked) call))
    start_within full call =
        go (start_result full w client (number_or_zero asked) call)
        (why_unstarted full w client (number_or_zero asked) call)
      where
        go : (r : Result Unit Refusal) → IfErr r (IsWhyUnstarted w client (number_or_zero asked))
            → Within Why (as_begun r)
        go (Ok u) why = tt
        go (Err refusal) why = unstarted refusal why

    queue_within : (kind : Kind) → kind ≡ kind_asked asked → Within Why (queue_admission kind client w)
    queue_within kind is =
        chosen Why (is_kind kind w.shape.kind) _ (Err WrongKind)
        (λ e. chosen Why (is_some (number_under_way w client)) (Err Busy) (Ok tt) busy_here (λ f. tt))
        (other_kind kind is)

  -- why a request is refused whatever its number
  request_within : (kind : Kind) → kind ≡ kind_asked asked → Within Why (request_admission kind s.broker queue.0 client)
  request_within kind is = by_act (queue_admission kind client) (λ w up here. queue_within w up here kind is)

  let_in_within : (r : Result Unit Refusal) (answer : Result (Option Reply) Refusal) → Within Why r → Within Why answer
      → Within Why (answer_if r answer)
  let_in_within (Ok u) answer why own = own
  let_in_within (Err refusal) answer why own = why

  -- what it comes to
  comes_within : Within Why (answer_to s queue.0 client asked)
  comes_within = go asked refl
    where
      go : (o : Option ℕ) → asked ≡ o → Within Why (answer_to s queue.0 client o)
      go (Some n) is =
          let number : IsSome asked = subst (λ (o : Option ℕ). IsSome o) (sym is) refl in
          let_in_within (request_admission log_kind s.broker queue.0 client) _
          (request_within log_kind (ap kind_asked (sym is)))
          (number_within Why (λ stale. number) (λ stale. number) (kept_at s queue.0 client) n)
      go None is =
          let_in_within (request_admission durable_kind s.broker queue.0 client) _
          (request_within durable_kind (ap kind_asked (sym is))) tt

  begin_within : (new : Sessioned) (call : Call) (r comes : Result (Option Reply) Refusal)
      → IsBegunBy s new queue.0 client (number_or_zero asked) call r comes → Within Why comes → Within Why r
  begin_within new call r (Err refusal) act why =
      subst (λ (x : Result (Option Reply) Refusal). Within Why x) (sym act.0) why
  begin_within new call r (Ok (Some reply)) act why =
      subst (λ (x : Result (Option Reply) Refusal). Within Why x) (sym act.0) tt
  begin_within new call r (Ok None) act why =
      subst (λ (x : Result (Option Reply) Refusal). Within Why x) (sym act.0.act.answers)
      (by_act (λ w. as_begun (start_result (is_no_memory r) w client (number_or_zero asked) call))
      (λ w up here. start_within w up here (is_no_memory r) call))

  pub why_refused : (new : Sessioned) (call : Call) (refusal : Refusal)
      → IsBegunBy s new queue.0 client (number_or_zero asked) call (Err refusal) (answer_to s queue.0 client asked)
      → ((let o : Result (Option Reply) Refusal = Err refusal in o) ≡ Err StaleNumber
      → MAX_CALL_NUMBER < number_or_zero asked)
      → IsWhyRefused first list r refusal
  why_refused new call refusal act above =
      begin_within new call (Err refusal) (answer_to s queue.0 client asked) act comes_within
      (λ stale. above (ap (λ (e : Refusal). let r : Result (Option Reply) Refusal = Err e in r) stale))

-- a settled number has its reply, or is Old
settled_outcome : (outcome : Outcome) (last n : ℕ) (reply : Reply)
    → ((last ≡ n) × (outcome ≡ Taken reply)) ⊎ (n < last) → IsSettledStart reply (by_outcome outcome last n)
settled_outcome (Taken own) last n reply (inl same) =
    subst (λ (b : Bool). IsSettledStart reply (if b then Ok (Some own) else (if n == last + 1 then Ok None else missed last n)))
    (sym (eq-eqb n last (sym same.0))) (ap (λ (o : Outcome). reply_or reply o) same.1)
  where
    reply_or : Reply → Outcome → Option Reply
    reply_or other (Taken r) = Some r
    reply_or other NotTaken = None
settled_outcome NotTaken last n reply (inl same) = absurd (cc (same.1))
settled_outcome (Taken own) last n reply (inr less) = grind (arith, nat_tests, less)
settled_outcome NotTaken last n reply (inr less) = grind (arith, nat_tests, less)

settled_number : (last : Option Verdict) (n : ℕ) (reply : Reply) → IsSettled last n reply
    → IsSettledStart reply (by_number last n)
settled_number None n reply settled = absurd settled
settled_number (Some verdict) n reply settled = go (n == 0)
  where
    cases : ((verdict.number ≡ n) × (verdict.outcome ≡ Taken reply)) ⊎ (n < verdict.number)
    cases = elim settled [
      | inl same ↦ inl (ap (λ (v : Verdict). v.number) same, ap (λ (v : Verdict). v.outcome) same)
      | inr less ↦ inr less
    ]

    go : (b : Bool) → IsSettledStart reply (if b then Err Old else by_outcome verdict.outcome verdict.number n)
    go true = refl
    go false = settled_outcome verdict.outcome verdict.number n reply cases

module _ (all : ℕ) (first : Sessioned) (g : Guarded) (well : IsGuardedWell all first g) (client : Client)
    (queue : SlotId) (r : Request) (named : IsNamed g.session.broker.directory queue.0 r.name) (reply : Reply)
    (was : WasSettled first client r reply) where
  abbrev b : Brokered
  b = g.session.broker

  -- it was in this slot
  slot_is : was.slot ≡ queue.0
  slot_is = slot_still all first g well queue.0 r.name named was.slot was.named.queue was.named.has was.named.named

  was_its : IsLogClient first.broker queue.0 client
  was_its = subst (λ (n : ℕ). IsLogClient first.broker n client) slot_is was.its

  its : IsLogClient b queue.0 client
  its = well.goes_on.clients queue.0 client was_its

  settled_answer : IsSettledStart reply (answer_to g.session queue.0 client (Some was.n))
  settled_answer = go (has_client b client) has b.recovery (world_at b queue.0) its.here
    where
      has : has_client b client ≡ true
      has =
          let few = its.few in
          let same = clients_there b well.promises.broker.well queue.0 its.world its.here in
          let below : client.0 < b.counts.clients = omega (arith, few, same) in
          lt-ltb client.0 b.counts.clients below

      let_in : Bool → Option BrokerRecovery → Result Unit Refusal
      let_in h o = if h then (if is_some o then Err NotReady else Ok tt) else Err NoClient

      by_kind : (k : Bool) → k ≡ true → (busy : Bool)
          → IsSettledStart reply (answer_if (if k then (if busy then Err Busy else Ok tt) else Err WrongKind)
          (by_number (kept_at g.session queue.0 client) was.n))
      by_kind false never busy = absurd (true≢false (sym never))
      by_kind true _ true = refl
      by_kind true _ false =
          settled_number (kept_at g.session queue.0 client) was.n reply
          (well.goes_on.answers queue.0 client was.n reply was_its
          (subst (λ (n : ℕ). IsSettled (kept_at first n client) was.n reply) slot_is was.settled))

      go : (h : Bool) → h ≡ true → (o : Option BrokerRecovery) → (world : Option State) → world ≡ Some its.world
          → IsSettledStart reply (answer_if (answer_if (let_in h o) (answered (queue_admission log_kind client) world))
          (by_number (kept_at g.session queue.0 client) was.n))
      go false never o world here = absurd (true≢false (sym never))
      go true _ (Some r) world here = refl
      go true _ None None here = absurd (cc (here))
      go true _ None (Some w) here =
          let same : w ≡ its.world = cc (here) in
          by_kind (is_kind log_kind w.shape.kind) (ap (λ (v : State). is_kind log_kind v.shape.kind) same
          ∙ ap (is_kind log_kind) its.log) (is_some (number_under_way w client))

  begun_settled : (new : Sessioned) (number : ℕ) (call : Call) (o comes : Result (Option Reply) Refusal)
      → IsBegunBy g.session new queue.0 client number call o comes → IsSettledStart reply comes → IsSettledStart reply o
  begun_settled new number call o (Err refusal) act why = subst (IsSettledStart reply) (sym act.0) why
  begun_settled new number call o (Ok (Some kept)) act why = subst (IsSettledStart reply) (sym act.0) why
  begun_settled new number call o (Ok None) act why = absurd (cc (why))

  pub settled_start : (new : Sessioned) (number : ℕ) (call : Call) (o : Result (Option Reply) Refusal)
      → IsBegunBy g.session new queue.0 client number call o (answer_to g.session queue.0 client r.number)
      → IsSettledStart reply o
  settled_start new number call o act =
      begun_settled new number call o (answer_to g.session queue.0 client (Some was.n))
      (subst (λ (n : Option ℕ). IsBegunBy g.session new queue.0 client number call o
      (answer_to g.session queue.0 client n)) was.number_is act) settled_answer

-- where no slot is found for a call, that is why it is refused
pub unplaced : (all : ℕ) (first : Sessioned) (g : Guarded) → IsGuardedWell all first g → (list : List Entry)
    (r : Request) (refusal : Refusal) → IsPlaced g.session.broker r.name (Err refusal)
    → IsWhyRefused first list r refusal
unplaced all first g well list r NotReady placed = refl
unplaced all first g well list r NoQueue placed = λ has.
    placed.1 (taken_still first.broker g.session.broker g.rotated r.name well.came has)
unplaced all first g well list r _ placed = absurd placed

-- and the number of a queue that there was may be refused so
pub unplaced_settled : (all : ℕ) (first : Sessioned) (g : Guarded) → IsGuardedWell all first g → (client : Client)
    (r : Request) (reply : Reply) → WasSettled first client r reply → (refusal : Refusal)
    → IsPlaced g.session.broker r.name (Err refusal) → is_settled_refusal refusal ≡ true
unplaced_settled all first g well client r reply was NotReady placed = refl
unplaced_settled all first g well client r reply was NoQueue placed =
    absurd (placed.1 (taken_still first.broker g.session.broker g.rotated r.name well.came
    (record { slot = was.slot; here = was.named })))
unplaced_settled all first g well client r reply was _ placed = absurd placed

-- nor is a client told
pub unplaced_told : (all : ℕ) (first : Sessioned) (g : Guarded) → IsGuardedWell all first g → (name : List ℕ)
    (client : Client) (refusal : Refusal) → IsPlaced g.session.broker name (Err refusal)
    → IsWhyNotTold all first name client refusal
unplaced_told all first g well name client NotReady placed = tt
unplaced_told all first g well name client NoQueue placed = λ has.
    placed.1 (taken_still first.broker g.session.broker g.rotated name well.came has)
unplaced_told all first g well name client _ placed = absurd placed

-- in the queue of a name a client is told, but where there is none of this number, or the broker recovers
pub told_refused : {T : Type 0} (f : State → Result T Refusal) (all : ℕ) (first : Sessioned) (g : Guarded)
    → IsGuardedWell all first g → (name : List ℕ) (slot : ℕ) → IsNamed g.session.broker.directory slot name
    → (client : Client) → ((w : State) → Within (IsWhyNotTold all first name client) (f w))
    → Within (IsWhyNotTold all first name client) (answer_at f g.session.broker slot client)
told_refused {T} f all first g well name slot named client own = go (has_client b client) refl b.recovery (world_at b slot) refl
  where
    b : Brokered
    b = g.session.broker

    let_in : Bool → Option BrokerRecovery → Result Unit Refusal
    let_in h o = if h then (if is_some o then Err NotReady else Ok tt) else Err NoClient

    go : (h : Bool) → has_client b client ≡ h → (o : Option BrokerRecovery) → (world : Option State)
        → world_at b slot ≡ world
        → Within (IsWhyNotTold all first name client) (answer_if (let_in h o) (answered f world))
    go false none o world there =
        let least = ltb-false client.0 b.counts.clients none in
        let same = all_clients all first g well in
        omega (arith, least, same)
    go true has (Some r) world there = tt
    go true has None None there =
        let is_open = listed_open b slot named.queue well.promises.broker.well named.has in
        absurd (cc (is_open, there))
    go true has None (Some w) there = own w

-- a rotation is refused as it may be
pub rotation_refused : (full : Bool) (b : Brokered) (refusal : Refusal)
    → (let r : Result Unit Refusal = Err refusal in r) ≡ rotate_result full b → IsTrue (is_rotation_refusal refusal)
rotation_refused full b refusal is = go (is_broker_down b) (is_some b.creation || list_any has_calls_in b.slots) full is
  where
    go : (down busy f : Bool) → (let r : Result Unit Refusal = Err refusal in r)
        ≡ (if down then Err NotReady else (if busy then Err Busy else (if f then Err NoMemory else Ok tt)))
        → IsTrue (is_rotation_refusal refusal)
    go true busy f e =
        subst (λ (y : Refusal). IsTrue (is_rotation_refusal y)) (let s : NotReady ≡ refusal = cc (e) in s) refl
    go false true f e = subst (λ (y : Refusal). IsTrue (is_rotation_refusal y)) (let s : Busy ≡ refusal = cc (e) in s) refl
    go false false true e =
        subst (λ (y : Refusal). IsTrue (is_rotation_refusal y)) (let s : NoMemory ≡ refusal = cc (e) in s) refl
    go false false false e = absurd (cc (e))

-- a request that was refused is refused by the session as it was before
pub refused_in : (s new : Sessioned) (slot : ℕ) (client : Client) (r : Request) (refusal : Refusal)
    → IsRequestBegun s new slot client r.number r.call (Err refusal) → IsRefusedIn s slot client r refusal
refused_in s new slot client r refusal begun = go (answer_to s slot client r.number) refl begun
  where
    start : Bool → Result (Option Reply) Refusal
    start full = answer_at ((beginning client (number_or_zero r.number) r.call).answers full) s.broker slot client

    go : (answer : Result (Option Reply) Refusal) → answer_to s slot client r.number ≡ answer
        → IsBegunBy s new slot client (number_or_zero r.number) r.call (Err refusal) answer
        → IsRefusedIn s slot client r refusal
    go (Err why) is act = record {
      full = false;
      no_room = λ never. absurd (true≢false (sym never));
      outcome = ap (λ (a : Result (Option Reply) Refusal). begun_to a (start false)) is ∙ sym act.0;
    }
    go (Ok (Some reply)) is act = absurd (cc (act.0))
    go (Ok None) is act =
        let refused : Result (Option Reply) Refusal = Err refusal in
        record {
          full = is_no_memory refused;
          no_room = act.0.act.full;
          outcome = ap (λ (a : Result (Option Reply) Refusal). begun_to a (start (is_no_memory refused))) is
              ∙ sym act.0.act.answers;
        }

-- and, where the queue of its name was found, so
pub refused_found : (s : Sessioned) (client : Client) (r : Request) (queue : SlotId) (result : Result (Option Reply) Refusal)
    → IsPlaced s.broker r.name (Ok queue) → IfErr result (IsRefusedIn s queue.0 client r)
    → IfErr result (IsRefusedAt s client r)
refused_found s client r queue (Ok began) placed refused = tt
refused_found s client r queue (Err refusal) placed refused =
    record { place = Ok queue; placed = placed; refused = refused }

-- why a creation is not begun
pub not_created : (b : Brokered) (name : List ℕ) (refusal : Refusal) → IsNotCreated b name refusal
    → IsWhyNotCreated b name refusal
not_created b name BadName why = why
not_created b name NotReady why = why.1
not_created b name Busy why = why.1
not_created b name Exists why = (why.1, why.3)
not_created b name DirectoryFull why = (why.0.ready, why.1)
not_created b name _ why = absurd why
