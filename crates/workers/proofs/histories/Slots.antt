-- What an act makes of a slot: its history goes on by some events, and the replies of numbers stay.
use Rattle.std.proofs.Common.{◌≡◌, inl, inr, ◌++◌, ℕ, zero, suc, Bool, List, [], ◌∷◌, Option, Some, None, Result, Ok}
use Rattle.std.proofs.Common.{Err, is_ok, if◌then◌else◌, slice_get, refl, sym, ap, subst, ◌∙◌}
use Rattle.std.specs.Prelude.{is_some}
use Rattle.std.proofs.lemmas.Bool.{cases_eq}
use Rattle.std.proofs.lemmas.List.{append-nil}
use Rattle.words.specs.declared.call.Client.{Client}
use Rattle.words.specs.declared.call.Reply.{Reply}
use Rattle.words.specs.declared.refusal.Refusal.{Refusal}
use Rattle.events.specs.declared.event.Event.{Event}
use Rattle.protocol.specs.declared.acts.Act.{Act}
use Rattle.interleave.specs.Holds.{Holds}
use Rattle.interleave.specs.State.{State, after_attempt}
use Rattle.interleave.proofs.Facts.{base_stays, reply_on, uncounted}
use Rattle.named.specs.Acting.{IsSameBeside}
use Rattle.named.specs.Brokers.{Brokered, IsWell, admission, quiet, world_after, world_at}
use Rattle.named.specs.GoingOn.{IsGoneOn}
use Rattle.named.specs.Slots.{acted}
use Rattle.named.specs.declared.recovery.BrokerRecovery.{BrokerRecovery}
use Rattle.named.proofs.Facts.{none_some, on_by_act, on_if_quiet, some_is, world_holds}
use Rattle.session.specs.Promises.{IsReplyIn}
use Rattle.session.specs.Sessions.{Sessioned}
use Rattle.workers.specs.Lists.{events_at, events_of}
use Rattle.workers.proofs.guard.Acts.{HasNext, IsCarriedFor, IsDownRightly, IsNotOf}

-- the history went on by these events, and the reply of each number stays
pub record IsOnBy (was : Option State) (events : List Event) (now : Option State) : Type 0 where
  pub events_are : events_of now ≡ events_of was ++ events
  pub replies : (client : Client) (number : ℕ) (reply : Reply) → IsReplyIn was client number reply
      → IsReplyIn now client number reply

pub stays_if_same : (was now : Option State) → now ≡ was → IsOnBy was [] now
stays_if_same was now e = record {
  events_are = ap events_of e ∙ sym (append-nil (events_of was));
  replies = λ client number reply is.
      subst (λ (o : Option State). IsReplyIn o client number reply) (sym e) is;
}

-- a history that goes on keeps replies, where the base tells the same
on_if_gone : (w : State) (now : Option State) (events : List Event) → IsGoneOn w now
    → ((v : State) → now ≡ Some v → (v.log.events ≡ w.log.events ++ events) × (v.told ≡ w.told))
    → IsOnBy (Some w) events now
on_if_gone w now events on by = record {
  events_are = ap events_of on.is ∙ (by on.world on.is).0;
  replies = λ client number reply is.
      subst (λ (o : Option State). IsReplyIn o client number reply) (sym on.is)
      (reply_on w on.world client number reply on.goes_on (by on.world on.is).1 is);
}

-- a world that differs in the count of accesses alone
pub stays_if_quiet : (was now : Option State) → quiet now ≡ quiet was → IsOnBy was [] now
stays_if_quiet None None e = record { events_are = refl; replies = λ client number reply is. is }
stays_if_quiet None (Some v) e = absurd (cc (e))
stays_if_quiet (Some w) None e = absurd (cc (e))
stays_if_quiet (Some w) (Some v) e =
    let same : uncounted v ≡ uncounted w = cc (e) in
    on_if_gone w (Some v) [] (on_if_quiet w (Some v) e)
    (λ x is.
    let it : v ≡ x = cc (is) in
    subst (λ (x : State). (x.log.events ≡ w.log.events ++ []) × (x.told ≡ w.told)) it
    (ap (λ (x : State). x.log.events) same ∙ sym (append-nil w.log.events), ap (λ (x : State). x.told) same))

-- an act that adds these events
pub goes_by_act : (full : Bool) (w : State) (act : Act ℕ) (events : List Event) (was now : Option State) → Holds w
    → was ≡ Some w → now ≡ Some (after_attempt full w act)
    → (after_attempt full w act).log.events ≡ w.log.events ++ events → IsOnBy was events now
goes_by_act full w act events was now holds there is adds =
    subst (λ (o : Option State). IsOnBy o events now) (sym there)
    (on_if_gone w now events (on_by_act full w act now holds is)
    (λ v same.
    let it : after_attempt full w act ≡ v = some_is now (after_attempt full w act) v is same in
    subst (λ (x : State). (x.log.events ≡ w.log.events ++ events) × (x.told ≡ w.told)) it
    (adds, base_stays full w act)))

-- a slot that is opened had no history, and has none yet
pub stays_if_opened : (was now : Option State) (v : State) → was ≡ None → now ≡ Some v → v.log.events ≡ []
    → IsOnBy was [] now
stays_if_opened was now v none is empty =
    subst (λ (o : Option State). IsOnBy o [] now) (sym none)
    (record { events_are = ap events_of is ∙ empty; replies = λ client number reply it. absurd it })

-- the events of a slot, and the clients that they are not of
pub record IsSlotCarried (crashes : Bool) (client : Client) (was now : Option State) : Type 0 where
  pub rest : List Event
  pub on : IsOnBy was rest now
  pub none : (k : ℕ) (x : Event) → slice_get rest k ≡ Some x → IsNotOf crashes client x

-- no event, or one that is not the client's
pub nothing_of : {crashes : Bool} (client : Client) (was now : Option State) → IsOnBy was [] now
    → IsSlotCarried crashes client was now
nothing_of client was now on = record { rest = []; on = on; none = λ k x at. absurd (none_some at) }

pub one_not_of : {crashes : Bool} (client : Client) (was now : Option State) (event : Event)
    → IsNotOf crashes client event → IsOnBy was (event ∷ []) now → IsSlotCarried crashes client was now
one_not_of {crashes} client was now event other on = record { rest = event ∷ []; on = on; none = only }
  where
    only : (k : ℕ) (x : Event) → slice_get (event ∷ []) k ≡ Some x → IsNotOf crashes client x
    only zero x at = subst (IsNotOf crashes client) (cc (at)) other
    only (suc k) x at = absurd (none_some at)

pub carried_each : {crashes : Bool} (old new : Sessioned) (client : Client)
    → ((slot : ℕ) → IsSlotCarried crashes client (world_at old.broker slot) (world_at new.broker slot))
    → IsDownRightly crashes old new → IsCarriedFor crashes client old new
carried_each old new client each down = record {
  events = λ slot. record { rest = (each slot).rest; is = (each slot).on.events_are; none = (each slot).none };
  replies = λ slot number c reply is. (each slot).on.replies c number reply is;
  down = down;
}

-- the broker is down as it was
pub still_down : {crashes : Bool} (old new : Sessioned) → new.broker.recovery ≡ old.broker.recovery
    → IsDownRightly crashes old new
still_down old new same down = inl (ap (λ (r : Option BrokerRecovery). is_some r) (sym same) ∙ down)

-- all queues as they were
pub same_carried : {crashes : Bool} (old new : Sessioned) → ((slot : ℕ) → world_at new.broker slot ≡ world_at old.broker slot)
    → new.broker.recovery ≡ old.broker.recovery → (client : Client)
    → IsCarriedFor crashes client old new
same_carried old new same recovery client =
    carried_each old new client
    (λ slot.
    nothing_of client (world_at old.broker slot) (world_at new.broker slot)
    (stays_if_same (world_at old.broker slot) (world_at new.broker slot) (same slot)))
    (still_down old new recovery)

pub nothing_carried : {crashes : Bool} (old new : Sessioned) → new ≡ old → (client : Client)
    → IsCarriedFor crashes client old new
nothing_carried old new same =
    same_carried old new (λ slot. ap (λ (s : Sessioned). world_at s.broker slot) same)
    (ap (λ (s : Sessioned). s.broker.recovery) same)

-- the queue of one slot acted
module _ (old new : Sessioned) (slot : ℕ) (others : IsSameBeside slot old.broker new.broker) where
  -- where one slot went on so, each did
  each_on : (P : Option State → Option State → Type 0) → P (world_at old.broker slot) (world_at new.broker slot)
      → ((was now : Option State) → quiet now ≡ quiet was → P was now) → (at : ℕ)
      → P (world_at old.broker at) (world_at new.broker at)
  each_on P here apart at = elim (cases_eq at slot) [
    | inl same ↦
        subst (λ (n : ℕ). P (world_at old.broker n) (world_at new.broker n)) (sym same) here
    | inr ne ↦ apart (world_at old.broker at) (world_at new.broker at) (others.others at ne)
  ]

  -- and no event came
  pub quiet_carried : {crashes : Bool} → IsOnBy (world_at old.broker slot) [] (world_at new.broker slot) → (client : Client)
      → IsCarriedFor crashes client old new
  quiet_carried {crashes} on client =
      carried_each old new client
      (each_on (IsSlotCarried crashes client) (nothing_of client (world_at old.broker slot) (world_at new.broker slot) on)
      (λ was now e. nothing_of client was now (stays_if_quiet was now e)))
      (still_down old new others.recovery)

  -- or one did
  pub next_came : (event : Event) → IsOnBy (world_at old.broker slot) (event ∷ []) (world_at new.broker slot)
      → old.broker.recovery ≡ None → HasNext old new slot event
  next_came event on up = record {
    here = on.events_are;
    others = λ other ne.
        (stays_if_quiet (world_at old.broker other) (world_at new.broker other) (others.others other ne)).events_are
        ∙ append-nil (events_at old.broker other);
    replies = λ at number c reply.
        each_on (λ was now. IsReplyIn was c number reply → IsReplyIn now c number reply)
        (on.replies c number reply) (λ was now e. (stays_if_quiet was now e).replies c number reply) at;
    up = ap (λ (r : Option BrokerRecovery). is_some r) (others.recovery ∙ up);
  }

-- a client's act that adds nothing to the history
pub stays_by_client : (full : Bool) (act : Act ℕ) (old new : Brokered) (slot : ℕ) (client : Client) → IsWell old
    → world_at new slot ≡ world_after (λ w. after_attempt full w act) old slot client
    → ((w : State) → world_at old slot ≡ Some w → admission old client ≡ Ok tt
    → (after_attempt full w act).log.events ≡ w.log.events)
    → IsOnBy (world_at old slot) [] (world_at new slot)
stays_by_client full act old new slot client well world adds =
    go (admission old client) refl (world_at old slot) refl world
  where
    go : (r : Result Unit Refusal) → admission old client ≡ r → (o : Option State) → world_at old slot ≡ o
        → world_at new slot ≡ (if is_ok r then acted (λ w. after_attempt full w act) o else o)
        → IsOnBy (world_at old slot) [] (world_at new slot)
    go (Err refusal) e o there is = stays_if_same (world_at old slot) (world_at new slot) (is ∙ sym there)
    go (Ok u) e None there is = stays_if_same (world_at old slot) (world_at new slot) (is ∙ sym there)
    go (Ok u) e (Some w) there is =
        goes_by_act full w act [] (world_at old slot) (world_at new slot) (world_holds old slot w well there) there is
        (adds w there e ∙ sym (append-nil w.log.events))
