-- A call that was answered is in its queue's order still, after a restart too.
use Rattle.std.proofs.Common.{◌≡◌, ◌<◌, ℕ, Bool, false, List, ◌++◌, Option, Some, None, refl, sym, ap, subst, take}
use Rattle.std.proofs.lemmas.Option.{slice_get_within}
use Rattle.words.specs.declared.call.Call.{Call}
use Rattle.words.specs.declared.call.Client.{Client}
use Rattle.words.specs.declared.call.Reply.{Reply}
use Rattle.events.specs.declared.event.Event.{Event}
use Rattle.events.specs.History.{BeginsAt, CallAt, IsEnd, ReturnAt}
use Rattle.events.specs.Orders.{IsTakenAs}
use Rattle.events.specs.Replay.{call_at, call_of}
use Rattle.events.proofs.Facts.{get_longer, is_end_longer}
use Rattle.interleave.specs.Holds.{IsExplained}
use Rattle.interleave.specs.Standing.{GoesOn}
use Rattle.interleave.specs.State.{State, kept_content, order_in}
use Rattle.named.specs.Brokers.{Brokered, world_at}
use Rattle.named.specs.GoingOn.{BrokerGoesOn, IsGoneOn}
use Rattle.named.proofs.Facts.{came_unrotated}
use Rattle.session.specs.Requests.{number_or_zero}
use Rattle.session.specs.Sessions.{Sessioned}
use Rattle.workers.specs.Coming.{CameThrough}
use Rattle.workers.specs.Coming.CameThrough.{renewed, unrenewed}
use Rattle.workers.specs.Lists.{HasEndedAs, HasReturned, IsRunRight, events_at, events_of}
use Rattle.workers.specs.Moments.{GoesOnLater}
use Rattle.workers.specs.declared.entry.End.TheVariants.{Answered}
use Rattle.lasting.specs.Lasting.{HasMoments, ReadsLater}
use Rattle.journal_file.specs.OnDevice.{OnDevice}
use Rattle.journal.specs.Journal.{words_after}
use Rattle.opening.specs.Opening.{IsOpened}
use Rattle.desk.specs.Telling.{IsReplied}
use Rattle.desk.specs.declared.calls.Asked.{Asked}
use Rattle.server.specs.Restarting.{AreRepliesHeld, GoesOnFrom, IsHeldAfter, IsReopenedLater, words_read}
use Rattle.server.proofs.Restarts.{goes_on_from}

-- where no history ended, the queues and their histories went on
through_unended : (first now : Brokered) → CameThrough first false now → BrokerGoesOn first now
through_unended first now (unrenewed came) = came_unrotated first now came

on_unended : (earlier later : Sessioned) (on : GoesOnLater earlier later) → on.ended ≡ false
    → BrokerGoesOn earlier.broker later.broker
on_unended earlier later on none =
    through_unended earlier.broker later.broker
    (subst (λ (e : Bool). CameThrough earlier.broker e later.broker) none on.came)

-- a call that has returned, in the history of a slot
record HasReturnedAt (events : List Event) (client : Client) (call : Call) (place : ℕ) (reply : Reply) : Type 0 where
  number : ℕ
  begins : CallAt events place client number call
  returned : HasReturned events client place reply

returned_longer : (events more : List Event) (client : Client) (call : Call) (place : ℕ) (reply : Reply)
    → HasReturnedAt events client call place reply → HasReturnedAt (events ++ more) client call place reply
returned_longer events more client call place reply has = record {
  number = has.number;
  begins = get_longer events more place _ has.begins;
  returned = record {
    end = has.returned.end;
    ends =
        is_end_longer events more client place has.returned.end
        (slice_get_within events has.returned.end _ has.returned.returns) has.returned.ends;
    returns = get_longer events more has.returned.end _ has.returned.returns;
  };
}

-- a queue that has it, and whose history goes on, has it
record HasReturnedIn (b : Brokered) (slot : ℕ) (client : Client) (call : Call) (place : ℕ) (reply : Reply) : Type 0 where
  world : State
  here : world_at b slot ≡ Some world
  has : HasReturnedAt world.log.events client call place reply

returned_on : (old new : Brokered) (slot : ℕ) (client : Client) (call : Call) (place : ℕ) (reply : Reply)
    → BrokerGoesOn old new → HasReturnedIn old slot client call place reply
    → HasReturnedIn new slot client call place reply
returned_on old new slot client call place reply on in_old =
    let gone : IsGoneOn in_old.world (world_at new slot) = on.worlds slot in_old.world in_old.here in
    record {
      world = gone.world;
      here = gone.is;
      has =
          subst (λ (events : List Event). HasReturnedAt events client call place reply) (sym gone.goes_on.grown.is)
          (returned_longer in_old.world.log.events gone.goes_on.grown.rest client call place reply in_old.has);
    }

-- a slot with an event is open
returned_there : (world : Option State) (b : Brokered) (slot : ℕ) (client : Client) (call : Call) (place : ℕ)
    (reply : Reply) → world_at b slot ≡ world → HasReturnedAt (events_of world) client call place reply
    → HasReturnedIn b slot client call place reply
returned_there None b slot client call place reply is has = absurd (cc has.begins)
returned_there (Some w) b slot client call place reply is has = record { world = w; here = is; has = has }

-- what the seat's list has
returned_at_first : (first now : Sessioned) (client : Client) (asked : Asked) (reply : Reply) (place : ℕ)
    (replied : IsReplied first now client asked reply) → replied.has.entry.place ≡ Some place
    → HasReturnedIn replied.session.broker replied.has.entry.queue.0 client asked.call place reply
returned_at_first first now client asked reply place replied ran =
    let entry = replied.has.entry in
    let slot : ℕ = entry.queue.0 in
    let events : List Event = events_at replied.session.broker slot in
    let right : IsRunRight _ events client entry place =
    (replied.marked.recorded.ran slot).right replied.has.index place entry replied.has.at (refl, ran) in
    let ended : HasReturned events client place reply =
    subst (λ end. HasEndedAs events client place end) replied.has.end right.ended in
    returned_there (world_at replied.session.broker slot) replied.session.broker slot client asked.call place reply refl
    (record {
      number = number_or_zero entry.number;
      begins =
          subst (λ (call : Call). CallAt events place client (number_or_zero entry.number) call) (sym replied.has.call)
          right.call;
      returned = ended;
    })

-- it is in the order, which explains the history
taken_there : (w : State) (client : Client) (call : Call) (place : ℕ) (reply : Reply) → IsExplained w
    → HasReturnedAt w.log.events client call place reply → IsTakenAs (order_in w) place reply
taken_there w client call place reply explained has =
    let begins : BeginsAt w.log.events client place = (has.number, (call, has.begins)) in
    (explained.explains.answers place (slice_get_within w.log.events place _ has.begins)).taken has.returned.end client
    reply begins has.returned.ends has.returned.returns

module _ (first now : Sessioned) (b : Brokered) (later : IsReopenedLater first now b)
    (unended : later.left.later.ended ≡ false) where
  last : Sessioned
  last = later.has.session later.left.reads.whole

  from : GoesOnFrom last b
  unfolding last
  from =
      goes_on_from first last (words_after (take later.left.reads.whole later.has.batches) later.has.base) b
      later.left.reads.moment later.opened

  pub replies_held : AreRepliesHeld first now b
  unfolding last from
  replies_held client asked reply place replied ran since =
      let slot : ℕ = replied.has.entry.queue.0 in
      let at_now : HasReturnedIn now.broker slot client asked.call place reply =
      returned_on replied.session.broker now.broker slot client asked.call place reply
      (on_unended replied.session now replied.later since)
      (returned_at_first first now client asked reply place replied ran) in
      let at_last : HasReturnedIn last.broker slot client asked.call place reply =
      returned_on now.broker last.broker slot client asked.call place reply
      (on_unended now last later.left.later unended) at_now in
      let w : State = at_last.world in
      let explained : IsExplained w = later.left.reads.moment.promises.broker.explained slot w at_last.here in
      let opened = from.queues slot w at_last.here in
      record {
        left = w;
        explained = explained;
        names = ap (λ e. call_of e) at_last.has.begins;
        taken = taken_there w client asked.call place reply explained at_last.has;
        world = opened.world;
        is = opened.is;
        holds = opened.holds;
      }
