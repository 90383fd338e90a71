-- What the order of a queue says of the calls of a list: those that were answered, and those that a crash ended.
use Rattle.std.proofs.Common.{◌≡◌, ◌<◌, ◌∙◌, ℕ, List, [], None, Option, Some, refl, slice_get, ap, sym, subst, arith}
use Rattle.std.proofs.lemmas.List.Elements.{All-contains}
use Rattle.std.proofs.lemmas.Option.{same_Some, slice_get-get_or, slice_get_within}
use Rattle.words.specs.PlainQueue.{Value, reply_of}
use Rattle.words.specs.declared.call.Call.{Call}
use Rattle.words.specs.declared.call.Client.{Client}
use Rattle.words.specs.declared.call.Kind.{Kind}
use Rattle.words.specs.declared.call.Kind.TheVariants.{Log as log_kind}
use Rattle.words.specs.declared.call.Reply.{Reply}
use Rattle.events.specs.History.{CallAt, IsDurable, IsUnnumbered}
use Rattle.events.specs.Replay.{IsServed, call_at, call_of}
use Rattle.events.specs.Telling.{IsToldIfInterrupted}
use Rattle.events.specs.declared.event.Entry.{Entry as OrderEntry}
use Rattle.events.specs.declared.event.Event.{Event}
use Rattle.events.specs.declared.event.Event.TheVariants.{Call as call_event, Return as return_event}
use Rattle.events.specs.declared.event.Event.TheVariants.{Crash as crash_event, Ready as ready_event}
use Rattle.interleave.specs.Holds.{Holds, IsExplained}
use Rattle.interleave.specs.Numbers.{AreNumbersRisingIn}
use Rattle.interleave.specs.Ranges.{IsOfKind}
use Rattle.interleave.specs.State.{State, order_in}
use Rattle.interleave.specs.declared.queue.Queue.{Queue}
use Rattle.interleave.specs.declared.queue.Queue.TheVariants.{Durable, Log}
use Rattle.named.specs.Brokers.{world_at}
use Rattle.session.specs.Promises.{KeepsNumbers}
use Rattle.session.specs.Requests.{number_or_zero}
use Rattle.session.specs.Sessions.{Sessioned}
use Rattle.session.proofs.Facts.{holds_there}
use Rattle.workers.specs.Accounts.{ArePlainRepliesFit, IsAnsweredAs, IsReplyTo, IsToldOfCall}
use Rattle.workers.specs.Lists.{HasEndedAs, HasEntryAt, IsRecorded, IsRunRight, events_of}
use Rattle.workers.specs.declared.entry.End.{End}
use Rattle.workers.specs.declared.entry.End.TheVariants.{Answered, Interrupted}
use Rattle.workers.specs.declared.entry.Entry.{Entry}

-- each call of a log queue has a number above what its base told, so above 0
numbered_if_log : (w : State) → Holds w → w.shape.kind ≡ log_kind → (p number : ℕ) (client : Client) (call : Call)
    → CallAt w.log.events p client number call → 0 < number
numbered_if_log w holds log p number client call at = go w.queue holds.kind holds.numbers
  where
    go : (queue : Queue) → IsOfKind w.shape.kind queue
        → AreNumbersRisingIn queue w.told w.log.events (order_in w) → 0 < number
    go (Durable reports) kind rise = absurd (subst (λ (k : Kind). IsOfKind k (Durable reports)) log kind)
    go (Log clients) kind rise =
        let above = rise.base p number client (call, at) in
        omega (arith, above)

-- so its history is no durable queue's
not_durable : (w : State) → Holds w → w.shape.kind ≡ log_kind → IsDurable w.log.events → ⊥
not_durable w holds log (k, event, lt, is, unnumbered) =
    go event (slice_get-get_or w.log.events k event lt ∙ ap (λ (x : Event). Some x) is) unnumbered
  where
    go : (x : Event) → slice_get w.log.events k ≡ Some x → IsUnnumbered x → ⊥
    go (call_event client number call) at zero =
        let above : 0 < number = numbered_if_log w holds log k number client call at in
        omega (arith, above, zero)
    go (return_event client reply) at zero = zero
    go crash_event at zero = zero
    go (ready_event told) at zero = zero

-- an entry that has the plain queue's reply to its call
fits_by : (events : List Event) (queue : List Value) (entry : OrderEntry) (call : Call) → IsServed events queue entry
    → call_at events entry.place ≡ Some call → IsReplyTo call entry.reply
fits_by events queue entry call served at = record {
  queue = queue;
  is = served.reply ∙ ap (reply_of queue) (same_Some served.call call (sym served.names ∙ at));
}

module _ (since : ℕ → ℕ) (s : Sessioned) (client : Client) (list : List Entry) (slot place : ℕ) (w : State)
    (keeps : KeepsNumbers s) (recorded : IsRecorded since s client list) (here : world_at s.broker slot ≡ Some w)
    (has : HasEntryAt list slot place) where
  explained : IsExplained w
  explained = keeps.broker.explained slot w here

  right : IsRunRight (since slot) w.log.events client has.entry place
  right = subst (λ (es : List Event). IsRunRight (since slot) es client has.entry place) (ap events_of here)
      ((recorded.ran slot).right has.index place has.entry has.at has.ran)

  ended_as : (end : End) → has.entry.end ≡ end → HasEndedAs w.log.events client place end
  ended_as end is = subst (λ (x : End). HasEndedAs w.log.events client place x) is right.ended

  pub interrupted_told : w.shape.kind ≡ log_kind → has.entry.end ≡ Interrupted
      → IsToldOfCall w client place (number_or_zero has.entry.number)
  interrupted_told log is =
      let cut = ended_as Interrupted is in
      record {
        cut_off = cut;
        told = λ reply taken.
            (All-contains (λ entry. IsToldIfInterrupted w.log.events entry) (order_in w)
            (record { place = place; reply = reply })
            (explained.explains.interrupted
            (not_durable w (holds_there s.broker keeps.broker.well slot w here) log))
            taken).told client (number_or_zero has.entry.number) cut.end has.entry.call right.call cut.ends cut.crash;
      }

  pub answered_taken : (reply : Reply) → has.entry.end ≡ Answered reply → IsAnsweredAs w client place reply
  answered_taken reply is =
      let returned = ended_as (Answered reply) is in
      record {
        returned = returned;
        taken = (explained.explains.answers place (slice_get_within w.log.events place _ right.call)).taken
            returned.end client reply (_, (_, right.call)) returned.ends returned.returns;
      }

  pub answered_fits : (reply : Reply) → has.entry.end ≡ Answered reply → IsReplyTo has.entry.call reply
  answered_fits reply is =
      let taken = (answered_taken reply is).taken in
      let entry : OrderEntry = record { place = place; reply = reply } in
      let at : slice_get (order_in w) taken.0 ≡ Some entry =
      slice_get-get_or (order_in w) taken.0 entry taken.1 ∙ ap (λ (x : OrderEntry). Some x) taken.2 in
      fits_by w.log.events _ entry has.entry.call ((explained.explains.replays taken.0 taken.1).served entry at)
      (ap call_of right.call)

-- a call that has no number ran, and is replied as the plain queue may
pub plain_fits : (since : ℕ → ℕ) (s : Sessioned) (client : Client) (list : List Entry) → KeepsNumbers s
    → IsRecorded since s client list → ArePlainRepliesFit s client list
plain_fits since s client list keeps recorded k e reply at plain is = go e.place refl
  where
    in_world : (place : ℕ) → e.place ≡ Some place → (o : Option State) → world_at s.broker e.queue.0 ≡ o
        → IsReplyTo e.call reply
    in_world place ran None none =
        let right = (recorded.ran e.queue.0).right k place e at (refl, ran) in
        let nowhere : CallAt [] place client (number_or_zero e.number) e.call =
        subst (λ (es : List Event). CallAt es place client (number_or_zero e.number) e.call) (ap events_of none) right.call in
        absurd (cc nowhere)
    in_world place ran (Some w) here =
        answered_fits since s client list e.queue.0 place w keeps recorded here
        (record { index = k; entry = e; at = at; ran = (refl, ran) }) reply is

    go : (o : Option ℕ) → e.place ≡ o → IsReplyTo e.call reply
    go (Some place) ran = in_world place ran (world_at s.broker e.queue.0) refl
    go None none = let kept = recorded.kept k e at none in absurd (cc (kept.number_is, plain))
