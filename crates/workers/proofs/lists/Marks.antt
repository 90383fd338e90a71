-- What the moment of a mark says of the answers of a seat's list.
use Rattle.std.proofs.Common.{◌≡◌, ◌<◌, ℕ, List, Some, None, Ok, inl, ap, subst}
use Rattle.words.specs.declared.call.Client.{Client}
use Rattle.words.specs.declared.call.Kind.TheVariants.{Log as log_kind}
use Rattle.words.specs.declared.call.Reply.{Reply}
use Rattle.events.specs.History.{CallAt}
use Rattle.events.specs.declared.event.Event.{Event}
use Rattle.interleave.specs.State.{State}
use Rattle.interleave.specs.Verdicts.{IsIdle, IsTakenNumber, kept_told}
use Rattle.named.specs.Brokers.{world_at}
use Rattle.session.specs.Keeping.{IsSettled, verdict_heard}
use Rattle.session.specs.Requests.{number_or_zero}
use Rattle.session.specs.Sessions.{Sessioned, kept_at}
use Rattle.workers.specs.Accounts.{IsAnsweredAs}
use Rattle.workers.specs.Following.{beginnings}
use Rattle.workers.specs.Lists.{HasEntryAt, events_of}
use Rattle.workers.specs.Marks.{IsMarkedBy}
use Rattle.workers.specs.declared.entry.End.TheVariants.{Answered}
use Rattle.workers.specs.declared.entry.Entry.{Entry}
use Rattle.workers.proofs.lists.Tellings.{answered_taken}

module _ (first : Sessioned) (client : Client) (list : List Entry) (session : Sessioned) (slot place : ℕ) (w : State)
    (reply : Reply) (marked : IsMarkedBy first client list session) (here : world_at session.broker slot ≡ Some w)
    (has : HasEntryAt list slot place) (is : has.entry.end ≡ Answered reply) where
  -- it took effect with this reply
  pub marked_taken : IsAnsweredAs w client place reply
  marked_taken =
      answered_taken (beginnings first marked.moment.goes_on.ended) session client list slot place w
      marked.moment.promises marked.recorded here has reply is

  module _ (number : ℕ) (numbered : has.entry.number ≡ Some number) (up : session.broker.recovery ≡ None)
      (log : w.shape.kind ≡ log_kind) (few : client.0 < w.shape.clients) (idle : IsIdle w client) where
    -- so its number is settled
    pub marked_settled : IsSettled (kept_at session slot client) number reply
    marked_settled =
        let right = marked.moment.promises.kept slot w client up here log few idle in
        let run = (marked.recorded.ran slot).right has.index place has.entry has.at has.ran in
        let call : CallAt w.log.events place client number has.entry.call =
        subst (λ (n : ℕ). CallAt w.log.events place client n has.entry.call) (ap number_or_zero numbered)
        (subst (λ (es : List Event). CallAt es place client (number_or_zero has.entry.number) has.entry.call)
        (ap events_of here) run.call) in
        let taken : IsTakenNumber w client number reply = record {
          place = place;
          has_number = (has.entry.call, call);
          taken = marked_taken.taken;
        } in
        right.settled number reply (inl taken)

    -- and the kept words tell so
    pub marked_told : IsSettled (verdict_heard (Ok (kept_told w client))) number reply
    marked_told = marked.moment.told slot w client number reply here log few marked_settled
