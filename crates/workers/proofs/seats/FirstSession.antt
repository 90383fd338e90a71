-- What a shared session has of the one that there was when the seats were given: its clients, and calls that are those of
-- the seats alone.
use Rattle.std.proofs.Common.{◌≡◌, ◌∙◌, inl, inr, ◌<◌, ◌≤◌, ◌++◌, ℕ, Bool, true, false, length, List, Option, Some, None, Ok}
use Rattle.std.proofs.Common.{Result, Err, slice_get, refl, sym, ap, subst, arith, true≢false, unwrap_or, length-append}
use Rattle.std.specs.Prelude.{is_some, if◌then◌else◌}
use Rattle.std.proofs.lemmas.Bool.{cases_lt, lt-ltb}
use Rattle.std.proofs.lemmas.Option.{get_or_from_slice_get, slice_get_within, unwrap_or-slice_get}
use Rattle.words.specs.declared.call.Client.{Client}
use Rattle.words.specs.declared.refusal.Refusal.{Refusal}
use Rattle.words.specs.declared.refusal.Refusal.TheVariants.{NoClient, NotReady}
use Rattle.events.specs.History.{IsOpenFrom}
use Rattle.events.specs.declared.event.Event.{Event}
use Rattle.events.proofs.Facts.{open_before, open_less}
use Rattle.interleave.specs.Verdicts.{number_of_call, number_under_way}
use Rattle.interleave.specs.State.{State}
use Rattle.protocol.specs.declared.UnderWay.{UnderWay}
use Rattle.named.specs.Brokers.{Brokered, IsWell, answer_at, answer_if, has_client, is_down, world_at}
use Rattle.named.specs.GoingOn.{BrokerGoesOn, IsGoneOn}
use Rattle.named.specs.Slots.{answered}
use Rattle.named.specs.declared.recovery.BrokerRecovery.{BrokerRecovery}
use Rattle.session.specs.Sessions.{Sessioned}
use Rattle.session.proofs.Facts.{clients_there, holds_there, up_there}
use Rattle.workers.specs.Coming.{CameThrough}
use Rattle.workers.specs.Following.{Guarded, IsGuardedWell, beginnings}
use Rattle.workers.specs.Lists.{HasEndedAs, ends_open, events_at, events_of, is_open}
use Rattle.workers.specs.Opening.{IsCalling}
use Rattle.workers.specs.declared.entry.End.{End}
use Rattle.workers.specs.declared.entry.End.TheVariants.{Answered, Interrupted, Open}
use Rattle.workers.specs.declared.entry.Entry.{Entry}
use Rattle.workers.proofs.brokers.Comings.{counts_through, through_unrotated}
use Rattle.workers.proofs.guard.Acts.{CallsNow}
use Rattle.workers.proofs.lists.LastCalls.{all_ended}
use Rattle.workers.proofs.histories.Steps.{not_now}

module _ (all : ℕ) (first : Sessioned) (g : Guarded) (well : IsGuardedWell all first g) where
  pub all_clients : g.session.broker.counts.clients ≡ all
  all_clients =
      ap (λ c. c.clients) (counts_through first.broker g.session.broker g.rotated well.came) ∙ well.beginning.counts

  -- each row is that of a client
  pub is_client : (client : Client) (list : List Entry) → slice_get g.rows client.0 ≡ Some list
      → has_client g.session.broker client ≡ true
  is_client client list known =
      let within = slice_get_within g.rows client.0 list known in
      let few : client.0 < g.session.broker.counts.clients = omega (arith, within, well.clients, all_clients) in
      lt-ltb client.0 g.session.broker.counts.clients few

-- a call that has ended has its end in the history
ended_has_end : (events : List Event) (client : Client) (place : ℕ) (end : End) → HasEndedAs events client place end
    → is_open end ≡ false → IsOpenFrom events client (length events) place → ⊥
ended_has_end events client place (Answered reply) ended closed open_from =
    open_from.no_end ended.end ended.ends.after (slice_get_within events ended.end _ ended.returns) ended.ends.ends
ended_has_end events client place Interrupted ended closed open_from =
    open_from.no_end ended.end ended.ends.after (slice_get_within events ended.end _ ended.crash) ended.ends.ends
ended_has_end events client place Open ended closed open_from = absurd (true≢false closed)

-- who has a call under way, by the history of a queue of a ready broker, has one by the queue
module _ (b : Brokered) (well : IsWell b) (up : is_down b ≡ false) (slot : ℕ) (client : Client) where
  ready : b.recovery ≡ None
  ready = go b.recovery up
    where
      go : (o : Option BrokerRecovery) → is_some o ≡ false → o ≡ None
      go None e = refl
      go (Some r) e = absurd (true≢false e)

  answers : (w : State) → world_at b slot ≡ Some w → has_client b client ≡ true
      → answer_at (λ v. Ok (number_under_way v client)) b slot client ≡ Ok (number_under_way w client)
  answers w here has =
      ap (λ (h : Bool). answer_if (by h b.recovery) (own (world_at b slot))) has
      ∙ ap (λ (o : Option BrokerRecovery). answer_if (by true o) (own (world_at b slot))) ready
      ∙ ap own here
    where
      by : Bool → Option BrokerRecovery → Result Unit Refusal
      by h o = if h then (if is_some o then Err NotReady else Ok tt) else Err NoClient

      own : Option State → Result (Option ℕ) Refusal
      own world = answered (λ v. Ok (number_under_way v client)) world

  has_number : (w : State) → world_at b slot ≡ Some w → (call : Option (Option UnderWay))
      → slice_get w.calls client.0 ≡ call → CallsNow w.log.events client → (n : ℕ) × IsCalling b slot client n
  has_number w here None at calls = absurd (not_now w (holds_there b well slot w here) (up_there b well slot w here ready) client
      (sym (unwrap_or-slice_get w.calls client.0 None) ∙ ap (λ (o : Option (Option UnderWay)). unwrap_or o None) at) calls)
  has_number w here (Some None) at calls = absurd (not_now w (holds_there b well slot w here) (up_there b well slot w here ready) client
      (get_or_from_slice_get w.calls client.0 None None at) calls)
  has_number w here (Some (Some u)) at calls =
      let within = slice_get_within w.calls client.0 (Some u) at in
      let few = (holds_there b well slot w here).safe.clients in
      let same = clients_there b well slot w here in
      let below : client.0 < b.counts.clients = omega (arith, within, few, same) in (
        u.begun.number,
        answers w here (lt-ltb client.0 b.counts.clients below)
            ∙ ap (λ (o : Option UnderWay). let r : Result (Option ℕ) Refusal = Ok (number_of_call o) in r)
            (get_or_from_slice_get w.calls client.0 (Some u) None at),
      )

  pub calls_by_queue : CallsNow (events_at b slot) client → (n : ℕ) × IsCalling b slot client n
  calls_by_queue = go (world_at b slot) refl
    where
      go : (o : Option State) → world_at b slot ≡ o → CallsNow (events_of o) client → (n : ℕ) × IsCalling b slot client n
      go None there calls = let before = calls.before in absurd (omega (arith, before))
      go (Some w) there calls = has_number w there (slice_get w.calls client.0) refl calls

-- a client whose list has no open call has none under way: none of before is, nor one of the list
module _ (all : ℕ) (first : Sessioned) (g : Guarded) (well : IsGuardedWell all first g)
    (up : is_down first.broker ≡ false) (client : Client) (list : List Entry)
    (known : slice_get g.rows client.0 ≡ Some list) (ended : ends_open list ≡ false) (slot : ℕ) where
  abbrev now : List Event
  now = events_at g.session.broker slot

  none_of_list : (place : ℕ) → beginnings first g.rotated slot ≤ place → IsOpenFrom now client (length now) place → ⊥
  none_of_list place late open_from =
      let followed = well.followed.each client.0 list known in
      let of = followed.recorded.ran slot in
      let has = of.all place late open_from.begins in
      ended_has_end now client place has.entry.end (of.right has.index place has.entry has.at has.ran).ended
      (all_ended list followed.only_last ended has.index has.entry has.at) open_from

  none_of_before : (place : ℕ) → place < beginnings first g.rotated slot → IsOpenFrom now client (length now) place → ⊥
  none_of_before = go g.rotated refl
    where
      at_first : (o : Option State) → world_at first.broker slot ≡ o → CallsNow (events_of o) client → ⊥
      at_first o is calls =
          let number = calls_by_queue first.broker well.beginning.promises.broker.well up slot client
          (subst (λ (x : Option State). CallsNow (events_of x) client) (sym is) calls) in
          well.beginning.quiet.calls slot client number.0 number.1

      shorter : (w : State) → world_at first.broker slot ≡ Some w → (on : IsGoneOn w (world_at g.session.broker slot))
          → (place : ℕ) → place < length w.log.events → IsOpenFrom now client (length now) place
          → CallsNow w.log.events client
      shorter w here on place before open_from =
          let grown : now ≡ w.log.events ++ on.goes_on.grown.rest = ap events_of on.is ∙ on.goes_on.grown.is in
          let longer = length-append w.log.events on.goes_on.grown.rest in
          let all_of = subst (λ (es : List Event). IsOpenFrom es client (length es) place) grown open_from in
          record {
            place = place;
            before = before;
            open_from = open_before w.log.events on.goes_on.grown.rest client (length w.log.events) place before
                (open_less (w.log.events ++ on.goes_on.grown.rest) client (length (w.log.events ++ on.goes_on.grown.rest))
                (length w.log.events) place (omega (arith, longer)) all_of);
          }

      by_world : (o : Option State) → world_at first.broker slot ≡ o → BrokerGoesOn first.broker g.session.broker
          → (place : ℕ) → place < length (events_of o) → IsOpenFrom now client (length now) place → ⊥
      by_world None there on place before open_from = omega (arith, before)
      by_world (Some w) there on place before open_from =
          at_first (Some w) there (shorter w there (on.worlds slot w there) place before open_from)

      go : (r : Bool) → g.rotated ≡ r → (place : ℕ) → place < beginnings first r slot
          → IsOpenFrom now client (length now) place → ⊥
      go true is place before open_from = omega (arith, before)
      go false is place before open_from =
          by_world (world_at first.broker slot) refl
          (through_unrotated first.broker g.session.broker
          (subst (λ (r : Bool). CameThrough first.broker r g.session.broker) is well.came)) place before open_from

  pub none_calls : CallsNow now client → ⊥
  none_calls calls = elim (cases_lt calls.place (beginnings first g.rotated slot)) [
    | inl before ↦ none_of_before calls.place before calls.open_from
    | inr late ↦ none_of_list calls.place late calls.open_from
  ]
