-- What lies under the lock stays well as a seat's call begins and makes its steps.
use Rattle.std.proofs.Common.{inl, inr, ◌+◌, length-append, ◌≡◌, ◌≢◌, ℕ, ◌≤◌, ◌++◌, ◌∷◌, [], true, false, length, List, Option, Some, None, Result, Ok, Err, slice_get, refl, sym, ap, ◌∙◌, subst, arith}
use Rattle.std.proofs.lemmas.Bool.{cases_eq}
use Rattle.std.specs.Prelude.{IfSome, slice_set}
use Rattle.words.specs.declared.call.Call.{Call}
use Rattle.words.specs.declared.call.Client.{Client}
use Rattle.words.specs.declared.call.Reply.{Reply}
use Rattle.words.specs.declared.refusal.Refusal.{Refusal}
use Rattle.words.specs.declared.refusal.Refusal.TheVariants.{NoMemory}
use Rattle.arena.specs.declared.broker.SlotId.{SlotId}
use Rattle.directory.specs.Directory.{IsNamed}
use Rattle.events.specs.declared.event.Event.{Event}
use Rattle.events.specs.declared.event.Event.TheVariants.{Call as call_event, Return as return_event}
use Rattle.session.specs.Promises.{IsReplyAt, IsReplyIfNumbered, KeepsNumbers}
use Rattle.session.specs.Requests.{IsAdvanced, IsBegunBy, answer_to, number_or_zero}
use Rattle.session.specs.Sessions.{Sessioned}
use Rattle.workers.specs.Answers.{entry_begun, entry_of}
use Rattle.workers.specs.Creating.{IsCreationKnown}
use Rattle.workers.specs.Following.{Guarded, IsFollowed, IsGuardedWell, beginnings}
use Rattle.workers.specs.Lists.{AreNamed, LastIsOf, ends_open, events_at, with_end}
use Rattle.workers.specs.declared.entry.End.{End}
use Rattle.workers.specs.declared.entry.End.TheVariants.{Answered, Interrupted, Open}
use Rattle.workers.specs.declared.entry.Entry.{Entry}
use Rattle.workers.specs.declared.entry.Request.{Request}
use Rattle.workers.proofs.guard.Acts.{HasNext, IsCarriedFor, IsNotOf}
use Rattle.workers.proofs.histories.Rows.{followed_answered, followed_called, followed_carried, followed_interrupted}
use Rattle.workers.proofs.histories.Rows.{followed_kept, next_carried, same_carried, still_grows}
use Rattle.workers.proofs.lists.Names.{name_on, named_on, named_push, named_with_end}
use Rattle.workers.proofs.guard.Guarded.{IsOn, guarded_of, guarded_still, known_if_same}
use Rattle.workers.proofs.histories.Starts.{begun_kept, begun_refused, begun_run, never_zero}
use Rattle.workers.proofs.histories.Steps.{advanced_answered, advanced_lost, advanced_more, advanced_refused}

-- another client than the one at t
other_client : (u : ℕ) (client : Client) → u ≢ client.0 → (let other : Client = record { 0 = u } in other) ≢ client
other_client u client apart same = apart (ap (λ (c : Client). c.0) same)

-- a start leaves the creation and the recovery
pub begun_beside : (old new : Sessioned) (slot : ℕ) (client : Client) (number : ℕ) (call : Call)
    (result answer : Result (Option Reply) Refusal) → IsBegunBy old new slot client number call result answer
    → (new.broker.recovery ≡ old.broker.recovery) × (new.broker.creation ≡ old.broker.creation)
begun_beside old new slot client number call result (Err refusal) begun =
    (ap (λ (s : Sessioned). s.broker.recovery) begun.1, ap (λ (s : Sessioned). s.broker.creation) begun.1)
begun_beside old new slot client number call result (Ok (Some reply)) begun =
    (ap (λ (s : Sessioned). s.broker.recovery) begun.1, ap (λ (s : Sessioned). s.broker.creation) begun.1)
begun_beside old new slot client number call result (Ok None) begun =
    (begun.0.beside.recovery, begun.0.beside.creation)

-- a start that is refused, and a step that is, or that does not answer, leave the lists
module _ (all : ℕ) (first : Sessioned) (old : Guarded) (well : IsGuardedWell all first old) (new : Sessioned)
    (keeps : KeepsNumbers new) (on : IsOn old.session new) (slot : ℕ) (client : Client) where
  abbrev as_it_was : Guarded
  as_it_was = record {
    session = new;
    rows = old.rows;
    deeds = old.deeds;
    creating = old.creating;
    rotated = old.rotated;
    marked = old.marked;
  }

  pub guarded_unbegun : (number : ℕ) (call : Call) (refusal : Refusal) (answer : Result (Option Reply) Refusal)
      → IsBegunBy old.session new slot client number call (Err refusal) answer → IsGuardedWell all first as_it_was
  guarded_unbegun number call refusal answer begun =
      let beside = begun_beside old.session new slot client number call (Err refusal) answer begun in
      guarded_still all first old well new old.creating
      (λ u. begun_refused old.session new slot client number call refusal answer well.promises begun u) keeps on
      (known_if_same old.session.broker new.broker old.creating beside.0 beside.1 well.creation)

  stepped_still : (result : Result (Option Reply) Refusal) → IsAdvanced old.session.broker new.broker slot client result
      → ((u : Client) → IsCarriedFor false u old.session new) → IsGuardedWell all first as_it_was
  stepped_still result made carried =
      guarded_still all first old well new old.creating carried keeps on
      (known_if_same old.session.broker new.broker old.creating made.beside.recovery made.beside.creation well.creation)

  pub guarded_more : IsAdvanced old.session.broker new.broker slot client (Ok None) → IsGuardedWell all first as_it_was
  guarded_more made = stepped_still (Ok None) made (advanced_more old.session new slot client well.promises made)

  pub guarded_unstepped : (refusal : Refusal) → IsAdvanced old.session.broker new.broker slot client (Err refusal)
      → IsGuardedWell all first as_it_was
  guarded_unstepped refusal made =
      stepped_still (Err refusal) made (advanced_refused old.session new slot client well.promises refusal made)

-- where an act of a client adds an event, the lists of all others stay
others_carried : (old new : Sessioned) (slot : ℕ) (event : Event) (client : Client)
    → ((other : Client) → other ≢ client → IsNotOf false other event) → HasNext old new slot event → (u : ℕ) → u ≢ client.0
    → IsCarriedFor false (record { 0 = u }) old new
others_carried old new slot event client of next u apart =
    next_carried old new slot event (record { 0 = u }) next (of (record { 0 = u }) (other_client u client apart))

-- a history stays as long as it was
still_begun : (since : ℕ → ℕ) (old new : Sessioned) (u : Client) → IsCarriedFor false u old new
    → ((slot : ℕ) → since slot ≤ length (events_at old.broker slot)) → (slot : ℕ)
    → since slot ≤ length (events_at new.broker slot)
still_begun since old new u carried begun slot =
    let before = begun slot in
    let grows = still_grows u (events_at old.broker slot) (events_at new.broker slot) (carried.events slot) in
    omega (arith, before, grows)

-- also where one event came
next_begun : (since : ℕ → ℕ) (old new : Sessioned) (slot : ℕ) (event : Event) → HasNext old new slot event
    → ((other : ℕ) → since other ≤ length (events_at old.broker other)) → (other : ℕ)
    → since other ≤ length (events_at new.broker other)
next_begun since old new slot event next begun other = elim (cases_eq other slot) [
  | inl same ↦
      let before = begun slot in
      let grows : length (events_at new.broker slot) ≡ length (events_at old.broker slot) + 1 =
      ap (λ (es : List Event). length es) next.here ∙ length-append (events_at old.broker slot) (event ∷ []) in
      subst (λ (n : ℕ). since n ≤ length (events_at new.broker n)) (sym same) (omega (arith, before, grows))
  | inr apart ↦
      subst (λ (es : List Event). since other ≤ length es) (sym (next.others other apart)) (begun other)
]

module _ (all : ℕ) (first : Sessioned) (old : Guarded) (well : IsGuardedWell all first old) (new : Sessioned)
    (keeps : KeepsNumbers new) (on : IsOn old.session new) (client : Client) (list : List Entry)
    (at : slice_get old.rows client.0 ≡ Some list) where
  abbrev since : ℕ → ℕ
  since = beginnings first old.rotated

  abbrev with_row : List Entry → Guarded
  with_row row = record {
    session = new;
    rows = slice_set old.rows client.0 row;
    deeds = old.deeds;
    creating = old.creating;
    rotated = old.rotated;
    marked = old.marked;
  }

  was_followed : IsFollowed since old.session client list
  was_followed = well.followed.each client.0 list at

  was_named : AreNamed old.session.broker.directory list
  was_named = well.named client.0 list at

  -- the calls of the row are the same, but for the end of the last one
  named_ended : (end : End) → AreNamed new.broker.directory (with_end end list)
  named_ended end =
      named_with_end new.broker.directory end list (named_on old.session.broker new.broker on.queues list was_named)

  -- an event of the client came, and its row fits the longer history
  guarded_by_event : (slot : ℕ) (event : Event) → ((other : Client) → other ≢ client → IsNotOf false other event)
      → HasNext old.session new slot event → (row : List Entry) → IsFollowed since new client row
      → AreNamed new.broker.directory row → IsCreationKnown new.broker old.creating
      → IsGuardedWell all first (with_row row)
  guarded_by_event slot event of next row its named known =
      guarded_of all first old well new client.0 row
      (next_begun since old.session new slot event next well.followed.begun)
      (others_carried old.session new slot event client of next) its named keeps on known

  -- a call begins
  module _ (queue : SlotId) (r : Request) (named : IsNamed old.session.broker.directory queue.0 r.name) (next : ℕ)
      (ended : ends_open list ≡ false) (next_is : next ≡ length (events_at old.session.broker queue.0)) where
    abbrev Begun : Result (Option Reply) Refusal → Type 0
    Begun result =
        IsBegunBy old.session new queue.0 client (number_or_zero r.number) r.call result
        (answer_to old.session queue.0 client r.number)

    known_begun : (result : Result (Option Reply) Refusal) → Begun result → IsCreationKnown new.broker old.creating
    known_begun result begun =
        let beside =
        begun_beside old.session new queue.0 client (number_or_zero r.number) r.call result
        (answer_to old.session queue.0 client r.number) begun in
        known_if_same old.session.broker new.broker old.creating beside.0 beside.1 well.creation

    -- its queue has its name
    named_begun : (began : Option Reply) → AreNamed new.broker.directory (list ++ entry_begun queue r next began ∷ [])
    named_begun began =
        named_push new.broker.directory list (entry_begun queue r next began) (named_as began)
        (named_on old.session.broker new.broker on.queues list was_named)
      where
        named_as : (began : Option Reply)
            → IsNamed new.broker.directory (entry_begun queue r next began).queue.0 (entry_begun queue r next began).name
        named_as None = name_on old.session.broker new.broker on.queues queue.0 r.name named
        named_as (Some reply) = name_on old.session.broker new.broker on.queues queue.0 r.name named

    begun_by_run : Begun (Ok None) → IsGuardedWell all first (with_row (list ++ entry_begun queue r next None ∷ []))
    begun_by_run begun =
        let came = begun_run old.session new queue.0 client r.number r.call well.promises begun in
        guarded_by_event queue.0 (call_event client (number_or_zero r.number) r.call) (λ other apart same. apart (sym same)) came
        (list ++ entry_begun queue r next None ∷ [])
        (subst
        (λ (n : ℕ). IsFollowed since new client (list ++ entry_of queue r (Some n) Open ∷ []))
        (sym next_is)
        (followed_called since client old.session new list queue.0 queue r came
        (well.followed.begun queue.0) ended refl
        (never_zero old.session new queue.0 client r.number r.call None begun) was_followed))
        (named_begun None) (known_begun (Ok None) begun)

    begun_by_kept : (reply : Reply) → Begun (Ok (Some reply)) → IsReplyIfNumbered new queue.0 client r.number reply
        → IsGuardedWell all first (with_row (list ++ entry_begun queue r next (Some reply) ∷ []))
    begun_by_kept reply begun right =
        let kept = begun_kept old.session new queue.0 client r.number r.call reply begun in
        let number = kept.1.0 in
        let is = kept.1.1 in
        let its : IsFollowed since new client list =
        subst (λ (s : Sessioned). IsFollowed since s client list) (sym kept.0) was_followed in
        let right_of : IsReplyAt new queue.0 client number reply =
        subst (λ (n : Option ℕ). IsReplyIfNumbered new queue.0 client n reply) is right in
        guarded_of all first old well new client.0 (list ++ entry_begun queue r next (Some reply) ∷ [])
        (subst (λ (s : Sessioned). (slot : ℕ) → since slot ≤ length (events_at s.broker slot)) (sym kept.0)
        well.followed.begun)
        (λ u apart.
        subst (λ (s : Sessioned). IsCarriedFor false (record { 0 = u }) old.session s) (sym kept.0)
        (same_carried (record { 0 = u }) old.session))
        (followed_kept since client new list queue r number is reply right_of ended
        (never_zero old.session new queue.0 client r.number r.call (Some reply) begun) its)
        (named_begun (Some reply))
        keeps on (known_begun (Ok (Some reply)) begun)

    pub guarded_begun : (began : Option Reply) → Begun (Ok began)
        → IfSome began (IsReplyIfNumbered new queue.0 client r.number)
        → IsGuardedWell all first (with_row (list ++ entry_begun queue r next began ∷ []))
    guarded_begun None begun right = begun_by_run begun
    guarded_begun (Some reply) begun right = begun_by_kept reply begun right

  -- the open call of the list makes a step
  module _ (slot : ℕ) (opens : ends_open list ≡ true) (last : LastIsOf slot list) where
    known_advanced : (result : Result (Option Reply) Refusal)
        → IsAdvanced old.session.broker new.broker slot client result → IsCreationKnown new.broker old.creating
    known_advanced result made =
        known_if_same old.session.broker new.broker old.creating made.beside.recovery made.beside.creation
        well.creation

    pub guarded_answered : (reply : Reply)
        → IsAdvanced old.session.broker new.broker slot client (Ok (Some reply))
        → IsGuardedWell all first (with_row (with_end (Answered reply) list))
    guarded_answered reply made =
        let came = advanced_answered old.session new slot client well.promises reply made in
        guarded_by_event slot (return_event client reply) (λ other apart same. apart (sym same)) came.0
        (with_end (Answered reply) list)
        (followed_answered since client old.session new list slot reply well.promises came.0 came.1 opens last
        was_followed)
        (named_ended (Answered reply)) (known_advanced (Ok (Some reply)) made)

    -- a crash ended it: the step was refused, and not for want of memory
    pub guarded_interrupted : (refusal : Refusal) → refusal ≢ NoMemory
        → IsAdvanced old.session.broker new.broker slot client (Err refusal)
        → IsGuardedWell all first (with_row (with_end Interrupted list))
    guarded_interrupted refusal other made =
        let carried = advanced_refused old.session new slot client well.promises refusal made in
        let lost = advanced_lost old.session new slot client well.promises refusal made other in
        guarded_of all first old well new client.0 (with_end Interrupted list)
        (still_begun since old.session new client (carried client) well.followed.begun)
        (λ u apart. carried (record { 0 = u }))
        (followed_interrupted since client new list slot lost.1 opens last
        (followed_carried since client old.session new list (carried client) was_followed))
        (named_ended Interrupted) keeps on (known_advanced (Err refusal) made)
