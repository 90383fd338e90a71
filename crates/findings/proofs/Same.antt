-- Histories that differ in what Readys tell alone.
use Rattle.std.proofs.Common.{ℕ, ◌≡◌, ◌+◌, List, [], ◌∷◌, Option, Some, None, slice_get, get_or}
use Rattle.std.proofs.Common.{take, inl, inr, refl, ap, arith, subst, sym, ◌∙◌, ⊎_elim}
use Rattle.std.specs.Prelude.{EachIndex, IsSome}
use Rattle.std.proofs.lemmas.Option.{slice_get_within, slice_get-get_or}
use Rattle.words.specs.PlainQueue.{Value}
use Rattle.words.specs.declared.call.Call.{Call}
use Rattle.words.specs.declared.call.Client.{Client}
use Rattle.words.specs.declared.call.Reply.{Reply}
use Rattle.words.specs.declared.told.Told.{Told}
use Rattle.events.specs.declared.event.Event.{Event}
use Rattle.events.specs.declared.event.Event.TheVariants.{Call as call_event, Return as return_event}
use Rattle.events.specs.declared.event.Event.TheVariants.{Crash as crash_event, Ready as ready_event}
use Rattle.events.specs.declared.event.Entry.{Entry}
use Rattle.events.specs.Explains.{IsAnswered, KeepsPrecedence}
use Rattle.events.specs.History.{CallAt, ReturnAt, CrashAt, ReadyAt, BeginsAt, EndsAt, HasNoEnd, IsEnd, Precedes}
use Rattle.events.specs.History.{IsUnderWay, IsDown, MayStand, IsUnnumbered, IsDurable}
use Rattle.events.specs.Orders.{IsOrder}
use Rattle.events.specs.Replay.{call_of, call_at, queue_after_call, queue_after, IsServed, Replays}
use Rattle.findings.specs.Filling.{HasEventsOf}

pub same_begins : (a b : List Event) → HasEventsOf a b → (client : Client) (p : ℕ) → BeginsAt a client p
    → BeginsAt b client p
same_begins a b there client p begins =
    (begins.0, (begins.1.0, there.calls p begins.0 client begins.1.0 begins.1.1))

pub same_ends : (a b : List Event) → HasEventsOf a b → (client : Client) (p : ℕ) → EndsAt a client p → EndsAt b client p
same_ends a b there client p ends = ⊎_elim
    (λ (returned : (reply : Reply) × ReturnAt a p client reply).
    inl (returned.0, there.returns p client returned.0 returned.1))
    (λ (crash : CrashAt a p). inr (there.crashes p crash)) ends

pub same_no_end : (a b : List Event) → HasEventsOf b a → (client : Client) (p q : ℕ) → HasNoEnd a client p q
    → HasNoEnd b client p q
same_no_end a b back client p q none k low high ends = none k low high (same_ends b a back client k ends)

pub same_end : (a b : List Event) → HasEventsOf a b → HasEventsOf b a → (client : Client) (p e : ℕ)
    → IsEnd a client p e → IsEnd b client p e
same_end a b there back client p e end = record {
  after = end.after;
  ends = same_ends a b there client e end.ends;
  first = same_no_end a b back client p e end.first;
}

same_precedes : (a b : List Event) → HasEventsOf a b → HasEventsOf b a → (p q : ℕ) → Precedes a p q → Precedes b p q
same_precedes a b there back p q before = record {
  client = before.client;
  begins = same_begins a b there before.client p before.begins;
  end = before.end;
  ends = same_end a b there back before.client p before.end before.ends;
  before = before.before;
}

same_under_way : (a b : List Event) → HasEventsOf a b → HasEventsOf b a → (client : Client) (p : ℕ)
    → IsUnderWay a client p → IsUnderWay b client p
same_under_way a b there back client p way = record {
  place = way.place;
  before = way.before;
  open_from = record {
    begins = same_begins a b there client way.place way.open_from.begins;
    no_end = same_no_end a b back client way.place p way.open_from.no_end;
  };
}

same_down : (a b : List Event) → HasEventsOf a b → HasEventsOf b a → (p : ℕ) → IsDown a p → IsDown b p
same_down a b there back p down = record {
  place = down.place;
  before = down.before;
  crash = there.crashes down.place down.crash;
  no_ready = λ k told low high ready.
      let other : (told : List Told) × ReadyAt a k told = back.readys k told ready in
      down.no_ready k other.0 low high other.1;
}

-- what may stand in the one may stand in the other
pub same_places : (a b : List Event) → HasEventsOf a b → HasEventsOf b a
    → ((p : ℕ) (event : Event) → slice_get a p ≡ Some event → MayStand a p event) → (p : ℕ) (event : Event)
    → slice_get b p ≡ Some event → MayStand b p event
same_places a b there back places p (call_event client number call) at =
    let may : MayStand a p (call_event client number call) = places p _ (back.calls p number client call at) in (
      may.0,
      (
        (λ way. may.1.0 (same_under_way b a back there client p way)),
        (λ down. may.1.1 (same_down b a back there p down)),
      ),
    )
same_places a b there back places p (return_event client reply) at =
    let may : MayStand a p (return_event client reply) = places p _ (back.returns p client reply at) in
    (same_under_way a b there back client p may.0, (λ down. may.1 (same_down b a back there p down)))
same_places a b there back places p crash_event at = tt
same_places a b there back places p (ready_event told) at = tt

-- the same calls
call_there : (a b : List Event) → HasEventsOf a b → (p : ℕ) (call : Call) → call_at a p ≡ Some call
    → call_at b p ≡ Some call
call_there a b there p call is = go (slice_get a p) refl is
  where
    go : (at : Option Event) → slice_get a p ≡ at → call_of at ≡ Some call → call_at b p ≡ Some call
    go (Some (call_event client number other)) at is =
        ap call_of (there.calls p number client other at) ∙ is
    go (Some (return_event client reply)) at is = cc (is)
    go (Some crash_event) at is = cc (is)
    go (Some (ready_event told)) at is = cc (is)
    go None at is = cc (is)

pub same_call : (a b : List Event) → HasEventsOf a b → HasEventsOf b a → (p : ℕ) → call_at a p ≡ call_at b p
same_call a b there back p = go (call_at a p) (call_at b p) refl refl
  where
    go : (one other : Option Call) → call_at a p ≡ one → call_at b p ≡ other → call_at a p ≡ call_at b p
    go (Some call) other is is_other = is ∙ sym (call_there a b there p call is)
    go None (Some call) is is_other = call_there b a back p call is_other ∙ sym is_other
    go None None is is_other = is ∙ sym is_other

same_queue : (a b : List Event) → HasEventsOf a b → HasEventsOf b a → (base : List Value) (order : List Entry)
    → queue_after a base order ≡ queue_after b base order
same_queue a b there back base [] = refl
same_queue a b there back base (entry ∷ order) =
    same_queue a b there back (queue_after_call base (call_at a entry.place)) order
    ∙ ap (λ (call : Option Call). queue_after b (queue_after_call base call) order)
    (same_call a b there back entry.place)

pub same_replays : (a b : List Event) → HasEventsOf a b → HasEventsOf b a → (base : List Value) (order : List Entry)
    → Replays a base order → Replays b base order
same_replays a b there back base order replays i lt = record {
  served = λ entry at.
      let was : IsServed a (queue_after a base (take i order)) entry = (replays i lt).served entry at in
      let now : IsServed a (queue_after b base (take i order)) entry =
      subst (λ (queue : List Value). IsServed a queue entry) (same_queue a b there back base (take i order)) was in
      record {
        call = now.call;
        names = sym (same_call a b there back entry.place) ∙ now.names;
        reply = now.reply;
      };
}

pub same_order : (a b : List Event) → HasEventsOf a b → HasEventsOf b a → (order : List Entry) → IsOrder a order
    → IsOrder b order
same_order a b there back order is_order = record {
  calls = λ k d lt. subst IsSome (same_call a b there back (get_or order k d).place) (is_order.calls k d lt);
  once = is_order.once;
}

pub same_answers : (a b : List Event) → HasEventsOf a b → HasEventsOf b a → (order : List Entry)
    → EachIndex a (λ p. IsAnswered a order p) → EachIndex b (λ p. IsAnswered b order p)
same_answers a b there back order answers p lt = record {
  taken = λ e client reply begins end returned.
      let begun : BeginsAt a client p = same_begins b a back client p begins in
      (answers p (slice_get_within a p _ begun.1.1)).taken e client reply begun
      (same_end b a back there client p e end) (back.returns e client reply returned);
}

pub same_precedence : (a b : List Event) → HasEventsOf a b → HasEventsOf b a → (order : List Entry)
    → KeepsPrecedence a order → KeepsPrecedence b order
same_precedence a b there back order keeps i j x y at_i at_j before =
    keeps i j x y at_i at_j (same_precedes b a back there x.place y.place before)

-- where calls have numbers by their places, none is 0
pub not_durable : (events : List Event)
    → ((p number : ℕ) (client : Client) (call : Call) → CallAt events p client number call → number ≡ p + 1)
    → IsDurable events → ⊥
not_durable events numbers (k, x, lt, is, unnumbered) =
    go x (slice_get-get_or events k x lt ∙ ap Some is) unnumbered
  where
    go : (event : Event) → slice_get events k ≡ Some event → IsUnnumbered event → ⊥
    go (call_event client number call) at unnumbered =
        let is : number ≡ k + 1 = numbers k number client call at in omega (arith, is, unnumbered)
    go (return_event client reply) at unnumbered = unnumbered
    go crash_event at unnumbered = unnumbered
    go (ready_event told) at unnumbered = unnumbered
