-- The front of the queue, one entry on.
use Rattle.std.proofs.Common.{ℕ, ◌≡◌, ◌<◌, ◌≤◌, ◌+◌, List, [], ◌++◌, Option, Some, None, get_or, length, take}
use Rattle.std.proofs.Common.{refl, ap, arith, sym, ◌∙◌, length-take}
use Rattle.std.specs.Prelude.{IfNone, option_to_list}
use Rattle.std.proofs.lemmas.List.{drop_more, drop_all, get_or-take}
use Rattle.std.proofs.lemmas.Option.{slice_get-get_or}
use Rattle.words.specs.declared.call.Call.{Call}
use Rattle.words.specs.declared.call.Call.TheVariants.{Deq}
use Rattle.words.specs.declared.call.Reply.{Reply}
use Rattle.words.specs.PlainQueue.{Value, reply_of}
use Rattle.events.specs.declared.event.Event.{Event}
use Rattle.events.specs.declared.event.Entry.{Entry}
use Rattle.history.specs.Counting.{values_of_call, values_of_order}
use Rattle.history.specs.Fronts.{values_between, reply_of_front}
use Rattle.events.specs.Replay.{call_at, queue_after, IsServed, IsRightAt}
use Rattle.history.proofs.ReplaySteps.{right_here}

-- the first entry's call puts its value
pub values_more : (events : List Event) (order : List Entry) (from to : ℕ) (d : Entry) → from < to → to ≤ length order
    → values_between events order from to
    ≡ values_of_call (call_at events (get_or order from d).place) ++ values_between events order (from + 1) to
values_more events order from to d below within =
    ap (values_of_order events) (drop_more (take to order) from d (omega (arith, length-take to order)))
    ∙ ap (λ (e : Entry). values_of_call (call_at events e.place) ++ values_between events order (from + 1) to)
    (get_or-take to order from d below)

-- no entries put nothing
pub values_none : (events : List Event) (order : List Entry) (to : ℕ) → values_between events order to to ≡ []
values_none events order to = ap (values_of_order events)
    (drop_all to (take to order) (omega (arith, length-take to order)))

-- what a dequeue answers by the front, and leaves
pub reply_by_front : (queue rest : List Value) (front : Option Value) → queue ≡ option_to_list front ++ rest
    → IfNone front (queue ≡ []) → reply_of_front front ≡ reply_of queue Deq
reply_by_front queue rest None is none = rw none refl
reply_by_front queue rest (Some value) is none = rw is refl

-- the entry at i is right where its reply is the queue's
pub right_by_reply : (events : List Event) (base : List Value) (order : List Entry) (i : ℕ) (d : Entry) (call : Call)
    (reply : Reply)
    → i < length order → call_at events (get_or order i d).place ≡ Some call
    → reply ≡ reply_of (queue_after events base (take i order)) call → (get_or order i d).reply ≡ reply
    → IsRightAt events base order i
right_by_reply events base order i d call reply within names is same =
    right_here events base (queue_after events base (take i order)) order i d within refl
    (record { call = call; names = names; reply = same ∙ is })

pub reply_by_right : (events : List Event) (base : List Value) (order : List Entry) (i : ℕ) (d : Entry) (call : Call)
    (reply : Reply)
    → i < length order → call_at events (get_or order i d).place ≡ Some call
    → reply ≡ reply_of (queue_after events base (take i order)) call → IsRightAt events base order i
    → (get_or order i d).reply ≡ reply
reply_by_right events base order i d call reply within names is right =
    let served : IsServed events (queue_after events base (take i order)) (get_or order i d) =
    right.served (get_or order i d) (slice_get-get_or order i d within) in
    let one : served.call ≡ call = cc (served.names, names) in
    served.reply ∙ ap (reply_of (queue_after events base (take i order))) one ∙ sym is

pub wrong_without_call : (events : List Event) (base : List Value) (order : List Entry) (i : ℕ) (d : Entry)
    → i < length order → call_at events (get_or order i d).place ≡ None → IsRightAt events base order i → ⊥
wrong_without_call events base order i d within none right =
    let served : IsServed events (queue_after events base (take i order)) (get_or order i d) =
    right.served (get_or order i d) (slice_get-get_or order i d within) in
    cc (served.names, none)
