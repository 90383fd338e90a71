-- Steps of a replay.
use Rattle.std.proofs.Common.{ℕ, ◌≡◌, ◌<◌, ◌+◌, List, length, ap, ◌∙◌, take, get_or, subst, sym}
use Rattle.std.proofs.lemmas.Option.{get_or_from_slice_get}
use Rattle.std.proofs.lemmas.List.Sums.{fold_more}
use Rattle.words.specs.PlainQueue.{Value}
use Rattle.events.specs.declared.event.Event.{Event}
use Rattle.events.specs.declared.event.Entry.{Entry}
use Rattle.events.specs.Replay.{call_at, queue_after_call, queue_after, IsServed, IsRightAt}

-- the queue after one more entry
pub queue_more : (events : List Event) (base queue left : List Value) (order : List Entry) (i : ℕ) (d : Entry)
    → i < length order → queue ≡ queue_after events base (take i order)
    → left ≡ queue_after_call queue (call_at events (get_or order i d).place)
    → left ≡ queue_after events base (take (i + 1) order)
queue_more events base queue left order i d lt so_far now =
    now ∙ ap (λ (q : List Value). queue_after_call q (call_at events (get_or order i d).place)) so_far
    ∙ sym (fold_more (λ queue e. queue_after_call queue (call_at events e.place)) base order i d lt)

-- the entry at i is right where the queue before it serves it so
pub right_here : (events : List Event) (base queue : List Value) (order : List Entry) (i : ℕ) (d : Entry)
    → i < length order → queue ≡ queue_after events base (take i order)
    → IsServed events queue (get_or order i d) → IsRightAt events base order i
right_here events base queue order i d lt so_far served = record {
  served = λ e at_e. subst (λ (q : List Value). IsServed events q e) so_far
      (subst (IsServed events queue) (get_or_from_slice_get order i e d at_e) served);
}
