-- The plain queue by counting.
use Rattle.std.proofs.Common.{ℕ, suc, zero, ◌≡◌, ◌<◌, ◌≤◌, ◌+◌, List, [], ◌∷◌, ◌++◌, length, arith, ap, ◌∙◌, Option}
use Rattle.std.proofs.Common.{Some, None, slice_get, take, drop, get_or, subst, sym, refl, append-nil, length-append}
use Rattle.std.proofs.Common.{length-drop}
use Rattle.std.proofs.lemmas.List.{drop-append-le, drop-drop, take_more, flat_map_more}
use Rattle.words.specs.declared.call.Call.{Call}
use Rattle.words.specs.declared.call.Call.TheVariants.{Enq, Deq}
use Rattle.words.specs.declared.call.Reply.{Reply}
use Rattle.words.specs.declared.call.Reply.TheVariants.{Got, Empty}
use Rattle.events.specs.declared.event.Event.{Event}
use Rattle.events.specs.declared.event.Entry.{Entry}
use Rattle.events.specs.Replay.{call_at, queue_after_call, queue_after, IsServed}
use Rattle.words.specs.PlainQueue.{Value, reply_of, served}
use Rattle.history.proofs.ReplaySteps.{queue_more}
use Rattle.history.specs.Counting.{values_of_call, values_of_order, dequeue_count}

-- what a dequeue answers, by the front
abbrev pub front_reply : Option Value → Reply
front_reply None = Empty
front_reply (Some value) = Got value

pub reply_at_front : (all : List Value) (taken : ℕ) → reply_of (drop taken all) Deq ≡ front_reply (slice_get all taken)
reply_at_front [] zero = refl
reply_at_front [] (suc n) = refl
reply_at_front (x ∷ xs) zero = refl
reply_at_front (x ∷ xs) (suc n) = reply_at_front xs n

-- what is left after a call
pub count_left : (queue all : List Value) (taken : ℕ) (call : Call) → queue ≡ drop taken all → taken ≤ length all
    → served queue call ≡ drop (taken + dequeue_count (reply_of queue call)) (all ++ values_of_call (Some call))
count_left queue all taken (Enq value) q le = grind (arith, drop-append-le taken all (value ∷ []), q)
count_left [] all taken Deq q le = rw (append-nil) (grind (arith, q))
count_left (x ∷ rest) all taken Deq q le = rw (append-nil) (ap (drop 1) q ∙ drop-drop 1 taken all)

-- what is taken was put
pub count_within : (queue all : List Value) (taken : ℕ) (call : Call) → queue ≡ drop taken all
    → taken ≤ length all → taken + dequeue_count (reply_of queue call) ≤ length (all ++ values_of_call (Some call))
count_within queue all taken (Enq value) q le = omega (arith, length-append all (value ∷ []))
count_within [] all taken Deq q le = omega (arith, length-append {A = Value} all [])
count_within (x ∷ rest) all taken Deq q le =
    omega (arith, length-append {A = Value} all [], ap length q, length-drop taken all)

-- what was put with one more entry
pub put_more : (events : List Event) (base : List Value) (order : List Entry) (i : ℕ) (d : Entry)
    → i < length order
    → base ++ values_of_order events (take (i + 1) order)
    ≡ (base ++ values_of_order events (take i order)) ++ values_of_call (call_at events (get_or order i d).place)
put_more events base order i d lt =
    ap (λ (es : List Entry). base ++ values_of_order events es) (take_more order i d lt)
    ∙ sym (flat_map_more (λ (e : Entry). values_of_call (call_at events e.place)) base (take i order)
    (get_or order i d))

-- the queue after the first i entries is what was put, without as many as were taken
pub record IsCounted (events : List Event) (base : List Value) (order : List Entry) (i taken : ℕ) : Type 0 where
  pub within : taken ≤ length (base ++ values_of_order events (take i order))
  pub queue : queue_after events base (take i order) ≡ drop taken (base ++ values_of_order events (take i order))

pub counted_more : (events : List Event) (base : List Value) (order : List Entry) (i taken more : ℕ) (d : Entry)
    → i < length order → IsCounted events base order i taken
    → IsServed events (queue_after events base (take i order)) (get_or order i d)
    → more ≡ dequeue_count (get_or order i d).reply → IsCounted events base order (i + 1) (taken + more)
counted_more events base order i taken more d lt so_far right is_more =
    let queue : List Value = queue_after events base (take i order) in
    let all : List Value = base ++ values_of_order events (take i order) in
    let put : base ++ values_of_order events (take (i + 1) order) ≡ all ++ values_of_call (Some right.call) =
    put_more events base order i d lt ∙ ap (λ (o : Option Call). all ++ values_of_call o) right.names in
    let took : more ≡ dequeue_count (reply_of queue right.call) = is_more ∙ ap dequeue_count right.reply in
    let left : queue_after events base (take (i + 1) order) ≡ served queue right.call =
    sym (queue_more events base queue (queue_after_call queue (call_at events (get_or order i d).place)) order i
    d lt refl refl) ∙ ap (λ (o : Option Call). queue_after_call queue o) right.names in
    let counted : served queue right.call ≡ drop (taken + dequeue_count (reply_of queue right.call))
    (all ++ values_of_call (Some right.call)) = count_left queue all taken right.call so_far.queue so_far.within in
    let few : taken + dequeue_count (reply_of queue right.call) ≤ length (all ++ values_of_call (Some right.call)) =
    count_within queue all taken right.call so_far.queue so_far.within in
    record {
      within = subst (λ (xs : List Value). taken + more ≤ length xs) (sym put)
          (subst (λ (n : ℕ). taken + n ≤ length (all ++ values_of_call (Some right.call))) (sym took) few);
      queue = left ∙ counted ∙ ap (λ (n : ℕ). drop (taken + n) (all ++ values_of_call (Some right.call))) (sym took)
          ∙ ap (λ (xs : List Value). drop (taken + more) xs) (sym put);
    }
