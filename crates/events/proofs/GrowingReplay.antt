-- An order that the plain queue replays, with events added, with an entry more, and without an Empty.
use Rattle.std.proofs.Common.{zero, suc, ◌≡◌, Bool, true, false, if◌then◌else◌, List, [], ◌∷◌, ◌++◌, refl, ap, arith}
use Rattle.std.proofs.Common.{subst, sym, ◌∙◌}
use Rattle.std.specs.Prelude.{⊤, All}
use Rattle.std.specs.List.{filter}
use Rattle.std.proofs.lemmas.Option.{same_Some}
use Rattle.std.proofs.lemmas.List.Elements.{All-head, All-tail}
use Rattle.std.proofs.lemmas.List.Sums.{fold_push}
use Rattle.words.specs.declared.call.Call.{Call}
use Rattle.words.specs.declared.call.Call.TheVariants.{Enq, Deq}
use Rattle.words.specs.declared.call.Reply.TheVariants.{Empty}
use Rattle.words.specs.PlainQueue.{Value, reply_of, served}
use Rattle.events.specs.declared.event.Effect.{Effect}
use Rattle.events.specs.declared.event.Event.{Event}
use Rattle.events.specs.declared.event.Entry.{Entry}
use Rattle.events.specs.Effects.{entry_of}
use Rattle.events.specs.Trace.{entries_of}
use Rattle.events.specs.Replay.{call_at, queue_after_call, queue_after, IsServed, Replays}
use Rattle.events.proofs.Growing.{call_at_longer}

-- the same by recursion on the order: the queue serves the first entry, and what that leaves serves the rest
abbrev pub Runs : List Event → List Value → List Entry → Type 0
Runs events queue [] = ⊤
Runs events queue (entry ∷ order) = IsServed events queue entry
    × Runs events (queue_after_call queue (call_at events entry.place)) order

pub runs_from_replays : (events : List Event) (queue : List Value) (order : List Entry)
    → Replays events queue order → Runs events queue order
runs_from_replays events queue [] replays = tt
runs_from_replays events queue (entry ∷ order) replays = (
  (replays 0 (omega arith)).served entry refl,
  runs_from_replays events (queue_after_call queue (call_at events entry.place)) order
      (λ i lt. record { served = λ e at. (replays (suc i) (omega (arith, lt))).served e at }),
)

pub replays_from_runs : (events : List Event) (queue : List Value) (order : List Entry) → Runs events queue order
    → Replays events queue order
replays_from_runs events queue [] runs i lt = absurd (omega (arith, lt))
replays_from_runs events queue (entry ∷ order) runs zero lt =
    record { served = λ e at. subst (IsServed events queue) (same_Some entry e at) runs.0 }
replays_from_runs events queue (entry ∷ order) runs (suc i) lt = record {
  served = λ e at. (replays_from_runs events (queue_after_call queue (call_at events entry.place)) order runs.1 i
      (omega (arith, lt))).served e at;
}

-- what a call leaves is the same with more events
pub served_longer : (events more : List Event) (queue : List Value) (entry : Entry) → IsServed events queue entry
    → IsServed (events ++ more) queue entry
served_longer events more queue entry served = record {
  call = served.call;
  names = call_at_longer events more entry.place served.call served.names;
  reply = served.reply;
}

pub left_longer : (events more : List Event) (queue : List Value) (entry : Entry) → IsServed events queue entry
    → queue_after_call queue (call_at (events ++ more) entry.place)
    ≡ queue_after_call queue (call_at events entry.place)
left_longer events more queue entry served =
    ap (queue_after_call queue) (call_at_longer events more entry.place served.call served.names ∙ sym served.names)

-- with more events the order runs as before, and leaves the same
pub runs_longer : (events more : List Event) (queue : List Value) (order : List Entry) → Runs events queue order
    → Runs (events ++ more) queue order
runs_longer events more queue [] runs = tt
runs_longer events more queue (entry ∷ order) runs = (
  served_longer events more queue entry runs.0,
  subst (λ (q : List Value). Runs (events ++ more) q order) (sym (left_longer events more queue entry runs.0))
      (runs_longer events more (queue_after_call queue (call_at events entry.place)) order runs.1),
)

pub queue_longer : (events more : List Event) (queue : List Value) (order : List Entry) → Runs events queue order
    → queue_after (events ++ more) queue order ≡ queue_after events queue order
queue_longer events more queue [] runs = refl
queue_longer events more queue (entry ∷ order) runs =
    ap (λ (q : List Value). queue_after (events ++ more) q order) (left_longer events more queue entry runs.0)
    ∙ queue_longer events more (queue_after_call queue (call_at events entry.place)) order runs.1

-- one more entry, served by the queue after the others
pub runs_push : (events : List Event) (queue : List Value) (order : List Entry) (entry : Entry)
    → Runs events queue order → IsServed events (queue_after events queue order) entry
    → Runs events queue (order ++ entry ∷ [])
runs_push events queue [] entry runs served = (served, tt)
runs_push events queue (first ∷ order) entry runs served =
    (runs.0, runs_push events (queue_after_call queue (call_at events first.place)) order entry runs.1 served)

pub queue_push : (events : List Event) (queue : List Value) (order : List Entry) (entry : Entry)
    → queue_after events queue (order ++ entry ∷ []) ≡ queue_after_call (queue_after events queue order)
    (call_at events entry.place)
queue_push events queue order entry = fold_push
    (λ (q : List Value) (e : Entry). queue_after_call q (call_at events e.place)) queue order entry

-- a call that is answered Empty leaves the queue as it is
pub empty_leaves : (events : List Event) (queue : List Value) (entry : Entry) → IsServed events queue entry
    → entry.reply ≡ Empty → queue_after_call queue (call_at events entry.place) ≡ queue
empty_leaves events queue entry right empty = rw right.names (go queue right.call (sym right.reply ∙ empty))
  where
    go : (held : List Value) (call : Call) → reply_of held call ≡ Empty → served held call ≡ held
    go held (Enq value) is = cc
    go [] Deq is = refl
    go (first ∷ rest) Deq is = cc

-- so the order runs without effects that are Empties
pub runs_kept : (keep : Effect → Bool) (events : List Event) (queue : List Value) (effects : List Effect)
    → All (λ (x : Effect). keep x ≡ false → x.reply ≡ Empty) effects → Runs events queue (entries_of effects)
    → Runs events queue (entries_of (filter keep effects))
runs_kept keep events queue [] empties runs = tt
runs_kept keep events queue (x ∷ xs) empties runs =
    go (keep x) refl (runs_kept keep events (queue_after_call queue (call_at events x.place)) xs
    (All-tail (λ (e : Effect). keep e ≡ false → e.reply ≡ Empty) x xs empties) runs.1)
  where
    go : (k : Bool) → keep x ≡ k → Runs events (queue_after_call queue (call_at events x.place))
        (entries_of (filter keep xs)) → Runs events queue
        (entries_of (if k then x ∷ filter keep xs else filter keep xs))
    go true k rest = (runs.0, rest)
    go false k rest = subst (λ (q : List Value). Runs events q (entries_of (filter keep xs)))
        (empty_leaves events queue (entry_of x) runs.0
        (All-head (λ (e : Effect). keep e ≡ false → e.reply ≡ Empty) x xs empties k)) rest

pub queue_kept : (keep : Effect → Bool) (events : List Event) (queue : List Value) (effects : List Effect)
    → All (λ (x : Effect). keep x ≡ false → x.reply ≡ Empty) effects → Runs events queue (entries_of effects)
    → queue_after events queue (entries_of (filter keep effects)) ≡ queue_after events queue (entries_of effects)
queue_kept keep events queue [] empties runs = refl
queue_kept keep events queue (x ∷ xs) empties runs =
    go (keep x) refl (queue_kept keep events (queue_after_call queue (call_at events x.place)) xs
    (All-tail (λ (e : Effect). keep e ≡ false → e.reply ≡ Empty) x xs empties) runs.1)
  where
    go : (k : Bool) → keep x ≡ k → queue_after events (queue_after_call queue (call_at events x.place))
        (entries_of (filter keep xs)) ≡ queue_after events (queue_after_call queue (call_at events x.place))
        (entries_of xs) → queue_after events queue (entries_of (if k then x ∷ filter keep xs else filter keep xs))
        ≡ queue_after events (queue_after_call queue (call_at events x.place)) (entries_of xs)
    go true k rest = rest
    go false k rest = ap (λ (q : List Value). queue_after events q (entries_of (filter keep xs)))
        (sym (empty_leaves events queue (entry_of x) runs.0
        (All-head (λ (e : Effect). keep e ≡ false → e.reply ≡ Empty) x xs empties k))) ∙ rest
