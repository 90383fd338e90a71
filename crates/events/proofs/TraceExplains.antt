-- The order of a trace explains its history.
use Rattle.std.proofs.Common.{ℕ, ◌≡◌, ◌≢◌, ◌<◌, ◌≤◌, List, Some, slice_get, get_or, length, refl, ap, arith, subst, sym}
use Rattle.std.proofs.Common.{◌∙◌, ⊎_elim}
use Rattle.std.specs.Prelude.{All, AllPairs, EachIndex, IsSome, ⊤}
use Rattle.std.proofs.lemmas.Bool.{cases_lt}
use Rattle.std.proofs.lemmas.List.{get_or-take, length-take}
use Rattle.std.proofs.lemmas.List.Elements.{All-weaker, All-filter, All-map}
use Rattle.std.proofs.lemmas.List.Kept.{AllPairs-filter}
use Rattle.std.proofs.lemmas.Option.{slice_get_within, slice_get-get_or, get_or_from_slice_get}
use Rattle.words.specs.PlainQueue.{Value}
use Rattle.words.specs.declared.call.Call.{Call}
use Rattle.words.specs.declared.call.Client.{Client}
use Rattle.words.specs.declared.call.Kind.{Kind}
use Rattle.words.specs.declared.call.Kind.TheVariants.{Durable, Log}
use Rattle.words.specs.declared.told.Told.{Told}
use Rattle.events.specs.declared.event.Effect.{Effect}
use Rattle.events.specs.declared.event.Event.{Event}
use Rattle.events.specs.declared.event.Event.TheVariants.{Call as call_event, Return as return_event}
use Rattle.events.specs.declared.event.Event.TheVariants.{Crash as crash_event, Ready as ready_event}
use Rattle.events.specs.declared.event.Entry.{Entry}
use Rattle.events.specs.Effects.{entry_of, order_of, settled_effects}
use Rattle.events.specs.Explains.{KeepsPrecedence, Explains}
use Rattle.events.specs.History.{EndsAt, Precedes, IsDurable, IsNumbered, IsUnnumbered, IsHistory, CallAt}
use Rattle.events.specs.Trace.{IsTrace, IsEffect, IsNumberOf, entries_of}
use Rattle.events.specs.Orders.{IsNew, IsOrder}
use Rattle.events.specs.Replay.{call_at, Replays}
use Rattle.events.specs.Telling.{TellsAt}
use Rattle.events.proofs.Lists.{pairs_map, pairs_weaker}
use Rattle.events.proofs.GrowingReplay.{runs_from_replays, replays_from_runs, runs_kept}
use Rattle.events.proofs.GrowingTold.{tells_without_calls}
use Rattle.events.proofs.TraceEffects.{dropped_empty}
use Rattle.events.proofs.Interrupted.{told_if_interrupted}

-- items that differ in pairs: none has an earlier one's place
pub new_from_pairs : (order : List Entry) → AllPairs (λ x y. x.place ≢ y.place) order
    → EachIndex order (λ i. IsNew order i)
new_from_pairs order pairs i lt = record {
  none = λ entry at (k, x, k_lt, is, place).
      let k_small : k < i = omega (arith, k_lt, length-take i order) in
      let at_i : get_or order i x ≡ entry = get_or_from_slice_get order i entry x at in
      let at_k : get_or order k x ≡ x = sym (get_or-take i order k x k_small) ∙ is in
      pairs k i x k_small lt (ap (λ (e : Entry). e.place) at_k ∙ place ∙ sym (ap (λ (e : Entry). e.place) at_i));
}

-- an effect names a call
effect_names : (events : List Event) (x : Effect) → IsEffect events x → IsSome (call_at events x.place)
effect_names events x is = rw is.within.begins.1.1 refl

-- a later effect's call does not precede an earlier one's
not_preceded : (events : List Event) (x y : Effect) → IsEffect events x → IsEffect events y
    → x.moment ≤ y.moment → Precedes events y.place x.place → ⊥
not_preceded events x y is_x is_y le before =
    let same : before.client ≡ is_y.client = cc (before.begins.1.1, is_y.within.begins.1.1) in
    is_y.within.no_end before.end before.ends.after (omega (arith, before.before, is_x.after, le))
    (subst (λ (c : Client). EndsAt events c before.end) same before.ends.ends)

-- so none of the order does
precedence_from_pairs : (events : List Event) (order : List Entry)
    → AllPairs (λ x y. Precedes events y.place x.place → ⊥) order → KeepsPrecedence events order
precedence_from_pairs events order pairs i j x y at_i at_j before =
    let i_lt : i < length order = slice_get_within order i x at_i in
    let j_lt : j < length order = slice_get_within order j y at_j in
    ⊎_elim
    (λ lt. lt)
    (λ le. ⊎_elim
    (λ lt.
    let is_y : get_or order j x ≡ y = get_or_from_slice_get order j y x at_j in
    let is_x : get_or order i x ≡ x = get_or_from_slice_get order i x x at_i in
    absurd (pairs j i x lt i_lt (subst (λ (e : Entry). Precedes events (get_or order i x).place e.place) (sym is_y)
    (subst (λ (e : Entry). Precedes events e.place y.place) (sym is_x) before))))
    (λ other.
    let one : i ≡ j = omega arith in
    let same : x ≡ y = cc (at_i, at_j, ap (slice_get order) one) in
    let after : x.place < before.end = before.ends.after in
    absurd (omega (arith, after, before.before, ap (λ (e : Entry). e.place) same)))
    (cases_lt j i))
    (cases_lt i j)

-- a Call has a number of the kind
abbrev pub IsOfKind : Kind → Event → Type 0
IsOfKind kind (call_event client number call) = IsNumberOf kind number
IsOfKind kind (return_event client reply) = ⊤
IsOfKind kind crash_event = ⊤
IsOfKind kind (ready_event told) = ⊤

-- so it is where a Call's number is one
numbers_of_kind : (kind : Kind) (events : List Event)
    → ((p number : ℕ) (client : Client) (call : Call) → CallAt events p client number call → IsNumberOf kind number)
    → (p : ℕ) (event : Event) → slice_get events p ≡ Some event → IsOfKind kind event
numbers_of_kind kind events numbers p (call_event client number call) at = numbers p number client call at
numbers_of_kind kind events numbers p (return_event client reply) at = tt
numbers_of_kind kind events numbers p crash_event at = tt
numbers_of_kind kind events numbers p (ready_event told) at = tt

-- a durable queue's call has no number but 0, a log queue's has not 0
durable_not_numbered : (event : Event) → IsOfKind Durable event → IsNumbered event → ⊥
durable_not_numbered (call_event client number call) zero_number numbered = omega (arith, zero_number, numbered)
durable_not_numbered (return_event client reply) is numbered = numbered
durable_not_numbered crash_event is numbered = numbered
durable_not_numbered (ready_event told) is numbered = numbered

log_not_unnumbered : (event : Event) → IsOfKind Log event → IsUnnumbered event → ⊥
log_not_unnumbered (call_event client number call) some unnumbered = omega (arith, some.0, unnumbered)
log_not_unnumbered (return_event client reply) is unnumbered = unnumbered
log_not_unnumbered crash_event is unnumbered = unnumbered
log_not_unnumbered (ready_event told) is unnumbered = unnumbered

-- a log queue's history is no durable queue's
not_durable : (events : List Event)
    → ((p number : ℕ) (client : Client) (call : Call) → CallAt events p client number call → IsNumberOf Log number)
    → IsDurable events → ⊥
not_durable events numbers (k, event, lt, is, unnumbered) =
    log_not_unnumbered event (numbers_of_kind Log events numbers k event
    (slice_get-get_or events k event lt ∙ ap Some is)) unnumbered

one_kind : (kind : Kind) (events : List Event)
    → ((p number : ℕ) (client : Client) (call : Call) → CallAt events p client number call → IsNumberOf kind number)
    → IsDurable events → All (λ event. ¬ (IsNumbered event)) events
one_kind Log events numbers durable k d lt = absurd (not_durable events numbers durable)
one_kind Durable events numbers durable k d lt =
    durable_not_numbered (get_or events k d)
    (numbers_of_kind Durable events numbers k _ (slice_get-get_or events k d lt))

-- where a durable queue's trace has no number 0 it has no call
no_calls : (events : List Event)
    → ((p number : ℕ) (client : Client) (call : Call) → CallAt events p client number call → IsNumberOf Durable number)
    → (IsDurable events → ⊥) → (p number : ℕ) (client : Client) (call : Call)
    → CallAt events p client number call → ⊥
no_calls events numbers none p number client call at =
    none (
      p,
      call_event client number call,
      slice_get_within events p _ at,
      get_or_from_slice_get events p _ _ at,
      numbers p number client call at,
    )

-- so a trace's history may arise
pub trace_arises : (kind : Kind) (base : List Value) (told : List Told) (events : List Event) (effects : List Effect)
    → IsTrace kind base told events effects → IsHistory events
trace_arises kind base told events effects trace =
    record { places = trace.places; numbers = one_kind kind events trace.numbers }

-- its order names calls, none twice, and keeps precedence
pub trace_is_order : (kind : Kind) (base : List Value) (told : List Told) (events : List Event) (effects : List Effect)
    → IsTrace kind base told events effects → IsOrder events (order_of effects)
trace_is_order kind base told events effects trace = record {
  calls = All-map (λ e. IsSome (call_at events e.place)) entry_of (settled_effects effects)
      (All-filter (λ e. e.settled) (λ x. IsSome (call_at events x.place)) effects
      (All-weaker (λ x. IsEffect events x) (λ x. IsSome (call_at events x.place))
      (effect_names events) effects trace.within));
  once = new_from_pairs (order_of effects) (pairs_map (λ x y. x.place ≢ y.place) entry_of (settled_effects effects)
      (AllPairs-filter (λ x y. x.place ≢ y.place) (λ e. e.settled) effects trace.once));
}

pub trace_precedence : (kind : Kind) (base : List Value) (told : List Told) (events : List Event)
    (effects : List Effect)
    → IsTrace kind base told events effects → KeepsPrecedence events (order_of effects)
trace_precedence kind base told events effects trace =
    precedence_from_pairs events (order_of effects)
    (pairs_map (λ x y. Precedes events y.place x.place → ⊥) entry_of (settled_effects effects)
    (AllPairs-filter (λ x y. Precedes events y.place x.place → ⊥) (λ e. e.settled) effects
    (pairs_weaker (λ x. IsEffect events x) (λ x y. x.moment ≤ y.moment)
    (λ x y. Precedes events y.place x.place → ⊥) effects (not_preceded events) trace.within trace.ascending)))

-- and replays
pub trace_replays : (kind : Kind) (base : List Value) (told : List Told) (events : List Event) (effects : List Effect)
    → IsTrace kind base told events effects → Replays events base (order_of effects)
trace_replays kind base told events effects trace =
    replays_from_runs events base (order_of effects)
    (runs_kept (λ e. e.settled) events base effects
    (dropped_empty (λ e. e.settled) events effects (λ x s. s) trace.pending)
    (runs_from_replays events base (entries_of effects) trace.replays))

-- at each Ready each client of a log queue is told of its last call
trace_verdicts : (kind : Kind) (base : List Value) (told : List Told) (events : List Event) (effects : List Effect)
    → IsTrace kind base told events effects → (IsDurable events → ⊥)
    → EachIndex events (λ q. TellsAt Log told events (order_of effects) q)
trace_verdicts Log base told events effects trace none q lt = trace.tells q lt
trace_verdicts Durable base told events effects trace none q lt =
    tells_without_calls Durable Log told events (order_of effects) q (no_calls events trace.numbers none)
    (trace.tells q lt)

trace_rows : (kind : Kind) (base : List Value) (told : List Told) (events : List Event) (effects : List Effect)
    → IsTrace kind base told events effects → IsDurable events
    → EachIndex events (λ q. TellsAt Durable told events (order_of effects) q)
trace_rows Durable base told events effects trace durable = trace.tells
trace_rows Log base told events effects trace durable = absurd (not_durable events trace.numbers durable)

-- so the order of a trace explains its history
pub trace_explains : (kind : Kind) (base : List Value) (told : List Told) (events : List Event) (effects : List Effect)
    → IsTrace kind base told events effects → Explains base told events (order_of effects)
trace_explains kind base told events effects trace =
    let order : IsOrder events (order_of effects) = trace_is_order kind base told events effects trace in
    record {
      is_order = order;
      answers = trace.answers;
      replays = trace_replays kind base told events effects trace;
      precedence = trace_precedence kind base told events effects trace;
      verdicts = trace_verdicts kind base told events effects trace;
      interrupted = λ none. told_if_interrupted told events (order_of effects) trace.places order.once trace.sixteen
          (trace_verdicts kind base told events effects trace none);
      rows = trace_rows kind base told events effects trace;
    }
