-- Calls that run to their ends one after another: where they stand, the order that explains them, and their replies.
use Rattle.std.proofs.Common.{ℕ, zero, suc, ◌≡◌, ◌<◌, ◌≤◌, ◌+◌, List, [], ◌∷◌, Option, Some, slice_get, get_or, length}
use Rattle.std.proofs.Common.{inl, refl, ap, arith, subst, sym, ◌∙◌, ⊎_elim, length-take}
use Rattle.std.specs.Prelude.{EachIndex}
use Rattle.std.proofs.lemmas.Bool.{cases_lt}
use Rattle.std.proofs.lemmas.List.{get_or-take, ext_get_or}
use Rattle.std.proofs.lemmas.Option.{same_Some, slice_get_within, slice_get-get_or, get_or_from_slice_get}
use Rattle.words.specs.PlainQueue.{Value, reply_of, served}
use Rattle.words.specs.declared.call.Call.{Call}
use Rattle.words.specs.declared.call.Call.TheVariants.{Deq}
use Rattle.words.specs.declared.call.Client.{Client}
use Rattle.words.specs.declared.call.Reply.TheVariants.{Empty}
use Rattle.words.specs.declared.told.Told.{Told}
use Rattle.events.specs.declared.event.Event.{Event}
use Rattle.events.specs.declared.event.Event.TheVariants.{Call as call_event, Return as return_event}
use Rattle.events.specs.declared.event.Entry.{Entry}
use Rattle.events.specs.Explains.{Explains}
use Rattle.events.specs.History.{CallAt, ReturnAt, IsEnd, Precedes}
use Rattle.history.specs.InTurn.{Turn, events_in_turn, AreServed, order_in_turn, queue_in_turn}
use Rattle.events.specs.Orders.{IsNew, IsTakenAs}
use Rattle.events.specs.Replay.{call_at, queue_after_call, queue_after, IsServed}
use Rattle.events.proofs.Facts.{Runs, runs_from_replays}

-- where the call after i others begins
abbrev pub begin_of : ℕ → ℕ
begin_of zero = zero
begin_of (suc i) = suc (suc (begin_of i))

begin_is : (i : ℕ) → begin_of i ≡ i + i
begin_is zero = refl
begin_is (suc i) = let so : begin_of i ≡ i + i = begin_is i in omega (arith, so)

-- its Call stands there, and its Return next
call_in_turn : (client : Client) (turns : List Turn) (i : ℕ) (turn : Turn) → slice_get turns i ≡ Some turn
    → CallAt (events_in_turn client turns) (begin_of i) client turn.number turn.call
call_in_turn client [] i turn at = cc at
call_in_turn client (t ∷ turns) zero turn at =
    ap (λ (u : Turn). Some (call_event client u.number u.call)) (same_Some t turn at)
call_in_turn client (t ∷ turns) (suc i) turn at = call_in_turn client turns i turn at

return_in_turn : (client : Client) (turns : List Turn) (i : ℕ) (turn : Turn) → slice_get turns i ≡ Some turn
    → ReturnAt (events_in_turn client turns) (suc (begin_of i)) client turn.reply
return_in_turn client [] i turn at = cc at
return_in_turn client (t ∷ turns) zero turn at =
    ap (λ (u : Turn). Some (return_event client u.reply)) (same_Some t turn at)
return_in_turn client (t ∷ turns) (suc i) turn at = return_in_turn client turns i turn at

-- no other place is one of a Call
pub record IsTurnAt (turns : List Turn) (p : ℕ) : Type 0 where
  pub index : ℕ
  pub within : index < length turns
  pub place : p ≡ begin_of index

turn_named : (client : Client) (turns : List Turn) (p : ℕ) (call : Call)
    → call_at (events_in_turn client turns) p ≡ Some call → IsTurnAt turns p
turn_named client [] p call at = cc at
turn_named client (t ∷ turns) zero call at = record { index = 0; within = omega arith; place = refl }
turn_named client (t ∷ turns) (suc zero) call at = cc at
turn_named client (t ∷ turns) (suc (suc p)) call at =
    let rest : IsTurnAt turns p = turn_named client turns p call at in
    record {
      index = suc rest.index;
      within = omega (arith, rest.within);
      place = ap (λ (q : ℕ). suc (suc q)) rest.place;
    }

-- the Return ends the call
end_in_turn : (client : Client) (turns : List Turn) (i : ℕ) (turn : Turn) → slice_get turns i ≡ Some turn
    → IsEnd (events_in_turn client turns) client (begin_of i) (suc (begin_of i))
end_in_turn client turns i turn at = record {
  after = omega arith;
  ends = inl (turn.reply, return_in_turn client turns i turn at);
  first = λ k low high ends. absurd (omega (arith, low, high));
}

-- the call precedes what begins later
precedes_in_turn : (client : Client) (turns : List Turn) (i b : ℕ) (turn : Turn) → slice_get turns i ≡ Some turn
    → suc (begin_of i) < b → Precedes (events_in_turn client turns) (begin_of i) b
precedes_in_turn client turns i b turn at later = record {
  client = client;
  begins = (turn.number, (turn.call, call_in_turn client turns i turn at));
  end = suc (begin_of i);
  ends = end_in_turn client turns i turn at;
  before = later;
}

-- no two entries have one place
not_twice : (order : List Entry) (j i : ℕ) (x y : Entry) → EachIndex order (λ i. IsNew order i) → j < i
    → slice_get order j ≡ Some x → slice_get order i ≡ Some y → x.place ≡ y.place → ⊥
not_twice order j i x y once lt at_x at_y same =
    let within : i < length order = slice_get_within order i y at_y in
    (once i within).none y at_y (
      j,
      x,
      omega (arith, length-take i order),
      get_or-take i order j x lt
          ∙ get_or_from_slice_get order j x x at_x,
      same,
    )

-- the entry of the call after i others
abbrev pub entry_in_turn : ℕ → Turn → Entry
entry_in_turn i turn = record { place = begin_of i; reply = turn.reply }

-- it is in the order, at some place
pub record StandsInOrder (order : List Entry) (i : ℕ) (turn : Turn) : Type 0 where
  pub index : ℕ
  pub at : slice_get order index ≡ Some (entry_in_turn i turn)

stands_in_order : (client : Client) (turns : List Turn) (base : List Value) (told : List Told) (order : List Entry)
    → Explains base told (events_in_turn client turns) order → (i : ℕ) (turn : Turn) → slice_get turns i ≡ Some turn
    → StandsInOrder order i turn
stands_in_order client turns base told order explains i turn at =
    let begins : CallAt (events_in_turn client turns) (begin_of i) client turn.number turn.call =
    call_in_turn client turns i turn at in
    let within : begin_of i < length (events_in_turn client turns) =
    slice_get_within (events_in_turn client turns) (begin_of i) _ begins in
    let taken : IsTakenAs order (begin_of i) turn.reply =
    (explains.answers (begin_of i) within).taken (suc (begin_of i)) client turn.reply
    (turn.number, (turn.call, begins)) (end_in_turn client turns i turn at)
    (return_in_turn client turns i turn at) in
    record { index = taken.0; at = slice_get-get_or order taken.0 (entry_in_turn i turn) taken.1 ∙ ap Some taken.2 }

-- each entry is of one of the calls
entry_of_turn : (client : Client) (turns : List Turn) (base : List Value) (told : List Told) (order : List Entry)
    → Explains base told (events_in_turn client turns) order → (i : ℕ) (x : Entry) → slice_get order i ≡ Some x
    → IsTurnAt turns x.place
entry_of_turn client turns base told order explains i x at =
    let served : IsServed _ _ x = (explains.replays i (slice_get_within order i x at)).served x at in
    turn_named client turns x.place served.call served.names

-- the first n calls stand first in the order, one after another
pub record AreFirst (turns : List Turn) (order : List Entry) (n : ℕ) : Type 0 where
  pub each : (k : ℕ) (turn : Turn) → k < n → slice_get turns k ≡ Some turn
      → slice_get order k ≡ Some (entry_in_turn k turn)

-- after them no entry is of one of them
none_again : (turns : List Turn) (order : List Entry) (n i m : ℕ) (x : Entry) (d : Turn)
    → EachIndex order (λ i. IsNew order i) → AreFirst turns order n → n ≤ i → slice_get order i ≡ Some x
    → m < n → m < length turns → x.place ≡ begin_of m → ⊥
none_again turns order n i m x d once so_far past at below within place =
    not_twice order m i (entry_in_turn m (get_or turns m d)) x once (omega arith)
    (so_far.each m (get_or turns m d) below (slice_get-get_or turns m d within)) at (sym place)

-- so the next call stands next
next_in_turn : (client : Client) (turns : List Turn) (base : List Value) (told : List Told) (order : List Entry)
    → Explains base told (events_in_turn client turns) order → (n : ℕ) (turn : Turn) → AreFirst turns order n
    → slice_get turns n ≡ Some turn → slice_get order n ≡ Some (entry_in_turn n turn)
next_in_turn client turns base told order explains n turn so_far at =
    let own : StandsInOrder order n turn = stands_in_order client turns base told order explains n turn at in
    ⊎_elim
    (λ before. absurd (not_early own before))
    (λ not_before. ⊎_elim
    (λ late. absurd (not_late own late))
    (λ not_late.
    let same : own.index ≡ n = omega arith in
    subst (λ (k : ℕ). slice_get order k ≡ Some (entry_in_turn n turn)) same own.at)
    (cases_lt n own.index))
    (cases_lt own.index n)
  where
    not_early : (own : StandsInOrder order n turn) → own.index < n → ⊥
    not_early own before =
        let long : n < length turns = slice_get_within turns n turn at in
        let other : Turn = get_or turns own.index turn in
        let first : slice_get order own.index ≡ Some (entry_in_turn own.index other) =
        so_far.each own.index other before (slice_get-get_or turns own.index turn (omega arith)) in
        let same : begin_of own.index ≡ begin_of n = ap (λ (e : Entry). e.place) (same_Some _ _ (sym first ∙ own.at)) in
        omega (arith, same, before, begin_is own.index, begin_is n)

    not_late : (own : StandsInOrder order n turn) → n < own.index → ⊥
    not_late own late =
        let once : EachIndex order (λ i. IsNew order i) = explains.is_order.once in
        let in_order : own.index < length order = slice_get_within order own.index _ own.at in
        let here : Entry = get_or order n (entry_in_turn n turn) in
        let at_n : slice_get order n ≡ Some here = slice_get-get_or order n (entry_in_turn n turn) (omega arith) in
        let is : IsTurnAt turns here.place = entry_of_turn client turns base told order explains n here at_n in
        ⊎_elim
        (λ lower. none_again turns order n n is.index here turn once so_far (omega arith) at_n lower is.within is.place)
        (λ not_lower. ⊎_elim
        (λ higher.
        let earlier : own.index < n = explains.precedence own.index n (entry_in_turn n turn) here own.at at_n
        (precedes_in_turn client turns n here.place turn at
        (omega (arith, is.place, higher, begin_is is.index, begin_is n))) in
        omega arith)
        (λ not_higher.
        let same : is.index ≡ n = omega arith in
        not_twice order n own.index here (entry_in_turn n turn) once late at_n own.at (is.place ∙ ap begin_of same))
        (cases_lt n is.index))
        (cases_lt is.index n)

-- all of them stand first
first_in_turn : (client : Client) (turns : List Turn) (base : List Value) (told : List Told) (order : List Entry)
    → Explains base told (events_in_turn client turns) order → (n : ℕ) → AreFirst turns order n
first_in_turn client turns base told order explains zero = record { each = λ k turn below at. absurd (omega arith) }
first_in_turn client turns base told order explains (suc n) =
    let so_far : AreFirst turns order n = first_in_turn client turns base told order explains n in
    record {
      each = λ k turn below at.
          ⊎_elim
          (λ old. so_far.each k turn old at)
          (λ new.
          let same : k ≡ n = omega arith in
          let there : slice_get turns n ≡ Some turn = subst (λ (j : ℕ). slice_get turns j ≡ Some turn) same at in
          subst (λ (j : ℕ). slice_get order j ≡ Some (entry_in_turn j turn)) (sym same)
          (next_in_turn client turns base told order explains n turn so_far there))
          (cases_lt k n);
    }

-- and there is nothing else
length_in_turn : (client : Client) (turns : List Turn) (base : List Value) (told : List Told) (order : List Entry)
    → Explains base told (events_in_turn client turns) order → AreFirst turns order (length turns)
    → (d : Turn) → (length order ≡ length turns)
length_in_turn client turns base told order explains all d =
    let n : ℕ = length turns in
    let no_more : n < length order → ⊥ = λ more.
    let here : Entry = get_or order n (entry_in_turn n d) in
    let at_n : slice_get order n ≡ Some here = slice_get-get_or order n (entry_in_turn n d) more in
    let is : IsTurnAt turns here.place = entry_of_turn client turns base told order explains n here at_n in
    none_again turns order n n is.index here d explains.is_order.once all
    (omega arith) at_n is.within is.within is.place in
    let no_less : length order < n → ⊥ = λ less.
    let at : slice_get order (length order) ≡ _ = all.each (length order) (get_or turns (length order) d) less
    (slice_get-get_or turns (length order) d less) in
    let within : length order < length order = slice_get_within order (length order) _ at in
    omega arith in
    ⊎_elim (λ less. absurd (no_less less)) (λ le. ⊎_elim (λ more. absurd (no_more more)) (λ ge. omega arith)
    (cases_lt n (length order))) (cases_lt (length order) n)

-- what the order in turn is, place by place
order_in_turn_length : (place : ℕ) (turns : List Turn) → length (order_in_turn place turns) ≡ length turns
order_in_turn_length place [] = refl
order_in_turn_length place (t ∷ turns) = ap suc (order_in_turn_length (place + 2) turns)

order_in_turn_at : (place p : ℕ) (turns : List Turn) (i : ℕ) (d : Entry) (turn : Turn) → slice_get turns i ≡ Some turn
    → p ≡ place + begin_of i → get_or (order_in_turn place turns) i d ≡ record { place = p; reply = turn.reply }
order_in_turn_at place p [] i d turn at is = cc at
order_in_turn_at place p (t ∷ turns) zero d turn at is =
    let same : t ≡ turn = same_Some t turn at in
    let here : place ≡ p = omega (arith, is) in
    ap (λ (q : ℕ). let e : Entry = record { place = q; reply = t.reply } in e) here
    ∙ ap (λ (u : Turn). let e : Entry = record { place = p; reply = u.reply } in e) same
order_in_turn_at place p (t ∷ turns) (suc i) d turn at is =
    order_in_turn_at (place + 2) p turns i d turn at (omega (arith, is))

-- so the order is the calls in turn
pub one_order : (client : Client) (turns : List Turn) (base : List Value) (told : List Told) (order : List Entry)
    → Explains base told (events_in_turn client turns) order → order ≡ order_in_turn 0 turns
one_order client turns base told order explains =
    let d : Entry = record { place = 0; reply = Empty } in
    let t : Turn = record { number = 0; call = Deq; reply = Empty } in
    let all : AreFirst turns order (length turns) =
    first_in_turn client turns base told order explains (length turns) in
    let long : length order ≡ length turns = length_in_turn client turns base told order explains all t in
    ext_get_or d order (order_in_turn 0 turns) (long ∙ sym (order_in_turn_length 0 turns))
    (λ i lt.
    let at : slice_get turns i ≡ Some (get_or turns i t) = slice_get-get_or turns i t (omega (arith, long, lt)) in
    get_or_from_slice_get order i _ d (all.each i (get_or turns i t) (omega (arith, long, lt)) at)
    ∙ sym (order_in_turn_at 0 (begin_of i) turns i d (get_or turns i t) at (omega arith)))

-- the events from this place on begin the calls in turn
abbrev pub BeginTurns : Client → List Turn → List Event → ℕ → Type 0
BeginTurns client turns events place = (q : ℕ) → call_at events (place + q) ≡ call_at (events_in_turn client turns) q

turns_begin : (client : Client) (turns : List Turn) → BeginTurns client turns (events_in_turn client turns) 0
turns_begin client turns q = let here : 0 + q ≡ q = omega arith in ap (call_at (events_in_turn client turns)) here

first_begins : (client : Client) (turn : Turn) (turns : List Turn) (events : List Event) (place : ℕ)
    → BeginTurns client (turn ∷ turns) events place → call_at events place ≡ Some turn.call
first_begins client turn turns events place begin =
    let here : place ≡ place + 0 = omega arith in ap (call_at events) here ∙ begin 0

later_begin : (client : Client) (turn : Turn) (turns : List Turn) (events : List Event) (place : ℕ)
    → BeginTurns client (turn ∷ turns) events place → BeginTurns client turns events (place + 2)
later_begin client turn turns events place begin q =
    let there : place + 2 + q ≡ place + suc (suc q) = omega arith in ap (call_at events) there ∙ begin (suc (suc q))

-- what such an order leaves, the plain queue leaves
left_from_order : (client : Client) (turns : List Turn) (events : List Event) (base : List Value) (place : ℕ)
    → BeginTurns client turns events place
    → queue_after events base (order_in_turn place turns) ≡ queue_in_turn base turns
left_from_order client [] events base place begin = refl
left_from_order client (t ∷ turns) events base place begin =
    let names : call_at events place ≡ Some t.call = first_begins client t turns events place begin in
    ap (λ (call : Option Call). queue_after events (queue_after_call base call) (order_in_turn (place + 2) turns)) names
    ∙ left_from_order client turns events (served base t.call) (place + 2)
    (later_begin client t turns events place begin)

pub left_is : (client : Client) (turns : List Turn) (base : List Value) (told : List Told) (order : List Entry)
    → Explains base told (events_in_turn client turns) order
    → queue_after (events_in_turn client turns) base order ≡ queue_in_turn base turns
left_is client turns base told order explains =
    ap (queue_after (events_in_turn client turns) base) (one_order client turns base told order explains)
    ∙ left_from_order client turns (events_in_turn client turns) base 0 (turns_begin client turns)

-- what runs in such an order, the plain queue serves
served_from_runs : (client : Client) (turns : List Turn) (events : List Event) (base : List Value) (place : ℕ)
    → BeginTurns client turns events place → Runs events base (order_in_turn place turns) → AreServed base turns
served_from_runs client [] events base place begin runs = tt
served_from_runs client (t ∷ turns) events base place begin runs =
    let names : call_at events place ≡ Some t.call = first_begins client t turns events place begin in
    let is : runs.0.call ≡ t.call = same_Some _ _ (sym runs.0.names ∙ names) in (
      runs.0.reply ∙ ap (reply_of base) is,
      served_from_runs client turns events (served base t.call) (place + 2)
          (later_begin client t turns events place begin)
          (subst (λ (queue : List Value). Runs events queue (order_in_turn (place + 2) turns))
          (ap (queue_after_call base) names) runs.1),
    )

pub served_in_turn : (client : Client) (turns : List Turn) (base : List Value) (told : List Told) (order : List Entry)
    → Explains base told (events_in_turn client turns) order → AreServed base turns
served_in_turn client turns base told order explains =
    let is : order ≡ order_in_turn 0 turns = one_order client turns base told order explains in
    served_from_runs client turns (events_in_turn client turns) base 0 (turns_begin client turns)
    (subst (Runs (events_in_turn client turns) base) is
    (runs_from_replays (events_in_turn client turns) base order explains.replays))
