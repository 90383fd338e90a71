-- An order by the places of its calls.
use Rattle.std.proofs.Common.{ℕ, ◌≡◌, ◌≢◌, ◌<◌, ◌≤◌, ◌+◌, List, Option, Some, None, slice_get, get_or, length, take, arith, refl}
use Rattle.std.proofs.Common.{ap, sym, ◌∙◌, subst, ⊎_elim, get_or-set_same, get_or-set_other, replicate}
use Rattle.std.proofs.Math.ListN.{set, length-set}
use Rattle.std.specs.Prelude.{EachIndex, IfNone, IfSome, IsSome}
use Rattle.std.proofs.lemmas.Bool.{cases_lt, cases_eq}
use Rattle.std.proofs.lemmas.List.{get_or-take, get_or-replicate, length-replicate, length-take}
use Rattle.std.proofs.lemmas.Option.{slice_get_within, slice_get-get_or, get_or_from_slice_get}
use Rattle.words.specs.declared.call.Reply.{Reply}
use Rattle.events.specs.declared.event.Event.{Event}
use Rattle.events.specs.declared.event.Entry.{Entry}
use Rattle.events.specs.Orders.{InOrder, IsTakenAs, IsNew}
use Rattle.events.specs.Replay.{call_at, call_of}
use Rattle.words.specs.declared.told.Outcome.{Outcome}
use Rattle.words.specs.declared.told.Outcome.TheVariants.{NotTaken, Taken}
use Rattle.events.specs.Telling.{IsOutcome}
use Rattle.events.proofs.Facts.{in_order_from_taken, one_reply, taken_at}
use Rattle.history.specs.Sweeps.{HasPlace}
use Rattle.findings.specs.Agreeing.{AgreesAt, IsAgreed, IsTableOf, Names}
use Rattle.findings.specs.Findings.{Agrees, IsLearnt}

-- between the two ways to say that a call is in a part of the order
in_order_from_place : (order : List Entry) (n p : ℕ) → HasPlace order n p → InOrder (take n order) p
in_order_from_place order n p has =
    let within : has.index < length order = slice_get_within order has.index has.entry has.at in
    let lt : has.index < length (take n order) = omega (arith, length-take n order, has.before) in
    let is : get_or (take n order) has.index has.entry ≡ has.entry =
    get_or-take n order has.index has.entry has.before
    ∙ get_or_from_slice_get order has.index has.entry has.entry has.at in
    (has.index, has.entry, lt, is, has.same)

place_from_in_order : (order : List Entry) (n p : ℕ) → InOrder (take n order) p → HasPlace order n p
place_from_in_order order n p (k, x, lt, is, place) =
    let before : k < n = omega (arith, lt, length-take n order) in
    let within : k < length order = omega (arith, lt, length-take n order) in
    record {
      index = k;
      before = before;
      entry = x;
      at = slice_get-get_or order k x within ∙ ap Some (sym (get_or-take n order k x before) ∙ is);
      same = place;
    }

pub all_places : (order : List Entry) (p : ℕ) → InOrder order p → HasPlace order (length order) p
all_places order p (k, x, lt, is, place) = record {
  index = k;
  before = lt;
  entry = x;
  at = slice_get-get_or order k x lt ∙ ap Some is;
  same = place;
}

-- a table of no entry
pub table_none : (order : List Entry) (places : ℕ) → IsTableOf order 0 (replicate places (length order))
table_none order places = record {
  some = λ p k at lt.
      let within : p < length (replicate places (length order)) = slice_get_within _ p k at in
      let small : p < places = omega (arith, within, length-replicate places (length order)) in
      let is : length order ≡ k = sym (get_or-replicate places p (length order) k small)
      ∙ get_or_from_slice_get (replicate places (length order)) p k k at in
      absurd (omega (arith, is));
  none = λ p k at le has. absurd (omega (arith, has.before));
}

-- a table with one entry more
pub table_more : (order : List Entry) (n : ℕ) (table : List ℕ) (entry : Entry) → slice_get order n ≡ Some entry
    → entry.place < length table → IsTableOf order n table → IsTableOf order (n + 1) (set table entry.place n)
table_more order n table entry at within so_far = record {
  some = λ p k now lt.
      let inside : p < length (set table entry.place n) = slice_get_within _ p k now in
      let small : p < length table = omega (arith, inside, length-set table entry.place n) in
      let read : get_or (set table entry.place n) p k ≡ k = get_or_from_slice_get _ p k k now in
      ⊎_elim
      (λ (same : p ≡ entry.place).
      let here : n ≡ k = sym (get_or-set_same table entry.place n k within)
      ∙ ap (λ (q : ℕ). get_or (set table entry.place n) q k) (sym same) ∙ read in
      (omega arith, record { entry = entry; at = ap (slice_get order) (sym here) ∙ at; place = sym same }))
      (λ (other : p ≢ entry.place).
      let old : get_or table p k ≡ k = sym (get_or-set_other table entry.place p n k other) ∙ read in
      let was = so_far.some p k (slice_get-get_or table p k small ∙ ap Some old) lt in
      (omega (arith, was.0), was.1))
      (cases_eq p entry.place);
  none = λ p k now le has.
      let inside : p < length (set table entry.place n) = slice_get_within _ p k now in
      let small : p < length table = omega (arith, inside, length-set table entry.place n) in
      let read : get_or (set table entry.place n) p k ≡ k = get_or_from_slice_get _ p k k now in
      let less : n < length order = slice_get_within order n entry at in
      ⊎_elim
      (λ (same : p ≡ entry.place).
      let here : n ≡ k = sym (get_or-set_same table entry.place n k within)
      ∙ ap (λ (q : ℕ). get_or (set table entry.place n) q k) (sym same) ∙ read in
      absurd (omega arith))
      (λ (other : p ≢ entry.place).
      let old : get_or table p k ≡ k = sym (get_or-set_other table entry.place p n k other) ∙ read in
      so_far.none p k (slice_get-get_or table p k small ∙ ap Some old) le (earlier p other has))
      (cases_eq p entry.place);
}
  where
    earlier : (p : ℕ) → p ≢ entry.place → HasPlace order (n + 1) p → HasPlace order n p
    earlier p other has =
        ⊎_elim
        (λ (lt : has.index < n). record {
          index = has.index;
          before = lt;
          entry = has.entry;
          at = has.at;
          same = has.same;
        })
        (λ (le : n ≤ has.index). let same : has.index ≡ n = omega (arith, has.before) in
        let entries : has.entry ≡ entry = cc (at, has.at, ap (slice_get order) same) in
        absurd (other (sym has.same ∙ ap (λ (e : Entry). e.place) entries)))
        (cases_lt has.index n)

-- the next entry names a new call, where none has its place in the table
pub new_here : (order : List Entry) (n : ℕ) (table : List ℕ) (entry : Entry) (d : ℕ) → slice_get order n ≡ Some entry
    → entry.place < length table → IsTableOf order n table → length order ≤ get_or table entry.place d
    → IsNew order n
new_here order n table entry d at within so_far le = record {
  none = λ other at_too in_order.
      let same : entry ≡ other = cc (at, at_too) in
      let has : HasPlace order n entry.place = place_from_in_order order n entry.place
      (subst (λ (e : Entry). InOrder (take n order) e.place) (sym same) in_order) in
      so_far.none entry.place (get_or table entry.place d) (slice_get-get_or table entry.place d within) le has;
}

-- and otherwise not
pub not_new : (order : List Entry) (n : ℕ) (table : List ℕ) (entry : Entry) (d : ℕ) → slice_get order n ≡ Some entry
    → entry.place < length table → IsTableOf order n table → get_or table entry.place d < length order
    → EachIndex order (λ i. IsNew order i) → ⊥
not_new order n table entry d at within so_far lt each =
    let k : ℕ = get_or table entry.place d in
    let was = so_far.some entry.place k (slice_get-get_or table entry.place d within) lt in
    let has : HasPlace order n entry.place =
    record { index = k; before = was.0; entry = was.1.entry; at = was.1.at; same = was.1.place } in
    (each n (slice_get_within order n entry at)).none entry at (in_order_from_place order n entry.place has)

-- what was learnt of a call is so, if its reply in the order agrees with it
pub agrees_from : (learnt : List (Option Outcome)) (order : List Entry) (p : ℕ) (outcome : Outcome)
    (reply : Option Reply) → IsLearnt learnt p outcome → IfSome reply (λ r. IsTakenAs order p r)
    → IfNone reply (InOrder order p → ⊥) → IsAgreed outcome reply → AgreesAt learnt order p
agrees_from learnt order p outcome reply learnt_at some none agreed = record {
  agrees = λ other is.
      let both : Some (Some outcome) ≡ Some (Some other) = sym learnt_at ∙ is in
      let same : outcome ≡ other = cc (both) in
      subst (IsOutcome order p) same (go outcome reply some none agreed);
}
  where
    go : (outcome : Outcome) (reply : Option Reply) → IfSome reply (λ r. IsTakenAs order p r)
        → IfNone reply (InOrder order p → ⊥) → IsAgreed outcome reply → IsOutcome order p outcome
    go NotTaken None some none agreed = none
    go NotTaken (Some other) some none agreed = absurd agreed
    go (Taken expected) None some none agreed = absurd agreed
    go (Taken expected) (Some other) some none agreed = subst (IsTakenAs order p) agreed some

pub agreed_from : (learnt : List (Option Outcome)) (order : List Entry) (p : ℕ) (outcome : Outcome)
    (reply : Option Reply) → EachIndex order (λ i. IsNew order i) → IsLearnt learnt p outcome
    → IfSome reply (λ r. IsTakenAs order p r) → IfNone reply (InOrder order p → ⊥) → AgreesAt learnt order p
    → IsAgreed outcome reply
agreed_from learnt order p outcome reply once learnt_at some none agrees =
    go outcome reply some none (agrees.agrees outcome learnt_at)
  where
    go : (outcome : Outcome) (reply : Option Reply) → IfSome reply (λ r. IsTakenAs order p r)
        → IfNone reply (InOrder order p → ⊥) → IsOutcome order p outcome → IsAgreed outcome reply
    go NotTaken None some none is = tt
    go NotTaken (Some other) some none is = is (in_order_from_taken order p other some)
    go (Taken expected) None some none is = none (in_order_from_taken order p expected is)
    go (Taken expected) (Some other) some none is = one_reply order once p other expected some is

-- what was learnt of each call is what was learnt
pub agrees_all : (learnt : List (Option Outcome)) (order : List Entry) (n : ℕ) → length learnt ≤ n
    → ((p : ℕ) → p < n → AgreesAt learnt order p) → Agrees learnt order
agrees_all learnt order n le each = record {
  each = λ p outcome is.
      let lt : p < length learnt = slice_get_within learnt p (Some outcome) is in
      (each p (omega arith)).agrees outcome is;
}

pub agrees_each : (learnt : List (Option Outcome)) (order : List Entry) → Agrees learnt order → (p : ℕ)
    → AgreesAt learnt order p
agrees_each learnt order agrees p = record { agrees = λ outcome is. agrees.each p outcome is }

-- the reply by the number at a place
pub taken_here : (order : List Entry) (table : List ℕ) (p k : ℕ) (entry : Entry)
    → IsTableOf order (length order) table → slice_get table p ≡ Some k → slice_get order k ≡ Some entry
    → IsTakenAs order p entry.reply
taken_here order table p k entry is at at_k =
    let named : Names order k p = (is.some p k at (slice_get_within order k entry at_k)).1 in
    let same : named.entry ≡ entry = cc (at_k, named.at) in
    taken_at order k p entry.reply entry at_k (sym (ap (λ (e : Entry). e.place) same) ∙ named.place) refl

pub none_here : (order : List Entry) (table : List ℕ) (p k : ℕ) → IsTableOf order (length order) table
    → slice_get table p ≡ Some k → length order ≤ k → InOrder order p → ⊥
none_here order table p k is at le in_order = is.none p k at le (all_places order p in_order)

-- a call that is named stands among the events
pub named_within : (events : List Event) (p : ℕ) → IsSome (call_at events p) → p < length events
named_within events p some = go (slice_get events p) refl
  where
    go : (event : Option Event) → slice_get events p ≡ event → p < length events
    go (Some event) at = slice_get_within events p event at
    go None at = let none : IsSome (call_of None) = subst (λ (e : Option Event). IsSome (call_of e)) at some in cc none
