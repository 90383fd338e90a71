-- Values that rise from call to call.
use Rattle.std.proofs.Common.{ℕ, ◌≡◌, ◌<◌, ◌≤◌, ◌+◌, List, Some, length}
use Rattle.std.proofs.Common.{arith, ap, sym, ◌∙◌, subst, ⊎_elim}
use Rattle.std.proofs.lemmas.Bool.{cases_lt}
use Rattle.words.specs.PlainQueue.{Value}
use Rattle.words.specs.declared.call.Call.TheVariants.{Enq}
use Rattle.events.specs.declared.event.Event.{Event}
use Rattle.events.specs.Replay.{call_at}
use Rattle.findings.specs.Findings.{PutsAt, HasDistinctValues}
use Rattle.findings.specs.Ranks.{rank_of}
use Rattle.findings.proofs.Showing.{within_events}

-- of the calls before k: the numbers of their values are below `least`, and no two values are the same
pub record RisesTo (events : List Event) (k least : ℕ) : Type 0 where
  pub below : (p : ℕ) (value : Value) → p < k → PutsAt events p value → rank_of value < least
  pub differ : (p q : ℕ) (value : Value) → p < k → q < k → PutsAt events p value → PutsAt events q value → p ≡ q

pub rises_none : (events : List Event) (least : ℕ) → RisesTo events 0 least
rises_none events least = record {
  below = λ p value lt puts. absurd (omega arith);
  differ = λ p q value lt_p lt_q puts_p puts_q. absurd (omega arith);
}

-- a call that puts a value whose number is `least` or above
pub rises_put : (events : List Event) (k least : ℕ) (value : Value) → RisesTo events k least → PutsAt events k value
    → least ≤ rank_of value → RisesTo events (k + 1) (rank_of value + 1)
rises_put events k least value so_far puts le = record {
  below = λ p other lt at.
      ⊎_elim
      (λ (old : p < k). let low : rank_of other < least = so_far.below p other old at in omega arith)
      (λ (new : k ≤ p). let one : Some (Enq other) ≡ Some (Enq value) =
      sym at ∙ ap (call_at events) (let same : p ≡ k = omega arith in same) ∙ puts in
      let ranks : rank_of other ≡ rank_of value = ap rank_of (cc (one)) in omega arith)
      (cases_lt p k);
  differ = λ p q other lt_p lt_q at_p at_q.
      ⊎_elim
      (λ (old_p : p < k). ⊎_elim
      (λ (old_q : q < k). so_far.differ p q other old_p old_q at_p at_q)
      (λ (new_q : k ≤ q). absurd (new_old q p other (omega arith) old_p at_q at_p))
      (cases_lt q k))
      (λ (new_p : k ≤ p). ⊎_elim
      (λ (old_q : q < k). absurd (new_old p q other (omega arith) old_q at_p at_q))
      (λ (new_q : k ≤ q). omega arith)
      (cases_lt q k))
      (cases_lt p k);
}
  where
    new_old : (p q : ℕ) (other : Value) → p ≡ k → q < k → PutsAt events p other → PutsAt events q other → ⊥
    new_old p q other same old at_p at_q =
        let one : Some (Enq other) ≡ Some (Enq value) = sym at_p ∙ ap (call_at events) same ∙ puts in
        let ranks : rank_of other ≡ rank_of value = ap rank_of (cc (one)) in
        let low : rank_of other < least = so_far.below q other old at_q in
        omega arith

-- a place that puts no value
pub rises_other : (events : List Event) (k least : ℕ) → RisesTo events k least
    → ((value : Value) → PutsAt events k value → ⊥) → RisesTo events (k + 1) least
rises_other events k least so_far none = record {
  below = λ p other lt at. so_far.below p other (old p other lt at) at;
  differ = λ p q other lt_p lt_q at_p at_q.
      so_far.differ p q other (old p other lt_p at_p) (old q other lt_q at_q) at_p at_q;
}
  where
    old : (p : ℕ) (other : Value) → p < k + 1 → PutsAt events p other → p < k
    old p other lt at =
        ⊎_elim (λ (less : p < k). less)
        (λ (ge : k ≤ p). let same : p ≡ k = omega arith in
        absurd (none other (subst (λ (n : ℕ). PutsAt events n other) same at)))
        (cases_lt p k)

-- so it is of all calls
pub rises_all : (events : List Event) (k least : ℕ) → RisesTo events k least → length events ≤ k
    → HasDistinctValues events
rises_all events k least so_far le = record {
  each = λ p q value at_p at_q.
      let lt_p : p < length events = within_events events p (Enq value) at_p in
      let lt_q : q < length events = within_events events q (Enq value) at_q in
      so_far.differ p q value (omega arith) (omega arith) at_p at_q;
}
