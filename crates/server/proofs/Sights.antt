-- What is seen of queues, slot by slot.
use Rattle.std.proofs.Common.{◌≡◌, ℕ, ◌<◌, List, length, Option, Some, None, sym, ◌∙◌, ap, arith, inl, inr, subst, length-set, slice_set}
use Rattle.std.specs.Prelude.{slice_get, replicate, IfOk, Ok, Result}
use Rattle.std.proofs.lemmas.Bool.Decides.{eqb_tells}
use Rattle.std.proofs.lemmas.Grind.{get_or-set_at}
use Rattle.std.proofs.lemmas.List.{get_or-replicate, get_or-set_other, length-replicate}
use Rattle.std.proofs.lemmas.Option.{get_or_from_slice_get, slice_get-get_or, slice_get_within}
use Rattle.gauges.specs.declared.numbers.QueueGauges.{QueueGauges}
use Rattle.session.specs.Sessions.{Sessioned}
use Rattle.words.specs.declared.refusal.Refusal.{Refusal}
use Rattle.workers.specs.Moments.{GoesOnLater}
use Rattle.workers.proofs.Facts.{later_still}
use Rattle.server.specs.Seen.{AreHeldSince, HoldsItems, IsHeldSince}

-- where nothing is seen
pub held_none : (first : Sessioned) (n : ℕ) → AreHeldSince first (replicate n None)
held_none first n slot seen e =
    let nothing : Option QueueGauges = None in
    let below : slot < n = subst (λ (m : ℕ). slot < m) (length-replicate n nothing) (slice_get_within (replicate n nothing) slot (Some seen) e) in
    let same : nothing ≡ Some seen =
    sym (get_or-replicate n slot nothing nothing below) ∙ get_or_from_slice_get (replicate n nothing) slot (Some seen) nothing e in
    cc

same_seen : (one other : QueueGauges) → Some (Some one) ≡ Some (Some other) → one ≡ other
same_seen one other e = cc

-- one more is seen
pub held_set : (first : Sessioned) (queues : List (Option QueueGauges)) (slot : ℕ) (held : QueueGauges) → slot < length queues
    → AreHeldSince first queues → IsHeldSince first slot held → AreHeldSince first (slice_set queues slot (Some held))
held_set first queues slot held below all here at seen e =
    let now : List (Option QueueGauges) = slice_set queues slot (Some held) in
    let long : length now ≡ length queues = length-set queues slot (Some held) in
    let within : at < length now = slice_get_within now at (Some seen) e in
    elim (eqb_tells at slot) [
      | inl same ↦
          let there : Some held ≡ Some seen =
          sym (get_or-set_at queues slot at (Some held) None same.1 below) ∙ get_or_from_slice_get now at (Some seen) None e in
          let is : held ≡ seen = same_seen held seen (ap Some there) in
          subst (λ (q : QueueGauges). IsHeldSince first at q) is (subst (λ (s : ℕ). IsHeldSince first s held) (sym same.1) here)
      | inr apart ↦ all at seen (
          slice_get-get_or queues at None (omega arith)
          ∙ ap Some (sym (get_or-set_other queues slot at (Some held) None apart.1) ∙ get_or_from_slice_get now at (Some seen) None e))
    ]

-- so it is where a queue was looked at in its slot
pub held_next : (first was now : Sessioned) (old new : List (Option QueueGauges)) (slot : ℕ) (held : QueueGauges)
    (looked : Result QueueGauges Refusal) → looked ≡ Ok held → IfOk looked (HoldsItems now slot) → GoesOnLater first was
    → GoesOnLater was now → slot < length old → AreHeldSince first old → new ≡ slice_set old slot (Some held)
    → AreHeldSince first new
held_next first was now old new slot held looked is items before on below all set =
    let holds : HoldsItems now slot held = subst (λ (r : Result QueueGauges Refusal). IfOk r (HoldsItems now slot)) is items in
    let here : IsHeldSince first slot held =
    record { session = now; later = later_still first was now before on; holds = holds } in
    subst (AreHeldSince first) (sym set) (held_set first old slot held below all here)
