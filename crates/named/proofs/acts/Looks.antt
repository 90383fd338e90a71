-- What is found in a slot that is open to a client; and where a look is refused every act is, alike.
use Rattle.std.proofs.Common.{◌≡◌, ℕ, ◌<◌, inr, arith, is_ok, if◌then◌else◌, Bool, true, false, Option, Some, None, Result, Ok, Err, slice_get, get_or, refl, sym, ap, subst, ◌∙◌}
use Rattle.std.proofs.lemmas.Option.{slice_get_read, slice_get_within}
use Rattle.arena.specs.declared.broker.TheConstants.{SLOTS}
use Rattle.words.specs.declared.call.Client.{Client}
use Rattle.words.specs.declared.call.Reply.{Reply}
use Rattle.words.specs.declared.limits.TheConstants.{QUEUE_PORTS}
use Rattle.words.specs.declared.refusal.Refusal.{Refusal}
use Rattle.words.specs.declared.refusal.Refusal.TheVariants.{NoClient, NoQueue, NotReady}
use Rattle.persist.specs.Memory.{MemoryState}
use Rattle.interleave.specs.Calls.{is_no_memory}
use Rattle.interleave.specs.Rules.{Rule, waiting_in}
use Rattle.interleave.specs.State.{State}
use Rattle.named.specs.Acting.{IsActAt, IsAloneAt}
use Rattle.named.specs.Asked.{IsWellOver}
use Rattle.named.specs.Brokers.{Brokered, IsWell, admission, answer_at, answer_if, has_client, is_down, world_after}
use Rattle.named.specs.Brokers.{world_at, world_of}
use Rattle.named.specs.Looking.{IsOpenTo}
use Rattle.named.specs.Slots.{IsSlotAsked, IsSlotWell, acted, answered}
use Rattle.named.specs.declared.slot.Slot.{Slot}
use Rattle.named.proofs.acts.OneSlot.{slot_is_well}
use Rattle.named.proofs.acts.Requests.{admitted_client, slot_asked_here}

pub none_some : {X : Type 0} {x : X} → None ≡ Some x → ⊥
none_some e = cc

-- a slot whose queue has a world is one of the broker's
pub open_below : (b : Brokered) → IsWell b → (slot : ℕ) (w : State) → world_at b slot ≡ Some w → slot < SLOTS
open_below b well slot w here = go (slice_get b.slots slot) refl here
  where
    go : (o : Option Slot) → slice_get b.slots slot ≡ o → world_of b.words o ≡ Some w → slot < SLOTS
    go None is there = absurd (none_some there)
    go (Some s) is there = omega (arith, slice_get_within b.slots slot s is, well.count)

-- what an act finds in a slot that is known to be open to its client
pub record HasFound (b : Brokered) (m : MemoryState) (at : ℕ) (client : Client) (slot : Slot) : Type 0 where
  pub below : at < SLOTS
  pub here : slice_get b.slots at ≡ Some slot
  pub well : IsSlotWell b.words slot
  pub asked : IsSlotAsked m slot
  pub few : client.0 < QUEUE_PORTS
  pub admitted : admission b client ≡ Ok tt

pub found : (b seen : Brokered) (m : MemoryState) (at : ℕ) (client : Client) (slot : Slot) → IsWellOver b m → b ≡ seen
    → IsOpenTo seen at client → slot ≡ get_or b.slots at slot → HasFound b m at client slot
found b seen m at client slot holds view known value =
    let opened : IsOpenTo b at client = subst (λ (x : Brokered). IsOpenTo x at client) (sym view) known in
    let below : at < SLOTS = open_below b holds.well at opened.world opened.here in
    let here : slice_get b.slots at ≡ Some slot = slice_get_read b.slots 8 at slot (sym holds.well.count) below value in
    record {
      below = below;
      here = here;
      well = slot_is_well b.counts b.words at slot (holds.well.slots at slot here);
      asked = slot_asked_here b m at slot holds here;
      few = admitted_client b client holds.well opened.admitted;
      admitted = opened.admitted;
    }

-- a refusal that is not for want of memory
abbrev MayBe : Type 0 → Refusal → Type 0
MayBe A e = is_no_memory (let r : Result A Refusal = Err e in r) ≡ false

-- an answer that is one where the client is admitted and the slot is open is refused for another reason
module _ {T : Type 0} (f : State → T) (b : Brokered) (slot : ℕ) (client : Client) (refusal : Refusal)
    (refused : answer_at (λ w. let r : Result T Refusal = Ok (f w) in r) b slot client ≡ Err refusal) where
  abbrev answering : State → Result T Refusal
  answering w = Ok (f w)

  refused_alike : {A : Type 0} (g : State → Result A Refusal) → answer_at g b slot client ≡ Err refusal
  refused_alike g = go (admission b client) (world_at b slot) refused
    where
      go : (r : Result Unit Refusal) (o : Option State) → answer_if r (answered answering o) ≡ Err refusal
          → answer_if r (answered g o) ≡ Err refusal
      go (Err other) o is = let same : other ≡ refusal = cc is in ap (λ (e : Refusal). Err e) same
      go (Ok u) None is = let same : NoQueue ≡ refusal = cc is in ap (λ (e : Refusal). Err e) same
      go (Ok u) (Some w) is = absurd (cc is)

  nothing_after : (h : State → State) → world_after h b slot client ≡ world_at b slot
  nothing_after h = go (admission b client) (world_at b slot) refused
    where
      go : (r : Result Unit Refusal) (o : Option State) → answer_if r (answered answering o) ≡ Err refusal
          → (if is_ok r then acted h o else o) ≡ o
      go (Err other) o is = refl
      go (Ok u) None is = refl
      go (Ok u) (Some w) is = absurd (cc is)

  not_for_memory : (A : Type 0) → is_no_memory (let r : Result A Refusal = Err refusal in r) ≡ false
  not_for_memory A = go (has_client b client) (is_down b) (world_at b slot) refused
    where
      go : (there down : Bool) (o : Option State)
          → answer_if (if there then (if down then Err NotReady else Ok tt) else Err NoClient) (answered answering o) ≡ Err refusal
          → MayBe A refusal
      go false down o is = let same : NoClient ≡ refusal = cc is in subst (MayBe A) same refl
      go true true o is = let same : NotReady ≡ refusal = cc is in subst (MayBe A) same refl
      go true false None is = let same : NoQueue ≡ refusal = cc is in subst (MayBe A) same refl
      go true false (Some w) is = absurd (cc is)

  never : (A X : Type 0) → is_no_memory (let r : Result A Refusal = Err refusal in r) ≡ true → X
  never A X full = absurd (cc (full, not_for_memory A))

  pub not_acted : (A : Type 0) (rule : Rule A) → IsActAt rule slot client b (Err refusal) b
  not_acted A rule = record {
    world = sym (nothing_after (rule.leaves (is_no_memory (let r : Result A Refusal = Err refusal in r))));
    answers = sym (refused_alike (rule.answers (is_no_memory (let r : Result A Refusal = Err refusal in r))));
    full = λ full. never A _ full;
    room = omega arith;
    spare = omega arith;
  }

  pub not_alone : IsAloneAt slot client b (Err refusal) b
  not_alone = record {
    refused = λ other is.
        let same : refusal ≡ other = cc (refused_alike (λ w. waiting_in w client), is) in
        ap (λ (e : Refusal). Err e) same;
    errors = inr (refused_alike (λ w. waiting_in w client));
    full = λ full. never (Reply × ℕ) _ full;
    same = refl;
    steps = tt;
    answer = tt;
    world = tt;
    room = omega arith;
    spare = omega arith;
  }

-- what is asked of a queue's world is answered by it, or refused for the client, or for want of a queue
module _ {T : Type 0} (f : State → Result T Refusal) (b : Brokered) (slot : ℕ) (client : Client) (r : Result T Refusal) where
  pub not_admitted : (e : Refusal) → (let x : Result Unit Refusal = Err e in x) ≡ admission b client → r ≡ Err e → r ≡ answer_at f b slot client
  not_admitted e refused is = is ∙ ap (λ (a : Result Unit Refusal). answer_if a (answered f (world_at b slot))) refused

  pub unanswered : (e : Refusal) → (e ≡ NoQueue) × (world_at b slot ≡ None) → r ≡ Err e → r ≡ answered f (world_at b slot)
  unanswered e none is = is ∙ ap Err none.0 ∙ sym (ap (answered f) none.1)

  pub by_world : (w : State) → world_at b slot ≡ Some w → r ≡ f w → r ≡ answered f (world_at b slot)
  by_world w here is = is ∙ sym (ap (answered f) here)

  pub by_admitted : admission b client ≡ Ok tt → r ≡ answered f (world_at b slot) → r ≡ answer_at f b slot client
  by_admitted admitted is = is ∙ sym (ap (λ (a : Result Unit Refusal). answer_if a (answered f (world_at b slot))) admitted)
