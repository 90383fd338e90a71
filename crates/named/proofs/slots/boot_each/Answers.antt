use Rattle.std.proofs.Common.{◌≡◌, ◌∙◌, ℕ, Some, Option, List, slice_get, length, ap, sym, subst, ◌+◌, arith}
use Rattle.std.proofs.lemmas.List.{length_push}
use Rattle.directory.specs.declared.queue.Queue.{Queue}
use Rattle.named.specs.Booting.{IsSlotBooted}
use Rattle.named.specs.declared.slot.Slot.{Slot}
use Rattle.named.proofs.beginnings.Boots.{slots_more}
use Rattle.named.proofs.slots.boot_each.Goals as goal

pub loop-slot-preserved : goal.loop-slot-preserved
loop-slot-preserved c =
    let slots : List Slot = c.loop-slot.slots.items in
    let count = c.loop-slot.invariant.count in
    let pushed = c.push_reserved.ensures in
    let holds : ℕ → Slot → Type 0 =
    λ at slot. (place : Option Queue) → slice_get c.args.kept.now.directory at ≡ Some place → IsSlotBooted c.args.kept.now.layout c.args.memory.now.words at place slot in
    let own : holds (length slots) c.in_ok-booted.booted = subst (λ (n : ℕ). holds n c.in_ok-booted.booted) (sym count) c.in_ok-booted.ensures.booted in
    record {
      count = ap length pushed.items ∙ length_push slots c.in_ok-booted.booted ∙ ap (λ (n : ℕ). n + 1) count;
      room = omega (arith, pushed.capacity, c.loop-slot.invariant.room);
      each = λ at slot place here listed.
          slots_more holds slots c.in_ok-booted.booted (λ i s h p there. c.loop-slot.invariant.each i s p h there) own at slot
          (subst (λ (l : List Slot). slice_get l at ≡ Some slot) pushed.items here) place listed;
    }

pub returns-clause-booted : goal.returns-clause-booted
returns-clause-booted c = record {
  count = omega (arith, c.loop-slot.invariant.count, c.loop-slot-test.false);
  each = λ at slot place here listed. c.loop-slot.invariant.each at slot place here listed;
}
