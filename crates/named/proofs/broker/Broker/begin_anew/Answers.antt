use Rattle.std.proofs.Common.{◌≡◌, ◌<◌, ◌∙◌, ℕ, List, Option, Some, None, Ok, Vec, Global, false, length, slice_get, refl, sym, ap, subst}
use Rattle.std.specs.Vec.{with_items}
use Rattle.std.proofs.lemmas.List.{with_items_is}
use Rattle.persist.specs.Memory.{Words, overwritten, words_at_rest}
use Rattle.directory.specs.Queue.{slot_in}
use Rattle.directory.specs.declared.creation.Creation.{Creation}
use Rattle.directory.specs.declared.recovery.DirectoryRecovery.{DirectoryRecovery}
use Rattle.renewal.specs.OneQueue.{queue_renewed}
use Rattle.named.specs.BrokerView.{broker_view}
use Rattle.named.specs.Booting.{AreSlotsBooted, world_booted}
use Rattle.named.specs.Brokers.{Brokered, IsWell, world_at}
use Rattle.named.specs.Each.{EachBecame, EachSlot, HasOtherRoom}
use Rattle.named.specs.Renewing.{IsAnewFor, IsRenewedAt}
use Rattle.named.specs.Rotating.{rotate_result}
use Rattle.named.specs.Slots.{HasRoomFor}
use Rattle.named.specs.Stopping.{booting}
use Rattle.named.specs.declared.slot.Slot.{Slot}
use Rattle.named.specs.declared.recovery.BrokerRecovery.TheVariants.{ReadDirectory}
use Rattle.named.proofs.beginnings.FreshSlots.{anew_renewed, anew_well, anew_worlds}
use Rattle.named.proofs.acts.Requests.{booted_asked}
use Rattle.named.proofs.promises.Promises.{promises_well}
use Rattle.named.proofs.beginnings.RenewedQueues.{idle}
use Rattle.named.proofs.histories.Room.{booted_elsewhere, booted_empty, room_in_each}
use Rattle.named.proofs.broker.Broker.begin_anew.Goals as goal

abbrev was : goal.After-drop-block-inside-3 → Brokered
was c = broker_view c.self.inside

abbrev new : goal.After-drop-block-inside-3 → List ℕ
new c = queue_renewed c.args.slot.0 (was c).words.kept

-- the slots, each with the room that the one in its place had
abbrev taken : goal.After-drop-block-inside-3 → List Slot
taken c = (with_items c.replace-ended.new.dest c.take_rooms.new.slots).items

-- what it is now, and what that comes to
abbrev now : goal.After-drop-block-inside-3 → Brokered
now c = record { counts = c.self.inside.layout; words = c.rewrite.new.self.words; slots = taken c; directory = c.self.inside.directory; creation = c.self.inside.creation; recovery = Some (ReadDirectory c.boot.result) }

abbrev anew : goal.After-drop-block-inside-3 → Brokered
anew c = record { counts = c.self.inside.layout; words = words_at_rest (new c); slots = taken c; directory = c.self.inside.directory; creation = None; recovery = booting }

rests : (c : goal.After-drop-block-inside-3) → rotate_result false (was c) ≡ Ok tt
rests c = ap (rotate_result false) c.self.view_is ∙ c.requires.may.rests

given : (c : goal.After-drop-block-inside-3) → IsAnewFor (was c) c.args.slot.0 c.args.anew.slots.items c.args.anew.block
given c = subst (λ (x : Brokered). IsAnewFor x c.args.slot.0 c.args.anew.slots.items c.args.anew.block) (sym c.self.view_is) c.requires.anew

given_items : (c : goal.After-drop-block-inside-3) → c.deref_mut.result.now ≡ c.args.anew.slots.items
given_items c = c.deref_mut.ensures.value ∙ ap (λ (v : Vec Slot Global). v.items) c.replace-ended.ensures.after

written : (c : goal.After-drop-block-inside-3) → taken c ≡ c.take_rooms.new.slots
written c =
    with_items_is c.replace-ended.new.dest c.take_rooms.new.slots
    (c.take_rooms.ensures.same.count ∙ ap length c.deref_mut.ensures.value ∙ sym c.replace-ended.new.dest.ok.0)

booted : (c : goal.After-drop-block-inside-3) → AreSlotsBooted (was c).counts (was c).words (was c).directory (taken c)
booted c =
    let each : EachBecame HasOtherRoom c.args.anew.slots.items c.take_rooms.new.slots =
    subst (λ (l : List Slot). EachBecame HasOtherRoom l c.take_rooms.new.slots) (given_items c) c.take_rooms.ensures.same in
    subst (AreSlotsBooted (was c).counts (was c).words (was c).directory) (sym (written c))
    (booted_elsewhere (was c).counts (was c).words (was c).directory c.args.anew.slots.items c.take_rooms.new.slots (given c).booted each)

words_are : (c : goal.After-drop-block-inside-3) → c.rewrite.new.self.words ≡ words_at_rest (new c)
words_are c =
    c.rewrite.ensures.words
    ∙ ap (λ (n : ℕ). words_at_rest (overwritten n c.args.anew.block (was c).words.kept)) c.block.ensures.from
    ∙ ap words_at_rest (given c).words

is : (c : goal.After-drop-block-inside-3) → now c ≡ anew c
is c =
    ap (λ (ws : Words). let x : Brokered = record (now c) { words = ws } in x) (words_are c)
    ∙ ap (λ (k : Option Creation). let x : Brokered = record (now c) { words = words_at_rest (new c); creation = k } in x) (idle (was c) c.self.invariant.well (rests c))
    ∙ ap (λ (r : DirectoryRecovery). let x : Brokered = record (anew c) { recovery = Some (ReadDirectory r) } in x) c.boot.ensures

well : (c : goal.After-drop-block-inside-3) → IsWell (now c)
well c =
    subst IsWell (sym (is c))
    (anew_well (was c) c.self.invariant.well (rests c) c.args.slot.0 (new c) (given c).same (taken c) (booted c))

worlds : (c : goal.After-drop-block-inside-3) (at : ℕ) → at < 8
    → world_at (now c) at ≡ world_booted c.self.inside.layout at (words_at_rest (new c)) (slot_in (new c) at)
worlds c at below =
    ap (λ (x : Brokered). world_at x at) (is c)
    ∙ anew_worlds (was c) c.self.invariant.well (rests c) c.args.slot.0 (new c) (given c).same (taken c) (booted c) at below

pub take_rooms-requires-clause-empty : goal.take_rooms-requires-clause-empty
take_rooms-requires-clause-empty c =
    let b : Brokered = broker_view c.self.inside in
    let anew : IsAnewFor b c.args.slot.0 c.args.anew.slots.items c.args.anew.block =
    subst (λ (x : Brokered). IsAnewFor x c.args.slot.0 c.args.anew.slots.items c.args.anew.block) (sym c.self.view_is) c.requires.anew in
    let items : c.deref_mut.result.now ≡ c.args.anew.slots.items = c.deref_mut.ensures.value ∙ ap (λ (v : Vec Slot Global). v.items) c.replace-ended.ensures.after in
    λ at slot here.
    booted_empty b.counts b.words b.directory c.args.anew.slots.items c.self.invariant.well.listed.count anew.booted at slot
    (subst (λ (l : List Slot). slice_get l at ≡ Some slot) items here)

pub take_rooms-requires-clause-room : goal.take_rooms-requires-clause-room
take_rooms-requires-clause-room c =
    let items : c.deref_mut.result.now ≡ c.args.anew.slots.items = c.deref_mut.ensures.value ∙ ap (λ (v : Vec Slot Global). v.items) c.replace-ended.ensures.after in
    λ at slot here. c.requires.anew.room at slot (subst (λ (l : List Slot). slice_get l at ≡ Some slot) items here)

pub invariant_of-self : goal.invariant_of-self
invariant_of-self c = record {
  well = well c;
  slots = booted_asked (now c) c.rewrite.new.self (words_at_rest (new c)) (well c) (worlds c);
  creation = tt;
}

pub returns-clause-renewed : goal.returns-clause-renewed
returns-clause-renewed c =
    subst (λ (x : Brokered). IsRenewedAt x (now c) c.args.slot.0) c.self.view_is
    (subst (λ (x : Brokered). IsRenewedAt (was c) x c.args.slot.0) (sym (is c))
    (anew_renewed (was c) c.self.invariant.well (rests c) c.args.slot.0 (new c) (given c).same (taken c) (booted c) refl))

pub returns-clause-room : goal.returns-clause-room
returns-clause-room c = room_in_each (now c) 1 (subst (EachSlot (HasRoomFor 1)) (sym (written c)) c.take_rooms.ensures.room)

pub returns-clause-promises : goal.returns-clause-promises
returns-clause-promises c = promises_well (now c) (well c)
