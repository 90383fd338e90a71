use Rattle.std.proofs.Common.{◌≡◌, ◌∙◌, ◌≤◌, Option, Some, true, false, slice_get, slice_set, refl, sym, ap, subst, arith}
use Rattle.std.specs.Prelude.{IfSome, is_none}
use Rattle.std.proofs.lemmas.Option.{slice_get_read, slice_get_within}
use Rattle.arena.specs.declared.broker.SlotId.{SlotId}
use Rattle.directory.specs.Queue.{IsOpenSlot, slot_in}
use Rattle.directory.specs.declared.creation.Creation.{Creation}
use Rattle.arena.specs.Shape.{shape_of}
use Rattle.named.specs.BrokerView.{broker_view}
use Rattle.named.specs.Brokers.{Brokered, block_words, room_at, room_of}
use Rattle.named.specs.Slots.{kind_in, room_in}
use Rattle.named.specs.Stopping.{IsFound, IsFoundFirst, IsReadingDirectory, found_world}
use Rattle.named.specs.declared.slot.Slot.{Slot}
use Rattle.named.proofs.acts.Requests.{down_asked, found_asked, opened_asked}
use Rattle.named.proofs.acts.Loops.{rooms_kept}
use Rattle.named.proofs.creations.OpenGates.{closed, found_first, found_here, found_known, found_waits, is_free, is_new}
use Rattle.named.proofs.creations.OpenGates.{known_found, known_open, some_dropped, unused, well_found}
use Rattle.named.proofs.acts.Refused.{if_none}
use Rattle.named.proofs.broker.Broker.open_found.Goals as goal

pub returns-then-not-is_closed-clause-known : goal.returns-then-not-is_closed-clause-known
returns-then-not-is_closed-clause-known c =
    let b : Brokered = broker_view c.self.inside in
    let down : IsReadingDirectory b.recovery = subst (λ (x : Brokered). IsReadingDirectory x.recovery) (sym c.self.view_is) c.requires.reading in
    let gate : IsOpenSlot b.words.kept c.in-Some.slot.0 = subst (λ (x : Brokered). IsOpenSlot x.words.kept c.in-Some.slot.0) (sym c.self.view_is)
    (subst (λ (o : Option SlotId). IfSome o (λ slot. IsOpenSlot c.args.self.now.words.kept slot.0)) c.in-Some.is c.requires.open) in
    let s : Slot = c.index.result.now in
    let here : slice_get b.slots c.in-Some.slot.0 ≡ Some s = slice_get_read b.slots 8 c.in-Some.slot.0 s (sym c.self.invariant.well.count) gate.in_range c.index.ensures in
    let is_open : is_none (kind_in s) ≡ false = sym c.is_closed.ensures ∙ c.if-not-is_closed.true in
    let known = known_open b c.self.invariant.well down c.in-Some.slot gate s here is_open in
    subst (λ (o : Option SlotId). IfSome o (λ slot. slice_get c.args.self.now.directory slot.0 ≡ Some (slot_in c.args.self.now.words.kept slot.0))) (sym c.in-Some.is)
    (subst (λ (x : Brokered). slice_get x.directory c.in-Some.slot.0 ≡ Some (slot_in x.words.kept c.in-Some.slot.0)) c.self.view_is known)

pub unreachable-requires : goal.unreachable-requires
unreachable-requires c =
    let b : Brokered = broker_view c.self.inside in
    let down : IsReadingDirectory b.recovery = subst (λ (x : Brokered). IsReadingDirectory x.recovery) (sym c.self.view_is) c.requires.reading in
    let gate : IsOpenSlot b.words.kept c.in-Some.slot.0 = subst (λ (x : Brokered). IsOpenSlot x.words.kept c.in-Some.slot.0) (sym c.self.view_is)
    (subst (λ (o : Option SlotId). IfSome o (λ slot. IsOpenSlot c.args.self.now.words.kept slot.0)) c.in-Some.is c.requires.open) in
    let s : Slot = c.index.result.now in
    let here : slice_get b.slots c.in-Some.slot.0 ≡ Some s = slice_get_read b.slots 8 c.in-Some.slot.0 s (sym c.self.invariant.well.count) gate.in_range c.index.ensures in
    let is_closed : is_none (kind_in s) ≡ true = sym c.is_closed.ensures ∙ c.if-not-is_closed.false in
    some_dropped b c.self.invariant.well down c.in-Some.slot gate s here is_closed c.in_default-dropped.is

pub open-requires-clause-free : goal.open-requires-clause-free
open-requires-clause-free c =
    let b : Brokered = broker_view c.self.inside in
    let down : IsReadingDirectory b.recovery = subst (λ (x : Brokered). IsReadingDirectory x.recovery) (sym c.self.view_is) c.requires.reading in
    let gate : IsOpenSlot b.words.kept c.in-Some.slot.0 = subst (λ (x : Brokered). IsOpenSlot x.words.kept c.in-Some.slot.0) (sym c.self.view_is)
    (subst (λ (o : Option SlotId). IfSome o (λ slot. IsOpenSlot c.args.self.now.words.kept slot.0)) c.in-Some.is c.requires.open) in
    let s : Slot = c.index.result.now in
    let here : slice_get b.slots c.in-Some.slot.0 ≡ Some s = slice_get_read b.slots 8 c.in-Some.slot.0 s (sym c.self.invariant.well.count) gate.in_range c.index.ensures in
    let is_closed : is_none (kind_in s) ≡ true = sym c.is_closed.ensures ∙ c.if-not-is_closed.false in
    is_free b c.self.invariant.well down c.in-Some.slot gate s here is_closed

pub open-requires-clause-new_name : goal.open-requires-clause-new_name
open-requires-clause-new_name c =
    let b : Brokered = broker_view c.self.inside in
    let down : IsReadingDirectory b.recovery = subst (λ (x : Brokered). IsReadingDirectory x.recovery) (sym c.self.view_is) c.requires.reading in
    let gate : IsOpenSlot b.words.kept c.in-Some.slot.0 = subst (λ (x : Brokered). IsOpenSlot x.words.kept c.in-Some.slot.0) (sym c.self.view_is)
    (subst (λ (o : Option SlotId). IfSome o (λ slot. IsOpenSlot c.args.self.now.words.kept slot.0)) c.in-Some.is c.requires.open) in
    let s : Slot = c.index.result.now in
    let here : slice_get b.slots c.in-Some.slot.0 ≡ Some s = slice_get_read b.slots 8 c.in-Some.slot.0 s (sym c.self.invariant.well.count) gate.in_range c.index.ensures in
    let is_closed : is_none (kind_in s) ≡ true = sym c.is_closed.ensures ∙ c.if-not-is_closed.false in
    let k : Creation = c.in-Some-dropped.creation in
    let is : b.creation ≡ Some k = c.in-Some-dropped.is in
    is_new b c.self.invariant.well down c.in-Some.slot gate s here is_closed k is

pub invariant_of-self : goal.invariant_of-self
invariant_of-self c =
    let b : Brokered = broker_view c.self.inside in
    let down : IsReadingDirectory b.recovery = subst (λ (x : Brokered). IsReadingDirectory x.recovery) (sym c.self.view_is) c.requires.reading in
    let gate : IsOpenSlot b.words.kept c.in-Some.slot.0 = subst (λ (x : Brokered). IsOpenSlot x.words.kept c.in-Some.slot.0) (sym c.self.view_is)
    (subst (λ (o : Option SlotId). IfSome o (λ slot. IsOpenSlot c.args.self.now.words.kept slot.0)) c.in-Some.is c.requires.open) in
    let s : Slot = c.index.result.now in
    let here : slice_get b.slots c.in-Some.slot.0 ≡ Some s = slice_get_read b.slots 8 c.in-Some.slot.0 s (sym c.self.invariant.well.count) gate.in_range c.index.ensures in
    let is_closed : is_none (kind_in s) ≡ true = sym c.is_closed.ensures ∙ c.if-not-is_closed.false in
    let k : Creation = c.in-Some-dropped.creation in
    let is : b.creation ≡ Some k = c.in-Some-dropped.is in
    let at = c.open_found-opened.ensures.at b.words (omega (arith, c.self.invariant.well.room.cached)) (unused b c.self.invariant.well down c.in-Some.slot gate s here is_closed k is) in
    let waits = found_waits b.words c.open_found-opened.result (found_world b k.queue.kind c.in-Some.slot.0 b.words) (c.open_found-opened.ensures.world b.words) refl in
    record {
      well = well_found b c.self.invariant.well down c.in-Some.slot gate s here is_closed k is c.open_found-opened.result c.open_found-opened.ensures.kind waits at c.open.new.self c.open.ensures.opened c.open.ensures.directory;
      slots = opened_asked b b.words c.self.inside.memory c.in-Some.slot.0 c.open_found-opened.result (slice_get_within b.slots c.in-Some.slot.0 s here)
          (found_asked b.counts c.self.inside.memory c.in-Some.slot.0 _ (shape_of k.queue.kind b.counts) (block_words b.counts c.in-Some.slot.0 b.words) (c.open_found-opened.ensures.world b.words))
          (λ j ne. c.self.invariant.slots j);
      creation = down_asked b.counts b.recovery b.creation _ down;
    }

pub returns-clause-found : goal.returns-clause-found
returns-clause-found c =
    let b : Brokered = broker_view c.self.inside in
    let down : IsReadingDirectory b.recovery = subst (λ (x : Brokered). IsReadingDirectory x.recovery) (sym c.self.view_is) c.requires.reading in
    let gate : IsOpenSlot b.words.kept c.in-Some.slot.0 = subst (λ (x : Brokered). IsOpenSlot x.words.kept c.in-Some.slot.0) (sym c.self.view_is)
    (subst (λ (o : Option SlotId). IfSome o (λ slot. IsOpenSlot c.args.self.now.words.kept slot.0)) c.in-Some.is c.requires.open) in
    let s : Slot = c.index.result.now in
    let here : slice_get b.slots c.in-Some.slot.0 ≡ Some s = slice_get_read b.slots 8 c.in-Some.slot.0 s (sym c.self.invariant.well.count) gate.in_range c.index.ensures in
    let is_closed : is_none (kind_in s) ≡ true = sym c.is_closed.ensures ∙ c.if-not-is_closed.false in
    let k : Creation = c.in-Some-dropped.creation in
    let is : b.creation ≡ Some k = c.in-Some-dropped.is in
    let at = c.open_found-opened.ensures.at b.words (omega (arith, c.self.invariant.well.room.cached)) (unused b c.self.invariant.well down c.in-Some.slot gate s here is_closed k is) in
    let waits = found_waits b.words c.open_found-opened.result (found_world b k.queue.kind c.in-Some.slot.0 b.words) (c.open_found-opened.ensures.world b.words) refl in
    let new : Brokered = record b { slots = slice_set b.slots c.in-Some.slot.0 c.open_found-opened.result; directory = c.open.new.self } in
    let first : IsFoundFirst b new c.in-Some.slot = found_first b c.self.invariant.well down c.in-Some.slot gate s here is_closed k is c.open_found-opened.result c.open_found-opened.ensures.kind waits at c.open.new.self c.open.ensures.opened c.open.ensures.directory (c.open_found-opened.ensures.world b.words) in
    let found : IsFound b new (Some c.in-Some.slot) = found_here b new c.in-Some.slot s here (closed b c.self.invariant.well down c.in-Some.slot gate s here is_closed) first in
    subst (λ (o : Option SlotId). IsFound c.args.self.now new o) (sym c.in-Some.is) (subst (λ (x : Brokered). IsFound x new (Some c.in-Some.slot)) c.self.view_is found)

pub returns-clause-known : goal.returns-clause-known
returns-clause-known c =
    let b : Brokered = broker_view c.self.inside in
    let down : IsReadingDirectory b.recovery = subst (λ (x : Brokered). IsReadingDirectory x.recovery) (sym c.self.view_is) c.requires.reading in
    let gate : IsOpenSlot b.words.kept c.in-Some.slot.0 = subst (λ (x : Brokered). IsOpenSlot x.words.kept c.in-Some.slot.0) (sym c.self.view_is)
    (subst (λ (o : Option SlotId). IfSome o (λ slot. IsOpenSlot c.args.self.now.words.kept slot.0)) c.in-Some.is c.requires.open) in
    let s : Slot = c.index.result.now in
    let here : slice_get b.slots c.in-Some.slot.0 ≡ Some s = slice_get_read b.slots 8 c.in-Some.slot.0 s (sym c.self.invariant.well.count) gate.in_range c.index.ensures in
    let is_closed : is_none (kind_in s) ≡ true = sym c.is_closed.ensures ∙ c.if-not-is_closed.false in
    let k : Creation = c.in-Some-dropped.creation in
    let is : b.creation ≡ Some k = c.in-Some-dropped.is in
    let at = c.open_found-opened.ensures.at b.words (omega (arith, c.self.invariant.well.room.cached)) (unused b c.self.invariant.well down c.in-Some.slot gate s here is_closed k is) in
    let waits = found_waits b.words c.open_found-opened.result (found_world b k.queue.kind c.in-Some.slot.0 b.words) (c.open_found-opened.ensures.world b.words) refl in
    let known = known_found b c.self.invariant.well down c.in-Some.slot gate s here is_closed k is c.open_found-opened.result c.open_found-opened.ensures.kind waits at c.open.new.self c.open.ensures.opened c.open.ensures.directory in
    subst (λ (o : Option SlotId). IfSome o (λ slot. slice_get c.open.new.self slot.0 ≡ Some (slot_in c.args.self.now.words.kept slot.0))) (sym c.in-Some.is)
    (subst (λ (x : Brokered). slice_get c.open.new.self c.in-Some.slot.0 ≡ Some (slot_in x.words.kept c.in-Some.slot.0)) c.self.view_is known)

pub returns-then-not-is_closed-clause-found : goal.returns-then-not-is_closed-clause-found
returns-then-not-is_closed-clause-found c =
    let b : Brokered = broker_view c.self.inside in
    let down : IsReadingDirectory b.recovery = subst (λ (x : Brokered). IsReadingDirectory x.recovery) (sym c.self.view_is) c.requires.reading in
    let gate : IsOpenSlot b.words.kept c.in-Some.slot.0 = subst (λ (x : Brokered). IsOpenSlot x.words.kept c.in-Some.slot.0) (sym c.self.view_is)
    (subst (λ (o : Option SlotId). IfSome o (λ slot. IsOpenSlot c.args.self.now.words.kept slot.0)) c.in-Some.is c.requires.open) in
    let s : Slot = c.index.result.now in
    let here : slice_get b.slots c.in-Some.slot.0 ≡ Some s = slice_get_read b.slots 8 c.in-Some.slot.0 s (sym c.self.invariant.well.count) gate.in_range c.index.ensures in
    let is_open : is_none (kind_in s) ≡ false = sym c.is_closed.ensures ∙ c.if-not-is_closed.true in
    let found : IsFound b b (Some c.in-Some.slot) = found_known b c.in-Some.slot s here is_open in
    subst (λ (o : Option SlotId). IsFound c.args.self.now c.args.self.now o) (sym c.in-Some.is) (subst (λ (x : Brokered). IsFound x x (Some c.in-Some.slot)) c.self.view_is found)

pub returns-clause-well : goal.returns-clause-well
returns-clause-well c =
    let b : Brokered = broker_view c.self.inside in
    let down : IsReadingDirectory b.recovery = subst (λ (x : Brokered). IsReadingDirectory x.recovery) (sym c.self.view_is) c.requires.reading in
    let gate : IsOpenSlot b.words.kept c.in-Some.slot.0 = subst (λ (x : Brokered). IsOpenSlot x.words.kept c.in-Some.slot.0) (sym c.self.view_is)
    (subst (λ (o : Option SlotId). IfSome o (λ slot. IsOpenSlot c.args.self.now.words.kept slot.0)) c.in-Some.is c.requires.open) in
    let s : Slot = c.index.result.now in
    let here : slice_get b.slots c.in-Some.slot.0 ≡ Some s = slice_get_read b.slots 8 c.in-Some.slot.0 s (sym c.self.invariant.well.count) gate.in_range c.index.ensures in
    let is_closed : is_none (kind_in s) ≡ true = sym c.is_closed.ensures ∙ c.if-not-is_closed.false in
    let k : Creation = c.in-Some-dropped.creation in
    let is : b.creation ≡ Some k = c.in-Some-dropped.is in
    let at = c.open_found-opened.ensures.at b.words (omega (arith, c.self.invariant.well.room.cached)) (unused b c.self.invariant.well down c.in-Some.slot gate s here is_closed k is) in
    let waits = found_waits b.words c.open_found-opened.result (found_world b k.queue.kind c.in-Some.slot.0 b.words) (c.open_found-opened.ensures.world b.words) refl in
    well_found b c.self.invariant.well down c.in-Some.slot gate s here is_closed k is c.open_found-opened.result c.open_found-opened.ensures.kind waits at c.open.new.self c.open.ensures.opened c.open.ensures.directory

pub returns-clause-rooms : goal.returns-clause-rooms
returns-clause-rooms c = λ other.
    let b : Brokered = broker_view c.self.inside in
    let down : IsReadingDirectory b.recovery = subst (λ (x : Brokered). IsReadingDirectory x.recovery) (sym c.self.view_is) c.requires.reading in
    let gate : IsOpenSlot b.words.kept c.in-Some.slot.0 = subst (λ (x : Brokered). IsOpenSlot x.words.kept c.in-Some.slot.0) (sym c.self.view_is)
    (subst (λ (o : Option SlotId). IfSome o (λ slot. IsOpenSlot c.args.self.now.words.kept slot.0)) c.in-Some.is c.requires.open) in
    let s : Slot = c.index.result.now in
    let here : slice_get b.slots c.in-Some.slot.0 ≡ Some s = slice_get_read b.slots 8 c.in-Some.slot.0 s (sym c.self.invariant.well.count) gate.in_range c.index.ensures in
    let is_closed : is_none (kind_in s) ≡ true = sym c.is_closed.ensures ∙ c.if-not-is_closed.false in
    let none : room_in s ≡ 0 = ap room_in (closed b c.self.invariant.well down c.in-Some.slot gate s here is_closed) in
    subst (λ (x : Brokered). room_at x other ≤ room_of (slice_get (slice_set b.slots c.in-Some.slot.0 c.open_found-opened.result) other)) c.self.view_is
    (rooms_kept b.slots c.in-Some.slot.0 s c.open_found-opened.result here (omega (arith, none)) other)

pub returns-in_default-clause-same : goal.returns-in_default-clause-same
returns-in_default-clause-same c = refl

pub returns-in_default-clause-rooms : goal.returns-in_default-clause-rooms
returns-in_default-clause-rooms c = λ other. omega arith

pub returns-in_default-clause-well : goal.returns-in_default-clause-well
returns-in_default-clause-well c = c.requires.well

pub returns-in_default-clause-known : goal.returns-in_default-clause-known
returns-in_default-clause-known c = if_none _ _ c.in_default.is

pub returns-in_default-clause-found : goal.returns-in_default-clause-found
returns-in_default-clause-found c = subst (λ (o : Option SlotId). IsFound c.args.self.now c.args.self.now o) (sym c.in_default.is) (record { directory = refl; worlds = λ slot. refl })

pub returns-then-not-is_closed-clause-same : goal.returns-then-not-is_closed-clause-same
returns-then-not-is_closed-clause-same c = refl

pub returns-then-not-is_closed-clause-rooms : goal.returns-then-not-is_closed-clause-rooms
returns-then-not-is_closed-clause-rooms c = λ other. omega arith

pub returns-then-not-is_closed-clause-well : goal.returns-then-not-is_closed-clause-well
returns-then-not-is_closed-clause-well c = c.requires.well
