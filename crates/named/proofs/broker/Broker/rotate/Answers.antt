use Rattle.std.proofs.Common.{◌≡◌, List, false, None, Ok, Err, slice_get, if◌then◌else◌, refl, ap, sym, subst, ◌∙◌, arith}
use Rattle.std.specs.List.{list_any}
use Rattle.std.specs.Prelude.{is_some}
use Rattle.std.specs.Vec.{with_items}
use Rattle.std.proofs.lemmas.List.{with_items_is}
use Rattle.words.specs.declared.refusal.Refusal.TheVariants.{NotReady}
use Rattle.named.specs.BrokerView.{broker_view}
use Rattle.named.specs.Brokers.{Brokered, IsWell, room_at, room_of, world_at, world_of}
use Rattle.named.specs.Rotating.{AreBegunAnew, AreQuiet, IsRotated, has_calls_in}
use Rattle.named.specs.declared.slot.Slot.{Slot}
use Rattle.named.proofs.acts.OneSlot.{ready_there}
use Rattle.named.proofs.acts.Requests.{rotated_asked}
use Rattle.named.proofs.promises.Promises.{promises_kept, promises_well}
use Rattle.named.proofs.histories.Rotations.{all_quiet, rotated_rooms, rotated_well, rotated_worlds}
use Rattle.named.proofs.acts.Refused.{left, not_ok, passed_on}
use Rattle.named.proofs.broker.Broker.rotate.Goals as goal

pub prepare_each-requires : goal.prepare_each-requires
prepare_each-requires c =
    let b : Brokered = broker_view c.self.inside in
    let ready : b.recovery ≡ None =
    ready_there b.recovery c.check_ready.result (c.check_ready.ensures ∙ ap (λ (x : Brokered). if is_some x.recovery then Err NotReady else Ok tt) (sym c.self.view_is)) c.in_ok-check_ready.was in
    let nobody : list_any has_calls_in b.slots ≡ false =
    ap (list_any has_calls_in) (sym c.deref.ensures.value) ∙ sym c.have_calls.ensures ∙ c.if-have_calls.false in
    all_quiet b c.self.invariant.well ready nobody

pub begin_each-requires-clause-quiet : goal.begin_each-requires-clause-quiet
begin_each-requires-clause-quiet c =
    let b : Brokered = broker_view c.self.inside in
    let ready : b.recovery ≡ None =
    ready_there b.recovery c.check_ready.result (c.check_ready.ensures ∙ ap (λ (x : Brokered). if is_some x.recovery then Err NotReady else Ok tt) (sym c.self.view_is)) c.in_ok-check_ready.was in
    let nobody : list_any has_calls_in b.slots ≡ false =
    ap (list_any has_calls_in) (sym c.deref.ensures.value) ∙ sym c.have_calls.ensures ∙ c.if-have_calls.false in
    subst (AreQuiet b.words) (sym c.deref_mut.ensures.value) (all_quiet b c.self.invariant.well ready nobody)

pub invariant_of-self : goal.invariant_of-self
invariant_of-self c =
    let b : Brokered = broker_view c.self.inside in
    let anew : List Slot = c.begin_each.new.slots in
    let begun : AreBegunAnew b.words b.slots anew = subst (λ (l : List Slot). AreBegunAnew b.words l anew) c.deref_mut.ensures.value c.begin_each.ensures in
    let written : (with_items c.self.inside.slots anew).items ≡ anew = with_items_is c.self.inside.slots anew (begun.count ∙ sym c.self.inside.slots.ok.0) in
    record {
      well = subst (λ (l : List Slot). let y : Brokered = record b { slots = l } in IsWell y) (sym written) (rotated_well b anew c.self.invariant.well begun);
      slots = λ at. rotated_asked b.counts c.self.inside.memory at (world_at b at) _ (ap (λ (l : List Slot). world_of b.words (slice_get l at)) written ∙ rotated_worlds b anew c.self.invariant.well begun at) (c.self.invariant.slots at);
      creation = c.self.invariant.creation;
    }

pub returns-clause-rotated : goal.returns-clause-rotated
returns-clause-rotated c = λ ok.
    let b : Brokered = broker_view c.self.inside in
    let anew : List Slot = c.begin_each.new.slots in
    let begun : AreBegunAnew b.words b.slots anew = subst (λ (l : List Slot). AreBegunAnew b.words l anew) c.deref_mut.ensures.value c.begin_each.ensures in
    let written : (with_items c.self.inside.slots anew).items ≡ anew = with_items_is c.self.inside.slots anew (begun.count ∙ sym c.self.inside.slots.ok.0) in
    let new : Brokered = record b { slots = (with_items c.self.inside.slots anew).items } in
    let done : IsRotated b new = record {
      same = refl;
      worlds = λ at. ap (λ (l : List Slot). world_of b.words (slice_get l at)) written ∙ rotated_worlds b anew c.self.invariant.well begun at;
    } in
    subst (λ (y : Brokered). IsRotated y new) c.self.view_is done

pub returns-clause-room : goal.returns-clause-room
returns-clause-room c = λ at.
    let b : Brokered = broker_view c.self.inside in
    let anew : List Slot = c.begin_each.new.slots in
    let begun : AreBegunAnew b.words b.slots anew = subst (λ (l : List Slot). AreBegunAnew b.words l anew) c.deref_mut.ensures.value c.begin_each.ensures in
    let written : (with_items c.self.inside.slots anew).items ≡ anew = with_items_is c.self.inside.slots anew (begun.count ∙ sym c.self.inside.slots.ok.0) in
    omega (arith, rotated_rooms b anew c.self.invariant.well begun at, ap (λ (l : List Slot). room_of (slice_get l at)) written, ap (λ (y : Brokered). room_at y at) c.self.view_is)

pub returns-clause-promises : goal.returns-clause-promises
returns-clause-promises c = promises_well _ (invariant_of-self c).well

pub returns-in_err-check_ready-clause-promises : goal.returns-in_err-check_ready-clause-promises
returns-in_err-check_ready-clause-promises c = promises_kept _ _ c.self.invariant.well c.self.view_is

pub returns-then-is_some-clause-promises : goal.returns-then-is_some-clause-promises
returns-then-is_some-clause-promises c = promises_kept _ _ c.self.invariant.well c.self.view_is

pub returns-in_err-bases-clause-promises : goal.returns-in_err-bases-clause-promises
returns-in_err-bases-clause-promises c = promises_kept _ _ c.self.invariant.well c.self.view_is

pub returns-in_err-check_ready-clause-rotated : goal.returns-in_err-check_ready-clause-rotated
returns-in_err-check_ready-clause-rotated c = λ ok. absurd (not_ok c.from_residual.result c.in_err-check_ready.field-0.0 _ (passed_on c.from_residual.result c.in_err-check_ready.field-0.0 c.from_residual.ensures) ok)

pub returns-in_err-check_ready-clause-same : goal.returns-in_err-check_ready-clause-same
returns-in_err-check_ready-clause-same c = left _ c.from_residual.result refl

pub returns-in_err-check_ready-clause-room : goal.returns-in_err-check_ready-clause-room
returns-in_err-check_ready-clause-room c = λ at. omega arith

pub returns-in_err-bases-clause-rotated : goal.returns-in_err-bases-clause-rotated
returns-in_err-bases-clause-rotated c = λ ok. absurd (not_ok c.from_residual-in_err-bases.result c.in_err-bases.field-0.0 _ (passed_on c.from_residual-in_err-bases.result c.in_err-bases.field-0.0 c.from_residual-in_err-bases.ensures) ok)

pub returns-in_err-bases-clause-same : goal.returns-in_err-bases-clause-same
returns-in_err-bases-clause-same c = left _ c.from_residual-in_err-bases.result refl

pub returns-in_err-bases-clause-room : goal.returns-in_err-bases-clause-room
returns-in_err-bases-clause-room c = λ at. omega arith

pub returns-then-is_some-clause-rotated : goal.returns-then-is_some-clause-rotated
returns-then-is_some-clause-rotated c = λ ok. absurd (cc (ok))

pub returns-then-is_some-clause-same : goal.returns-then-is_some-clause-same
returns-then-is_some-clause-same c = refl

pub returns-then-is_some-clause-room : goal.returns-then-is_some-clause-room
returns-then-is_some-clause-room c = λ at. omega arith

pub returns-clause-same : goal.returns-clause-same
returns-clause-same c = tt
