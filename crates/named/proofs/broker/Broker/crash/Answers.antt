use Rattle.std.proofs.Common.{rules, ℕ, ◌≡◌, ◌≤◌, ◌∙◌, List, Option, Some, slice_get, refl, sym, ap, subst, arith}
use Rattle.std.proofs.lemmas.List.{with_items_is}
use Rattle.std.specs.Vec.{with_items}
use Rattle.persist.specs.Memory.{Words, words_after_crash}
use Rattle.interleave.specs.State.{after_stop}
use Rattle.named.specs.BrokerView.{broker_view}
use Rattle.named.specs.Slots.{acted}
use Rattle.named.specs.Each.{EachBecame, HasMoreRoom, HasStopped}
use Rattle.named.specs.Brokers.{Brokered, IsWell, room_at, room_of, world_at, world_of}
use Rattle.named.specs.GoingOn.{BrokerGoesOn}
use Rattle.named.specs.Stopping.{IsSameButRoom, IsStopped, booting}
use Rattle.named.specs.declared.recovery.BrokerRecovery.{BrokerRecovery}
use Rattle.named.specs.declared.recovery.BrokerRecovery.TheVariants.{ReadDirectory}
use Rattle.named.specs.declared.slot.Slot.{Slot}
use Rattle.named.proofs.downtime.Steps.{crash_downtime}
use Rattle.named.proofs.acts.Continuity.{crash_goes_on, same_goes_on}
use Rattle.named.proofs.downtime.Crashes.{few_in_each, rooms_roomier, rooms_stopped, well_roomier, well_stopped}
use Rattle.named.proofs.downtime.Crashes.{worlds_roomier, worlds_stopped}
use Rattle.named.proofs.acts.Requests.{same_asked, stopped_asked}
use Rattle.named.proofs.promises.Promises.{promises_well}
use Rattle.named.proofs.acts.Refused.{not_ok, passed_on}
use Rattle.named.proofs.broker.Broker.crash.Goals as goal

pub reserve_each-requires : goal.reserve_each-requires
reserve_each-requires c =
    let b : Brokered = broker_view c.self.inside in
    λ at slot here. few_in_each b c.self.invariant.well at slot (subst (λ (l : List Slot). slice_get l at ≡ Some slot) c.deref_mut.ensures.value here)

pub invariant_of-self : goal.invariant_of-self
invariant_of-self c =
    let b : Brokered = broker_view c.self.inside in
    let more : List Slot = c.reserve_each.new.slots in
    let each : EachBecame HasMoreRoom b.slots more = subst (λ (l : List Slot). EachBecame HasMoreRoom l more) c.deref_mut.ensures.value c.reserve_each.ensures.same in
    let written : (with_items c.self.inside.slots more).items ≡ more = with_items_is c.self.inside.slots more (each.count ∙ sym c.self.inside.slots.ok.0) in
    record {
      well = subst (λ (l : List Slot). let y : Brokered = record b { slots = l } in IsWell y) (sym written) (well_roomier b more c.self.invariant.well each);
      slots = λ at. same_asked b.counts c.self.inside.memory at (world_at b at) _ (ap (λ (l : List Slot). world_of b.words (slice_get l at)) written ∙ worlds_roomier b more c.self.invariant.well each at) (c.self.invariant.slots at);
      creation = c.self.invariant.creation;
    }

pub returns-in_err-reserve_each-clause-same : goal.returns-in_err-reserve_each-clause-same
returns-in_err-reserve_each-clause-same c =
    let b : Brokered = broker_view c.self.inside in
    let more : List Slot = c.reserve_each.new.slots in
    let each : EachBecame HasMoreRoom b.slots more = subst (λ (l : List Slot). EachBecame HasMoreRoom l more) c.deref_mut.ensures.value c.reserve_each.ensures.same in
    let written : (with_items c.self.inside.slots more).items ≡ more = with_items_is c.self.inside.slots more (each.count ∙ sym c.self.inside.slots.ok.0) in
    let same : IsSameButRoom c.args.self.now (record b { slots = (with_items c.self.inside.slots more).items }) = record {
      same = ap (λ (y : Brokered). let z : Brokered = record y { slots = (with_items c.self.inside.slots more).items } in z) c.self.view_is;
      worlds = λ at. ap (λ (l : List Slot). world_of b.words (slice_get l at)) written ∙ worlds_roomier b more c.self.invariant.well each at ∙ ap (λ (y : Brokered). world_at y at) c.self.view_is;
    } in
    search rules

pub returns-in_err-reserve_each-clause-room : goal.returns-in_err-reserve_each-clause-room
returns-in_err-reserve_each-clause-room c = λ at.
    let b : Brokered = broker_view c.self.inside in
    let more : List Slot = c.reserve_each.new.slots in
    let each : EachBecame HasMoreRoom b.slots more = subst (λ (l : List Slot). EachBecame HasMoreRoom l more) c.deref_mut.ensures.value c.reserve_each.ensures.same in
    let written : (with_items c.self.inside.slots more).items ≡ more = with_items_is c.self.inside.slots more (each.count ∙ sym c.self.inside.slots.ok.0) in
    omega (arith, rooms_roomier b more c.self.invariant.well each at, ap (λ (l : List Slot). room_of (slice_get l at)) written, ap (λ (y : Brokered). room_at y at) c.self.view_is)

pub returns-in_err-reserve_each-clause-spare : goal.returns-in_err-reserve_each-clause-spare
returns-in_err-reserve_each-clause-spare c =
    let b : Brokered = broker_view c.self.inside in
    let more : List Slot = c.reserve_each.new.slots in
    let each : EachBecame HasMoreRoom b.slots more = subst (λ (l : List Slot). EachBecame HasMoreRoom l more) c.deref_mut.ensures.value c.reserve_each.ensures.same in
    let written : (with_items c.self.inside.slots more).items ≡ more = with_items_is c.self.inside.slots more (each.count ∙ sym c.self.inside.slots.ok.0) in
    let all : (at : ℕ) → room_at c.args.self.now at ≤ room_of (slice_get (with_items c.self.inside.slots more).items at) = λ at.
    omega (arith, rooms_roomier b more c.self.invariant.well each at, ap (λ (l : List Slot). room_of (slice_get l at)) written, ap (λ (y : Brokered). room_at y at) c.self.view_is) in
    search rules

pub invariant_of-self-2 : goal.invariant_of-self-2
invariant_of-self-2 c =
    let b : Brokered = broker_view c.self.inside in
    let more : List Slot = c.reserve_each.new.slots in
    let each : EachBecame HasMoreRoom b.slots more = subst (λ (l : List Slot). EachBecame HasMoreRoom l more) c.deref_mut.ensures.value c.reserve_each.ensures.same in
    let written : (with_items c.self.inside.slots more).items ≡ more = with_items_is c.self.inside.slots more (each.count ∙ sym c.self.inside.slots.ok.0) in
    let well : IsWell (record b { slots = more }) = well_roomier b more c.self.invariant.well each in
    let x : Brokered = record b { slots = more } in
    let stopped : List Slot = c.stop_each.new.slots in
    let each2 : EachBecame HasStopped more stopped = subst (λ (l : List Slot). EachBecame HasStopped l stopped) (c.deref_mut-2.ensures.value ∙ written) (record { count = c.stop_each.ensures.count; each = c.stop_each.ensures.each }) in
    let written2 : (with_items (with_items c.self.inside.slots more) stopped).items ≡ stopped = with_items_is (with_items c.self.inside.slots more) stopped (each2.count ∙ each.count ∙ sym c.self.inside.slots.ok.0) in
    let r : Option BrokerRecovery = Some (ReadDirectory c.boot.result) in
    record {
      well = subst (λ (ws : Words). let y : Brokered = record { counts = b.counts; words = ws; slots = (with_items (with_items c.self.inside.slots more) stopped).items; directory = b.directory; creation = b.creation; recovery = r } in IsWell y) (sym c.crash.ensures.words)
          (subst (λ (l : List Slot). let y : Brokered = record { counts = b.counts; words = words_after_crash b.words; slots = l; directory = b.directory; creation = b.creation; recovery = r } in IsWell y) (sym written2)
          (subst (λ (o : Option BrokerRecovery). let y : Brokered = record { counts = b.counts; words = words_after_crash b.words; slots = stopped; directory = b.directory; creation = b.creation; recovery = o } in IsWell y) (ap (λ d. Some (ReadDirectory d)) (sym c.boot.ensures))
          (well_stopped x stopped well each2)));
      slots = λ at. stopped_asked b.counts c.crash.new.self at (world_at b at) _
          (ap (λ (ws : Words). world_of ws (slice_get (with_items (with_items c.self.inside.slots more) stopped).items at)) c.crash.ensures.words ∙ ap (λ (l : List Slot). world_of (words_after_crash b.words) (slice_get l at)) written2
          ∙ worlds_stopped x stopped well each2 at ∙ ap (acted after_stop) (worlds_roomier b more c.self.invariant.well each at));
      creation = tt;
    }

pub returns-clause-stopped : goal.returns-clause-stopped
returns-clause-stopped c = λ ok.
    let b : Brokered = broker_view c.self.inside in
    let more : List Slot = c.reserve_each.new.slots in
    let each : EachBecame HasMoreRoom b.slots more = subst (λ (l : List Slot). EachBecame HasMoreRoom l more) c.deref_mut.ensures.value c.reserve_each.ensures.same in
    let written : (with_items c.self.inside.slots more).items ≡ more = with_items_is c.self.inside.slots more (each.count ∙ sym c.self.inside.slots.ok.0) in
    let well : IsWell (record b { slots = more }) = well_roomier b more c.self.invariant.well each in
    let x : Brokered = record b { slots = more } in
    let stopped : List Slot = c.stop_each.new.slots in
    let each2 : EachBecame HasStopped more stopped = subst (λ (l : List Slot). EachBecame HasStopped l stopped) (c.deref_mut-2.ensures.value ∙ written) (record { count = c.stop_each.ensures.count; each = c.stop_each.ensures.each }) in
    let written2 : (with_items (with_items c.self.inside.slots more) stopped).items ≡ stopped = with_items_is (with_items c.self.inside.slots more) stopped (each2.count ∙ each.count ∙ sym c.self.inside.slots.ok.0) in
    let r : Option BrokerRecovery = Some (ReadDirectory c.boot.result) in
    let new : Brokered = record { counts = b.counts; words = c.crash.new.self.words; slots = (with_items (with_items c.self.inside.slots more) stopped).items; directory = b.directory; creation = b.creation; recovery = r } in
    let booted : r ≡ booting = ap (λ d. Some (ReadDirectory d)) c.boot.ensures in
    let words : new.words ≡ words_after_crash b.words = c.crash.ensures.words in
    let done : IsStopped b new = record {
      same = cc (words, booted);
      worlds = λ at. ap (λ (ws : Words). world_of ws (slice_get new.slots at)) words ∙ ap (λ (l : List Slot). world_of (words_after_crash b.words) (slice_get l at)) written2
          ∙ worlds_stopped x stopped well each2 at ∙ ap (acted after_stop) (worlds_roomier b more c.self.invariant.well each at);
    } in
    subst (λ (y : Brokered). IsStopped y new) c.self.view_is done

pub returns-clause-room : goal.returns-clause-room
returns-clause-room c = λ at.
    let b : Brokered = broker_view c.self.inside in
    let more : List Slot = c.reserve_each.new.slots in
    let each : EachBecame HasMoreRoom b.slots more = subst (λ (l : List Slot). EachBecame HasMoreRoom l more) c.deref_mut.ensures.value c.reserve_each.ensures.same in
    let written : (with_items c.self.inside.slots more).items ≡ more = with_items_is c.self.inside.slots more (each.count ∙ sym c.self.inside.slots.ok.0) in
    let well : IsWell (record b { slots = more }) = well_roomier b more c.self.invariant.well each in
    let x : Brokered = record b { slots = more } in
    let stopped : List Slot = c.stop_each.new.slots in
    let each2 : EachBecame HasStopped more stopped = subst (λ (l : List Slot). EachBecame HasStopped l stopped) (c.deref_mut-2.ensures.value ∙ written) (record { count = c.stop_each.ensures.count; each = c.stop_each.ensures.each }) in
    let written2 : (with_items (with_items c.self.inside.slots more) stopped).items ≡ stopped = with_items_is (with_items c.self.inside.slots more) stopped (each2.count ∙ each.count ∙ sym c.self.inside.slots.ok.0) in
    omega (arith, rooms_roomier b more c.self.invariant.well each at, rooms_stopped x stopped well each2 at, ap (λ (l : List Slot). room_of (slice_get l at)) written2, ap (λ (y : Brokered). room_at y at) c.self.view_is)

pub returns-in_err-reserve_each-clause-promises : goal.returns-in_err-reserve_each-clause-promises
returns-in_err-reserve_each-clause-promises c = promises_well _ (invariant_of-self c).well

pub returns-clause-promises : goal.returns-clause-promises
returns-clause-promises c = promises_well _ (invariant_of-self-2 c).well

pub returns-in_err-reserve_each-clause-goes_on : goal.returns-in_err-reserve_each-clause-goes_on
returns-in_err-reserve_each-clause-goes_on c =
    let b : Brokered = broker_view c.self.inside in
    let more : List Slot = c.reserve_each.new.slots in
    let each : EachBecame HasMoreRoom b.slots more = subst (λ (l : List Slot). EachBecame HasMoreRoom l more) c.deref_mut.ensures.value c.reserve_each.ensures.same in
    let written : (with_items c.self.inside.slots more).items ≡ more = with_items_is c.self.inside.slots more (each.count ∙ sym c.self.inside.slots.ok.0) in
    let new : Brokered = record b { slots = (with_items c.self.inside.slots more).items } in
    subst (λ (x : Brokered). BrokerGoesOn x new) c.self.view_is
    (same_goes_on b new refl refl (λ at. ap (λ (l : List Slot). world_of b.words (slice_get l at)) written ∙ worlds_roomier b more c.self.invariant.well each at))

pub returns-clause-goes_on : goal.returns-clause-goes_on
returns-clause-goes_on c = crash_goes_on _ _ (subst IsWell c.self.view_is c.self.invariant.well) (returns-clause-stopped c refl)

pub returns-clause-downtime : goal.returns-clause-downtime
returns-clause-downtime c = λ ok. crash_downtime _ _ (subst IsWell c.self.view_is c.self.invariant.well) (returns-clause-stopped c ok)

pub returns-in_err-reserve_each-clause-stopped : goal.returns-in_err-reserve_each-clause-stopped
returns-in_err-reserve_each-clause-stopped c = λ ok. absurd (not_ok c.from_residual.result c.in_err-reserve_each.field-0.0 _ (passed_on c.from_residual.result c.in_err-reserve_each.field-0.0 c.from_residual.ensures) ok)

pub returns-in_err-reserve_each-clause-left : goal.returns-in_err-reserve_each-clause-left
returns-in_err-reserve_each-clause-left c = λ ok. absurd (not_ok c.from_residual.result c.in_err-reserve_each.field-0.0 _ (passed_on c.from_residual.result c.in_err-reserve_each.field-0.0 c.from_residual.ensures) ok)

pub returns-in_err-reserve_each-clause-downtime : goal.returns-in_err-reserve_each-clause-downtime
returns-in_err-reserve_each-clause-downtime c = λ ok. absurd (not_ok c.from_residual.result c.in_err-reserve_each.field-0.0 _ (passed_on c.from_residual.result c.in_err-reserve_each.field-0.0 c.from_residual.ensures) ok)

pub returns-clause-same : goal.returns-clause-same
returns-clause-same c = tt

pub returns-clause-spare : goal.returns-clause-spare
returns-clause-spare c = tt

pub returns-clause-full : goal.returns-clause-full
returns-clause-full c = λ full. absurd (cc (full))
