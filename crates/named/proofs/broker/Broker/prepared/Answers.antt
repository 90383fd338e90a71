use Rattle.std.proofs.Common.{ℕ, ◌≡◌, ◌∙◌, List, Some, Ok, false, slice_get, sym, subst, arith}
use Rattle.std.specs.Vec.{with_items}
use Rattle.std.proofs.lemmas.List.{with_items_is}
use Rattle.named.specs.BrokerView.{broker_view}
use Rattle.named.specs.Brokers.{Brokered}
use Rattle.named.specs.Each.{EachBecame, HasMoreRoom}
use Rattle.named.specs.Renewing.{IsAnewFor, IsWhyNotRenewedAt, MayRenew}
use Rattle.named.specs.Rotating.{rotate_result}
use Rattle.named.specs.declared.slot.Slot.{Slot}
use Rattle.named.proofs.acts.Refused.{nothing, not_done, why}
use Rattle.named.proofs.promises.Promises.{boots_well, head_is, promises_kept}
use Rattle.named.proofs.beginnings.Renewals.{may_be_renewed}
use Rattle.named.proofs.beginnings.RenewedQueues.{known, why_at}
use Rattle.named.proofs.histories.Room.{booted_few, booted_roomier}
use Rattle.named.proofs.broker.Broker.prepared.Goals as goal

-- the histories may end
rests : (b shown : Brokered) (slot : ℕ) → b ≡ shown → MayRenew shown slot → rotate_result false b ≡ Ok tt
rests b shown slot view may = subst (λ (x : Brokered). rotate_result false x ≡ Ok tt) (sym view) may.rests

pub fresh_queue-requires : goal.fresh_queue-requires
fresh_queue-requires c =
    let b : Brokered = broker_view c.self.inside in
    let now = rests b c.args.self.now c.args.slot.0 c.self.view_is c.in_ok-check_renewal.ensures.may in
    may_be_renewed b.words b.counts b.directory b.counts (c.self.invariant.well.room.cached ∙ sym c.self.invariant.well.room.kept)
    (boots_well b c.self.invariant.well) (sym (head_is b c.self.invariant.well)) (sym (known b c.self.invariant.well now)) (omega arith)

pub returns-in_err-block-clause-errors : goal.returns-in_err-block-clause-errors
returns-in_err-block-clause-errors c =
    let e = c.in_err-block.field-0.0 in
    why _ c.from_residual-in_err-block.result e c.from_residual-in_err-block.ensures
    (why_at (broker_view c.self.inside) c.args.self.now c.self.invariant.well c.self.view_is c.args.slot.0 c.in_ok-check_renewal.ensures.may e c.in_err-block.ensures.errors)

pub returns-in_err-slots-clause-errors : goal.returns-in_err-slots-clause-errors
returns-in_err-slots-clause-errors c =
    why _ c.from_residual-in_err-slots.result c.in_err-slots.field-0.0 c.from_residual-in_err-slots.ensures
    (subst (IsWhyNotRenewedAt c.args.self.now c.args.slot.0) (sym c.in_err-slots.ensures.errors) c.in_ok-check_renewal.ensures.may)

pub returns-in_err-reserve_each-clause-errors : goal.returns-in_err-reserve_each-clause-errors
returns-in_err-reserve_each-clause-errors c =
    why _ c.from_residual-in_err-reserve_each.result c.in_err-reserve_each.field-0.0 c.from_residual-in_err-reserve_each.ensures
    (subst (IsWhyNotRenewedAt c.args.self.now c.args.slot.0) (sym c.in_err-reserve_each.ensures.errors) c.in_ok-check_renewal.ensures.may)

pub returns-in_err-check_renewal-clause-errors : goal.returns-in_err-check_renewal-clause-errors
returns-in_err-check_renewal-clause-errors c =
    why _ c.from_residual.result c.in_err-check_renewal.field-0.0 c.from_residual.ensures c.in_err-check_renewal.ensures.errors

pub boot_each-requires-clause-kept : goal.boot_each-requires-clause-kept
boot_each-requires-clause-kept c =
    let b : Brokered = broker_view c.self.inside in
    let now = rests b c.args.self.now c.args.slot.0 c.self.view_is c.in_ok-check_renewal.ensures.may in
    record {
      room = c.self.invariant.well.room.cached ∙ sym c.self.invariant.well.room.kept;
      broker = (boots_well b c.self.invariant.well).broker;
      counts_are = sym (head_is b c.self.invariant.well);
      directory_is = sym (known b c.self.invariant.well now);
    }

pub boot_each-requires-clause-sound : goal.boot_each-requires-clause-sound
boot_each-requires-clause-sound c = boots_well (broker_view c.self.inside) c.self.invariant.well

pub reserve_each-requires : goal.reserve_each-requires
reserve_each-requires c =
    let b : Brokered = broker_view c.self.inside in
    λ at slot here.
    booted_few b.counts b.words b.directory c.in_ok-slots.slots.items c.self.invariant.well.listed.count c.in_ok-slots.ensures.booted at slot
    (subst (λ (l : List Slot). slice_get l at ≡ Some slot) c.deref_mut.ensures.value here)

pub returns-clause-may : goal.returns-clause-may
returns-clause-may c = c.in_ok-check_renewal.ensures.may

pub returns-clause-errors : goal.returns-clause-errors
returns-clause-errors c = tt

pub returns-clause-anew : goal.returns-clause-anew
returns-clause-anew c =
    let b : Brokered = broker_view c.self.inside in
    let more : List Slot = c.reserve_each.new.slots in
    let each : EachBecame HasMoreRoom c.in_ok-slots.slots.items more =
    subst (λ (l : List Slot). EachBecame HasMoreRoom l more) c.deref_mut.ensures.value c.reserve_each.ensures.same in
    let whole : List Slot = (with_items c.in_ok-slots.slots more).items in
    let written : whole ≡ more = with_items_is c.in_ok-slots.slots more (each.count ∙ sym c.in_ok-slots.slots.ok.0) in
    let anew : IsAnewFor b c.args.slot.0 more c.in_ok-block.block = record {
      booted = booted_roomier b.counts b.words b.directory c.in_ok-slots.slots.items more c.in_ok-slots.ensures.booted each;
      room = c.in_ok-reserve_each.ensures.room;
      below = c.in_ok-block.ensures.slot;
      within = c.in_ok-block.ensures.within;
      words = c.in_ok-block.ensures.renewed;
      same = c.in_ok-block.ensures.same;
    } in
    subst (λ (l : List Slot). IsAnewFor c.args.self.now c.args.slot.0 l c.in_ok-block.block) (sym written)
    (subst (λ (x : Brokered). IsAnewFor x c.args.slot.0 more c.in_ok-block.block) c.self.view_is anew)

pub returns-in_err-check_renewal-clause-may : goal.returns-in_err-check_renewal-clause-may
returns-in_err-check_renewal-clause-may c = not_done _ c.from_residual.result c.in_err-check_renewal.field-0.0 c.from_residual.ensures

pub returns-in_err-check_renewal-clause-anew : goal.returns-in_err-check_renewal-clause-anew
returns-in_err-check_renewal-clause-anew c = nothing _ c.from_residual.result c.in_err-check_renewal.field-0.0 c.from_residual.ensures

pub returns-in_err-check_renewal-clause-stays : goal.returns-in_err-check_renewal-clause-stays
returns-in_err-check_renewal-clause-stays c = promises_kept _ _ c.self.invariant.well c.self.view_is

pub returns-in_err-block-clause-may : goal.returns-in_err-block-clause-may
returns-in_err-block-clause-may c = not_done _ c.from_residual-in_err-block.result c.in_err-block.field-0.0 c.from_residual-in_err-block.ensures

pub returns-in_err-block-clause-anew : goal.returns-in_err-block-clause-anew
returns-in_err-block-clause-anew c = nothing _ c.from_residual-in_err-block.result c.in_err-block.field-0.0 c.from_residual-in_err-block.ensures

pub returns-in_err-block-clause-stays : goal.returns-in_err-block-clause-stays
returns-in_err-block-clause-stays c = promises_kept _ _ c.self.invariant.well c.self.view_is

pub returns-in_err-slots-clause-may : goal.returns-in_err-slots-clause-may
returns-in_err-slots-clause-may c = not_done _ c.from_residual-in_err-slots.result c.in_err-slots.field-0.0 c.from_residual-in_err-slots.ensures

pub returns-in_err-slots-clause-anew : goal.returns-in_err-slots-clause-anew
returns-in_err-slots-clause-anew c = nothing _ c.from_residual-in_err-slots.result c.in_err-slots.field-0.0 c.from_residual-in_err-slots.ensures

pub returns-in_err-slots-clause-stays : goal.returns-in_err-slots-clause-stays
returns-in_err-slots-clause-stays c = promises_kept _ _ c.self.invariant.well c.self.view_is

pub returns-in_err-reserve_each-clause-may : goal.returns-in_err-reserve_each-clause-may
returns-in_err-reserve_each-clause-may c = not_done _ c.from_residual-in_err-reserve_each.result c.in_err-reserve_each.field-0.0 c.from_residual-in_err-reserve_each.ensures

pub returns-in_err-reserve_each-clause-anew : goal.returns-in_err-reserve_each-clause-anew
returns-in_err-reserve_each-clause-anew c = nothing _ c.from_residual-in_err-reserve_each.result c.in_err-reserve_each.field-0.0 c.from_residual-in_err-reserve_each.ensures

pub returns-in_err-reserve_each-clause-stays : goal.returns-in_err-reserve_each-clause-stays
returns-in_err-reserve_each-clause-stays c = promises_kept _ _ c.self.invariant.well c.self.view_is

pub returns-clause-stays : goal.returns-clause-stays
returns-clause-stays c = promises_kept _ _ c.self.invariant.well c.self.view_is
