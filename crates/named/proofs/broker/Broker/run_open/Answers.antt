use Rattle.std.proofs.Common.{slice_set, subst}
use Rattle.named.specs.BrokerView.{broker_view}
use Rattle.named.specs.Acting.{IsAloneAt, IsSameBeside}
use Rattle.named.specs.Brokers.{Brokered}
use Rattle.named.specs.GoingOn.{BrokerGoesOn}
use Rattle.named.specs.declared.slot.Slot.{Slot}
use Rattle.named.proofs.acts.Acts.{alone_at, alone_on, same_beside, still_over}
use Rattle.named.proofs.acts.Looks.{found}
use Rattle.named.proofs.promises.Promises.{promises_well}
use Rattle.std.proofs.Common.{arith, sym}
use Rattle.named.specs.Looking.{IsOpenTo}
use Rattle.named.proofs.acts.Looks.{open_below}
use Rattle.named.proofs.broker.Broker.run_open.Goals as goal

pub run_alone-requires : goal.run_alone-requires
run_alone-requires c =
    let b : Brokered = broker_view c.self.inside in
    let was : Slot = c.index_mut.result.now in
    let at = found b c.args.self.now c.self.inside.memory c.args.slot.0 c.args.client was c.self.invariant c.self.view_is c.requires c.index_mut.ensures.value in
    record { well = at.well; asked = at.asked; client = at.few }

pub invariant_of-self : goal.invariant_of-self
invariant_of-self c =
    let b : Brokered = broker_view c.self.inside in
    let was : Slot = c.index_mut.result.now in
    let at = found b c.args.self.now c.self.inside.memory c.args.slot.0 c.args.client was c.self.invariant c.self.view_is c.requires c.index_mut.ensures.value in
    still_over b c.self.inside.memory c.run_alone.new.memory c.args.slot.0 was c.run_alone.new.self c.self.invariant at.here at.below c.run_alone.ensures.within

pub returns-clause-alone : goal.returns-clause-alone
returns-clause-alone c =
    let b : Brokered = broker_view c.self.inside in
    let was : Slot = c.index_mut.result.now in
    let at = found b c.args.self.now c.self.inside.memory c.args.slot.0 c.args.client was c.self.invariant c.self.view_is c.requires c.index_mut.ensures.value in
    let new : Brokered = record b { words = c.run_alone.new.memory.words; slots = slice_set b.slots c.args.slot.0 c.run_alone.new.self } in
    subst (λ (x : Brokered). IsAloneAt c.args.slot.0 c.args.client x c.run_alone.result new) c.self.view_is
    (alone_at b c.self.inside.memory c.run_alone.new.memory c.args.slot.0 was c.run_alone.new.self c.self.invariant at.here at.below c.run_alone.ensures.within c.args.client c.run_alone.result at.admitted c.run_alone.ensures.alone)

pub returns-clause-goes_on : goal.returns-clause-goes_on
returns-clause-goes_on c =
    let b : Brokered = broker_view c.self.inside in
    let was : Slot = c.index_mut.result.now in
    let at = found b c.args.self.now c.self.inside.memory c.args.slot.0 c.args.client was c.self.invariant c.self.view_is c.requires c.index_mut.ensures.value in
    let new : Brokered = record b { words = c.run_alone.new.memory.words; slots = slice_set b.slots c.args.slot.0 c.run_alone.new.self } in
    subst (λ (x : Brokered). BrokerGoesOn x new) c.self.view_is
    (alone_on b c.self.inside.memory c.run_alone.new.memory c.args.slot.0 was c.run_alone.new.self c.self.invariant at.here at.below c.run_alone.ensures.within c.args.client c.run_alone.result at.admitted c.run_alone.ensures.alone)

pub returns-clause-beside : goal.returns-clause-beside
returns-clause-beside c =
    let b : Brokered = broker_view c.self.inside in
    let was : Slot = c.index_mut.result.now in
    let at = found b c.args.self.now c.self.inside.memory c.args.slot.0 c.args.client was c.self.invariant c.self.view_is c.requires c.index_mut.ensures.value in
    let new : Brokered = record b { words = c.run_alone.new.memory.words; slots = slice_set b.slots c.args.slot.0 c.run_alone.new.self } in
    subst (λ (x : Brokered). IsSameBeside c.args.slot.0 x new) c.self.view_is
    (same_beside b c.self.inside.memory c.run_alone.new.memory c.args.slot.0 was c.run_alone.new.self c.self.invariant at.here at.below c.run_alone.ensures.within)

pub returns-clause-promises : goal.returns-clause-promises
returns-clause-promises c = promises_well _ (invariant_of-self c).well

pub index_mut-requires : goal.index_mut-requires
index_mut-requires c =
    let opened = subst (λ (x : Brokered). IsOpenTo x c.args.slot.0 c.args.client) (sym c.self.view_is) c.requires in
    omega (arith, open_below (broker_view c.self.inside) c.self.invariant.well c.args.slot.0 opened.world opened.here, c.self.invariant.well.count)
