use Rattle.std.proofs.Common.{slice_set, subst, refl}
use Rattle.protocol.specs.declared.acts.Act.TheVariants.{Start}
use Rattle.interleave.specs.Rules.{starting}
use Rattle.named.specs.BrokerView.{broker_view}
use Rattle.named.specs.Acting.{IsActAt, IsSameBeside}
use Rattle.named.specs.Brokers.{Brokered}
use Rattle.named.specs.GoingOn.{BrokerGoesOn}
use Rattle.named.specs.declared.slot.Slot.{Slot}
use Rattle.named.proofs.acts.Acts.{act_at, goes_on_at, same_beside, still_over}
use Rattle.named.proofs.acts.Looks.{found}
use Rattle.named.proofs.promises.Promises.{promises_well}
use Rattle.std.proofs.Common.{arith, ◌∙◌, ap, sym}
use Rattle.named.specs.Looking.{IsOpenTo}
use Rattle.named.proofs.acts.Looks.{open_below}
use Rattle.named.proofs.broker.Broker.start_open.Goals as goal

pub start-requires : goal.start-requires
start-requires c =
    let b : Brokered = broker_view c.self.inside in
    let was : Slot = c.index_mut.result.now in
    let at = found b c.args.self.now c.self.inside.memory c.args.slot.0 c.args.client was c.self.invariant c.self.view_is c.requires c.index_mut.ensures.value in
    record { well = at.well; asked = at.asked }

pub invariant_of-self : goal.invariant_of-self
invariant_of-self c =
    let b : Brokered = broker_view c.self.inside in
    let was : Slot = c.index_mut.result.now in
    let at = found b c.args.self.now c.self.inside.memory c.args.slot.0 c.args.client was c.self.invariant c.self.view_is c.requires c.index_mut.ensures.value in
    still_over b c.self.inside.memory c.start.new.memory c.args.slot.0 was c.start.new.self c.self.invariant at.here at.below c.start.ensures.within

pub returns-clause-act : goal.returns-clause-act
returns-clause-act c =
    let b : Brokered = broker_view c.self.inside in
    let was : Slot = c.index_mut.result.now in
    let at = found b c.args.self.now c.self.inside.memory c.args.slot.0 c.args.client was c.self.invariant c.self.view_is c.requires c.index_mut.ensures.value in
    let new : Brokered = record b { words = c.start.new.memory.words; slots = slice_set b.slots c.args.slot.0 c.start.new.self } in
    subst (λ (x : Brokered). IsActAt (starting c.args.client c.args.number c.args.call) c.args.slot.0 c.args.client x c.start.result new) c.self.view_is
    (act_at b c.self.inside.memory c.start.new.memory c.args.slot.0 was c.start.new.self c.self.invariant at.here at.below c.start.ensures.within (starting c.args.client c.args.number c.args.call) c.args.client c.start.result at.admitted c.start.ensures.act)

pub returns-clause-goes_on : goal.returns-clause-goes_on
returns-clause-goes_on c =
    let b : Brokered = broker_view c.self.inside in
    let was : Slot = c.index_mut.result.now in
    let at = found b c.args.self.now c.self.inside.memory c.args.slot.0 c.args.client was c.self.invariant c.self.view_is c.requires c.index_mut.ensures.value in
    let new : Brokered = record b { words = c.start.new.memory.words; slots = slice_set b.slots c.args.slot.0 c.start.new.self } in
    subst (λ (x : Brokered). BrokerGoesOn x new) c.self.view_is
    (goes_on_at b c.self.inside.memory c.start.new.memory c.args.slot.0 was c.start.new.self c.self.invariant at.here at.below c.start.ensures.within (starting c.args.client c.args.number c.args.call) c.args.client c.start.result at.admitted c.start.ensures.act (Start c.args.client c.args.number c.args.call) (λ w. refl))

pub returns-clause-beside : goal.returns-clause-beside
returns-clause-beside c =
    let b : Brokered = broker_view c.self.inside in
    let was : Slot = c.index_mut.result.now in
    let at = found b c.args.self.now c.self.inside.memory c.args.slot.0 c.args.client was c.self.invariant c.self.view_is c.requires c.index_mut.ensures.value in
    let new : Brokered = record b { words = c.start.new.memory.words; slots = slice_set b.slots c.args.slot.0 c.start.new.self } in
    subst (λ (x : Brokered). IsSameBeside c.args.slot.0 x new) c.self.view_is
    (same_beside b c.self.inside.memory c.start.new.memory c.args.slot.0 was c.start.new.self c.self.invariant at.here at.below c.start.ensures.within)

pub returns-clause-promises : goal.returns-clause-promises
returns-clause-promises c = promises_well _ (invariant_of-self c).well

pub index_mut-requires : goal.index_mut-requires
index_mut-requires c =
    let opened = subst (λ (x : Brokered). IsOpenTo x c.args.slot.0 c.args.client) (sym c.self.view_is) c.requires in
    omega (arith, open_below (broker_view c.self.inside) c.self.invariant.well c.args.slot.0 opened.world opened.here, c.self.invariant.well.count)

pub returns-clause-unchanged : goal.returns-clause-unchanged
returns-clause-unchanged c = c.start.ensures.kept ∙ ap (λ (x : Brokered). x.words.kept) c.self.view_is
