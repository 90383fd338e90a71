use Rattle.std.proofs.Common.{◌≡◌, arith, slice_get, slice_set, sym, subst, ap, ◌∙◌, refl}
use Rattle.std.proofs.lemmas.Option.{slice_get_within}
use Rattle.persist.specs.Noted.{answer_in}
use Rattle.protocol.specs.declared.acts.Act.TheVariants.{Step}
use Rattle.interleave.specs.Rules.{stepping}
use Rattle.interleave.proofs.Facts.{get_set}
use Rattle.named.specs.BrokerView.{broker_view}
use Rattle.named.specs.Slots.{room_in}
use Rattle.named.specs.Acting.{IsActAt, IsSameBeside}
use Rattle.named.specs.Brokers.{Brokered, room_at, room_of}
use Rattle.named.specs.GoingOn.{BrokerGoesOn}
use Rattle.named.specs.declared.slot.Slot.{Slot}
use Rattle.named.proofs.acts.Acts.{act_at, goes_on_at, same_beside, still_over}
use Rattle.named.proofs.acts.Looks.{found}
use Rattle.named.proofs.promises.Promises.{promises_well}
use Rattle.persist.specs.Noted.{IsNoted, change_in}
use Rattle.named.specs.Looking.{IsOpenTo}
use Rattle.named.proofs.acts.Looks.{open_below}
use Rattle.named.proofs.broker.Broker.step_open.Goals as goal

pub step-requires : goal.step-requires
step-requires c =
    let b : Brokered = broker_view c.self.inside in
    let was : Slot = c.index_mut.result.now in
    let at = found b c.args.self.now c.self.inside.memory c.args.slot.0 c.args.client was c.self.invariant c.self.view_is c.requires c.index_mut.ensures.value in
    record { well = at.well; asked = at.asked; client = at.few }

pub invariant_of-self : goal.invariant_of-self
invariant_of-self c =
    let b : Brokered = broker_view c.self.inside in
    let was : Slot = c.index_mut.result.now in
    let at = found b c.args.self.now c.self.inside.memory c.args.slot.0 c.args.client was c.self.invariant c.self.view_is c.requires c.index_mut.ensures.value in
    still_over b c.self.inside.memory c.step.new.memory c.args.slot.0 was c.step.new.self c.self.invariant at.here at.below c.step.ensures.within

pub returns-clause-act : goal.returns-clause-act
returns-clause-act c =
    let b : Brokered = broker_view c.self.inside in
    let was : Slot = c.index_mut.result.now in
    let at = found b c.args.self.now c.self.inside.memory c.args.slot.0 c.args.client was c.self.invariant c.self.view_is c.requires c.index_mut.ensures.value in
    let new : Brokered = record b { words = c.step.new.memory.words; slots = slice_set b.slots c.args.slot.0 c.step.new.self } in
    subst (λ (x : Brokered). IsActAt (stepping c.args.client) c.args.slot.0 c.args.client x (answer_in c.step.result) new) c.self.view_is
    (act_at b c.self.inside.memory c.step.new.memory c.args.slot.0 was c.step.new.self c.self.invariant at.here at.below c.step.ensures.within (stepping c.args.client) c.args.client (answer_in c.step.result) at.admitted c.step.ensures.act)

pub returns-clause-goes_on : goal.returns-clause-goes_on
returns-clause-goes_on c =
    let b : Brokered = broker_view c.self.inside in
    let was : Slot = c.index_mut.result.now in
    let at = found b c.args.self.now c.self.inside.memory c.args.slot.0 c.args.client was c.self.invariant c.self.view_is c.requires c.index_mut.ensures.value in
    let new : Brokered = record b { words = c.step.new.memory.words; slots = slice_set b.slots c.args.slot.0 c.step.new.self } in
    subst (λ (x : Brokered). BrokerGoesOn x new) c.self.view_is
    (goes_on_at b c.self.inside.memory c.step.new.memory c.args.slot.0 was c.step.new.self c.self.invariant at.here at.below c.step.ensures.within (stepping c.args.client) c.args.client (answer_in c.step.result) at.admitted c.step.ensures.act (Step c.args.client) (λ w. refl))

pub returns-clause-beside : goal.returns-clause-beside
returns-clause-beside c =
    let b : Brokered = broker_view c.self.inside in
    let was : Slot = c.index_mut.result.now in
    let at = found b c.args.self.now c.self.inside.memory c.args.slot.0 c.args.client was c.self.invariant c.self.view_is c.requires c.index_mut.ensures.value in
    let new : Brokered = record b { words = c.step.new.memory.words; slots = slice_set b.slots c.args.slot.0 c.step.new.self } in
    subst (λ (x : Brokered). IsSameBeside c.args.slot.0 x new) c.self.view_is
    (same_beside b c.self.inside.memory c.step.new.memory c.args.slot.0 was c.step.new.self c.self.invariant at.here at.below c.step.ensures.within)

pub returns-clause-promises : goal.returns-clause-promises
returns-clause-promises c = promises_well _ (invariant_of-self c).well

pub returns-clause-stays : goal.returns-clause-stays
returns-clause-stays c = λ e.
    let b : Brokered = broker_view c.self.inside in
    let was : Slot = c.index_mut.result.now in
    let at = found b c.args.self.now c.self.inside.memory c.args.slot.0 c.args.client was c.self.invariant c.self.view_is c.requires c.index_mut.ensures.value in
    let old : room_at c.args.self.now c.args.slot.0 ≡ room_in was = sym (ap (λ (x : Brokered). room_at x c.args.slot.0) c.self.view_is) ∙ ap room_of at.here in
    let now : room_of (slice_get (slice_set b.slots c.args.slot.0 c.step.new.self) c.args.slot.0) ≡ room_in c.step.new.self =
    ap room_of (get_set b.slots c.args.slot.0 c.step.new.self (slice_get_within b.slots c.args.slot.0 was at.here)) in
    omega (arith, old, now, c.step.ensures.stays e)

pub index_mut-requires : goal.index_mut-requires
index_mut-requires c =
    let opened = subst (λ (x : Brokered). IsOpenTo x c.args.slot.0 c.args.client) (sym c.self.view_is) c.requires in
    omega (arith, open_below (broker_view c.self.inside) c.self.invariant.well c.args.slot.0 opened.world opened.here, c.self.invariant.well.count)

pub returns-clause-noted : goal.returns-clause-noted
returns-clause-noted c = subst (λ (x : Brokered). IsNoted (change_in c.step.result) x.words.kept c.step.new.memory.words.kept) c.self.view_is c.step.ensures.noted
