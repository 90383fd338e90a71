use Rattle.std.proofs.Common.{◌≡◌, ◌↔◌, ℕ, List, Bool, false, is_some, Option, IsTrue, Some, None, refl, sym, ap, ◌∙◌, subst}
use Rattle.words.specs.declared.call.Kind.{Kind}
use Rattle.arena.specs.declared.broker.SlotId.{SlotId}
use Rattle.directory.specs.Creation.{new_creation}
use Rattle.directory.specs.Name.{IsName}
use Rattle.directory.specs.Directory.{HasName, IsFree, IsLowestFree}
use Rattle.directory.specs.declared.creation.Creation.{Creation}
use Rattle.directory.specs.declared.queue.Queue.{Queue}
use Rattle.named.specs.BrokerView.{broker_view}
use Rattle.named.specs.Brokers.{Brokered, IsBegun, IsNotCreated, IsWell, MayCreate}
use Rattle.named.proofs.creations.Beginnings.{begun_well}
use Rattle.named.proofs.acts.Continuity.{begun_goes_on, broker_stays}
use Rattle.named.proofs.acts.OneSlot.{ready_there}
use Rattle.named.proofs.acts.Requests.{begun_asked}
use Rattle.named.proofs.promises.Promises.{promises_well}
use Rattle.named.proofs.acts.Refused.{down_there, left, not_done, why}
use Rattle.named.proofs.broker.Broker.create.Goals as goal

-- no creation is under way, and no queue has the name
idle_there : (o : Option Creation) (creating : Bool) → creating ≡ is_some o → creating ≡ false → o ≡ None
idle_there None creating is idle = refl
idle_there (Some k) creating is idle = absurd (cc (is, idle))

new_there : (has : Bool) (H : Type 0) → IsTrue has ↔ H → has ≡ false → H → ⊥
new_there has H is none there = absurd (cc (is.1 there, none))

may_create : (b shown : Brokered) → b ≡ shown → (name given : List ℕ) → name ≡ given → IsName given → shown.recovery ≡ None → b.creation ≡ None
    → (HasName b.directory name → ⊥) → MayCreate shown given
may_create b shown view name given same named ready idle is_new =
    subst (MayCreate shown) same
    (record {
      named = subst IsName (sym same) named;
      ready = ready;
      idle = sym (ap (λ (x : Brokered). x.creation) view) ∙ idle;
      is_new = λ has. is_new (subst (λ (x : Brokered). HasName x.directory name) (sym view) has);
    })

begun_by : (b shown : Brokered) → b ≡ shown → (name given : List ℕ) → name ≡ given → (kind : Kind) (k : Creation) (slot : SlotId)
    → k ≡ new_creation slot (record { name = name; kind = kind }) → IsLowestFree b.directory slot.0 → IsBegun shown given kind k
begun_by b shown view name given same kind k slot is free =
    subst (λ (x : Brokered). IsBegun x given kind k) view
    (subst (λ (n : List ℕ). IsBegun b n kind k) same (subst (IsBegun b name kind) (sym is) (record { free = free; begun = refl })))

pub invariant_of-self : goal.invariant_of-self
invariant_of-self c =
    let b : Brokered = broker_view c.self.inside in
    let ready : c.self.inside.recovery ≡ None = ap (λ (x : Brokered). x.recovery) c.self.view_is ∙ ready_there c.args.self.now.recovery c.check_ready.result c.check_ready.ensures c.in_ok-check_ready.was in
    let idle : c.self.inside.creation ≡ None = idle_there c.self.inside.creation c.is_some.result c.is_some.ensures c.if-is_some.false in
    let is_new : HasName c.self.inside.directory c.in_ok-name.name → ⊥ = new_there c.has.result _ c.has.ensures c.if-has.false in
    let queue : Queue = record { name = c.in_ok-name.name; kind = c.args.kind } in
    record {
      well = subst (λ (o : Creation). let x : Brokered = record b { creation = Some o } in IsWell x) (sym c.begin.ensures.made)
          (begun_well b c.in-Some.slot queue c.self.invariant.well ready idle c.in-Some.ensures.found.free c.begin.ensures.named is_new);
      slots = c.self.invariant.slots;
      creation = begun_asked b.counts b.recovery c.in-Some.slot queue c.begin.result _ c.begin.ensures.made;
    }

pub returns-clause-promises : goal.returns-clause-promises
returns-clause-promises c = promises_well _ (invariant_of-self c).well

pub returns-clause-goes_on : goal.returns-clause-goes_on
returns-clause-goes_on c =
    let new : Brokered = record {
      counts = c.self.inside.layout;
      words = c.self.inside.memory.words;
      slots = c.self.inside.slots.items;
      directory = c.self.inside.directory;
      creation = Some c.begin.result;
      recovery = c.self.inside.recovery;
    } in
    begun_goes_on c.args.self.now new (ap (λ (x : Brokered). let y : Brokered = record x { creation = Some c.begin.result } in y) c.self.view_is)

pub returns-in_err-name-clause-goes_on : goal.returns-in_err-name-clause-goes_on
returns-in_err-name-clause-goes_on c = broker_stays _

pub returns-in_err-check_ready-clause-goes_on : goal.returns-in_err-check_ready-clause-goes_on
returns-in_err-check_ready-clause-goes_on c = broker_stays _

pub returns-then-is_some-clause-goes_on : goal.returns-then-is_some-clause-goes_on
returns-then-is_some-clause-goes_on c = broker_stays _

pub returns-then-has-clause-goes_on : goal.returns-then-has-clause-goes_on
returns-then-has-clause-goes_on c = broker_stays _

pub returns-in_default-clause-goes_on : goal.returns-in_default-clause-goes_on
returns-in_default-clause-goes_on c = broker_stays _

pub returns-in_err-name-clause-may : goal.returns-in_err-name-clause-may
returns-in_err-name-clause-may c = not_done _ c.from_residual.result c.in_err-name.field-0.0 c.from_residual.ensures

pub returns-in_err-name-clause-begun : goal.returns-in_err-name-clause-begun
returns-in_err-name-clause-begun c = not_done _ c.from_residual.result c.in_err-name.field-0.0 c.from_residual.ensures

pub returns-in_err-name-clause-under_way : goal.returns-in_err-name-clause-under_way
returns-in_err-name-clause-under_way c = not_done _ c.from_residual.result c.in_err-name.field-0.0 c.from_residual.ensures

pub returns-in_err-name-clause-promises : goal.returns-in_err-name-clause-promises
returns-in_err-name-clause-promises c = not_done _ c.from_residual.result c.in_err-name.field-0.0 c.from_residual.ensures

pub returns-in_err-name-clause-others : goal.returns-in_err-name-clause-others
returns-in_err-name-clause-others c = refl

pub returns-in_err-name-clause-same : goal.returns-in_err-name-clause-same
returns-in_err-name-clause-same c = left _ c.from_residual.result refl

pub returns-in_err-check_ready-clause-may : goal.returns-in_err-check_ready-clause-may
returns-in_err-check_ready-clause-may c = not_done _ c.from_residual-in_err-check_ready.result c.in_err-check_ready.field-0.0 c.from_residual-in_err-check_ready.ensures

pub returns-in_err-check_ready-clause-begun : goal.returns-in_err-check_ready-clause-begun
returns-in_err-check_ready-clause-begun c = not_done _ c.from_residual-in_err-check_ready.result c.in_err-check_ready.field-0.0 c.from_residual-in_err-check_ready.ensures

pub returns-in_err-check_ready-clause-under_way : goal.returns-in_err-check_ready-clause-under_way
returns-in_err-check_ready-clause-under_way c = not_done _ c.from_residual-in_err-check_ready.result c.in_err-check_ready.field-0.0 c.from_residual-in_err-check_ready.ensures

pub returns-in_err-check_ready-clause-promises : goal.returns-in_err-check_ready-clause-promises
returns-in_err-check_ready-clause-promises c = not_done _ c.from_residual-in_err-check_ready.result c.in_err-check_ready.field-0.0 c.from_residual-in_err-check_ready.ensures

pub returns-in_err-check_ready-clause-others : goal.returns-in_err-check_ready-clause-others
returns-in_err-check_ready-clause-others c = refl

pub returns-in_err-check_ready-clause-same : goal.returns-in_err-check_ready-clause-same
returns-in_err-check_ready-clause-same c = left _ c.from_residual-in_err-check_ready.result refl

pub returns-then-is_some-clause-may : goal.returns-then-is_some-clause-may
returns-then-is_some-clause-may c = tt

pub returns-then-is_some-clause-begun : goal.returns-then-is_some-clause-begun
returns-then-is_some-clause-begun c = tt

pub returns-then-is_some-clause-under_way : goal.returns-then-is_some-clause-under_way
returns-then-is_some-clause-under_way c = tt

pub returns-then-is_some-clause-promises : goal.returns-then-is_some-clause-promises
returns-then-is_some-clause-promises c = tt

pub returns-then-is_some-clause-others : goal.returns-then-is_some-clause-others
returns-then-is_some-clause-others c = refl

pub returns-then-is_some-clause-same : goal.returns-then-is_some-clause-same
returns-then-is_some-clause-same c = refl

pub returns-then-has-clause-may : goal.returns-then-has-clause-may
returns-then-has-clause-may c = tt

pub returns-then-has-clause-begun : goal.returns-then-has-clause-begun
returns-then-has-clause-begun c = tt

pub returns-then-has-clause-under_way : goal.returns-then-has-clause-under_way
returns-then-has-clause-under_way c = tt

pub returns-then-has-clause-promises : goal.returns-then-has-clause-promises
returns-then-has-clause-promises c = tt

pub returns-then-has-clause-others : goal.returns-then-has-clause-others
returns-then-has-clause-others c = refl

pub returns-then-has-clause-same : goal.returns-then-has-clause-same
returns-then-has-clause-same c = refl

pub returns-in_default-clause-may : goal.returns-in_default-clause-may
returns-in_default-clause-may c = tt

pub returns-in_default-clause-begun : goal.returns-in_default-clause-begun
returns-in_default-clause-begun c = tt

pub returns-in_default-clause-under_way : goal.returns-in_default-clause-under_way
returns-in_default-clause-under_way c = tt

pub returns-in_default-clause-promises : goal.returns-in_default-clause-promises
returns-in_default-clause-promises c = tt

pub returns-in_default-clause-others : goal.returns-in_default-clause-others
returns-in_default-clause-others c = refl

pub returns-in_default-clause-same : goal.returns-in_default-clause-same
returns-in_default-clause-same c = refl

pub returns-in_err-name-clause-errors : goal.returns-in_err-name-clause-errors
returns-in_err-name-clause-errors c =
    why _ c.from_residual.result c.in_err-name.field-0.0 c.from_residual.ensures
    (subst (IsNotCreated c.args.self.now c.args.name.now) (sym c.in_err-name.ensures.bad_name) (λ named. cc (c.in_err-name.ensures.ok.1 named)))

pub returns-in_err-check_ready-clause-errors : goal.returns-in_err-check_ready-clause-errors
returns-in_err-check_ready-clause-errors c =
    let down = down_there c.args.self.now.recovery c.in_err-check_ready.field-0.0 c.in_err-check_ready.ensures in
    why _ c.from_residual-in_err-check_ready.result c.in_err-check_ready.field-0.0 c.from_residual-in_err-check_ready.ensures
    (subst (IsNotCreated c.args.self.now c.args.name.now) (sym down.0) (c.in_ok-name.ensures.ok.0 refl, down.1))

pub returns-then-is_some-clause-errors : goal.returns-then-is_some-clause-errors
returns-then-is_some-clause-errors c = (
  c.in_ok-name.ensures.ok.0 refl,
  ready_there c.args.self.now.recovery c.check_ready.result c.check_ready.ensures c.in_ok-check_ready.was,
  sym (ap (λ (x : Brokered). is_some x.creation) c.self.view_is) ∙ sym c.is_some.ensures ∙ c.if-is_some.true,
)

pub returns-then-has-clause-errors : goal.returns-then-has-clause-errors
returns-then-has-clause-errors c = (
  c.in_ok-name.ensures.ok.0 refl,
  ready_there c.args.self.now.recovery c.check_ready.result c.check_ready.ensures c.in_ok-check_ready.was,
  sym (ap (λ (x : Brokered). x.creation) c.self.view_is) ∙ idle_there c.self.inside.creation c.is_some.result c.is_some.ensures c.if-is_some.false,
  subst (λ (x : Brokered). HasName x.directory c.args.name.now) c.self.view_is (subst (HasName c.self.inside.directory) c.in_ok-name.ensures.made (c.has.ensures.0 c.if-has.true)),
)

pub returns-in_default-clause-errors : goal.returns-in_default-clause-errors
returns-in_default-clause-errors c = (
  may_create (broker_view c.self.inside) c.args.self.now c.self.view_is c.in_ok-name.name c.args.name.now c.in_ok-name.ensures.made (c.in_ok-name.ensures.ok.0 refl)
      (ready_there c.args.self.now.recovery c.check_ready.result c.check_ready.ensures c.in_ok-check_ready.was) (idle_there c.self.inside.creation c.is_some.result c.is_some.ensures c.if-is_some.false)
      (λ has. new_there c.has.result _ c.has.ensures c.if-has.false has),
  λ slot free. c.in_default.ensures.none slot (subst (λ (x : Brokered). IsFree x.directory slot) (sym c.self.view_is) free),
)

pub returns-clause-may : goal.returns-clause-may
returns-clause-may c =
    may_create (broker_view c.self.inside) c.args.self.now c.self.view_is c.in_ok-name.name c.args.name.now c.in_ok-name.ensures.made (c.in_ok-name.ensures.ok.0 refl)
    (ready_there c.args.self.now.recovery c.check_ready.result c.check_ready.ensures c.in_ok-check_ready.was) (idle_there c.self.inside.creation c.is_some.result c.is_some.ensures c.if-is_some.false)
    (λ has. new_there c.has.result _ c.has.ensures c.if-has.false has)

pub returns-clause-begun : goal.returns-clause-begun
returns-clause-begun c =
    begun_by (broker_view c.self.inside) c.args.self.now c.self.view_is c.in_ok-name.name c.args.name.now c.in_ok-name.ensures.made c.args.kind c.begin.result c.in-Some.slot
    c.begin.ensures.made c.in-Some.ensures.found

pub returns-clause-under_way : goal.returns-clause-under_way
returns-clause-under_way c = refl

pub returns-clause-others : goal.returns-clause-others
returns-clause-others c = ap (λ (x : Brokered). let y : Brokered = record x { creation = Some c.begin.result } in y) c.self.view_is

pub returns-clause-errors : goal.returns-clause-errors
returns-clause-errors c = tt

pub returns-clause-same : goal.returns-clause-same
returns-clause-same c = tt
