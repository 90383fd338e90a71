use Rattle.std.proofs.Common.{◌≡◌, Err, Option, length, Some, None, Ok, Result, IfSome, refl, sym, ap, subst, ◌∙◌, arith, slice_get, slice_set}
use Rattle.persist.specs.Memory.{Access, Request, Words}
use Rattle.persist.specs.Noted.{IsNoted, answer_in}
use Rattle.persist.specs.declared.access.Change.{Change}
use Rattle.persist.proofs.Facts.{accessed_noted}
use Rattle.arena.specs.Shape.{Counts, shape_of}
use Rattle.arena.specs.declared.broker.BrokerPlace.{BrokerPlace}
use Rattle.arena.specs.declared.broker.SlotId.{SlotId}
use Rattle.words.specs.declared.refusal.Refusal.{Refusal}
use Rattle.stepper.specs.declared.resume.After.{After}
use Rattle.stepper.specs.declared.resume.After.TheVariants.{More, Done}
use Rattle.directory.specs.Creation.{access_of, successor}
use Rattle.directory.specs.Step.{IsAskedFor, after_one, at_word, change_by}
use Rattle.directory.specs.declared.creation.Creation.{Creation}
use Rattle.interleave.specs.State.{world_over}
use Rattle.named.specs.BrokerView.{broker_view}
use Rattle.named.specs.Brokers.{Brokered, IsOpened, IsStepCreated, IsWell, block_words, quiet, room_at, words_created}
use Rattle.named.specs.Brokers.{world_at, world_of}
use Rattle.named.proofs.creations.Steps.{creating, in_range, is_free, others_done, others_more, rest, room_now, rooms_opened, unused, well_done}
use Rattle.named.proofs.creations.Steps.{well_more, world_opened}
use Rattle.named.specs.declared.recovery.BrokerRecovery.{BrokerRecovery}
use Rattle.named.proofs.downtime.Steps.{creation_step_goes_on, made_goes_on}
use Rattle.named.proofs.acts.Continuity.{broker_stays}
use Rattle.named.proofs.acts.OneSlot.{length_set, ready_there}
use Rattle.named.specs.Asked.{IfCreationAsked, IsWorldAsked}
use Rattle.named.specs.Slots.{IfWorld}
use Rattle.named.proofs.acts.Requests.{creation_stepped, each_slot, new_asked, next_asked, none_asked_for}
use Rattle.named.proofs.promises.Promises.{promises_kept, promises_well}
use Rattle.named.proofs.acts.Refused.{answered_so, down_there, if_none, if_some, left, not_both, not_down, unnoted}
use Rattle.named.proofs.broker.Broker.create_step_noted.Goals as goal

-- what the creation's port has been asked for
asked_now : (c : Counts) (r : Option BrokerRecovery) (o : Option Creation) (k : Creation) (q : Request) → r ≡ None → o ≡ Some k
    → IfCreationAsked c r o q → IsAskedFor c (access_of k) q
asked_now c r o k q up is asked = subst (λ (x : Option Creation). IfCreationAsked c None x q) is (subst (λ (x : Option BrokerRecovery). IfCreationAsked c x o q) up asked)

pub invariant_of-self : goal.invariant_of-self
invariant_of-self c =
    let b : Brokered = broker_view c.self.inside in
    let k : Creation = c.in-Some.creation in
    let ready : c.self.inside.recovery ≡ None = ap (λ (x : Brokered). x.recovery) c.self.view_is ∙ ready_there c.args.self.now.recovery c.check_ready.result c.check_ready.ensures c.in_ok-check_ready.was in
    let is : c.self.inside.creation ≡ Some c.in-Some.creation = c.in-Some.is in
    let went : successor c.in-Some.creation ≡ More c.in-More.next = sym c.step_creation-change.ensures.next ∙ c.in-More.is in
    record {
      well = subst (λ (w : Words). let x : Brokered = record b { words = w; creation = Some c.in-More.next } in IsWell x) (sym c.step_creation-change.ensures.one_access)
          (well_more b k c.self.invariant.well ready is c.in-More.next went);
      slots = λ slot. creation_stepped b (record b { words = c.step_creation-change.new.memory.words; creation = Some c.in-More.next }) c.self.inside.memory c.step_creation-change.new.memory c.self.invariant refl refl c.step_creation-change.ensures.others slot
          (subst (λ (w : Words). quiet (world_of w (slice_get b.slots slot)) ≡ quiet (world_at b slot)) (sym c.step_creation-change.ensures.one_access) (others_more b k c.self.invariant.well ready is slot));
      creation = next_asked b.counts b.recovery c.step_creation-change.result.answer c.in-More.next _ ready c.in-More.is c.step_creation-change.ensures.asked;
    }

pub returns-in-More-clause-others : goal.returns-in-More-clause-others
returns-in-More-clause-others c = λ other yes.
    let b : Brokered = broker_view c.self.inside in
    let k : Creation = c.in-Some.creation in
    let ready : c.self.inside.recovery ≡ None = ap (λ (x : Brokered). x.recovery) c.self.view_is ∙ ready_there c.args.self.now.recovery c.check_ready.result c.check_ready.ensures c.in_ok-check_ready.was in
    let is : c.self.inside.creation ≡ Some c.in-Some.creation = c.in-Some.is in
    subst (λ (w : Words). quiet (world_of w (slice_get c.self.inside.slots.items other)) ≡ quiet (world_at b other)) (sym c.step_creation-change.ensures.one_access)
    (others_more b k c.self.invariant.well ready is other) ∙ ap (λ (x : Brokered). quiet (world_at x other)) c.self.view_is

pub invariant_of-self-in-Done : goal.invariant_of-self-in-Done
invariant_of-self-in-Done c =
    let b : Brokered = broker_view c.self.inside in
    let k : Creation = c.in-Some.creation in
    let ready : c.self.inside.recovery ≡ None = ap (λ (x : Brokered). x.recovery) c.self.view_is ∙ ready_there c.args.self.now.recovery c.check_ready.result c.check_ready.ensures c.in_ok-check_ready.was in
    let is : c.self.inside.creation ≡ Some c.in-Some.creation = c.in-Some.is in
    let went : successor c.in-Some.creation ≡ Done c.in-Done.slot = sym c.step_creation-change.ensures.next ∙ c.in-Done.is in
    let at_rest = rest b k c.self.invariant.well ready is c.in-Done.slot went in
    let room = room_now b k c.self.invariant.well ready is at_rest.room in
    let at = c.open-opened.ensures.at (words_created b k) (omega (arith, room.cached)) (unused b k c.self.invariant.well ready is c.in-Done.slot went) in
    let new = c.step_creation-change.new.memory in
    record {
      well = subst (λ (w : Words). let x : Brokered = record { counts = c.self.inside.layout; words = w; slots = slice_set c.self.inside.slots.items c.in-Done.slot.0 c.open-opened.result; directory = c.open.new.self; creation = None; recovery = c.self.inside.recovery } in IsWell x) (sym c.step_creation-change.ensures.one_access)
          (subst (λ (o : Option BrokerRecovery). let x : Brokered = record { counts = c.self.inside.layout; words = words_created b k; slots = slice_set c.self.inside.slots.items c.in-Done.slot.0 c.open-opened.result; directory = c.open.new.self; creation = None; recovery = o } in IsWell x) (sym ready)
          (well_done b k c.self.invariant.well ready is c.in-Done.slot went c.open-opened.result c.open-opened.ensures.kind c.open-opened.ensures.ready at c.open.new.self c.open.ensures.opened c.open.ensures.directory));
      slots = each_slot (λ n. IfWorld (world_of new.words (slice_get (slice_set b.slots c.in-Done.slot.0 c.open-opened.result) n)) (IsWorldAsked b.counts new n)) c.in-Done.slot.0
          (new_asked b.counts new c.in-Done.slot.0 _ (shape_of k.queue.kind b.counts) (block_words b.counts c.in-Done.slot.0 new.words)
          (subst (λ (w : Words). world_of w (slice_get (slice_set b.slots c.in-Done.slot.0 c.open-opened.result) c.in-Done.slot.0) ≡ Some (world_over (shape_of k.queue.kind b.counts) (block_words b.counts c.in-Done.slot.0 w))) (sym c.step_creation-change.ensures.one_access)
          (world_opened b k c.self.invariant.well ready is c.in-Done.slot went c.open-opened.result c.open-opened.ensures.kind c.open-opened.ensures.ready at c.open.new.self c.open.ensures.opened c.open.ensures.directory ∙ c.open-opened.ensures.world (words_created b k))))
          (λ j ne. creation_stepped b (record b { words = new.words; slots = slice_set b.slots c.in-Done.slot.0 c.open-opened.result }) c.self.inside.memory new c.self.invariant refl (length_set b.slots c.in-Done.slot.0 c.open-opened.result) c.step_creation-change.ensures.others j
          (subst (λ (w : Words). quiet (world_of w (slice_get (slice_set b.slots c.in-Done.slot.0 c.open-opened.result) j)) ≡ quiet (world_at b j)) (sym c.step_creation-change.ensures.one_access)
          (others_done b k c.self.invariant.well ready is c.in-Done.slot went c.open-opened.result c.open-opened.ensures.kind c.open-opened.ensures.ready at c.open.new.self c.open.ensures.opened c.open.ensures.directory j ne)));
      creation = none_asked_for b.counts b.recovery _;
    }

pub returns-in-Done-clause-others : goal.returns-in-Done-clause-others
returns-in-Done-clause-others c = λ other ne.
    let b : Brokered = broker_view c.self.inside in
    let k : Creation = c.in-Some.creation in
    let ready : c.self.inside.recovery ≡ None = ap (λ (x : Brokered). x.recovery) c.self.view_is ∙ ready_there c.args.self.now.recovery c.check_ready.result c.check_ready.ensures c.in_ok-check_ready.was in
    let is : c.self.inside.creation ≡ Some c.in-Some.creation = c.in-Some.is in
    let went : successor c.in-Some.creation ≡ Done c.in-Done.slot = sym c.step_creation-change.ensures.next ∙ c.in-Done.is in
    let at_rest = rest b k c.self.invariant.well ready is c.in-Done.slot went in
    let room = room_now b k c.self.invariant.well ready is at_rest.room in
    let at = c.open-opened.ensures.at (words_created b k) (omega (arith, room.cached)) (unused b k c.self.invariant.well ready is c.in-Done.slot went) in
    subst (λ (w : Words). quiet (world_of w (slice_get (slice_set c.self.inside.slots.items c.in-Done.slot.0 c.open-opened.result) other)) ≡ quiet (world_at b other)) (sym c.step_creation-change.ensures.one_access)
    (others_done b k c.self.invariant.well ready is c.in-Done.slot went c.open-opened.result c.open-opened.ensures.kind c.open-opened.ensures.ready at c.open.new.self c.open.ensures.opened c.open.ensures.directory other ne) ∙ ap (λ (x : Brokered). quiet (world_at x other)) c.self.view_is

pub returns-in-Done-clause-step : goal.returns-in-Done-clause-step
returns-in-Done-clause-step c = λ _.
    let b : Brokered = broker_view c.self.inside in
    let k : Creation = c.in-Some.creation in
    let ready : c.self.inside.recovery ≡ None = ap (λ (x : Brokered). x.recovery) c.self.view_is ∙ ready_there c.args.self.now.recovery c.check_ready.result c.check_ready.ensures c.in_ok-check_ready.was in
    let is : c.self.inside.creation ≡ Some c.in-Some.creation = c.in-Some.is in
    let went : successor c.in-Some.creation ≡ Done c.in-Done.slot = sym c.step_creation-change.ensures.next ∙ c.in-Done.is in
    let at_rest = rest b k c.self.invariant.well ready is c.in-Done.slot went in
    let room = room_now b k c.self.invariant.well ready is at_rest.room in
    let at = c.open-opened.ensures.at (words_created b k) (omega (arith, room.cached)) (unused b k c.self.invariant.well ready is c.in-Done.slot went) in
    let new : Brokered = record { counts = c.self.inside.layout; words = c.step_creation-change.new.memory.words; slots = slice_set c.self.inside.slots.items c.in-Done.slot.0 c.open-opened.result; directory = c.open.new.self; creation = None; recovery = c.self.inside.recovery } in
    let opened : IsOpened c.args.self.now new k c.in-Done.slot = record {
      counts = ap (λ (x : Brokered). x.counts) c.self.view_is;
      recovery = ap (λ (x : Brokered). x.recovery) c.self.view_is;
      words = c.step_creation-change.ensures.one_access ∙ ap (λ (x : Brokered). words_created x k) c.self.view_is;
      ended = refl;
      directory = c.open.ensures.opened ∙ ap (λ (x : Brokered). slice_set x.directory c.in-Done.slot.0 (Some k.queue)) c.self.view_is;
      world = subst (λ (w : Words). world_of w (slice_get (slice_set c.self.inside.slots.items c.in-Done.slot.0 c.open-opened.result) c.in-Done.slot.0) ≡ Some (world_over (shape_of k.queue.kind c.self.inside.layout) (block_words c.self.inside.layout c.in-Done.slot.0 w))) (sym c.step_creation-change.ensures.one_access)
          (world_opened b k c.self.invariant.well ready is c.in-Done.slot went c.open-opened.result c.open-opened.ensures.kind c.open-opened.ensures.ready at c.open.new.self c.open.ensures.opened c.open.ensures.directory ∙ c.open-opened.ensures.world (words_created b k))
          ∙ ap (λ (x : Brokered). Some (world_over (shape_of k.queue.kind x.counts) (block_words x.counts c.in-Done.slot.0 c.step_creation-change.new.memory.words))) c.self.view_is;
      rooms = λ at. omega (arith, rooms_opened b k c.self.invariant.well ready is c.in-Done.slot went c.open-opened.result at, ap (λ (x : Brokered). room_at x at) c.self.view_is);
    } in
    let now : c.args.self.now.creation ≡ Some k = sym (ap (λ (x : Brokered). x.creation) c.self.view_is) ∙ is in
    let result : Result (Option SlotId) Refusal = Ok (Some c.in-Done.slot) in
    subst (λ (o : Option Creation). IfSome o (λ (x : Creation). IsStepCreated c.args.self.now new x result (successor x))) (sym now)
    (subst (λ (a : After Creation SlotId). IsStepCreated c.args.self.now new k result a) (sym went) (refl, opened))

pub returns-in_err-check_ready-clause-promises : goal.returns-in_err-check_ready-clause-promises
returns-in_err-check_ready-clause-promises c = promises_kept _ _ c.self.invariant.well c.self.view_is

pub returns-in_default-clause-promises : goal.returns-in_default-clause-promises
returns-in_default-clause-promises c = promises_kept _ _ c.self.invariant.well c.self.view_is

pub returns-in-More-clause-promises : goal.returns-in-More-clause-promises
returns-in-More-clause-promises c = promises_well _ (invariant_of-self c).well

pub returns-in-Done-clause-promises : goal.returns-in-Done-clause-promises
returns-in-Done-clause-promises c = promises_well _ (invariant_of-self-in-Done c).well

pub returns-in_err-check_ready-clause-goes_on : goal.returns-in_err-check_ready-clause-goes_on
returns-in_err-check_ready-clause-goes_on c = broker_stays _

pub returns-in_default-clause-goes_on : goal.returns-in_default-clause-goes_on
returns-in_default-clause-goes_on c = broker_stays _

-- the step that goes on
made_more : (c : goal.After-self-1) → (let result : Result (Option SlotId) Refusal = Ok None in IsStepCreated c.args.self.now (record (broker_view c.self.inside) { words = c.step_creation-change.new.memory.words; creation = Some c.in-More.next }) c.in-Some.creation result (successor c.in-Some.creation))
made_more c =
    let b : Brokered = broker_view c.self.inside in
    let k : Creation = c.in-Some.creation in
    let went : successor k ≡ More c.in-More.next = sym c.step_creation-change.ensures.next ∙ c.in-More.is in
    let new : Brokered = record b { words = c.step_creation-change.new.memory.words; creation = Some c.in-More.next } in
    let result : Result (Option SlotId) Refusal = Ok None in
    let step : IsStepCreated b new k result (More c.in-More.next) = (refl, ap (λ (w : Words). let x : Brokered = record b { words = w; creation = Some c.in-More.next } in x) c.step_creation-change.ensures.one_access) in
    subst (λ (x : Brokered). IsStepCreated x new k result (successor k)) c.self.view_is (subst (λ (a : After Creation SlotId). IsStepCreated b new k result a) (sym went) step)

pub returns-in-More-clause-goes_on : goal.returns-in-More-clause-goes_on
returns-in-More-clause-goes_on c =
    let b : Brokered = broker_view c.self.inside in
    let k : Creation = c.in-Some.creation in
    let ready : c.self.inside.recovery ≡ None = ap (λ (x : Brokered). x.recovery) c.self.view_is ∙ ready_there c.args.self.now.recovery c.check_ready.result c.check_ready.ensures c.in_ok-check_ready.was in
    let is : c.self.inside.creation ≡ Some k = c.in-Some.is in
    let new : Brokered = record b { words = c.step_creation-change.new.memory.words; creation = Some c.in-More.next } in
    let result : Result (Option SlotId) Refusal = Ok None in
    creation_step_goes_on c.args.self.now new k result (subst IsWell c.self.view_is c.self.invariant.well)
    (sym (ap (λ (x : Brokered). x.recovery) c.self.view_is) ∙ ready) (sym (ap (λ (x : Brokered). x.creation) c.self.view_is) ∙ is) (made_more c)
    (returns-in-More-clause-others c)

pub returns-in-Done-clause-goes_on : goal.returns-in-Done-clause-goes_on
returns-in-Done-clause-goes_on c =
    let k : Creation = c.in-Some.creation in
    let ready : c.args.self.now.recovery ≡ None = ready_there c.args.self.now.recovery c.check_ready.result c.check_ready.ensures c.in_ok-check_ready.was in
    let is : c.self.inside.creation ≡ Some k = c.in-Some.is in
    let new : Brokered = record {
      counts = c.self.inside.layout;
      words = c.step_creation-change.new.memory.words;
      slots = slice_set c.self.inside.slots.items c.in-Done.slot.0 c.open-opened.result;
      directory = c.open.new.self;
      creation = None;
      recovery = c.self.inside.recovery;
    } in
    made_goes_on c.args.self.now new k (Ok (Some c.in-Done.slot)) (subst IsWell c.self.view_is c.self.invariant.well) ready
    (sym (ap (λ (x : Brokered). x.creation) c.self.view_is) ∙ is) (returns-in-Done-clause-step c ready) (returns-in-Done-clause-others c)

-- a step of a creation changes the kept words by the change that it answers
step_noted : (counts : Counts) (access : Access BrokerPlace) (old new : Words) (change : Option Change) → length old.kept ≡ length old.cached
    → new ≡ after_one counts access old → change ≡ change_by counts access old → IsNoted change old.kept new.kept
step_noted counts access old new change long came is = rw (came, is) (accessed_noted (at_word counts access) old long)

pub returns-in-More-clause-noted : goal.returns-in-More-clause-noted
returns-in-More-clause-noted c =
    let room = c.self.invariant.well.room in
    let made = c.step_creation-change in
    subst (λ (x : Brokered). IsNoted made.result.change x.words.kept made.new.memory.words.kept) c.self.view_is
    (step_noted c.self.inside.layout (access_of c.in-Some.creation) c.self.inside.memory.words _ _ (omega (arith, room.cached, room.kept)) made.ensures.one_access made.ensures.change)

pub returns-in-Done-clause-noted : goal.returns-in-Done-clause-noted
returns-in-Done-clause-noted c =
    let room = c.self.invariant.well.room in
    let made = c.step_creation-change in
    subst (λ (x : Brokered). IsNoted made.result.change x.words.kept made.new.memory.words.kept) c.self.view_is
    (step_noted c.self.inside.layout (access_of c.in-Some.creation) c.self.inside.memory.words _ _ (omega (arith, room.cached, room.kept)) made.ensures.one_access made.ensures.change)

pub returns-in_err-check_ready-clause-down : goal.returns-in_err-check_ready-clause-down
returns-in_err-check_ready-clause-down c = λ _. answered_so c.from_residual.result c.in_err-check_ready.field-0.0 c.from_residual.ensures ∙ ap Err (down_there c.args.self.now.recovery c.in_err-check_ready.field-0.0 c.in_err-check_ready.ensures).0

pub returns-in_err-check_ready-clause-idle : goal.returns-in_err-check_ready-clause-idle
returns-in_err-check_ready-clause-idle c = λ ready _. absurd (not_down c.args.self.now.recovery ready (down_there c.args.self.now.recovery c.in_err-check_ready.field-0.0 c.in_err-check_ready.ensures).1)

pub returns-in_err-check_ready-clause-same : goal.returns-in_err-check_ready-clause-same
returns-in_err-check_ready-clause-same c = left _ (answer_in c.from_residual.result) refl

pub returns-in_err-check_ready-clause-step : goal.returns-in_err-check_ready-clause-step
returns-in_err-check_ready-clause-step c = λ ready. absurd (not_down c.args.self.now.recovery ready (down_there c.args.self.now.recovery c.in_err-check_ready.field-0.0 c.in_err-check_ready.ensures).1)

pub returns-in_err-check_ready-clause-others : goal.returns-in_err-check_ready-clause-others
returns-in_err-check_ready-clause-others c = λ other _. refl

pub returns-in_err-check_ready-clause-noted : goal.returns-in_err-check_ready-clause-noted
returns-in_err-check_ready-clause-noted c = unnoted c.from_residual.result c.in_err-check_ready.field-0.0 c.from_residual.ensures _

pub returns-in_default-clause-down : goal.returns-in_default-clause-down
returns-in_default-clause-down c = λ down. absurd (not_down c.args.self.now.recovery (ready_there c.args.self.now.recovery c.check_ready.result c.check_ready.ensures c.in_ok-check_ready.was) down)

pub returns-in_default-clause-idle : goal.returns-in_default-clause-idle
returns-in_default-clause-idle c = λ _ _. refl

pub returns-in_default-clause-same : goal.returns-in_default-clause-same
returns-in_default-clause-same c = refl

pub returns-in_default-clause-step : goal.returns-in_default-clause-step
returns-in_default-clause-step c = λ _.
    let none : c.self.inside.creation ≡ None = c.in_default.is in
    if_none _ _ (sym (ap (λ (x : Brokered). x.creation) c.self.view_is) ∙ none)

pub returns-in_default-clause-others : goal.returns-in_default-clause-others
returns-in_default-clause-others c = λ other _. refl

pub returns-in_default-clause-noted : goal.returns-in_default-clause-noted
returns-in_default-clause-noted c = record { real = tt; applied = refl }

pub step_creation-change-requires-clause-room : goal.step_creation-change-requires-clause-room
step_creation-change-requires-clause-room c = omega (arith, c.self.invariant.well.room.cached)

pub step_creation-change-requires-clause-asked : goal.step_creation-change-requires-clause-asked
step_creation-change-requires-clause-asked c =
    let ready : c.self.inside.recovery ≡ None = ap (λ (x : Brokered). x.recovery) c.self.view_is ∙ ready_there c.args.self.now.recovery c.check_ready.result c.check_ready.ensures c.in_ok-check_ready.was in
    let is : c.self.inside.creation ≡ Some c.in-Some.creation = c.in-Some.is in
    asked_now (broker_view c.self.inside).counts _ _ c.in-Some.creation _ ready is c.self.invariant.creation

pub returns-in-More-clause-down : goal.returns-in-More-clause-down
returns-in-More-clause-down c = λ down. absurd (not_down c.args.self.now.recovery (ready_there c.args.self.now.recovery c.check_ready.result c.check_ready.ensures c.in_ok-check_ready.was) down)

pub returns-in-More-clause-idle : goal.returns-in-More-clause-idle
returns-in-More-clause-idle c = λ _ none.
    let now : c.args.self.now.creation ≡ Some c.in-Some.creation = sym (ap (λ (x : Brokered). x.creation) c.self.view_is) ∙ c.in-Some.is in
    absurd (not_both _ _ now none)

pub returns-in-More-clause-same : goal.returns-in-More-clause-same
returns-in-More-clause-same c = tt

pub returns-in-Done-clause-down : goal.returns-in-Done-clause-down
returns-in-Done-clause-down c = λ down. absurd (not_down c.args.self.now.recovery (ready_there c.args.self.now.recovery c.check_ready.result c.check_ready.ensures c.in_ok-check_ready.was) down)

pub returns-in-Done-clause-idle : goal.returns-in-Done-clause-idle
returns-in-Done-clause-idle c = λ _ none.
    let now : c.args.self.now.creation ≡ Some c.in-Some.creation = sym (ap (λ (x : Brokered). x.creation) c.self.view_is) ∙ c.in-Some.is in
    absurd (not_both _ _ now none)

pub returns-in-Done-clause-same : goal.returns-in-Done-clause-same
returns-in-Done-clause-same c = tt

pub returns-in-More-clause-step : goal.returns-in-More-clause-step
returns-in-More-clause-step c = λ _.
    let now : c.args.self.now.creation ≡ Some c.in-Some.creation = sym (ap (λ (x : Brokered). x.creation) c.self.view_is) ∙ c.in-Some.is in
    if_some _ _ c.in-Some.creation now (made_more c)

pub step_creation-change-requires-clause-slot : goal.step_creation-change-requires-clause-slot
step_creation-change-requires-clause-slot c =
    let b : Brokered = broker_view c.self.inside in
    let k : Creation = c.in-Some.creation in
    let ready : c.self.inside.recovery ≡ None = ap (λ (x : Brokered). x.recovery) c.self.view_is ∙ ready_there c.args.self.now.recovery c.check_ready.result c.check_ready.ensures c.in_ok-check_ready.was in
    let is : c.self.inside.creation ≡ Some c.in-Some.creation = c.in-Some.is in
    (creating b k c.self.invariant.well ready is).under_way.others.in_range

pub open-opened-requires : goal.open-opened-requires
open-opened-requires c =
    let b : Brokered = broker_view c.self.inside in
    let k : Creation = c.in-Some.creation in
    let ready : c.self.inside.recovery ≡ None = ap (λ (x : Brokered). x.recovery) c.self.view_is ∙ ready_there c.args.self.now.recovery c.check_ready.result c.check_ready.ensures c.in_ok-check_ready.was in
    let is : c.self.inside.creation ≡ Some c.in-Some.creation = c.in-Some.is in
    let went : successor c.in-Some.creation ≡ Done c.in-Done.slot = sym c.step_creation-change.ensures.next ∙ c.in-Done.is in
    in_range b k c.self.invariant.well ready is c.in-Done.slot went

pub open-requires-clause-free : goal.open-requires-clause-free
open-requires-clause-free c =
    let b : Brokered = broker_view c.self.inside in
    let k : Creation = c.in-Some.creation in
    let ready : c.self.inside.recovery ≡ None = ap (λ (x : Brokered). x.recovery) c.self.view_is ∙ ready_there c.args.self.now.recovery c.check_ready.result c.check_ready.ensures c.in_ok-check_ready.was in
    let is : c.self.inside.creation ≡ Some c.in-Some.creation = c.in-Some.is in
    let went : successor c.in-Some.creation ≡ Done c.in-Done.slot = sym c.step_creation-change.ensures.next ∙ c.in-Done.is in
    is_free b k c.self.invariant.well ready is c.in-Done.slot went

pub open-requires-clause-new_name : goal.open-requires-clause-new_name
open-requires-clause-new_name c =
    let b : Brokered = broker_view c.self.inside in
    let k : Creation = c.in-Some.creation in
    let ready : c.self.inside.recovery ≡ None = ap (λ (x : Brokered). x.recovery) c.self.view_is ∙ ready_there c.args.self.now.recovery c.check_ready.result c.check_ready.ensures c.in_ok-check_ready.was in
    let is : c.self.inside.creation ≡ Some c.in-Some.creation = c.in-Some.is in
    (creating b k c.self.invariant.well ready is).is_new

pub index_mut-requires : goal.index_mut-requires
index_mut-requires c =
    let b : Brokered = broker_view c.self.inside in
    let k : Creation = c.in-Some.creation in
    let ready : c.self.inside.recovery ≡ None = ap (λ (x : Brokered). x.recovery) c.self.view_is ∙ ready_there c.args.self.now.recovery c.check_ready.result c.check_ready.ensures c.in_ok-check_ready.was in
    let is : c.self.inside.creation ≡ Some c.in-Some.creation = c.in-Some.is in
    let went : successor c.in-Some.creation ≡ Done c.in-Done.slot = sym c.step_creation-change.ensures.next ∙ c.in-Done.is in
    omega (arith, in_range b k c.self.invariant.well ready is c.in-Done.slot went, c.self.invariant.well.count)
