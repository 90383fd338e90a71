-- A step of recovery is refused only where none is under way. What a line leaves: each queue that there was is there.
use Rattle.std.proofs.Common.{◌≡◌, ◌≢◌, refl, sym, ap, ◌∙◌, subst, ℕ, Bool, true, false, List, [], ◌∷◌, ◌<◌, arith, length, replicate}
use Rattle.std.proofs.lemmas.Bool.{false≢true, le-ltb}
use Rattle.std.proofs.lemmas.List.{get_or-replicate, length-replicate}
use Rattle.std.proofs.lemmas.Option.{slice_get_within, slice_get-get_or}
use Rattle.std.specs.Prelude.{Option, Some, None, Result, Ok, Err, IsSome, MatchBool, MatchResult, OnErr, OnOk, is_none, is_ok, is_some, slice_get}
use Rattle.words.specs.declared.call.Kind.{Kind}
use Rattle.words.specs.declared.refusal.Refusal.{Refusal}
use Rattle.words.specs.declared.refusal.Refusal.TheVariants.{NoMemory, WrongKind}
use Rattle.persist.specs.Memory.{Words}
use Rattle.arena.specs.declared.broker.SlotId.{SlotId}
use Rattle.arena.specs.declared.broker.TheConstants.{SLOTS}
use Rattle.directory.specs.Directory.{Directory, HasQueue}
use Rattle.directory.specs.declared.limits.TheConstants.{CREATION_STEPS}
use Rattle.directory.specs.declared.queue.Queue.{Queue}
use Rattle.grammar.specs.declared.commands.Command.{Command}
use Rattle.grammar.specs.declared.commands.Command.TheVariants.{Evict}
use Rattle.grammar.specs.declared.commands.Command.TheVariants.{Crash, Recover, RecoverBy}
use Rattle.interleave.specs.Calls.{is_no_memory}
use Rattle.interleave.specs.State.{State, recover_result, recover_result_with}
use Rattle.recover.specs.declared.recovery.Recovery.{Recovery}
use Rattle.named.specs.Blocks.{state_in}
use Rattle.named.specs.Brokers.{Brokered, IsDirectoryAt, IsWell, is_ready_at, world_at, world_of}
use Rattle.named.specs.Slots.{IsReadyIn, answered, world_in}
use Rattle.named.specs.Stopping.{IsQueueOn, IsRecoveryStep}
use Rattle.named.specs.declared.recovery.BrokerRecovery.{BrokerRecovery}
use Rattle.named.specs.declared.recovery.BrokerRecovery.TheVariants.{ReadDirectory, RecoverQueue}
use Rattle.named.specs.declared.slot.Slot.{Slot}
use Rattle.named.specs.declared.slot.Slot.TheVariants.{Closed, Open}
use Rattle.broker_lines.specs.declared.printed.Printed.{Printed}
use Rattle.broker_lines.specs.declared.printed.Printed.TheVariants.{Whole}
use Rattle.broker_lines.specs.declared.statements.Ask.{Ask}
use Rattle.broker_lines.specs.declared.statements.Statement.{Statement}
use Rattle.broker_lines.specs.declared.statements.Statement.TheVariants.{Create, BeginCreation, CreateStep}
use Rattle.broker_lines.specs.declared.statements.Statement.TheVariants.{CreateSteps, Find, List as list_queues}
use Rattle.broker_lines.specs.declared.statements.Statement.TheVariants.{Rotate, Renew, Image, SetWord, Boot}
use Rattle.broker_lines.specs.declared.statements.Statement.TheVariants.{Whole as whole, On, Told, Asks}
use Rattle.broker_script.specs.Asking.{FollowsAsked}
use Rattle.broker_script.specs.Creating.{Creates, IsBegunOn, stays, opens, ends, goes_on}
use Rattle.broker_script.specs.OnQueue.{Follows, FollowsPlaced, IsRefusedOn, has_line}
use Rattle.broker_script.specs.Play.{Played, session_of, the_world}
use Rattle.session.specs.Keeping.{SessionGoesOn}
use Rattle.session.specs.Sessions.{Sessioned}
use Rattle.broker_script.specs.Recovering.{Recovers, RecoversBy, ready, ends_ready, goes_on_ready, stays_by, ready_by}
use Rattle.broker_script.specs.Recovering.{ends_by, goes_on_by}
use Rattle.broker_script.specs.Renewing.{RenewsPlaced}
use Rattle.broker_script.specs.Standing.{keeps_queues, QueuesStay}
use Rattle.broker_script.specs.Transcript.{FollowsLine, FollowsWhole}
use Rattle.named.specs.GoingOn.{BrokerGoesOn}
use Rattle.named.specs.Renewing.{IsRenewedAt}
use Rattle.named.specs.Rotating.{IsRotated, rotate_result}
use Rattle.named.proofs.Facts.{broker_goes_further}
use Rattle.playing.specs.declared.lines.Line.TheVariants.{Refused}
use Rattle.broker_script.proofs.Worlds.{had_memory, listed_open}

-- a queue that recovers goes on
under_way : (w : State) (r : Option Recovery) → is_some r ≡ true → is_ok (recover_result_with false w r) ≡ true
under_way w (Some r) down = refl
under_way w None down = absurd (false≢true down)

recovers : (ws : Words) (slot : Slot) → IsSome (world_in ws slot) → IsReadyIn false slot
    → is_ok (answered (recover_result false) (world_in ws slot)) ≡ true
recovers ws Closed there down = absurd (false≢true there)
recovers ws (Open block) there down = under_way (state_in ws block) block.core.trace.recovery down

not_refused : (old new : Brokered) (slot : ℕ) (refusal : Refusal) (answer : Result Bool Refusal) → is_ok answer ≡ true
    → IsQueueOn old new slot (Err refusal) answer → ⊥
not_refused old new slot refusal (Ok true) made step = let e = step.0 in absurd (cc)
not_refused old new slot refusal (Ok false) made step = let e = step.0 in absurd (cc)
not_refused old new slot refusal (Err other) made step = absurd (false≢true made)

module _ (b : Brokered) (well : IsWell b) (slot : SlotId) (is : b.recovery ≡ Some (RecoverQueue slot)) where
  not_ready : (s : Slot) → slice_get b.slots slot.0 ≡ Some s → IsReadyIn false s
  not_ready s here =
      subst (λ (r : Bool). IsReadyIn r s)
      (ap (λ (r : Option BrokerRecovery). is_ready_at r slot.0) is ∙ le-ltb slot.0 slot.0 (omega arith))
      (well.readiness slot.0 s here)

  answers : (o : Option Slot) → slice_get b.slots slot.0 ≡ o → IsSome (world_of b.words o)
      → is_ok (answered (recover_result false) (world_of b.words o)) ≡ true
  answers (Some s) here there = recovers b.words s there (not_ready s here)
  answers None here there = absurd (false≢true there)

  goes : is_ok (answered (recover_result false) (world_at b slot.0)) ≡ true
  goes =
      let directory : IsDirectoryAt b.words (Some (RecoverQueue slot)) b.creation b.directory =
      subst (λ (r : Option BrokerRecovery). IsDirectoryAt b.words r b.creation b.directory) is well.directory in
      answers (slice_get b.slots slot.0) refl (listed_open b well slot.0 directory.queue directory.has)

refused_at : (old new : Brokered) (refusal : Refusal) → IsWell old → refusal ≢ NoMemory
    → (recovery : Option BrokerRecovery) → old.recovery ≡ recovery → IsRecoveryStep old new (Err refusal) recovery
    → old.recovery ≡ None
refused_at old new refusal well other None is step = is
refused_at old new refusal well other (Some (ReadDirectory at)) is step = let e = step.answer in absurd (cc)
refused_at old new refusal well other (Some (RecoverQueue slot)) is step =
    let answer : Result Bool Refusal = Err refusal in
    let full : is_no_memory answer ≡ false = had_memory answer (λ e. other (cc)) in
    let made : is_ok (answered (recover_result (is_no_memory answer)) (world_at old slot.0)) ≡ true =
    ap (λ (f : Bool). is_ok (answered (recover_result f) (world_at old slot.0))) full ∙ goes old well slot is in
    absurd (not_refused old new slot.0 refusal (answered (recover_result (is_no_memory answer)) (world_at old slot.0)) made step.next)

pub refused_ready : (old new : Brokered) (refusal : Refusal) → IsWell old → refusal ≢ NoMemory
    → IsRecoveryStep old new (Err refusal) old.recovery → old.recovery ≡ None
refused_ready old new refusal well other step = refused_at old new refusal well other old.recovery refl step

-- and over one act and another
pub session_goes_further : (old now new : Sessioned) → SessionGoesOn old now → SessionGoesOn now new → SessionGoesOn old new
session_goes_further old now new one other = record {
  clients = λ slot client its. other.clients slot client (one.clients slot client its);
  answers = λ slot client number reply its was.
      other.answers slot client number reply (one.clients slot client its) (one.answers slot client number reply its was);
}

-- queues stay where the directory stays, and over what comes after
same_stay : (old new : Directory) → new ≡ old → QueuesStay old new
same_stay old new same slot queue has = subst (λ (d : Directory). HasQueue d slot queue) (sym same) has

broker_same : (old new : Played) → new ≡ old → QueuesStay old.broker.directory new.broker.directory
broker_same old new same = same_stay old.broker.directory new.broker.directory (ap (λ (p : Played). p.broker.directory) same)

-- over a creation
created : {most : ℕ} {old : Played} {lines : List Printed} {new : Played} → Creates most old lines new
    → QueuesStay old.broker.directory new.broker.directory
created stays = λ slot queue has. has
created (opens some step has) = step.step.goes_on.directory
created (ends some step) = step.step.goes_on.directory
created (goes_on some step rest) = λ slot queue has. created rest slot queue (step.step.goes_on.directory slot queue has)

begun : (old : Played) (name : List ℕ) (kind : Kind) (most : ℕ) (lines : List Printed) (new next : Played)
    (result : Result Unit Refusal) → IsBegunOn old name kind result next
    → MatchResult result (λ u. Creates most next lines new) (λ refusal. (lines ≡ Whole (Refused refusal) ∷ []) × (new ≡ old))
    → QueuesStay old.broker.directory new.broker.directory
begun old name kind most lines new next (Ok u) first then = λ slot queue has.
    created then slot queue (same_stay old.broker.directory next.broker.directory (ap (λ (p : Played). p.broker.directory) first.others) slot queue has)
begun old name kind most lines new next (Err refusal) first then = broker_same old new then.1

-- over a recovery
recovered : {old : Played} {lines : List Printed} {new : Played} → Recovers old lines new
    → QueuesStay old.broker.directory new.broker.directory
recovered (ready step) = step.goes_on.directory
recovered (ends_ready step) = step.goes_on.directory
recovered (goes_on_ready step rest) = λ slot queue has. recovered rest slot queue (step.goes_on.directory slot queue has)

recovered_by : {most : ℕ} {old : Played} {lines : List Printed} {new : Played} → RecoversBy most old lines new
    → QueuesStay old.broker.directory new.broker.directory
recovered_by stays_by = λ slot queue has. has
recovered_by (ready_by some step) = step.goes_on.directory
recovered_by (ends_by some step) = step.goes_on.directory
recovered_by (goes_on_by some step rest) = λ slot queue has. recovered_by rest slot queue (step.goes_on.directory slot queue has)

-- over a line on a queue
followed : (old : Played) (name : List ℕ) (command : Command) (lines : List Printed) (new : Played)
    (slot : SlotId) (has : Bool)
    → MatchBool has (Follows old slot name command lines new) (IsRefusedOn old name WrongKind lines new)
    → QueuesStay old.broker.directory new.broker.directory
followed old name command lines new slot true by = same_stay old.broker.directory new.broker.directory by.followed.only.beside.directory
followed old name command lines new slot false by = broker_same old new by.same

placed : (old : Played) (name : List ℕ) (command : Command) (lines : List Printed) (new : Played)
    (place : Result SlotId Refusal) → FollowsPlaced old name command lines new place
    → QueuesStay old.broker.directory new.broker.directory
placed old name command lines new (Ok slot) by =
    followed old name command lines new slot (has_line (the_world old.broker slot.0).shape.kind command) by
placed old name command lines new (Err refusal) by = broker_same old new by.same

-- over what the session is asked
asked : (old : Played) (name : List ℕ) (ask : Ask) (lines : List Printed) (new : Played)
    (place : Result SlotId Refusal) → FollowsAsked old name ask lines new place
    → QueuesStay old.broker.directory new.broker.directory
asked old name ask lines new (Ok slot) by = by.asked.goes_on.directory
asked old name ask lines new (Err refusal) by = broker_same old new by.same

-- over a rotation
rotated : (old new : Played) (lines : List Printed) (result : Result Unit Refusal)
    → OnOk result (IsRotated old.broker new.broker) → OnErr result (new.broker ≡ old.broker)
    → QueuesStay old.broker.directory new.broker.directory
rotated old new lines (Ok u) begun same =
    same_stay old.broker.directory new.broker.directory (ap (λ (b : Brokered). b.directory) begun.same)
rotated old new lines (Err refusal) begun same =
    same_stay old.broker.directory new.broker.directory (ap (λ (b : Brokered). b.directory) same)

-- over a renewal
renewed : (old new : Played) (slot : ℕ) (result : Result Unit Refusal)
    → OnOk result (IsRenewedAt old.broker new.broker slot) → OnErr result (new ≡ old)
    → QueuesStay old.broker.directory new.broker.directory
renewed old new slot (Ok u) by same = same_stay old.broker.directory new.broker.directory by.directory
renewed old new slot (Err refusal) by same = broker_same old new same

renewed_placed : (old : Played) (lines : List Printed) (new : Played) (place : Result SlotId Refusal)
    → RenewsPlaced old lines new place → QueuesStay old.broker.directory new.broker.directory
renewed_placed old lines new (Ok slot) by = renewed old new slot.0 by.result by.renewed by.same
renewed_placed old lines new (Err refusal) by = broker_same old new by.1

-- over a line about the whole memory, and any line
whole_stay : (old : Played) (command : Command) (lines : List Printed) (new : Played) → FollowsWhole old command lines new
    → QueuesStay old.broker.directory new.broker.directory
whole_stay old (Evict word) lines new by =
    same_stay old.broker.directory new.broker.directory (ap (λ (p : Played). p.broker.directory) by.others)
whole_stay old Crash lines new by =
    same_stay old.broker.directory new.broker.directory (ap (λ (b : Brokered). b.directory) by.stopped.same)
whole_stay old Recover lines new by = recovered by
whole_stay old (RecoverBy most) lines new by = recovered_by by
whole_stay old command lines new by = broker_same old new by.1

queues_stay : (old : Played) (statement : Statement) (lines : List Printed) (new : Played)
    → FollowsLine old statement lines new → keeps_queues statement ≡ true
    → QueuesStay old.broker.directory new.broker.directory
queues_stay old (Create name kind) lines new by keeps =
    begun old name kind CREATION_STEPS lines new by.next by.result by.begun by.then
queues_stay old (BeginCreation name kind most) lines new by keeps =
    begun old name kind most lines new by.next by.result by.begun by.then
queues_stay old CreateStep lines new by keeps = created by
queues_stay old (CreateSteps most) lines new by keeps = created by
queues_stay old (Find name) lines new by keeps = broker_same old new by.same
queues_stay old list_queues lines new by keeps = broker_same old new by.1
queues_stay old Rotate lines new by keeps =
    rotated old new lines (rotate_result false old.broker) by.rotated by.same
queues_stay old (Renew name) lines new by keeps = renewed_placed old lines new by.place by.followed
queues_stay old Image lines new by keeps =
    same_stay old.broker.directory new.broker.directory (ap (λ (p : Played). p.broker.directory) by.remembered)
queues_stay old (SetWord word value) lines new by keeps =
    same_stay old.broker.directory new.broker.directory (ap (λ (p : Played). p.broker.directory) by.changed)
queues_stay old Boot lines new by keeps = absurd (false≢true keeps)
queues_stay old (whole command) lines new by keeps = whole_stay old command lines new by
queues_stay old (On name command) lines new by keeps = placed old name command lines new by.place by.followed
queues_stay old (Told name client) lines new by keeps = broker_same old new by.same
queues_stay old (Asks name ask) lines new by keeps = asked old name ask lines new by.place by.followed

-- no slot of an empty directory has a queue
abbrev no_queue : Option Queue
no_queue = None

none_there : (slot : ℕ) (queue : Queue) → HasQueue (replicate SLOTS None) slot queue → ⊥
none_there slot queue has =
    let count : length (replicate SLOTS no_queue) ≡ SLOTS = length-replicate SLOTS no_queue in
    let small : slot < SLOTS = omega (arith, slice_get_within (replicate SLOTS no_queue) slot (Some queue) has, count) in
    let free : slice_get (replicate SLOTS no_queue) slot ≡ Some None =
    slice_get-get_or (replicate SLOTS no_queue) slot None (omega (arith, small, count))
    ∙ ap Some (get_or-replicate SLOTS slot no_queue None small) in
    absurd (cc)

-- queues that were noted are there after a line, if none is noted where it has a broker begin on an image
noted : (old : Played) (statement : Statement) (lines : List Printed) (new : Played) (known after : Directory)
    (keeps : Bool) → keeps_queues statement ≡ keeps → FollowsLine old statement lines new
    → QueuesStay known old.broker.directory → (keeps_queues statement ≡ true → after ≡ known)
    → (keeps_queues statement ≡ false → after ≡ replicate SLOTS None) → QueuesStay after new.broker.directory
noted old statement lines new known after true is by were same none slot queue has =
    queues_stay old statement lines new by is slot queue
    (were slot queue (subst (λ (d : Directory). HasQueue d slot queue) (same is) has))
noted old statement lines new known after false is by were same none slot queue has =
    absurd (none_there slot queue (subst (λ (d : Directory). HasQueue d slot queue) (none is) has))

pub queues_noted : (old : Played) (statement : Statement) (lines : List Printed) (new : Played) (known after : Directory)
    → FollowsLine old statement lines new → QueuesStay known old.broker.directory
    → (keeps_queues statement ≡ true → after ≡ known) → (keeps_queues statement ≡ false → after ≡ replicate SLOTS None)
    → QueuesStay after new.broker.directory
queues_noted old statement lines new known after by were same none =
    noted old statement lines new known after (keeps_queues statement) refl by were same none

-- at the end of a recovery the broker is ready
none_is : (o : Option BrokerRecovery) (answer : Result Bool Refusal) → answer ≡ Ok true → answer ≡ Ok (is_none o) → o ≡ None
none_is None answer true_is is = refl
none_is (Some recovery) answer true_is is = absurd (cc)

ready_by_queue : (old new : Brokered) (slot : ℕ) (answer : Result Bool Refusal)
    → IsQueueOn old new slot (Ok true) answer → new.recovery ≡ None
ready_by_queue old new slot (Ok true) step = none_is new.recovery (Ok true) refl step.0
ready_by_queue old new slot (Ok false) step = let e = step.0 in absurd (cc)
ready_by_queue old new slot (Err refusal) step = let e = step.0 in absurd (cc)

ready_at : (old new : Brokered) (recovery : Option BrokerRecovery) → IsRecoveryStep old new (Ok true) recovery
    → new.recovery ≡ None
ready_at old new None step = let e = step.0 in absurd (cc)
ready_at old new (Some (ReadDirectory at)) step = none_is new.recovery (Ok true) refl step.answer
ready_at old new (Some (RecoverQueue slot)) step =
    ready_by_queue old new slot.0 (answered (recover_result false) (world_at old slot.0)) step.next

still_ready : (old new : Brokered) (refusal : Refusal) (recovery : Option BrokerRecovery) → recovery ≡ None
    → IsRecoveryStep old new (Err refusal) recovery → old.recovery ≡ None → new.recovery ≡ None
still_ready old new refusal None none step was = ap (λ (b : Brokered). b.recovery) step.1 ∙ was
still_ready old new refusal (Some recovery) none step was = absurd (cc)

pub recovered_ready : {old : Played} {lines : List Printed} {new : Played} → Recovers old lines new
    → new.broker.recovery ≡ None
recovered_ready {old = old} {new = new} (ready step) = ready_at old.broker new.broker old.broker.recovery step.step
recovered_ready {old = old} {new = new} (ends_ready {refusal = refusal} step) =
    still_ready old.broker new.broker refusal old.broker.recovery step.refused step.step step.refused
recovered_ready (goes_on_ready step rest) = recovered_ready rest

-- what was settled stays so
pub recovered_settled : {old : Played} {lines : List Printed} {new : Played} → Recovers old lines new
    → SessionGoesOn (session_of old) (session_of new)
recovered_settled (ready step) = step.settled
recovered_settled (ends_ready step) = step.settled
recovered_settled {old = old} {new = new} (goes_on_ready {next = next} step rest) =
    session_goes_further (session_of old) (session_of next) (session_of new) step.settled (recovered_settled rest)

-- and the queues' histories went on
pub recovered_on : {old : Played} {lines : List Printed} {new : Played} → Recovers old lines new
    → BrokerGoesOn old.broker new.broker
recovered_on (ready step) = step.goes_on
recovered_on (ends_ready step) = step.goes_on
recovered_on {old = old} {new = new} (goes_on_ready {next = next} step rest) =
    broker_goes_further old.broker next.broker new.broker step.goes_on (recovered_on rest)
