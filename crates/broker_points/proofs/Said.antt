-- No line that is followed says that memory was refused.
use Rattle.std.proofs.Common.{◌≡◌, ◌≢◌, refl, sym, ap, ◌∙◌, subst, ℕ, zero, suc, Bool, true, false, List, [], ◌∷◌, ◌++◌, length, if◌then◌else◌}
use Rattle.std.specs.Prelude.{Option, Some, None, IfSome, Result, Ok, Err, IfErr, MatchBool, MatchResult, is_some, slice_get}
use Rattle.words.specs.declared.call.Kind.{Kind}
use Rattle.words.specs.declared.call.Reply.{Reply}
use Rattle.words.specs.declared.refusal.Refusal.{Refusal}
use Rattle.words.specs.declared.refusal.Refusal.TheVariants.{Busy, NoMemory, NotReady, NoWord, WrongKind}
use Rattle.persist.specs.declared.access.Change.{Change}
use Rattle.arena.specs.declared.broker.SlotId.{SlotId}
use Rattle.stepper.specs.declared.resume.After.{After}
use Rattle.stepper.specs.declared.resume.After.TheVariants.{More, Done}
use Rattle.directory.specs.Creation.{successor}
use Rattle.directory.specs.Directory.{Directory}
use Rattle.directory.specs.declared.creation.Creation.{Creation}
use Rattle.directory.specs.declared.queue.Queue.{Queue}
use Rattle.grammar.specs.declared.commands.Command.{Command}
use Rattle.grammar.specs.declared.commands.Command.TheVariants.{Evict, Crash, Recover, RecoverBy}
use Rattle.named.specs.Brokers.{Brokered, is_down, IsNotCreated, IsStepCreated}
use Rattle.named.specs.Finding.{IsPlaced}
use Rattle.named.specs.Stopping.{IsRecoveryStep}
use Rattle.named.specs.declared.recovery.BrokerRecovery.{BrokerRecovery}
use Rattle.playing.specs.Transcript.{evict_line}
use Rattle.playing.specs.declared.lines.Line.{Line}
use Rattle.playing.specs.declared.lines.Line.TheVariants.{Refused}
use Rattle.broker_lines.specs.Lines.{of_queue}
use Rattle.broker_lines.specs.declared.printed.Printed.{Printed}
use Rattle.broker_lines.specs.declared.printed.Printed.TheVariants.{Whole as whole_line, Of, Queues, WasSet}
use Rattle.broker_lines.specs.declared.statements.Ask.{Ask}
use Rattle.broker_lines.specs.declared.statements.Ask.TheVariants.{Request, Plain, Begin}
use Rattle.broker_lines.specs.declared.statements.Statement.{Statement}
use Rattle.broker_lines.specs.declared.statements.Statement.TheVariants.{Create, BeginCreation, CreateStep, CreateSteps, Find, List as list_queues, Rotate, Renew, Image, SetWord, Boot, Whole, On, Told, Asks}
use Rattle.broker_script.specs.Asking.{answer_line, begun_line, FollowsAsked}
use Rattle.broker_script.specs.Creating.{Creates, IsBegunOn, IsCreationAnswered, stays, opens, ends, goes_on}
use Rattle.broker_script.specs.Imaging.{boot_line, IsNotBooted}
use Rattle.broker_script.specs.OnQueue.{found_line, Follows, FollowsPlaced, IsRefusedOn}
use Rattle.broker_script.specs.Play.{Played}
use Rattle.broker_script.specs.Recovering.{ready_lines, told_below, told_in_slot, Recovers, RecoversBy, IsRecoveredOn, ready, ends_ready, goes_on_ready, stays_by, ready_by, ends_by, goes_on_by}
use Rattle.broker_script.specs.Renewing.{renew_line, IsNotRenewed, RenewsPlaced}
use Rattle.broker_script.specs.Transcript.{place_lines, places_below, places_of, rotate_line, FollowsLine, FollowsWhole}
use Rattle.broker_points.specs.Plain.{is_answer, without_refusals}

-- none of some lines does
pub AreSaid : List Printed → Type 0
AreSaid [] = Unit {0}
AreSaid (line ∷ lines) = (is_answer line ≡ true) × AreSaid lines

pub all_left : (lines : List Printed) → AreSaid lines → without_refusals lines ≡ lines
unfolding AreSaid
all_left [] said = refl
all_left (line ∷ lines) said =
    ap (λ (b : Bool). if b then line ∷ without_refusals lines else without_refusals lines) said.0
    ∙ ap (λ (l : List Printed). line ∷ l) (all_left lines said.1)

pub none_said : AreSaid []
unfolding AreSaid
none_said = tt

pub one_said : (line : Printed) → is_answer line ≡ true → AreSaid (line ∷ [])
unfolding AreSaid
one_said line is = (is, tt)

pub more_said : (line : Printed) (lines : List Printed) → is_answer line ≡ true → AreSaid lines → AreSaid (line ∷ lines)
unfolding AreSaid
more_said line lines is said = (is, said)

pub both_said : (first rest : List Printed) → AreSaid first → AreSaid rest → AreSaid (first ++ rest)
unfolding AreSaid
both_said [] rest said more = more
both_said (line ∷ first) rest said more = (said.0, both_said first rest said.1 more)

-- a line of one, as it is
one_is : (lines : List Printed) (line : Printed) → lines ≡ line ∷ [] → is_answer line ≡ true → AreSaid lines
one_is lines line is said = subst AreSaid (sym is) (one_said line said)

-- another refusal
refusal_said : (refusal : Refusal) → refusal ≢ NoMemory → is_answer (whole_line (Refused refusal)) ≡ true
refusal_said NoMemory apart = absurd (apart refl)
refusal_said refusal apart = refl

-- lines about one queue
of_said : (name : List ℕ) (lines : List Line) → AreSaid (of_queue name lines)
of_said name [] = none_said
of_said name (line ∷ lines) = more_said (Of name line) (of_queue name lines) refl (of_said name lines)

-- creations
no_refused_step : (b new : Brokered) (creation : Creation) (refusal : Refusal) (a : After Creation SlotId)
    → IsStepCreated b new creation (Err refusal) a → ⊥
no_refused_step b new creation refusal (More next) step = let e = step.0 in absurd (cc)
no_refused_step b new creation refusal (Done slot) step = let e = step.0 in absurd (cc)

creation_refusal : (b new : Brokered) (refusal : Refusal) → IsCreationAnswered b (Err refusal) new → refusal ≢ NoMemory
creation_refusal b new refusal step is = go b.recovery refl b.creation refl
  where
    go : (r : Option BrokerRecovery) → b.recovery ≡ r → (k : Option Creation) → b.creation ≡ k → ⊥
    go (Some r) down k idle = let e = step.down (ap is_some down) in absurd (cc)
    go None down None idle = let e = step.idle down idle in absurd (cc)
    go None down (Some creation) idle =
        no_refused_step b new creation refusal (successor creation)
        (subst (λ (o : Option Creation). IfSome o (λ creation. IsStepCreated b new creation (Err refusal) (successor creation))) idle (step.step down))

created_said : {most : ℕ} {old new : Played} {lines : List Printed} → Creates most old lines new → AreSaid lines
created_said stays = one_said _ refl
created_said (opens some step has) = one_said _ refl
created_said {old = old} {new = new} (ends {refusal = refusal} some step) =
    one_said _ (refusal_said refusal (creation_refusal old.broker new.broker refusal step.step))
created_said (goes_on some step rest) = created_said rest

not_created : (b : Brokered) (name : List ℕ) (refusal : Refusal) → IsNotCreated b name refusal → refusal ≢ NoMemory
not_created b name refusal why is = subst (IsNotCreated b name) is why

begun_said : (old : Played) (name : List ℕ) (kind : Kind) (most : ℕ) (lines : List Printed) (new next : Played)
    (result : Result Unit Refusal) → IsBegunOn old name kind result next
    → MatchResult result (λ u. Creates most next lines new) (λ refusal. (lines ≡ whole_line (Refused refusal) ∷ []) × (new ≡ old))
    → AreSaid lines
begun_said old name kind most lines new next (Ok u) begun by = created_said by
begun_said old name kind most lines new next (Err refusal) begun by =
    one_is lines _ by.0 (refusal_said refusal (not_created old.broker name refusal begun.errors))

-- names
not_placed : (b : Brokered) (name : List ℕ) (refusal : Refusal) → IsPlaced b name (Err refusal) → refusal ≢ NoMemory
not_placed b name refusal placed is = subst (λ (e : Refusal). IsPlaced b name (Err e)) is placed

found_said : (b : Brokered) (name : List ℕ) (place : Result SlotId Refusal) → IsPlaced b name place
    → is_answer (found_line name place) ≡ true
found_said b name (Ok slot) placed = refl
found_said b name (Err refusal) placed = refusal_said refusal (not_placed b name refusal placed)

place_said : (slot : ℕ) (o : Option (Option Queue)) → AreSaid (place_lines slot o)
place_said slot (Some (Some queue)) = one_said _ refl
place_said slot (Some None) = none_said
place_said slot None = none_said

places_said : (places : Directory) (count : ℕ) → AreSaid (places_below places count)
places_said places zero = none_said
places_said places (suc slot) =
    both_said (places_below places slot) (place_lines slot (slice_get places slot)) (places_said places slot)
    (place_said slot (slice_get places slot))

listed_said : (down : Bool) (places : List Printed) → AreSaid places
    → AreSaid (if down then whole_line (Refused NotReady) ∷ [] else (Queues (length places) ∷ places))
listed_said true places said = one_said _ refl
listed_said false places said = more_said _ places refl said

-- rotations and renewals
rotated_said : (down busy : Bool)
    → is_answer (rotate_line (if down then Err NotReady else (if busy then Err Busy else (if false then Err NoMemory else Ok tt)))) ≡ true
rotated_said true busy = refl
rotated_said false true = refl
rotated_said false false = refl

renewed_line_said : (b : Brokered) (slot : ℕ) (result : Result Unit Refusal) → IfErr result (IsNotRenewed b slot)
    → is_answer (renew_line result) ≡ true
renewed_line_said b slot (Ok u) errors = refl
renewed_line_said b slot (Err refusal) errors = refusal_said refusal errors.memory

renewed_said : (old : Played) (name : List ℕ) (lines : List Printed) (new : Played) (place : Result SlotId Refusal)
    → IsPlaced old.broker name place → RenewsPlaced old lines new place → AreSaid lines
renewed_said old name lines new (Ok slot) placed by =
    one_is lines _ by.line (renewed_line_said old.broker slot.0 by.result by.errors)
renewed_said old name lines new (Err refusal) placed by =
    one_is lines _ by.0 (refusal_said refusal (not_placed old.broker name refusal placed))

-- images
set_said : (there : Bool) (word was : ℕ) → is_answer (if there then WasSet word was else whole_line (Refused NoWord)) ≡ true
set_said true word was = refl
set_said false word was = refl

boot_said : (image : List ℕ) (result : Result Unit Refusal) → IfErr result (IsNotBooted image)
    → is_answer (boot_line result) ≡ true
boot_said image (Ok u) errors = refl
boot_said image (Err NoMemory) errors = absurd (errors.memory refl)
boot_said image (Err refusal) errors = refl

-- evictions
evicted_said : (there : Bool) (word : ℕ) (change : Option Change)
    → is_answer (whole_line (evict_line word (if there then Ok change else Err NoWord))) ≡ true
evicted_said true word change = refl
evicted_said false word change = refl

-- recovery
recovered_refusal : (old new : Played) (refusal : Refusal) → IsRecoveredOn old (Err refusal) new → refusal ≢ NoMemory
recovered_refusal old new refusal step is =
    let by = subst (IsRecoveryStep old.broker new.broker (Err refusal)) step.refused step.step in
    let e = by.0 in
    absurd (cc)

told_said : (p : Played) (slot : ℕ) (o : Option (Option Queue)) → AreSaid (told_in_slot p slot o)
told_said p slot (Some (Some queue)) = of_said queue.name _
told_said p slot (Some None) = none_said
told_said p slot None = none_said

all_told_said : (p : Played) (count : ℕ) → AreSaid (told_below p count)
all_told_said p zero = none_said
all_told_said p (suc slot) =
    both_said (told_below p slot) (told_in_slot p slot (slice_get p.broker.directory slot)) (all_told_said p slot)
    (told_said p slot (slice_get p.broker.directory slot))

ready_said : (p : Played) → AreSaid (ready_lines p)
ready_said p = more_said _ (told_below p (length p.broker.directory)) refl (all_told_said p (length p.broker.directory))

recovered_said : {old new : Played} {lines : List Printed} → Recovers old lines new → AreSaid lines
recovered_said {new = new} (ready step) = ready_said new
recovered_said {old = old} {new = new} (ends_ready {refusal = refusal} step) =
    one_said _ (refusal_said refusal (recovered_refusal old new refusal step))
recovered_said (goes_on_ready step rest) = recovered_said rest

recovered_by_said : {most : ℕ} {old new : Played} {lines : List Printed} → RecoversBy most old lines new → AreSaid lines
recovered_by_said stays_by = one_said _ refl
recovered_by_said {new = new} (ready_by some step) = ready_said new
recovered_by_said {old = old} {new = new} (ends_by {refusal = refusal} some step) =
    one_said _ (refusal_said refusal (recovered_refusal old new refusal step))
recovered_by_said (goes_on_by some step rest) = recovered_by_said rest

-- lines on a queue
kind_said : (has : Bool) (old : Played) (slot : SlotId) (name : List ℕ) (command : Command) (lines : List Printed)
    (new : Played) → MatchBool has (Follows old slot name command lines new) (IsRefusedOn old name WrongKind lines new)
    → AreSaid lines
kind_said true old slot name command lines new by = subst AreSaid (sym by.gives) (of_said name by.given)
kind_said false old slot name command lines new by = one_is lines _ by.line refl

on_said : (old : Played) (name : List ℕ) (command : Command) (lines : List Printed) (new : Played)
    (place : Result SlotId Refusal) → FollowsPlaced old name command lines new place → AreSaid lines
on_said old name command lines new (Ok slot) by = kind_said _ old slot name command lines new by
on_said old name command lines new (Err refusal) by = one_is lines _ by.line refl

-- what clients ask
begun_line_said : (name : List ℕ) (ask : Ask) → is_answer (begun_line name ask) ≡ true
begun_line_said name (Request client number call) = refl
begun_line_said name (Plain client call) = refl
begun_line_said name (Begin client number call) = refl

answer_said : (name : List ℕ) (ask : Ask) (result : Result (Option Reply) Refusal) → is_answer (answer_line name ask result) ≡ true
answer_said name ask (Ok (Some reply)) = refl
answer_said name ask (Ok None) = begun_line_said name ask
answer_said name ask (Err refusal) = refl

asked_said : (old : Played) (name : List ℕ) (ask : Ask) (lines : List Printed) (new : Played)
    (place : Result SlotId Refusal) → FollowsAsked old name ask lines new place → AreSaid lines
asked_said old name ask lines new (Ok slot) by = one_is lines _ by.line (answer_said name ask by.result)
asked_said old name ask lines new (Err refusal) by = one_is lines _ by.line refl

-- any line
whole_said : (old : Played) (command : Command) (lines : List Printed) (new : Played) → FollowsWhole old command lines new
    → AreSaid lines
whole_said old (Evict word) lines new by = one_is lines _ by.line (evicted_said _ word _)
whole_said old Crash lines new by = one_is lines _ by.line refl
whole_said old Recover lines new by = recovered_said by
whole_said old (RecoverBy most) lines new by = recovered_by_said by
whole_said old command lines new by = subst AreSaid (sym by.0) none_said

pub line_said : (old : Played) (statement : Statement) (lines : List Printed) (new : Played)
    → FollowsLine old statement lines new → AreSaid lines
line_said old (Create name kind) lines new by = begun_said old name kind _ lines new by.next by.result by.begun by.then
line_said old (BeginCreation name kind most) lines new by = begun_said old name kind most lines new by.next by.result by.begun by.then
line_said old CreateStep lines new by = created_said by
line_said old (CreateSteps most) lines new by = created_said by
line_said old (Find name) lines new by = one_is lines _ by.line (found_said old.broker name by.place by.placed)
line_said old list_queues lines new by =
    subst AreSaid (sym by.0)
    (listed_said (is_down old.broker) (places_of old.broker.directory) (places_said old.broker.directory (length old.broker.directory)))
line_said old Rotate lines new by = one_is lines _ by.line (rotated_said (is_down old.broker) _)
line_said old (Renew name) lines new by = renewed_said old name lines new by.place by.placed by.followed
line_said old Image lines new by = one_is lines _ by.line refl
line_said old (SetWord word value) lines new by = one_is lines _ by.line (set_said _ word _)
line_said old Boot lines new by = one_is lines _ by.line (boot_said old.image by.result by.errors)
line_said old (Whole command) lines new by = whole_said old command lines new by
line_said old (On name command) lines new by = on_said old name command lines new by.place by.followed
line_said old (Told name client) lines new by = one_is lines _ by.line refl
line_said old (Asks name ask) lines new by = asked_said old name ask lines new by.place by.followed
