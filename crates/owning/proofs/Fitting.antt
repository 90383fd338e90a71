-- What a request is answered is an answer that it may have.
use Rattle.std.proofs.Common.{◌≡◌, ◌≤◌, ◌⊎◌, inl, inr, ℕ, Bool, true, false, List, Option, Some, None, Result, Ok, Err, refl, sym, ap, subst, ◌∙◌}
use Rattle.std.specs.Prelude.{⊤, IfErr, IsTrue, nat_lt, if◌then◌else◌}
use Rattle.std.proofs.lemmas.Bool.{le-ltb}
use Rattle.words.specs.declared.call.Call.{Call}
use Rattle.words.specs.declared.call.Client.{Client}
use Rattle.words.specs.declared.call.Kind.{Kind}
use Rattle.words.specs.declared.call.Reply.{Reply}
use Rattle.words.specs.declared.refusal.Refusal.{Refusal}
use Rattle.words.specs.declared.refusal.Refusal.TheVariants.{AlreadyReady, BadName, Busy, DirectoryFull, Exists, NoClient, NoMemory, NoQueue, NotReady}
use Rattle.words.specs.declared.told.Told.{Told}
use Rattle.arena.specs.declared.broker.SlotId.{SlotId}
use Rattle.directory.specs.Directory.{Directory}
use Rattle.interleave.specs.Calls.{is_no_memory}
use Rattle.interleave.specs.Queue.{told_in, told_to}
use Rattle.interleave.specs.State.{crash_result, start_result}
use Rattle.named.specs.Brokers.{Brokered, IsNotCreated}
use Rattle.session.specs.Requests.{IsRun, IsServedBy, as_begun, answer_to, number_or_zero}
use Rattle.session.specs.Sessions.{Sessioned}
use Rattle.workers.specs.Refusals.{is_call_refusal, is_creation_refusal, is_told_refusal}
use Rattle.owning.proofs.Refusing.{Within, act_within, request_comes_within, start_within}
use Rattle.wire.specs.declared.answer.Answer.{Answer}
use Rattle.wire.specs.declared.answer.Answer.TheVariants.{Crashed, Created, Queues, Ready, Refused, Reply as reply_answer, Told as told_answer}
use Rattle.wire.specs.declared.request.Request.{Request}
use Rattle.wire.specs.declared.request.Request.TheVariants.{Create, Crash, List as list_request, Put, Recover, Stop, Take, Told as told_request}
use Rattle.desk.specs.Requests.{is_answer_to, is_call_answer, is_crash_answer, is_creation_answer, is_list_answer, is_nameless_call_answer, is_nameless_told_answer, is_recovery_answer, is_told_answer, is_stop_answer, is_bad_name, NamesNoClient}
use Rattle.desk.specs.declared.calls.Asked.{Asked}
use Rattle.owning.specs.Answers.{Says, answer_as, client_in, IsAnswered, IsCall, IsCallBy, IsCalledIn, IsListing, IsPlaced, IsThere, IsTelling, IsTellingBy, IsToldIn}
use Rattle.owning.specs.Creating.{IsCreation, IsCreationOf}
use Rattle.owning.specs.Recovering.{IsCrash, IsRecovery}

-- an answer says a result, so what may be said of each result may be of it
said : {T : Type 0} (say : T → Answer) (answer : Answer) (Made : Result T Refusal → Type 0) (may : Answer → Bool)
    → Says say answer Made → ((result : Result T Refusal) → Made result → may (answer_as say result) ≡ true)
    → may answer ≡ true
said say answer Made may says each = subst (λ (a : Answer). may a ≡ true) (sym says.is) (each says.result says.made)

-- creations
creation_fits : (b : Brokered) (name : List ℕ) (refusal : Refusal) → IsNotCreated b name refusal
    → is_creation_refusal refusal ≡ true
creation_fits b name BadName why = refl
creation_fits b name NotReady why = refl
creation_fits b name Busy why = refl
creation_fits b name Exists why = refl
creation_fits b name DirectoryFull why = refl
creation_fits b name _ why = absurd why

made_fits : (old new : Sessioned) (name : List ℕ) (kind : Kind) (result : Result SlotId Refusal)
    → IsCreation old new name kind result → is_creation_answer (answer_as Created result) ≡ true
made_fits old new name kind (Ok slot) made = refl
made_fits old new name kind (Err refusal) made = creation_fits old.broker name refusal made.0

create_fits : (old new : Sessioned) (queue : Option (List ℕ)) (kind : Kind) (answer : Answer)
    → Says Created answer (IsCreationOf old new queue kind) → is_answer_to (Create queue kind) answer ≡ true
create_fits old new None kind answer says =
    said Created answer (IsCreationOf old new None kind) is_bad_name says (λ result made.
    subst (λ (r : Result SlotId Refusal). is_bad_name (answer_as Created r) ≡ true) (sym made.0) refl)
create_fits old new (Some name) kind answer says =
    said Created answer (IsCreationOf old new (Some name) kind) is_creation_answer says (made_fits old new name kind)

-- lists
list_fits : (b : Brokered) (result : Result Directory Refusal) → IsListing b result
    → is_list_answer (answer_as Queues result) ≡ true
list_fits b (Ok places) made = refl
list_fits b (Err refusal) made = subst (λ (e : Refusal). is_list_answer (Refused e) ≡ true) (sym made.0) refl

-- why there is no client, and no slot
abbrev if_client : Bool → ℕ → Result Client Refusal
if_client b number = if b then Ok (record { 0 = number }) else Err NoClient

no_client : (clients number : ℕ) (refusal : Refusal) → client_in clients number ≡ Err refusal → refusal ≡ NoClient
no_client clients number refusal e = go (nat_lt number clients) e
  where
    go : (b : Bool) → if_client b number ≡ Err refusal → refusal ≡ NoClient
    go true e = absurd (cc (e))
    go false e = cc (e)

no_slot : (b : Brokered) (queue : Option (List ℕ)) (refusal : Refusal) → IsPlaced b queue (Err refusal)
    → (refusal ≡ NotReady) ⊎ (refusal ≡ NoQueue)
no_slot b queue NotReady placed = inl refl
no_slot b queue NoQueue placed = inr refl
no_slot b queue _ placed = absurd placed

-- what is so of each of these refusals is so of the one
by_no_slot : (P : Refusal → Type 0) (b : Brokered) (queue : Option (List ℕ)) (refusal : Refusal)
    → IsPlaced b queue (Err refusal) → P NotReady → P NoQueue → P refusal
by_no_slot P b queue refusal placed down none =
    elim (no_slot b queue refusal placed) [ inl e ↦ subst P (sym e) down | inr e ↦ subst P (sym e) none ]

-- calls
unbegun : (r : Result Unit Refusal) → Within is_call_refusal (as_begun r) → Within is_call_refusal r
unbegun (Ok u) why = tt
unbegun (Err refusal) why = why

module _ (old new : Sessioned) where
  ran_within : (slot : ℕ) (client : Client) (number : ℕ) (call : Call) (result : Result Reply Refusal)
      → IsRun old.broker new.broker slot client number call result → Within is_call_refusal result
  ran_within slot client number call (Ok reply) run = tt
  ran_within slot client number call (Err refusal) run =
      elim run.0 [
        | inl full ↦ subst (λ (e : Refusal). IsTrue (is_call_refusal e)) (sym full.0) refl
        | inr refused ↦
            subst (λ (r : Result Unit Refusal). Within is_call_refusal r) refused.0
            (act_within is_call_refusal (λ w. start_result false w client number call) old.broker slot client refl refl refl
            (λ w. unbegun (start_result false w client number call) (start_within false w client number call)))
      ]

  served_within : (slot : ℕ) (client : Client) (number : ℕ) (call : Call) (result : Result Reply Refusal)
      (comes : Result (Option Reply) Refusal) → IsServedBy old new slot client number call result comes
      → Within is_call_refusal comes → Within is_call_refusal result
  served_within slot client number call result (Err refusal) made why =
      subst (λ (r : Result Reply Refusal). Within is_call_refusal r) (sym made.0) why
  served_within slot client number call result (Ok (Some reply)) made why =
      subst (λ (r : Result Reply Refusal). Within is_call_refusal r) (sym made.0) tt
  served_within slot client number call result (Ok None) made why = ran_within slot client number call result made

  call_within : (client : Client) (asked : Asked) (result : Result Reply Refusal) → IsCall old new client asked result
      → Within is_call_refusal result
  call_within client asked result call = go call.place call.placed call.made
    where
      go : (place : Result SlotId Refusal) → IsPlaced old.broker asked.queue place
          → IsCalledIn old new client asked place result → Within is_call_refusal result
      go (Ok slot) placed made =
          served_within slot.0 client (number_or_zero asked.number) asked.call result
          (answer_to old slot.0 client asked.number) made.served
          (request_comes_within old slot.0 client asked.number)
      go (Err refusal) placed made =
          subst (λ (r : Result Reply Refusal). Within is_call_refusal r) (sym made.0)
          (by_no_slot (λ (e : Refusal). IsTrue (is_call_refusal e)) old.broker asked.queue refusal placed refl refl)

  called_within : (clients number : ℕ) (asked : Asked) (result : Result Reply Refusal)
      → IsCallBy old new (client_in clients number) asked result → Within is_call_refusal result
  called_within clients number asked result made = go (client_in clients number) refl made
    where
      go : (r : Result Client Refusal) → client_in clients number ≡ r → IsCallBy old new r asked result
          → Within is_call_refusal result
      go (Ok client) e made = call_within client asked result made
      go (Err refusal) e made =
          subst (λ (r : Result Reply Refusal). Within is_call_refusal r) (sym made.0)
          (subst (λ (x : Refusal). IsTrue (is_call_refusal x)) (sym (no_client clients number refusal e)) refl)

  -- a call in a queue of no name
  abbrev IsNameless : Result Reply Refusal → Type 0
  IsNameless result = is_nameless_call_answer (answer_as reply_answer result) ≡ true

  nameless_call : (client : Client) (asked : Asked) (result : Result Reply Refusal) → asked.queue ≡ None
      → IsCall old new client asked result → IsNameless result
  nameless_call client asked result none call = go call.place call.placed call.made
    where
      go : (place : Result SlotId Refusal) → IsPlaced old.broker asked.queue place
          → IsCalledIn old new client asked place result → IsNameless result
      go (Ok slot) placed made =
          absurd (subst (λ (q : Option (List ℕ)). IsThere old.broker.directory q slot.0) none placed.1)
      go (Err refusal) placed made =
          subst (λ (r : Result Reply Refusal). IsNameless r) (sym made.0)
          (by_no_slot (λ (e : Refusal). is_nameless_call_answer (Refused e) ≡ true) old.broker asked.queue refusal placed
          refl refl)

  nameless_by : (clients number : ℕ) (asked : Asked) (result : Result Reply Refusal) → asked.queue ≡ None
      → IsCallBy old new (client_in clients number) asked result → IsNameless result
  nameless_by clients number asked result none made = go (client_in clients number) refl made
    where
      go : (r : Result Client Refusal) → client_in clients number ≡ r → IsCallBy old new r asked result
          → IsNameless result
      go (Ok client) e made = nameless_call client asked result none made
      go (Err refusal) e made =
          subst (λ (r : Result Reply Refusal). IsNameless r) (sym made.0)
          (subst (λ (x : Refusal). is_nameless_call_answer (Refused x) ≡ true) (sym (no_client clients number refusal e))
          refl)

  reply_fits : (result : Result Reply Refusal) → Within is_call_refusal result
      → is_call_answer (answer_as reply_answer result) ≡ true
  reply_fits (Ok reply) why = refl
  reply_fits (Err refusal) why = why

  abbrev SaysCall : Answer → ℕ → Asked → Type 0
  SaysCall answer number asked =
      Says reply_answer answer (IsCallBy old new (client_in old.broker.counts.clients number) asked)

  call_fits : (answer : Answer) (number : ℕ) (asked : Asked) → SaysCall answer number asked
      → is_call_answer answer ≡ true
  call_fits answer number asked says =
      said reply_answer answer (IsCallBy old new (client_in old.broker.counts.clients number) asked) is_call_answer says
      (λ result made. reply_fits result (called_within old.broker.counts.clients number asked result made))

  nameless_fits : (answer : Answer) (number : ℕ) (asked : Asked) → asked.queue ≡ None → SaysCall answer number asked
      → is_nameless_call_answer answer ≡ true
  nameless_fits answer number asked none says =
      said reply_answer answer (IsCallBy old new (client_in old.broker.counts.clients number) asked)
      is_nameless_call_answer says
      (λ result made. nameless_by old.broker.counts.clients number asked result none made)

  -- where there is no such client
  call_of_none : (answer : Answer) (number : ℕ) (asked : Asked) → SaysCall answer number asked
      → old.broker.counts.clients ≤ number → answer ≡ Refused NoClient
  call_of_none answer number asked says past =
      let made =
      subst (λ (r : Result Client Refusal). IsCallBy old new r asked says.result)
      (ap (λ (b : Bool). if_client b number) (le-ltb number old.broker.counts.clients past)) says.made in
      says.is ∙ ap (λ (r : Result Reply Refusal). answer_as reply_answer r) made.0

-- what a client was last told
module _ (b : Brokered) where
  telling_within : (client : Client) (queue : Option (List ℕ)) (result : Result Told Refusal) → IsTelling b client queue result
      → Within is_told_refusal result
  telling_within client queue result telling = go telling.place telling.placed telling.is
    where
      go : (place : Result SlotId Refusal) → IsPlaced b queue place → IsToldIn b client place result
          → Within is_told_refusal result
      go (Ok slot) placed is =
          subst (λ (r : Result Told Refusal). Within is_told_refusal r) (sym is)
          (act_within is_told_refusal (λ w. Ok (told_to (told_in w.queue) client)) b slot.0 client refl refl refl
          (λ w. tt))
      go (Err refusal) placed is =
          subst (λ (r : Result Told Refusal). Within is_told_refusal r) (sym is)
          (by_no_slot (λ (e : Refusal). IsTrue (is_told_refusal e)) b queue refusal placed refl refl)

  told_within : (clients number : ℕ) (queue : Option (List ℕ)) (result : Result Told Refusal)
      → IsTellingBy b (client_in clients number) queue result → Within is_told_refusal result
  told_within clients number queue result made = go (client_in clients number) refl made
    where
      go : (r : Result Client Refusal) → client_in clients number ≡ r → IsTellingBy b r queue result
          → Within is_told_refusal result
      go (Ok client) e made = telling_within client queue result made
      go (Err refusal) e is =
          subst (λ (r : Result Told Refusal). Within is_told_refusal r) (sym is)
          (subst (λ (x : Refusal). IsTrue (is_told_refusal x)) (sym (no_client clients number refusal e)) refl)

  told_fits : (result : Result Told Refusal) → Within is_told_refusal result
      → is_told_answer (answer_as told_answer result) ≡ true
  told_fits (Ok told) why = refl
  told_fits (Err refusal) why = why

  -- in a queue of no name nothing is told
  abbrev TellsNothing : Result Told Refusal → Type 0
  TellsNothing result = is_nameless_told_answer (answer_as told_answer result) ≡ true

  nameless_told : (clients number : ℕ) (result : Result Told Refusal)
      → IsTellingBy b (client_in clients number) None result → TellsNothing result
  nameless_told clients number result made = go (client_in clients number) refl made
    where
      placed : (place : Result SlotId Refusal) (client : Client) → IsPlaced b None place → IsToldIn b client place result
          → TellsNothing result
      placed (Ok slot) client there is = absurd (there.1)
      placed (Err refusal) client there is =
          subst (λ (r : Result Told Refusal). TellsNothing r) (sym is)
          (by_no_slot (λ (e : Refusal). is_told_refusal e ≡ true) b None refusal there refl refl)

      go : (r : Result Client Refusal) → client_in clients number ≡ r → IsTellingBy b r None result
          → TellsNothing result
      go (Ok client) e made = placed made.place client made.placed made.is
      go (Err refusal) e is =
          subst (λ (r : Result Told Refusal). TellsNothing r) (sym is)
          (subst (λ (x : Refusal). is_told_refusal x ≡ true) (sym (no_client clients number refusal e)) refl)

  abbrev SaysTold : Answer → ℕ → Option (List ℕ) → Type 0
  SaysTold answer number queue = Says told_answer answer (IsTellingBy b (client_in b.counts.clients number) queue)

  telling_fits : (answer : Answer) (number : ℕ) (queue : Option (List ℕ)) → SaysTold answer number queue
      → is_answer_to (told_request number queue) answer ≡ true
  telling_fits answer number None says =
      said told_answer answer (IsTellingBy b (client_in b.counts.clients number) None) is_nameless_told_answer says
      (nameless_told b.counts.clients number)
  telling_fits answer number (Some name) says =
      said told_answer answer (IsTellingBy b (client_in b.counts.clients number) (Some name)) is_told_answer says
      (λ result made. told_fits result (told_within b.counts.clients number (Some name) result made))

  told_of_none : (answer : Answer) (number : ℕ) (queue : Option (List ℕ)) → SaysTold answer number queue
      → b.counts.clients ≤ number → answer ≡ Refused NoClient
  told_of_none answer number queue says past =
      let made =
      subst (λ (r : Result Client Refusal). IsTellingBy b r queue says.result)
      (ap (λ (x : Bool). if_client x number) (le-ltb number b.counts.clients past)) says.made in
      says.is ∙ ap (λ (r : Result Told Refusal). answer_as told_answer r) made

-- crashes and recoveries
crash_fits : (result : Result ⊤ Refusal) → result ≡ crash_result (is_no_memory result)
    → is_crash_answer (answer_as (λ done. Crashed) result) ≡ true
crash_fits (Ok done) is = refl
crash_fits (Err refusal) is = go (is_no_memory (let r : Result ⊤ Refusal = Err refusal in r)) is
  where
    go : (full : Bool) → (let r : Result ⊤ Refusal = Err refusal in r) ≡ crash_result full
        → is_crash_answer (Refused refusal) ≡ true
    go true e =
        let same : NoMemory ≡ refusal = cc (sym e) in
        subst (λ (x : Refusal). is_crash_answer (Refused x) ≡ true) same refl
    go false e = absurd (cc (e))

recovery_fits : (result : Result ⊤ Refusal) → IfErr result (λ e. (e ≡ AlreadyReady) ⊎ (e ≡ NoMemory))
    → is_recovery_answer (answer_as (λ done. Ready) result) ≡ true
recovery_fits (Ok done) why = refl
recovery_fits (Err refusal) why =
    elim why [
      | inl e ↦ subst (λ (x : Refusal). is_recovery_answer (Refused x) ≡ true) (sym e) refl
      | inr e ↦ subst (λ (x : Refusal). is_recovery_answer (Refused x) ≡ true) (sym e) refl
    ]

-- each request has an answer that it may have
pub answer_fits : (old new : Sessioned) (request : Request) (answer : Answer) → IsAnswered old new request answer
    → is_answer_to request answer ≡ true
answer_fits old new (Create queue kind) answer made = create_fits old new queue kind answer made
answer_fits old new list_request answer made =
    said Queues answer (IsListing old.broker) is_list_answer made.0 (list_fits old.broker)
answer_fits old new (Put client None value number) answer made = nameless_fits old new answer client _ refl made
answer_fits old new (Put client (Some name) value number) answer made = call_fits old new answer client _ made
answer_fits old new (Take client None number) answer made = nameless_fits old new answer client _ refl made
answer_fits old new (Take client (Some name) number) answer made = call_fits old new answer client _ made
answer_fits old new (told_request client queue) answer made = telling_fits old.broker answer client queue made.0
answer_fits old new Crash answer made =
    said (λ done. Crashed) answer (IsCrash old new) is_crash_answer made
    (λ result crash. crash_fits result crash.result_is)
answer_fits old new Recover answer made =
    said (λ done. Ready) answer (IsRecovery old new) is_recovery_answer made
    (λ result recovery. recovery_fits result recovery.errors)
answer_fits old new Stop answer made = subst (λ (a : Answer). is_stop_answer a ≡ true) (sym made.0) refl

-- and one of a client that there is not is refused so
pub none_is_told : (old new : Sessioned) (request : Request) (answer : Answer) → IsAnswered old new request answer
    → NamesNoClient old.broker.counts.clients request → answer ≡ Refused NoClient
none_is_told old new (Put client queue value number) answer made past = call_of_none old new answer client _ made past
none_is_told old new (Take client queue number) answer made past = call_of_none old new answer client _ made past
none_is_told old new (told_request client queue) answer made past =
    told_of_none old.broker answer client queue made.0 past
none_is_told old new _ answer made none = absurd none
