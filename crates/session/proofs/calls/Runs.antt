-- A client's call that is started where its queue has room goes on.
use Rattle.std.proofs.Common.{◌≡◌, ◌≢◌, ◌⊎◌, inl, inr, ℕ, ◌+◌, ◌==◌, ◌≤◌, Bool, true, false, if◌then◌else◌, Option, None, Some, Result, Ok, Err, slice_get, refl, sym, ap, subst, ◌∙◌, arith}
use Rattle.std.specs.Prelude.{IfErr}
use Rattle.std.proofs.lemmas.Option.{slice_get_within}
use Rattle.words.specs.declared.call.Call.{Call}
use Rattle.words.specs.declared.call.Client.{Client}
use Rattle.words.specs.declared.call.Reply.{Reply}
use Rattle.words.specs.declared.limits.TheConstants.{MAX_STEPS_ALONE}
use Rattle.words.specs.declared.refusal.Refusal.{Refusal}
use Rattle.words.specs.declared.refusal.Refusal.TheVariants.{NoMemory, NoRoom}
use Rattle.persist.specs.Memory.{Words}
use Rattle.directory.specs.UnderWay.{HaveSameDirectory}
use Rattle.protocol.specs.Machine.{begun_of, call_begun}
use Rattle.protocol.specs.declared.UnderWay.{UnderWay}
use Rattle.interleave.specs.Calls.{is_no_memory, waiting_result}
use Rattle.interleave.specs.State.{IsAnsweredAlone, IsStartable, State, after_alone, after_bump_load, after_call_began, after_start}
use Rattle.interleave.specs.State.{is_down, machine, number_to_start, start_result, start_result_with}
use Rattle.interleave.specs.State.{start_with, used_by}
use Rattle.interleave.proofs.Facts.{get_set, startable}
use Rattle.interleave.specs.Rules.{starting, waiting_in}
use Rattle.named.specs.Acting.{IsActAt, IsSameBeside}
use Rattle.named.specs.Brokers.{Brokered, IsWell, answer_at, quiet, room_at, world_after, world_at}
use Rattle.named.specs.Slots.{IfWorld, acted}
use Rattle.named.proofs.Facts.{directory_as_it_was, start_alike}
use Rattle.named.specs.Looking.{IsOpenTo}
use Rattle.session.specs.Requests.{IsRun, IsServed}
use Rattle.session.proofs.calls.Admissions.{alike_further, open_after, open_answer, still_admitted}

-- an accepted start leaves the world with the call, of which the client waits
pub record HasBegun (w : State) (client : Client) (number : ℕ) (call : Call) : Type 0 where
  pub n : ℕ
  pub startable : IsStartable w client number n
  pub is : after_start false w client number call ≡ after_call_began w client n call

pub begun_by : (w : State) (client : Client) (number : ℕ) (call : Call) → start_result false w client number call ≡ Ok tt
    → HasBegun w client number call
begun_by w client number call started = go (number_to_start w client number call) refl started
  where
    used : (n : ℕ) (no_room : Bool) → (if no_room then (let r : Result Unit Refusal = Err NoRoom in r) else Ok tt) ≡ Ok tt
        → (if no_room then after_bump_load w else after_call_began w client n call) ≡ after_call_began w client n call
    used n true ok = absurd (cc)
    used n false ok = refl

    go : (r : Result ℕ Refusal) → number_to_start w client number call ≡ r → start_result_with false w client r ≡ Ok tt
        → HasBegun w client number call
    go (Err refusal) is ok = absurd (cc)
    go (Ok n) is ok = record {
      n = n;
      startable = startable w client number n call is;
      is = ap (start_with false w client call) is ∙ used n (used_by w client == w.shape.records) ok;
    }

-- its client waits then
waiting : (down : Bool) (o : Option (Option UnderWay)) (u : UnderWay) → down ≡ false → o ≡ Some (Some u) → waiting_result down o ≡ Ok u
waiting down o u up here = ap (λ (d : Bool). waiting_result d o) up ∙ ap (waiting_result false) here

-- so it does not refuse to go on
pub goes_on_once_started : (w : State) (client : Client) (number : ℕ) (call : Call) (refusal : Refusal)
    → start_result false w client number call ≡ Ok tt → waiting_in (after_start false w client number call) client ≡ Err refusal → ⊥
goes_on_once_started w client number call refusal started refused =
    let begun = begun_by w client number call started in
    let u : UnderWay = call_begun (machine w) (begun_of (machine w) client begun.n call) in
    let calls : slice_get (after_call_began w client begun.n call).calls client.0 ≡ Some (Some u) =
    get_set w.calls client.0 (Some u) (slice_get_within w.calls client.0 None begun.startable.idle) in
    let waits : waiting_in (after_call_began w client begun.n call) client ≡ Ok u =
    waiting (is_down w) (slice_get (after_call_began w client begun.n call).calls client.0) u begun.startable.up calls in
    let here : waiting_in (after_start false w client number call) client ≡ Ok u = ap (λ v. waiting_in v client) begun.is ∙ waits in
    absurd (cc)

-- memory was not refused where there was room
pub not_full : {T : Type 0} (result : Result T Refusal) (room : ℕ) → (is_no_memory result ≡ true → room ≡ 0) → 1 ≤ room
    → is_no_memory result ≡ false
not_full result room full some = go (is_no_memory result) refl
  where
    go : (x : Bool) → is_no_memory result ≡ x → x ≡ false
    go true is = absurd (omega (arith, full is, some))
    go false is = refl

-- a start that was refused where room was made is one that any broker with these queues refuses
module _ (old made now : Brokered) (slot : ℕ) (client : Client) (number : ℕ) (call : Call) (opened : IsOpenTo old slot client)
    (admitted : IsOpenTo made slot client) (same : admitted.world ≡ opened.world) (result : Result Unit Refusal)
    (result_is : result ≡ answer_at (λ w. start_result (is_no_memory result) w client number call) made slot client)
    (world_is : world_at now slot ≡ world_after (λ w. after_start (is_no_memory result) w client number call) made slot client)
    (not : is_no_memory result ≡ false) where
  pub started_here : start_result false opened.world client number call ≡ result
  started_here =
      ap (λ w. start_result false w client number call) (sym same)
      ∙ ap (λ full. start_result full admitted.world client number call) (sym not)
      ∙ sym (open_answer (λ w. start_result (is_no_memory result) w client number call) made slot client admitted)
      ∙ sym result_is

  pub left_here : world_at now slot ≡ Some (after_start false opened.world client number call)
  left_here =
      world_is ∙ open_after (λ w. after_start (is_no_memory result) w client number call) made slot client admitted
      ∙ ap (λ full. Some (after_start full admitted.world client number call)) not
      ∙ ap (λ w. Some (after_start false w client number call)) same

  pub refused_here : (refusal : Refusal) → result ≡ Err refusal
      → (answer_at (λ w. start_result false w client number call) old slot client ≡ Err refusal)
      × (world_at now slot ≡ world_after (λ w. after_start false w client number call) old slot client)
  refused_here refusal is = (
    open_answer (λ w. start_result false w client number call) old slot client opened ∙ started_here ∙ is,
    left_here ∙ sym (open_after (λ w. after_start false w client number call) old slot client opened),
  )

-- room for two acts was made in a slot's queue
pub record IsRoomMade (old made : Brokered) (slot : ℕ) : Type 0 where
  pub worlds : (at : ℕ) → world_at made at ≡ world_at old at
  pub room : 2 ≤ room_at made slot
  pub more : room_at old slot ≤ room_at made slot
  pub rooms : (other : ℕ) → other ≢ slot → room_at made other ≡ room_at old other
  pub directory : made.directory ≡ old.directory
  pub creation : made.creation ≡ old.creation
  pub recovery : made.recovery ≡ old.recovery
  pub counts : made.counts ≡ old.counts
  pub words : made.words ≡ old.words
  pub was_well : IsWell old
  pub well : IsWell made

-- a start was tried then
pub record IsStartTried (made now : Brokered) (slot : ℕ) (client : Client) (number : ℕ) (call : Call) (result : Result Unit Refusal)
    : Type 0 where
  pub act : IsActAt (starting client number call) slot client made result now
  pub beside : IsSameBeside slot made now
  pub well : IsWell now

made_alike : (old made : Brokered) (slot : ℕ) → IsRoomMade old made slot → IsSameBeside slot old made
made_alike old made slot m = record {
  counts = m.counts;
  other_rooms = m.rooms;
  others = λ at ne. ap quiet (m.worlds at);
  directory = m.directory;
  creation = m.creation;
  recovery = m.recovery;
  directory_words = subst (λ (ws : Words). HaveSameDirectory old.words ws) (sym m.words) (directory_as_it_was old old m.was_well refl);
}

-- the slot stays open to its client where room is made
abbrev pub open_with_room : (old made : Brokered) (slot : ℕ) (client : Client) → IsOpenTo old slot client → IsWell old
    → IsRoomMade old made slot → IsOpenTo made slot client
open_with_room old made slot client opened well m = record {
  world = opened.world;
  here = m.worlds slot ∙ opened.here;
  admitted = still_admitted old made client slot opened.world opened.world well m.well opened.here
      (m.worlds slot ∙ opened.here) refl m.recovery opened.admitted;
}

module _ (old made now : Brokered) (slot : ℕ) (client : Client) (number : ℕ) (call : Call) (opened : IsOpenTo old slot client)
    (well : IsWell old) (m : IsRoomMade old made slot) (result : Result Unit Refusal)
    (tried : IsStartTried made now slot client number call result) where
  abbrev admitted_then : IsOpenTo made slot client
  admitted_then = open_with_room old made slot client opened well m

  not_refused_memory : is_no_memory result ≡ false
  not_refused_memory = not_full result (room_at made slot) tried.act.full (omega (arith, m.room))

  others_alike : IsSameBeside slot old now
  others_alike = alike_further old made now slot (made_alike old made slot m) tried.beside

  pub start_was_refused : (refusal : Refusal) → result ≡ Err refusal → IsRun old now slot client number call (Err refusal)
  start_was_refused refusal is = (
    inr (refused_here old made now slot client number call opened admitted_then refl result tried.act.answers tried.act.world not_refused_memory refusal is),
    omega (arith, m.more, subst (λ (r : Result Unit Refusal). IfErr r (λ e. room_at made slot ≤ room_at now slot)) is tried.act.spare),
    others_alike,
  )

  pub was_started : result ≡ Ok tt → start_result false opened.world client number call ≡ Ok tt
  was_started is = started_here old made now slot client number call opened admitted_then refl result tried.act.answers tried.act.world not_refused_memory ∙ is

  pub left : world_at now slot ≡ Some (after_start false opened.world client number call)
  left = left_here old made now slot client number call opened admitted_then refl result tried.act.answers tried.act.world not_refused_memory

  -- the slot is open to the client still
  abbrev pub open_now : IsOpenTo now slot client
  open_now = record {
    world = after_start false opened.world client number call;
    here = left;
    admitted = still_admitted old now client slot opened.world (after_start false opened.world client number call) well
        tried.well opened.here left (start_alike false opened.world client number call).0
        (tried.beside.recovery ∙ m.recovery) opened.admitted;
  }

  -- the call goes on where its queue has room for one more act
  pub never_refused : {T : Type 0} (ran : Result T Refusal) (refusal : Refusal) → result ≡ Ok tt → ran ≡ Err refusal
      → (refusal ≡ NoMemory) ⊎ (answer_at (λ w. waiting_in w client) now slot client ≡ Err refusal)
      → (is_no_memory ran ≡ true → room_at now slot ≡ 0) → ⊥
  never_refused ran refusal ok is (inl memory) full =
      let none : room_at now slot ≡ 0 = full (ap is_no_memory (is ∙ ap Err memory)) in
      omega (arith, m.room, tried.act.room, none)
  never_refused ran refusal ok is (inr refused) full =
      goes_on_once_started opened.world client number call refusal (was_started ok)
      (sym (open_answer (λ w. waiting_in w client) now slot client open_now) ∙ refused)

  pub served : (new : Brokered) (reply : Reply) (steps : ℕ) → result ≡ Ok tt → steps ≤ MAX_STEPS_ALONE
      → IfWorld (world_at now slot) (λ w. IsAnsweredAlone w client steps reply)
      → world_at new slot ≡ acted (λ w. after_alone steps w client) (world_at now slot)
      → room_at now slot ≤ room_at new slot + 1 → IsSameBeside slot now new
      → IsServed old new slot client number call reply
  served new reply steps ok few answered is room others = record {
    world = opened.world;
    was = opened.here;
    started = was_started ok;
    steps = steps;
    few = few;
    answered = subst (λ (o : Option State). IfWorld o (λ w. IsAnsweredAlone w client steps reply)) left answered;
    is = is ∙ ap (acted (λ w. after_alone steps w client)) left;
    room = omega (arith, m.more, tried.act.room, room);
    beside = alike_further old now new slot others_alike others;
  }
