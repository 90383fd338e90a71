-- What is refused for want of memory changes nothing but room, and how many accesses the memory had.
use Rattle.std.proofs.Common.{◌≡◌, ◌≢◌, ◌⊎◌, refl, sym, ap, ◌∙◌, subst, inl, inr, ℕ, ◌≤◌, arith, Bool, true, false, List, ◌==◌, if◌then◌else◌}
use borrow.Author.Tests.{ltb-false}
use Rattle.std.proofs.lemmas.Bool.{cases_eq}
use Rattle.std.proofs.lemmas.Bool.Decides.{eqb_tells}
use Rattle.std.specs.Prelude.{Option, Some, None, Result, Ok, Err, IfErr, IsErrOf, OnErr, is_ok, nat_lt}
use Rattle.words.specs.declared.call.Call.{Call}
use Rattle.words.specs.declared.call.Client.{Client}
use Rattle.words.specs.declared.refusal.Refusal.{Refusal}
use Rattle.words.specs.declared.refusal.Refusal.TheVariants.{NoMemory}
use Rattle.directory.specs.UnderWay.{HaveSameDirectory}
use Rattle.protocol.specs.declared.UnderWay.{UnderWay}
use Rattle.recover.specs.declared.recovery.Recovery.{Recovery}
use Rattle.interleave.specs.Rules.{starting, stepping}
use Rattle.interleave.specs.State.{State, after_bump_load, after_call_began, after_recover, after_start, after_step, number_to_start, recover_result, recover_with, start_with, step_with, used_by}
use Rattle.named.specs.Acting.{IsActAt, IsSameBeside}
use Rattle.named.specs.Brokers.{Brokered, IsWell, admission, quiet, world_after, world_at}
use Rattle.named.specs.Slots.{acted, answered}
use Rattle.named.specs.Stopping.{IsQueueOn, IsQueueRecovered, IsRecoveryStep}
use Rattle.named.specs.declared.recovery.BrokerRecovery.{BrokerRecovery}
use Rattle.named.specs.declared.recovery.BrokerRecovery.TheVariants.{ReadDirectory, RecoverQueue}
use Rattle.session.specs.Keeping.{IsKeptNow}
use Rattle.session.specs.Requests.{IsAdvanced, last_after}
use Rattle.session.specs.Sessions.{Sessioned, kept_in}
use Rattle.words.specs.declared.told.Verdict.{Verdict}
use Rattle.broker_script.proofs.SameWords.{same_words}
use Rattle.broker_script.specs.Play.{Played}
use Rattle.broker_script.specs.PutOff.{IsAsBefore, IsPutOff, PutsOff}
use Rattle.playing.specs.declared.put_off.Unfollowed.{Unfollowed}
use Rattle.playing.specs.declared.put_off.Unfollowed.TheVariants.{PutOff, Halfway}

pub as_before : (b : Brokered) → IsAsBefore b b
as_before b = record {
  counts = refl;
  cached = refl;
  kept = refl;
  worlds = λ slot. refl;
  directory = refl;
  creation = refl;
  recovery = refl;
}

-- a line of which nothing was made
pub nothing_made : (p : Played) → IsPutOff p p
nothing_made p = record { broker = as_before p.broker; kept = λ slot client. refl; others = refl }

-- what is kept now in one place is what was kept
pub still_kept : (old new : List (List (Option Verdict))) (slot client : ℕ) (last : Option Verdict)
    → IsKeptNow old new slot client last → last ≡ kept_in old slot client
    → (at other : ℕ) → kept_in new at other ≡ kept_in old at other
still_kept old new slot client last now same at other = go (cases_eq at slot) (cases_eq other client)
  where
    go : (at ≡ slot) ⊎ (at ≢ slot) → (other ≡ client) ⊎ (other ≢ client) → kept_in new at other ≡ kept_in old at other
    go (inl here) (inl it) =
        ap (λ (n : ℕ). kept_in new n other) here ∙ ap (λ (n : ℕ). kept_in new slot n) it ∙ now.here ∙ same
        ∙ sym (ap (λ (n : ℕ). kept_in old n other) here ∙ ap (λ (n : ℕ). kept_in old slot n) it)
    go (inl here) (inr apart) = now.others at other (inr apart)
    go (inr apart) it = now.others at other (inl apart)

-- where the worlds, and the words of the directory, are as they were, each word is
all_as_before : (old new : Brokered) → IsWell old → IsWell new → new.counts ≡ old.counts
    → ((slot : ℕ) → quiet (world_at new slot) ≡ quiet (world_at old slot)) → HaveSameDirectory old.words new.words
    → new.directory ≡ old.directory → new.creation ≡ old.creation → new.recovery ≡ old.recovery → IsAsBefore old new
all_as_before old new well well_now counts worlds front directory creation recovery =
    let words = same_words old new well well_now counts worlds front in
    record {
      counts = counts;
      cached = words.cached;
      kept = words.kept;
      worlds = worlds;
      directory = directory;
      creation = creation;
      recovery = recovery;
    }

-- an act on one slot that leaves its world as it was
pub beside_one : (slot : ℕ) (old new : Brokered) → IsWell old → IsWell new → IsSameBeside slot old new
    → quiet (world_at new slot) ≡ quiet (world_at old slot) → IsAsBefore old new
beside_one slot old new well well_now beside here =
    all_as_before old new well well_now beside.counts
    (λ other. elim (eqb_tells other slot) [
      | inl same ↦ ap (λ (n : ℕ). quiet (world_at new n)) same.1 ∙ here ∙ ap (λ (n : ℕ). quiet (world_at old n)) (sym same.1)
      | inr apart ↦ beside.others other apart.1
    ])
    beside.directory_words beside.directory beside.creation beside.recovery

-- a start that is refused memory had its one access
bumped : (w : State) (client : Client) (number : ℕ) (call : Call) (used : Bool)
    → quiet (Some (if used then after_bump_load w else (if true then after_bump_load w else after_call_began w client number call))) ≡ quiet (Some w)
bumped w client number call true = refl
bumped w client number call false = refl

start_quiet : (w : State) (client : Client) (call : Call) (number : Result ℕ Refusal)
    → quiet (Some (start_with true w client call number)) ≡ quiet (Some w)
start_quiet w client call (Err refusal) = refl
start_quiet w client call (Ok number) = bumped w client number call (used_by w client == w.shape.records)

step_same : (w : State) (client : Client) (u : Result UnderWay Refusal) → step_with true w client u ≡ w
step_same w client (Err refusal) = refl
step_same w client (Ok u) = refl

recover_same : (w : State) (r : Option Recovery) → recover_with true w r ≡ w
recover_same w None = refl
recover_same w (Some r) = refl

-- so it is of what acts on an open slot, if it is admitted
quiet_acted : (f : State → State) → ((w : State) → quiet (Some (f w)) ≡ quiet (Some w)) → (o : Option State)
    → quiet (acted f o) ≡ quiet o
quiet_acted f same (Some w) = same w
quiet_acted f same None = refl

quiet_after : (f : State → State) → ((w : State) → quiet (Some (f w)) ≡ quiet (Some w)) → (admitted : Bool)
    (o : Option State) → quiet (if admitted then acted f o else o) ≡ quiet o
quiet_after f same true o = quiet_acted f same o
quiet_after f same false o = refl

pub start_left : (old new : Brokered) (slot : ℕ) (client : Client) (number : ℕ) (call : Call)
    → IsWell old → IsWell new → world_at new slot ≡ world_after (λ w. after_start true w client number call) old slot client
    → IsSameBeside slot old new → IsAsBefore old new
start_left old new slot client number call well well_now world beside =
    let f : State → State = λ w. after_start true w client number call in
    beside_one slot old new well well_now beside (ap quiet world
    ∙ quiet_after f (λ w. start_quiet w client call (number_to_start w client number call)) (is_ok (admission old client)) (world_at old slot))

start_refused : (old new : Brokered) (slot : ℕ) (client : Client) (number : ℕ) (call : Call)
    → IsWell old → IsWell new → IsActAt (starting client number call) slot client old (Err NoMemory) new
    → IsSameBeside slot old new → IsAsBefore old new
start_refused old new slot client number call well well_now act beside =
    start_left old new slot client number call well well_now act.world beside

step_refused : (old new : Brokered) (slot : ℕ) (client : Client) → IsWell old → IsWell new
    → IsActAt (stepping client) slot client old (Err NoMemory) new → IsSameBeside slot old new → IsAsBefore old new
step_refused old new slot client well well_now act beside =
    let f : State → State = λ w. after_step true w client in
    let same : (w : State) → quiet (Some (f w)) ≡ quiet (Some w) =
    λ w. ap (λ (v : State). quiet (Some v)) (step_same w client _) in
    beside_one slot old new well well_now beside (ap quiet act.world
    ∙ quiet_after f same (is_ok (admission old client)) (world_at old slot))

-- and of a step of recovery
under_way : (old new : Brokered) (slot : ℕ) (answer : Result Bool Refusal) → IsQueueOn old new slot (Err NoMemory) answer
    → (new.recovery ≡ old.recovery) × (new.creation ≡ old.creation)
under_way old new slot (Err refusal) on = (on.1, on.2)
under_way old new slot (Ok true) on = let e = on.0 in absurd (cc)
under_way old new slot (Ok false) on = let e = on.0 in absurd (cc)

queue_refused : (old new : Brokered) (slot : ℕ) → IsWell old → IsWell new → IsQueueRecovered old new slot (Err NoMemory)
    → IsAsBefore old new
queue_refused old new slot well well_now by =
    let f : State → State = after_recover true in
    let same : (w : State) → quiet (Some (f w)) ≡ quiet (Some w) =
    λ w. ap (λ (v : State). quiet (Some v)) (recover_same w w.recovery) in
    let here : quiet (world_at new slot) ≡ quiet (world_at old slot) = ap quiet by.world ∙ quiet_acted f same (world_at old slot) in
    let on = under_way old new slot (answered (recover_result true) (world_at old slot)) by.next in
    all_as_before old new well well_now by.counts
    (λ other. elim (eqb_tells other slot) [
      | inl same_slot ↦ ap (λ (n : ℕ). quiet (world_at new n)) same_slot.1 ∙ here ∙ ap (λ (n : ℕ). quiet (world_at old n)) (sym same_slot.1)
      | inr apart ↦ by.others other apart.1
    ])
    by.directory_words by.directory on.1 on.0

recovery_refused_at : (old new : Brokered) (recovery : Option BrokerRecovery) → IsWell old → IsWell new
    → IsRecoveryStep old new (Err NoMemory) recovery → IsAsBefore old new
recovery_refused_at old new None well well_now step = let e = step.0 in absurd (cc)
recovery_refused_at old new (Some (ReadDirectory at)) well well_now step = let e = step.answer in absurd (cc)
recovery_refused_at old new (Some (RecoverQueue slot)) well well_now step = queue_refused old new slot.0 well well_now step

recovery_refused : (old new : Brokered) → IsWell old → IsWell new → IsRecoveryStep old new (Err NoMemory) old.recovery
    → IsAsBefore old new
recovery_refused old new well well_now step = recovery_refused_at old new old.recovery well well_now step

-- a player whose session was refused memory
module _ (p inside : Played) (is : inside ≡ p) (s : Sessioned) where
  pub put_off : IsAsBefore inside.broker s.broker
      → ((slot client : ℕ) → kept_in s.kept slot client ≡ kept_in inside.kept slot client)
      → IsPutOff p (record inside { broker = s.broker; kept = s.kept })
  put_off by kept = record {
    broker = subst (λ (x : Played). IsAsBefore x.broker s.broker) is by;
    kept = λ slot client. kept slot client ∙ ap (λ (x : Played). kept_in x.kept slot client) is;
    others = ap (λ (x : Played). record x { broker = s.broker; kept = s.kept }) is;
  }

-- by which refusal it was
pub start_put_off : (p inside : Played) → inside ≡ p → (s : Sessioned) (slot : ℕ) (client : Client) (number : ℕ)
    (call : Call) (refusal : Refusal) → IsWell inside.broker → IsWell s.broker → refusal ≡ NoMemory
    → IsActAt (starting client number call) slot client inside.broker (Err refusal) s.broker
    → IsSameBeside slot inside.broker s.broker → s.kept ≡ inside.kept
    → IsPutOff p (record inside { broker = s.broker; kept = s.kept })
start_put_off p inside is s slot client number call refusal well well_now memory act beside kept =
    put_off p inside is s (start_refused inside.broker s.broker slot client number call well well_now
    (subst (λ (e : Refusal). IsActAt (starting client number call) slot client inside.broker (Err e) s.broker) memory act) beside)
    (λ at other. ap (λ k. kept_in k at other) kept)

pub step_put_off : (p inside : Played) → inside ≡ p → (s : Sessioned) (slot : ℕ) (client : Client) (number : Option ℕ)
    (refusal : Refusal) → IsWell inside.broker → IsWell s.broker → refusal ≡ NoMemory
    → IsAdvanced inside.broker s.broker slot client (Err refusal)
    → IsKeptNow inside.kept s.kept slot client.0 (last_after number (Err refusal) (kept_in inside.kept slot client.0))
    → IsPutOff p (record inside { broker = s.broker; kept = s.kept })
step_put_off p inside is s slot client number refusal well well_now memory by kept =
    put_off p inside is s (step_refused inside.broker s.broker slot client well well_now
    (subst (λ (e : Refusal). IsActAt (stepping client) slot client inside.broker (Err e) s.broker) memory by.act) by.beside)
    (still_kept inside.kept s.kept slot client.0 _ kept (unheard number))
  where
    unheard : (o : Option ℕ) → last_after o (Err refusal) (kept_in inside.kept slot client.0)
        ≡ kept_in inside.kept slot client.0
    unheard (Some n) = refl
    unheard None = refl

pub recovery_put_off : (p inside : Played) → inside ≡ p → (s : Sessioned) (refusal : Refusal) → IsWell inside.broker
    → IsWell s.broker → refusal ≡ NoMemory → IsRecoveryStep inside.broker s.broker (Err refusal) inside.broker.recovery → s.kept ≡ inside.kept
    → IsPutOff p (record inside { broker = s.broker; kept = s.kept })
recovery_put_off p inside is s refusal well well_now memory step kept =
    put_off p inside is s (recovery_refused inside.broker s.broker well well_now
    (subst (λ (e : Refusal). IsRecoveryStep inside.broker s.broker (Err e) inside.broker.recovery) memory step))
    (λ at other. ap (λ k. kept_in k at other) kept)

-- what is left of a line that gave nothing, where nothing changed
pub unchanged : {A : Type 0} (r : Result A Unfollowed) (old new : Played) → new ≡ old → PutsOff old r new
unchanged (Ok a) old new same = tt
unchanged (Err PutOff) old new same = subst (λ (p : Played). IsPutOff old p) (sym same) (nothing_made old)
unchanged (Err Halfway) old new same = tt

-- where it says that it was half followed
pub half : {A : Type 0} (r : Result A Unfollowed) (old new : Played) → IfErr r (λ e. e ≡ Halfway) → PutsOff old r new
half (Ok a) old new is = tt
half (Err PutOff) old new is = absurd (cc (is))
half (Err Halfway) old new is = tt

-- before the first act none was made
pub none_made : (made : ℕ) → nat_lt 0 made ≡ false → made ≡ 0
none_made made e = let least : made ≤ 0 = ltb-false 0 made e in omega (arith, least)

-- and where an act of it was refused: for want of memory at the first one
pub refused_first : {A : Type 0} (r : Result A Unfollowed) (old mid new : Played) (refusal : Refusal) (begun : Bool)
    → OnErr r (refusal ≡ NoMemory) → (IsErrOf r PutOff → begun ≡ false) → (begun ≡ false → mid ≡ old)
    → (refusal ≡ NoMemory → IsPutOff mid new) → PutsOff old r new
refused_first (Ok a) old mid new refusal begun memory first same off = tt
refused_first (Err PutOff) old mid new refusal begun memory first same off =
    subst (λ (p : Played). IsPutOff p new) (same (first refl)) (off memory)
refused_first (Err Halfway) old mid new refusal begun memory first same off = tt
