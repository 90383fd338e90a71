-- What holds of every act.
use Rattle.words.specs.declared.told.Told.{Told}
use Rattle.words.specs.declared.call.Reply.{Reply}
use Rattle.std.proofs.Common.{◌≡◌, ◌≢◌, ℕ, ◌+◌, ◌≤◌, inl, inr, Bool, true, false, if◌then◌else◌, ◌==◌, List, [], ◌++◌, Option, Some, None, sym, Result, Ok, Err, slice_index, slice_get, refl, arith, get_or-set_other}
use Rattle.std.proofs.lemmas.Bool.Decides.{eqb_tells}
use Rattle.words.specs.declared.call.Call.{Call}
use Rattle.words.specs.declared.call.Client.{Client}
use Rattle.words.specs.declared.refusal.Refusal.{Refusal}
use Rattle.persist.specs.Memory.{Words, Access, Load, Store, Cas, Flush, Fence}
use Rattle.arena.specs.Shape.{Shape}
use Rattle.arena.specs.Layout.{place_at, word_at}
use Rattle.arena.specs.declared.place.Place.{Place}
use Rattle.stepper.specs.Step.{after_one}
use Rattle.stepper.specs.declared.resume.After.{After}
use Rattle.stepper.specs.declared.resume.After.TheVariants.{More, Done}
use Rattle.helping.specs.declared.op.Op.{Op}
use Rattle.protocol.specs.Machine.{next_of, events_after, next_recovery, recovery_events}
use Rattle.std.proofs.lemmas.List.{append-nil}
use Rattle.words.specs.declared.refusal.Refusal.TheVariants.{NoRoom}
use Rattle.helping.specs.Table.{access_of}
use Rattle.recover.specs.Table.{access_of as recovery_access}
use Rattle.stepper.specs.declared.resume.After.{After}
use Rattle.stepper.specs.declared.resume.After.TheVariants.{More as go_on, Done as Ready}
use Rattle.recover.specs.declared.recovery.Recovery.{Recovery}
use Rattle.interleave.specs.Calls.{waiting_result, answer_of}
use Rattle.interleave.specs.OneAccess.{MakesOneAccess}
use Rattle.interleave.specs.OneEvent.{call_events, return_events, ready_events, ready_events_by, event_of}
use Rattle.interleave.specs.State.{State, machine, is_down, after_bump_load, after_call_began, used_by, start_with}
use Rattle.interleave.specs.State.{start_result_with, step_with, step_result_with, evict_with, recover_with}
use Rattle.interleave.specs.State.{number_to_start, after_act}
use Rattle.protocol.specs.declared.acts.Act.{Act}
use Rattle.protocol.specs.declared.acts.Act.TheVariants.{Start, Step, Evict, Crash, Recover}
use Rattle.protocol.specs.declared.UnderWay.{UnderWay}

no_access : (ws : Words) → MakesOneAccess ws ws
no_access ws = record { accesses = omega arith; word = 0; cached = λ u h. refl; kept = λ u h. refl; one_value = inl refl }

stored : (s : Shape) (p : Place) (v : ℕ) (ws : Words) → MakesOneAccess ws (after_one s (Store p v) ws)
stored s p v ws = record {
  accesses = omega arith;
  word = word_at s p;
  cached = λ u h. get_or-set_other ws.cached (word_at s p) u v 0 h;
  kept = λ u h. refl;
  one_value = inr refl;
}

pub one_access : (s : Shape) (access : Access Place) (ws : Words) → MakesOneAccess ws (after_one s access ws)
one_access s (Load p) ws = record { accesses = omega arith; word = 0; cached = λ u h. refl; kept = λ u h. refl; one_value = inl refl }
one_access s (Store p v) ws = stored s p v ws
one_access s (Cas p old new) ws =
    elim (eqb_tells (slice_index ws.cached (word_at s p)) old) [
      | inl e ↦ rw e.0 (stored s p new ws)
      | inr e ↦ rw e.0 (record { accesses = omega arith; word = 0; cached = λ u h. refl; kept = λ u h. refl; one_value = inl refl })
    ]
one_access s (Flush p) ws = record { accesses = omega arith; word = 0; cached = λ u h. refl; kept = λ u h. refl; one_value = inl refl }
one_access s (Fence p) ws = record {
  accesses = omega arith;
  word = word_at s p;
  cached = λ u h. refl;
  kept = λ u h. get_or-set_other ws.kept (word_at s p) u (slice_index ws.cached (word_at s p)) 0 h;
  one_value = inl refl;
}

start_makes : (w : State) (client : Client) (call : Call) (r : Result ℕ Refusal) → MakesOneAccess w.words (start_with false w client call r).words
start_makes w client call (Ok number) = go (used_by w client == w.shape.records)
  where
    go : (b : Bool) → MakesOneAccess w.words (if b then after_bump_load w else (if false then after_bump_load w else after_call_began w client number call)).words
    go true = record { accesses = omega arith; word = 0; cached = λ u h. refl; kept = λ u h. refl; one_value = inl refl }
    go false = record { accesses = omega arith; word = 0; cached = λ u h. refl; kept = λ u h. refl; one_value = inl refl }
start_makes w client call (Err refusal) = no_access w.words

step_makes : (w : State) (client : Client) (r : Result UnderWay Refusal) → MakesOneAccess w.words (step_with false w client r).words
step_makes w client (Ok u) = one_access w.shape (access_of w.shape.kind u.op) w.words
step_makes w client (Err refusal) = no_access w.words

evict_makes : (w : State) (word : ℕ) (o : Option Place) → MakesOneAccess w.words (evict_with w word o).words
evict_makes w word None = no_access w.words
evict_makes w word (Some p) = record {
  accesses = omega arith;
  word = word;
  cached = λ u h. refl;
  kept = λ u h. get_or-set_other w.words.kept word u (slice_index w.words.cached word) 0 h;
  one_value = inl refl;
}

recover_makes : (w : State) (r : Option Recovery) → MakesOneAccess w.words (recover_with false w r).words
recover_makes w None = no_access w.words
recover_makes w (Some r) = one_access w.shape (recovery_access w.shape.kind r.at) w.words

pub act_makes_one : (w : State) (act : Act ℕ) → act ≢ Crash → MakesOneAccess w.words (after_act w act).words
act_makes_one w (Start client number call) other = start_makes w client call (number_to_start w client number call)
act_makes_one w (Step client) other = step_makes w client (waiting_result (is_down w) (slice_get w.calls client.0))
act_makes_one w (Evict word) other = evict_makes w word (place_at w.shape word)
act_makes_one w Crash other = absurd (other refl)
act_makes_one w Recover other = recover_makes w w.recovery

-- no act makes more than one access
pub act_accesses : (w : State) (act : Act ℕ) → (after_act w act).words.accesses ≤ w.words.accesses + 1
act_accesses w (Start client number call) = (act_makes_one w (Start client number call) (λ e. cc)).accesses
act_accesses w (Step client) = (act_makes_one w (Step client) (λ e. cc)).accesses
act_accesses w (Evict word) = (act_makes_one w (Evict word) (λ e. cc)).accesses
act_accesses w Crash = omega arith
act_accesses w Recover = (act_makes_one w Recover (λ e. cc)).accesses

-- an act adds its event
none_more : {X : Type 0} (xs : List X) → xs ≡ xs ++ []
none_more xs = sym (append-nil xs)

start_adds : (w : State) (client : Client) (call : Call) (r : Result ℕ Refusal) → (start_with false w client call r).log.events ≡ w.log.events ++ call_events (start_result_with false w client r) r client call
start_adds w client call (Err refusal) = none_more w.log.events
start_adds w client call (Ok number) = go (used_by w client == w.shape.records)
  where
    go : (b : Bool) → (if b then after_bump_load w else after_call_began w client number call).log.events ≡ w.log.events ++ call_events (let r : Result Unit Refusal = if b then Err NoRoom else Ok tt in r) (Ok number) client call
    go true = none_more w.log.events
    go false = refl

step_adds : (w : State) (client : Client) (r : Result UnderWay Refusal) → (step_with false w client r).log.events ≡ w.log.events ++ return_events (step_result_with false w r) client
step_adds w client (Err refusal) = none_more w.log.events
step_adds w client (Ok u) = go (next_of (machine w) u)
  where
    go : (a : After Op Reply) → events_after w.log.events client a ≡ w.log.events ++ return_events (Ok (answer_of a)) client
    go (More op) = none_more w.log.events
    go (Done reply) = refl

evict_adds : (w : State) (word : ℕ) (o : Option Place) → (evict_with w word o).log.events ≡ w.log.events ++ []
evict_adds w word None = none_more w.log.events
evict_adds w word (Some p) = none_more w.log.events

recover_adds : (w : State) (r : Option Recovery) → (recover_with false w r).log.events ≡ w.log.events ++ ready_events_by w r
recover_adds w None = none_more w.log.events
recover_adds w (Some r) = go (next_recovery (machine w) r)
  where
    go : (next : After Recovery (List Told)) → recovery_events w.log.events next ≡ w.log.events ++ ready_events next
    go (go_on p) = none_more w.log.events
    go (Ready told) = refl

pub act_adds_one : (w : State) (act : Act ℕ) → (after_act w act).log.events ≡ w.log.events ++ event_of w act
act_adds_one w (Start client number call) = start_adds w client call (number_to_start w client number call)
act_adds_one w (Step client) = step_adds w client (waiting_result (is_down w) (slice_get w.calls client.0))
act_adds_one w (Evict word) = evict_adds w word (place_at w.shape word)
act_adds_one w Crash = refl
act_adds_one w Recover = recover_adds w w.recovery
