-- No act changes how many words a world has.
use Rattle.std.proofs.Common.{◌≡◌, refl, ◌∙◌, ℕ, List, [], ◌∷◌, false, true, length, slice_index, length-set}
use Rattle.std.specs.Prelude.{Bool, Option, Some, None, Result, Ok, Err, if◌then◌else◌, ◌==◌, slice_get}
use Rattle.words.specs.declared.call.Call.{Call}
use Rattle.words.specs.declared.call.Client.{Client}
use Rattle.words.specs.declared.refusal.Refusal.{Refusal}
use Rattle.persist.specs.Memory.{Access, Cas, Fence, Flush, Load, Store, Words, after, words_after_access, words_after_store}
use Rattle.arena.specs.Layout.{place_at}
use Rattle.arena.specs.declared.place.Place.{Place}
use Rattle.stepper.specs.Step.{at_word}
use Rattle.helping.specs.Table.{access_of}
use Rattle.recover.specs.Table.{access_of as recovery_access}
use Rattle.recover.specs.declared.recovery.Recovery.{Recovery}
use Rattle.protocol.specs.declared.UnderWay.{UnderWay}
use Rattle.protocol.specs.declared.acts.Act.{Act}
use Rattle.protocol.specs.declared.acts.Act.TheVariants.{Start, Step, Evict, Crash, Recover}
use Rattle.interleave.specs.Calls.{waiting_result}
use Rattle.interleave.specs.State.{State, is_down, used_by, number_to_start, start_with, after_bump_load, after_call_began, step_with, evict_with, recover_with, after_act, after_acts}

swapped : (b : Bool) (word new : ℕ) (ws : Words)
    → length (words_after_access (if b then words_after_store word new ws else ws)).kept ≡ length ws.kept
swapped true word new ws = refl
swapped false word new ws = refl

accessed : (access : Access ℕ) (ws : Words) → length (after access ws).kept ≡ length ws.kept
accessed (Load word) ws = refl
accessed (Store word value) ws = refl
accessed (Cas word old new) ws = swapped (slice_index ws.cached word == old) word new ws
accessed (Flush word) ws = refl
accessed (Fence word) ws = length-set ws.kept word (slice_index ws.cached word)

by_used : (b : Bool) (w : State) (client : Client) (number : ℕ) (call : Call)
    → length (if b then after_bump_load w else after_call_began w client number call).words.kept ≡ length w.words.kept
by_used true w client number call = refl
by_used false w client number call = refl

by_number : (w : State) (client : Client) (call : Call) (r : Result ℕ Refusal)
    → length (start_with false w client call r).words.kept ≡ length w.words.kept
by_number w client call (Err refusal) = refl
by_number w client call (Ok number) = by_used (used_by w client == w.shape.records) w client number call

by_waiting : (w : State) (client : Client) (r : Result UnderWay Refusal)
    → length (step_with false w client r).words.kept ≡ length w.words.kept
by_waiting w client (Err refusal) = refl
by_waiting w client (Ok u) = accessed (at_word w.shape (access_of w.shape.kind u.op)) w.words

by_place : (w : State) (word : ℕ) (place : Option Place)
    → length (evict_with w word place).words.kept ≡ length w.words.kept
by_place w word None = refl
by_place w word (Some place) = length-set w.words.kept word (slice_index w.words.cached word)

by_recovery : (w : State) (r : Option Recovery) → length (recover_with false w r).words.kept ≡ length w.words.kept
by_recovery w None = refl
by_recovery w (Some r) = accessed (at_word w.shape (recovery_access w.shape.kind r.at)) w.words

after_act_size : (w : State) (act : Act ℕ) → length (after_act w act).words.kept ≡ length w.words.kept
after_act_size w (Start client number call) = by_number w client call (number_to_start w client number call)
after_act_size w (Step client) = by_waiting w client (waiting_result (is_down w) (slice_get w.calls client.0))
after_act_size w (Evict word) = by_place w word (place_at w.shape word)
after_act_size w Crash = refl
after_act_size w Recover = by_recovery w w.recovery

pub after_acts_size : (w : State) (acts : List (Act ℕ)) → length (after_acts w acts).words.kept ≡ length w.words.kept
after_acts_size w [] = refl
after_acts_size w (act ∷ acts) = after_acts_size (after_act w act) acts ∙ after_act_size w act
