-- No act changes the shape of a queue.
use Rattle.std.proofs.Common.{◌≡◌, refl, ◌∙◌, ℕ, List, [], ◌∷◌, false, true}
use Rattle.std.specs.Prelude.{Bool, Option, Some, None, Result, Ok, Err, if◌then◌else◌, ◌==◌}
use Rattle.words.specs.declared.call.Call.{Call}
use Rattle.words.specs.declared.call.Client.{Client}
use Rattle.words.specs.declared.refusal.Refusal.{Refusal}
use Rattle.arena.specs.Layout.{place_at}
use Rattle.arena.specs.declared.place.Place.{Place}
use Rattle.protocol.specs.declared.UnderWay.{UnderWay}
use Rattle.protocol.specs.declared.acts.Act.{Act}
use Rattle.protocol.specs.declared.acts.Act.TheVariants.{Start, Step, Evict, Crash, Recover}
use Rattle.std.specs.Prelude.{slice_get}
use Rattle.interleave.specs.Calls.{waiting_result}
use Rattle.interleave.specs.State.{State, is_down, used_by, number_to_start, start_with, after_bump_load, after_call_began, step_with, evict_with, recover_with, after_act, after_acts}

by_used : (b : Bool) (w : State) (client : Client) (number : ℕ) (call : Call)
    → (if b then after_bump_load w else after_call_began w client number call).shape ≡ w.shape
by_used true w client number call = refl
by_used false w client number call = refl

by_number : (w : State) (client : Client) (call : Call) (r : Result ℕ Refusal) → (start_with false w client call r).shape ≡ w.shape
by_number w client call (Err refusal) = refl
by_number w client call (Ok number) = by_used (used_by w client == w.shape.records) w client number call

by_waiting : (w : State) (client : Client) (r : Result UnderWay Refusal) → (step_with false w client r).shape ≡ w.shape
by_waiting w client (Err refusal) = refl
by_waiting w client (Ok u) = refl

by_place : (w : State) (word : ℕ) (place : Option Place) → (evict_with w word place).shape ≡ w.shape
by_place w word None = refl
by_place w word (Some place) = refl

by_recovery : (w : State) (r : Option _) → (recover_with false w r).shape ≡ w.shape
by_recovery w None = refl
by_recovery w (Some r) = refl

pub after_act_shape : (w : State) (act : Act ℕ) → (after_act w act).shape ≡ w.shape
after_act_shape w (Start client number call) = by_number w client call (number_to_start w client number call)
after_act_shape w (Step client) = by_waiting w client (waiting_result (is_down w) (slice_get w.calls client.0))
after_act_shape w (Evict word) = by_place w word (place_at w.shape word)
after_act_shape w Crash = refl
after_act_shape w Recover = by_recovery w w.recovery

pub after_acts_shape : (w : State) (acts : List (Act ℕ)) → (after_acts w acts).shape ≡ w.shape
after_acts_shape w [] = refl
after_acts_shape w (act ∷ acts) = after_acts_shape (after_act w act) acts ∙ after_act_shape w act
