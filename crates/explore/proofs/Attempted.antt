-- A world that follows commands is that of all that they attempt.
use Rattle.std.proofs.Common.{◌≡◌, refl, sym, ap, ◌∙◌, ℕ, zero, suc, Bool, true, false, List, [], ◌∷◌, ◌++◌, replicate}
use Rattle.std.specs.Prelude.{Option, None, Some, Result, Ok, Err, is_ok, slice_get}
use Rattle.std.specs.List.{flat_map}
use Rattle.std.proofs.lemmas.Option.{slice_get_within}
use Rattle.words.specs.declared.call.Client.{Client}
use Rattle.words.specs.declared.call.Reply.{Reply}
use Rattle.words.specs.declared.refusal.Refusal.{Refusal}
use Rattle.arena.specs.Shape.{Shape}
use Rattle.stepper.specs.declared.resume.After.{After}
use Rattle.stepper.specs.declared.resume.After.TheVariants.{More, Done}
use Rattle.words.specs.declared.told.Told.{Told}
use Rattle.protocol.specs.Machine.{next_of, next_recovery, with_next, recovery_left}
use Rattle.protocol.specs.declared.UnderWay.{UnderWay}
use Rattle.protocol.specs.declared.acts.Act.{Act}
use Rattle.protocol.specs.declared.acts.Act.TheVariants.{Step as step_act, Recover as recover_act}
use Rattle.interleave.specs.Calls.{answer_of, waiting_result}
use Rattle.interleave.specs.State.{State, after_acts, after_recover, after_step, is_accepted, is_down, is_ready}
use Rattle.interleave.specs.State.{machine, recover_result, recover_result_with, recover_with, step_result}
use Rattle.interleave.specs.State.{step_result_with, step_with}
use Rattle.interleave.proofs.Facts.{get_set}
use Rattle.explore.specs.Acts.{attempts_of, IsSteady}
use Rattle.playing.specs.Play.{Play, after_command, after_commands, after_recovery, after_steps, most_alone}
use Rattle.playing.specs.Play.{most_recovery, play_after_recovery_step, play_after_step, play_then, recover_then}
use Rattle.grammar.specs.declared.commands.Command.{Command}
use Rattle.grammar.specs.declared.commands.Command.TheVariants.{Enq, NumberedEnq, Deq, NumberedDeq, Step, End, Evict}
use Rattle.grammar.specs.declared.commands.Command.TheVariants.{Crash, Recover, RecoverBy, Content, Order, Again}
use Rattle.explore.proofs.InOrder.{after_more, stays}
use Rattle.playing.proofs.Facts.{recovery_refused, refused_same as step_refused}
use Rattle.explore.proofs.Shapes.{after_acts_shape}

-- a step that is refused changes nothing, nor does one of recovery
steady_step : (client : Client) → IsSteady (step_act client)
steady_step client w refused = go (step_result false w client) refl
  where
    go : (r : Result (Option Reply) Refusal) → step_result false w client ≡ r → after_step false w client ≡ w
    go (Err refusal) e = step_refused w client refusal e
    go (Ok answer) e = let same : is_ok (step_result false w client) ≡ true = ap is_ok e in absurd (cc (same, refused))

steady_recovery : IsSteady recover_act
steady_recovery w refused = go (recover_result false w) refl
  where
    go : (r : Result Bool Refusal) → recover_result false w ≡ r → after_recover false w ≡ w
    go (Err refusal) e = recovery_refused w refusal e
    go (Ok ready) e = let same : is_ok (recover_result false w) ≡ true = ap is_ok e in absurd (cc (same, refused))

-- a client whose call was answered has none
module _ (w : State) (client : Client) (reply : Reply) where
  answered_by : (u : UnderWay) (a : After _ Reply) → next_of (machine w) u ≡ a → answer_of a ≡ Some reply → with_next u a ≡ None
  answered_by u (More op) e is = absurd (cc (is))
  answered_by u (Done r) e is = refl

  idle_after : (down : Bool) (o : Option (Option UnderWay)) → is_down w ≡ down → slice_get w.calls client.0 ≡ o
      → step_result_with false w (waiting_result down o) ≡ Ok (Some reply)
      → is_accepted (step_with false w client (waiting_result down o)) (step_act client) ≡ false
  idle_after down None up here is = absurd (cc (is))
  idle_after true (Some call) up here is = absurd (cc (is))
  idle_after false (Some None) up here is = absurd (cc (is))
  idle_after false (Some (Some u)) up here is =
      let answer : answer_of (next_of (machine w) u) ≡ Some reply = cc (is) in
      let v : State = step_with false w client (Ok u) in
      let there : slice_get v.calls client.0 ≡ Some None =
      get_set w.calls client.0 (with_next u (next_of (machine w) u)) (slice_get_within w.calls client.0 (Some u) here)
      ∙ ap (λ (o : Option UnderWay). Some o) (answered_by u (next_of (machine w) u) refl answer) in
      ap (λ (d : Bool). is_ok (step_result_with false v (waiting_result d (slice_get v.calls client.0)))) up
      ∙ ap (λ (o : Option (Option UnderWay)). is_ok (step_result_with false v (waiting_result false o))) there

  answered_is_idle : step_result false w client ≡ Ok (Some reply) → is_accepted (after_step false w client) (step_act client) ≡ false
  answered_is_idle is = idle_after (is_down w) (slice_get w.calls client.0) refl refl is

-- a queue that recovered is ready
ready_after : (w : State) (o : Option _) → w.recovery ≡ o → recover_result_with false w o ≡ Ok true
    → is_accepted (recover_with false w o) recover_act ≡ false
ready_after w None down is = absurd (cc (is))
ready_after w (Some r) down is = go (next_recovery (machine w) r) refl (cc (is))
  where
    go : (a : After _ (List Told)) → next_recovery (machine w) r ≡ a → is_ready (next_recovery (machine w) r) ≡ true
        → is_accepted (recover_with false w (Some r)) recover_act ≡ false
    go (More next) e ready = let not : is_ready (next_recovery (machine w) r) ≡ false = ap is_ready e in absurd (cc (not, ready))
    go (Done told) e ready =
        let v : State = recover_with false w (Some r) in
        ap (λ (a : After _ (List Told)). is_ok (recover_result_with false v (recovery_left a))) e

-- steps of a call: those past its answer are refused
steps_then : (most : ℕ) (client : Client) (play : Play)
    → (after_steps client most (play_after_step play client)).world
    ≡ after_acts (after_step false play.world client) (replicate most (step_act client))
    → (after_steps client (suc most) play).world ≡ after_acts play.world (replicate (suc most) (step_act client))
steps_then most client play rest = go (step_result false play.world client) refl
  where
    going : Play
    going = after_steps client most (play_after_step play client)

    go : (r : Result (Option Reply) Refusal) → step_result false play.world client ≡ r
        → (play_then r (after_steps client most (play_after_step play client)) (play_after_step play client) play).world
        ≡ after_acts (after_step false play.world client) (replicate most (step_act client))
    go (Ok None) e = rest
    go (Ok (Some reply)) e =
        sym (stays most (after_step false play.world client) (step_act client) (steady_step client) (answered_is_idle play.world client reply e))
    go (Err refusal) e =
        let same : after_step false play.world client ≡ play.world = step_refused play.world client refusal e in
        let refused : is_accepted play.world (step_act client) ≡ false = ap is_ok e in
        sym (stays most play.world (step_act client) (steady_step client) refused)
        ∙ ap (λ (v : State). after_acts v (replicate most (step_act client))) (sym same)

steps_attempted : (most : ℕ) (client : Client) (play : Play)
    → (after_steps client most play).world ≡ after_acts play.world (replicate most (step_act client))
steps_attempted zero client play = refl
steps_attempted (suc most) client play = steps_then most client play (steps_attempted most client (play_after_step play client))

-- steps of recovery: those once the queue is ready are refused
recovery_then : (most : ℕ) (play : Play)
    → (after_recovery most (play_after_recovery_step play)).world
    ≡ after_acts (after_recover false play.world) (replicate most recover_act)
    → (after_recovery (suc most) play).world ≡ after_acts play.world (replicate (suc most) recover_act)
recovery_then most play rest = go (recover_result false play.world) refl
  where
    go : (r : Result Bool Refusal) → recover_result false play.world ≡ r
        → (recover_then r (after_recovery most (play_after_recovery_step play)) (play_after_recovery_step play) (λ refusal. play)).world
        ≡ after_acts (after_recover false play.world) (replicate most recover_act)
    go (Ok false) e = rest
    go (Ok true) e =
        sym (stays most (after_recover false play.world) recover_act steady_recovery (ready_after play.world play.world.recovery refl e))
    go (Err refusal) e =
        let same : after_recover false play.world ≡ play.world = recovery_refused play.world refusal e in
        let refused : is_accepted play.world recover_act ≡ false = ap is_ok e in
        sym (stays most play.world recover_act steady_recovery refused)
        ∙ ap (λ (v : State). after_acts v (replicate most recover_act)) (sym same)

recovery_attempted : (most : ℕ) (play : Play)
    → (after_recovery most play).world ≡ after_acts play.world (replicate most recover_act)
recovery_attempted zero play = refl
recovery_attempted (suc most) play = recovery_then most play (recovery_attempted most (play_after_recovery_step play))

-- a command
command_attempted : (play : Play) (command : Command)
    → (after_command play command).world ≡ after_acts play.world (attempts_of play.world.shape command)
unfolding most_recovery
command_attempted play (Enq client value) = refl
command_attempted play (NumberedEnq client number value) = refl
command_attempted play (Deq client) = refl
command_attempted play (NumberedDeq client number) = refl
command_attempted play (Step client most) = steps_attempted most client play
command_attempted play (End client) = steps_attempted most_alone client play
command_attempted play (Evict word) = refl
command_attempted play Crash = refl
command_attempted play Recover = recovery_attempted (most_recovery play.world) play
command_attempted play (RecoverBy most) = recovery_attempted most play
command_attempted play Content = refl
command_attempted play Order = refl
command_attempted play Again = refl

-- and commands, one after the other
pub commands_attempted : (commands : List Command) (play : Play) (s : Shape) → play.world.shape ≡ s
    → (after_commands play commands).world ≡ after_acts play.world (flat_map (attempts_of s) commands)
commands_attempted [] play s shape = refl
commands_attempted (command ∷ commands) play s shape =
    let here : List (Act ℕ) = attempts_of play.world.shape command in
    let rest : List (Act ℕ) = flat_map (attempts_of s) commands in
    let made = command_attempted play command in
    let stays_so : (after_command play command).world.shape ≡ s = ap (λ (w : State). w.shape) made ∙ after_acts_shape play.world here ∙ shape in
    commands_attempted commands (after_command play command) s stays_so
    ∙ ap (λ (w : State). after_acts w rest) made ∙ sym (after_more play.world here rest)
    ∙ ap (λ (t : Shape). after_acts play.world (attempts_of t command ++ rest)) shape
