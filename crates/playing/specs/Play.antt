-- A world that follows commands.
use Rattle.std.specs.Prelude.{◌≡◌, ℕ, Bool, false, true, zero, suc, List, [], ◌∷◌, Option, Some, None, Result, Ok, Err, replicate, slice_set}
use Rattle.words.specs.declared.call.Call.{Call}
use Rattle.words.specs.declared.call.Call.TheVariants.{Enq as enq_call, Deq as deq_call}
use Rattle.words.specs.declared.call.Client.{Client}
use Rattle.words.specs.declared.call.Reply.{Reply}
use Rattle.words.specs.declared.limits.TheConstants.{MAX_STEPS_ALONE}
use Rattle.words.specs.declared.refusal.Refusal.{Refusal}
use Rattle.arena.specs.Shape.{Shape}
use Rattle.interleave.specs.State.{State, new_world, after_start, start_result, after_step, step_result, after_evict, after_crash, after_recover, recover_result, most_to_ready}
use Rattle.playing.specs.Steps.{call_counted, recovery_counted}
use Rattle.grammar.specs.declared.commands.Command.{Command}
use Rattle.grammar.specs.declared.commands.Command.TheVariants.{Enq, NumberedEnq, Deq, NumberedDeq, Step, End, Evict, Crash, Recover, RecoverBy, Content, Order, Again}
use Rattle.playing.specs.declared.steps.TheConstants.{CLIENT_NUMBERS}
use Rattle.playing.specs.declared.steps.Steps.{Steps}

-- a world, and how many steps each client's call has made, and recovery
pub record Play : Type 0 where
  pub world : State
  pub steps : Steps

-- a call that was started has made no step
abbrev pub steps_with : Client → Steps → Result Unit Refusal → Steps
steps_with client steps (Ok u) = record steps { calls = slice_set steps.calls client.0 0 }
steps_with client steps (Err refusal) = steps

abbrev pub play_after_start : Play → Client → ℕ → Call → Play
play_after_start play client number call = record {
  world = after_start false play.world client number call;
  steps = steps_with client play.steps (start_result false play.world client number call);
}

-- a step of a client's call
abbrev pub play_after_step : Play → Client → Play
play_after_step play client = record {
  world = after_step false play.world client;
  steps = call_counted 1 client play.steps;
}

-- up to so many steps: they end early at the one that answers, or that is refused
abbrev pub play_then : {A : Type 0} → Result (Option Reply) Refusal → A → A → A → A
play_then (Ok None) going answered refused = going
play_then (Ok (Some reply)) going answered refused = answered
play_then (Err refusal) going answered refused = refused

abbrev pub after_steps : Client → ℕ → Play → Play
after_steps client zero play = play
after_steps client (suc most) play =
    play_then (step_result false play.world client)
    (after_steps client most (play_after_step play client)) (play_after_step play client) play

-- an eviction
abbrev pub after_eviction : Play → ℕ → Play
after_eviction play word = record { world = after_evict play.world word; steps = play.steps }

-- a crash, and a step of recovery
abbrev pub play_after_crash : Play → Play
play_after_crash play = record { world = after_crash false play.world; steps = record play.steps { recovery = 0 } }

abbrev pub play_after_recovery_step : Play → Play
play_after_recovery_step play = record { world = after_recover false play.world; steps = recovery_counted play.steps }

-- recovery goes on by up to so many steps: they end early at the one after which the queue is ready, or that is refused
abbrev pub recover_then : {A : Type 0} → Result Bool Refusal → A → A → (Refusal → A) → A
recover_then (Ok false) going ready refused = going
recover_then (Ok true) going ready refused = ready
recover_then (Err refusal) going ready refused = refused refusal

abbrev pub after_recovery : ℕ → Play → Play
after_recovery zero play = play
after_recovery (suc most) play =
    recover_then (recover_result false play.world)
    (after_recovery most (play_after_recovery_step play)) (play_after_recovery_step play) (λ refusal. play)

-- recovery ends at its next step, however many more it was to make, and this is what it leaves
abbrev pub EndsAtNextStep : Play → Play → Type 0
EndsAtNextStep old new = (more : ℕ) → new ≡ after_recovery (suc more) old

-- no recovery needs more steps than these
unfoldable pub most_recovery : State → ℕ
most_recovery w = most_to_ready w.shape

-- no call that goes on alone needs more steps than these
unfoldable pub most_alone : ℕ
most_alone = MAX_STEPS_ALONE

-- what a command does: a call on a durable queue has no number
abbrev pub after_command : Play → Command → Play
after_command play (Enq client value) = play_after_start play client 0 (enq_call value)
after_command play (NumberedEnq client number value) = play_after_start play client number (enq_call value)
after_command play (Deq client) = play_after_start play client 0 deq_call
after_command play (NumberedDeq client number) = play_after_start play client number deq_call
after_command play (Step client most) = after_steps client most play
after_command play (End client) = after_steps client most_alone play
after_command play (Evict word) = after_eviction play word
after_command play Crash = play_after_crash play
after_command play Recover = after_recovery (most_recovery play.world) play
after_command play (RecoverBy most) = after_recovery most play
after_command play Content = play
after_command play Order = play
after_command play Again = play

-- a new world, in which no step was made
abbrev pub new_play : Shape → Play
new_play s = record { world = new_world s; steps = record { calls = replicate CLIENT_NUMBERS 0; recovery = 0 } }

-- what some commands do, one after the other
abbrev pub after_commands : Play → List Command → Play
after_commands play [] = play
after_commands play (command ∷ commands) = after_commands (after_command play command) commands
