-- The rules of acts: what an act makes of a world and what it answers, and what it is to be made or refused by a rule.
use Rattle.std.specs.Prelude.{◌≡◌, ◌≤◌, ◌+◌, ◌⊎◌, ℕ, Bool, true, Option, Result, Err, IfOk, IfErr, slice_get}
use Rattle.words.specs.declared.call.Call.{Call}
use Rattle.words.specs.declared.call.Client.{Client}
use Rattle.words.specs.declared.call.Reply.{Reply}
use Rattle.words.specs.declared.limits.TheConstants.{MAX_STEPS_ALONE}
use Rattle.words.specs.declared.refusal.Refusal.{Refusal}
use Rattle.words.specs.declared.refusal.Refusal.TheVariants.{NoMemory}
use Rattle.persist.specs.Memory.{Words}
use Rattle.persist.specs.declared.access.Change.{Change}
use Rattle.protocol.specs.declared.UnderWay.{UnderWay}
use Rattle.interleave.specs.Calls.{is_no_memory, waiting_result}
use Rattle.interleave.specs.Core.{CoreState, roomy_over}
use Rattle.interleave.specs.Holds.{IsExplained}
use Rattle.interleave.specs.Standing.{GoesOn}
use Rattle.interleave.specs.State.{State, after_start, start_result, after_step, step_result, after_evict, evict_result, after_crash, crash_result, after_recover, recover_result, after_alone, is_down, IsAnsweredAlone, IsKeptSound}
use Rattle.interleave.specs.Trace.{Roomy}

-- what an act leaves and what it answers, where memory is refused to it (`full`) or not
pub record Rule (A : Type 0) : Type 0 where
  pub leaves : Bool → State → State
  pub answers : Bool → State → Result A Refusal

abbrev pub starting : Client → ℕ → Call → Rule Unit
starting client number call = record {
  leaves = λ full w. after_start full w client number call;
  answers = λ full w. start_result full w client number call;
}

abbrev pub stepping : Client → Rule (Option Reply)
stepping client = record {
  leaves = λ full w. after_step full w client;
  answers = λ full w. step_result full w client;
}

abbrev pub evicting : ℕ → Rule (Option Change)
evicting word = record { leaves = λ full w. after_evict w word; answers = λ full w. evict_result w word }

abbrev pub crashing : Rule Unit
crashing = record { leaves = after_crash; answers = λ full w. crash_result full }

abbrev pub recovering : Rule Bool
recovering = record { leaves = after_recover; answers = recover_result }

-- the act was made or refused by its rule, and for want of memory only where there was no room. It used up the room of
-- one act at most, and none where it was refused
pub record IsByRule {A : Type 0} (rule : Rule A) (old : Roomy) (result : Result A Refusal) (new : Roomy) : Type 0 where
  pub leaves : new.now ≡ rule.leaves (is_no_memory result) old.now
  pub answers : result ≡ rule.answers (is_no_memory result) old.now
  pub full : is_no_memory result ≡ true → old.room ≡ 0
  pub room : old.room ≤ new.room + 1
  pub spare : IfErr result (λ e. old.room ≤ new.room)

-- the call that the client has under way, or why it cannot go on
abbrev pub waiting_in : State → Client → Result UnderWay Refusal
waiting_in w client = waiting_result (is_down w) (slice_get w.calls client.0)

-- a client's call went on alone until it answered, in few steps; or it cannot go on, or there was no room, and then
-- nothing changed
pub record IsByAlone (client : Client) (old : Roomy) (result : Result (Reply × ℕ) Refusal) (new : Roomy) : Type 0 where
  pub refused : (refusal : Refusal) → waiting_in old.now client ≡ Err refusal → result ≡ Err refusal
  pub errors : IfErr result (λ e. (e ≡ NoMemory) ⊎ (waiting_in old.now client ≡ Err e))
  pub full : is_no_memory result ≡ true → old.room ≡ 0
  pub same : IfErr result (λ e. new.now ≡ old.now)
  pub steps : IfOk result (λ answer. answer.1 ≤ MAX_STEPS_ALONE)
  pub answer : IfOk result (λ answer. IsAnsweredAlone old.now client answer.1 answer.0)
  pub world : IfOk result (λ answer. new.now ≡ after_alone answer.1 old.now client)
  pub room : old.room ≤ new.room + 1
  pub spare : IfErr result (λ e. old.room ≤ new.room)

-- the same of a core: over the first words it was as before, and over the last it is as now
abbrev pub IsByRuleOver : {A : Type 0} → Rule A → CoreState → Words → Result A Refusal → CoreState → Words → Type 0
IsByRuleOver rule old ws result new left = IsByRule rule (roomy_over old ws) result (roomy_over new left)

abbrev pub IsByAloneOver : Client → CoreState → Words → Result (Reply × ℕ) Refusal → CoreState → Words → Type 0
IsByAloneOver client old ws result new left = IsByAlone client (roomy_over old ws) result (roomy_over new left)

-- a start of a client's call, a step of it, and a step of recovery were made or refused so
abbrev pub IsByStartOver : Client → ℕ → Call → CoreState → Words → Result Unit Refusal → CoreState → Words → Type 0
IsByStartOver client number call = IsByRuleOver (starting client number call)

abbrev pub IsByStepOver : Client → CoreState → Words → Result (Option Reply) Refusal → CoreState → Words → Type 0
IsByStepOver client = IsByRuleOver (stepping client)

abbrev pub IsByRecoverOver : CoreState → Words → Result Bool Refusal → CoreState → Words → Type 0
IsByRecoverOver = IsByRuleOver recovering

-- the client's call is answered within so many steps, where it goes on alone
pub record IsAnsweredWithin (most : ℕ) (w : State) (client : Client) : Type 0 where
  pub steps : ℕ
  pub reply : Reply
  pub few : steps ≤ most
  pub answered : IsAnsweredAlone w client steps reply

-- nothing is taken back, the order explains the history, and recovery can begin with the kept words
pub record GoesOnExplained (old new : State) : Type 0 where
  pub goes_on : GoesOn old new
  pub explained : IsExplained new
  pub sound : IsKeptSound new
