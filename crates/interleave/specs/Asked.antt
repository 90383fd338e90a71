-- What was asked for through the ports of a world's clients and of its recovery: each that waits to complete a flush
-- has asked for it.
use Rattle.std.specs.Prelude.{◌≡◌, ℕ, zero, suc, Bool, false, List, Option, Some, None, Result, Ok, Err, slice_get, slice_index_or, if◌then◌else◌}
use Rattle.words.specs.declared.call.Client.{Client}
use Rattle.words.specs.declared.limits.TheConstants.{RECOVERY_PORT}
use Rattle.words.specs.declared.refusal.Refusal.{Refusal}
use Rattle.words.specs.declared.call.Reply.{Reply}
use Rattle.persist.specs.Memory.{Lent, MemoryState, Request, Words, asked_through, seen_whole}
use Rattle.persist.specs.Noted.{answer_in}
use Rattle.persist.specs.declared.access.Noted.{Noted}
use Rattle.arena.specs.Shape.{Shape}
use Rattle.stepper.specs.Step.{IsAskedFor, lent_after_one}
use Rattle.helping.specs.Table.{access_of}
use Rattle.recover.specs.Table.{access_of as recovery_access}
use Rattle.recover.specs.declared.recovery.Recovery.{Recovery}
use Rattle.protocol.specs.declared.UnderWay.{UnderWay}
use Rattle.interleave.specs.Calls.{is_no_memory, waiting_result}
use Rattle.interleave.specs.Core.{CoreState, state_of}
use Rattle.interleave.specs.Holds.{Holds}
use Rattle.interleave.specs.State.{State, after_alone, is_down}

-- a call's port has what its next step completes
abbrev pub IfCallAsked : Shape → Option UnderWay → Request → Type 0
IfCallAsked s None request = Unit {0}
IfCallAsked s (Some u) request = IsAskedFor s (access_of s.kind u.op) request

-- and so has recovery's
abbrev pub IfRecoveryAsked : Shape → Option Recovery → Request → Type 0
IfRecoveryAsked s None request = Unit {0}
IfRecoveryAsked s (Some r) request = IsAskedFor s (recovery_access s.kind r.at) request

-- each client has a port of its own, and recovery one
pub record AreAsked (s : Shape) (calls : List (Option UnderWay)) (recovery : Option Recovery) (requests : ℕ → Request)
    : Type 0 where
  pub of_calls : (t : ℕ) → IfCallAsked s (slice_index_or calls t None) (requests t)
  pub of_recovery : IfRecoveryAsked s recovery (requests RECOVERY_PORT)

-- what ports of a memory ask for, as the whole memory shows it
abbrev pub requests_of : MemoryState → ℕ → Request
requests_of m port = seen_whole (asked_through m port)

-- a world over a memory holds, and what waits to complete a flush has asked for it
pub record HoldsOver (c : CoreState) (m : MemoryState) : Type 0 where
  pub world : Holds (state_of c m.words)
  pub asked : AreAsked c.shape c.calls c.trace.recovery (requests_of m)

-- what a client's step makes of its port
abbrev pub lent_with : Bool → State → Lent → Result UnderWay Refusal → Lent
lent_with full w lent (Err refusal) = lent
lent_with full w lent (Ok u) = if full then lent else lent_after_one w.shape (access_of w.shape.kind u.op) lent

abbrev pub lent_after_step : Bool → State → Client → Lent → Lent
lent_after_step full w client lent = lent_with full w lent (waiting_result (is_down w) (slice_get w.calls client.0))

-- so many steps alone
abbrev pub lent_after_alone : ℕ → State → Client → Lent → Lent
lent_after_alone zero w client lent = lent
lent_after_alone (suc steps) w client lent =
    lent_after_step false (after_alone steps w client) client (lent_after_alone steps w client lent)

-- what a step of recovery makes of its port
abbrev pub recovery_lent_with : Bool → State → Lent → Option Recovery → Lent
recovery_lent_with full w lent None = lent
recovery_lent_with full w lent (Some r) =
    if full then lent else lent_after_one w.shape (recovery_access w.shape.kind r.at) lent

abbrev pub lent_after_recover : Bool → State → Lent → Lent
lent_after_recover full w lent = recovery_lent_with full w lent w.recovery

-- the same of a core over words: of a step that answered so, of so many steps alone, and of recovery's step
abbrev pub lent_once_stepped : {X : Type 0} → Result X Refusal → Client → CoreState → Words → Lent → Lent
lent_once_stepped result client c ws lent = lent_after_step (is_no_memory result) (state_of c ws) client lent

abbrev pub lent_once_answered : ℕ → Client → CoreState → Words → Lent → Lent
lent_once_answered steps client c ws lent = lent_after_alone steps (state_of c ws) client lent

abbrev pub lent_once_recovered : {X : Type 0} → Result X Refusal → CoreState → Words → Lent → Lent
lent_once_recovered result c ws lent = lent_after_recover (is_no_memory result) (state_of c ws) lent

-- the same where the step also answers the change that it made
abbrev pub lent_by_noted_step : {X : Type 0} → Result (Noted X) Refusal → Client → CoreState → Words → Lent → Lent
lent_by_noted_step result client c ws lent = lent_once_stepped (answer_in result) client c ws lent

abbrev pub lent_by_noted_recovery : {X : Type 0} → Result (Noted X) Refusal → CoreState → Words → Lent → Lent
lent_by_noted_recovery result c ws lent = lent_once_recovered (answer_in result) c ws lent

-- the port is lent so once the call has gone on alone to this answer, in so many steps
abbrev pub IsLentAlone : Client → CoreState → Words → Lent → Lent → (Reply × ℕ) → Type 0
IsLentAlone client c ws lent left answer = left ≡ lent_once_answered answer.1 client c ws lent
