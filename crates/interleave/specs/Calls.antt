-- Calls under way.
use Rattle.std.specs.Prelude.{◌≡◌, Bool, true, false, List, Option, Some, None, Result, Ok, Err, IfSome, slice_get, slice_index_or, slice_set}
use Rattle.words.specs.declared.call.Client.{Client}
use Rattle.words.specs.declared.call.Reply.{Reply}
use Rattle.words.specs.declared.refusal.Refusal.{Refusal}
use Rattle.words.specs.declared.refusal.Refusal.TheVariants.{NoClient, NotReady, Busy, Idle, NoMemory}
use Rattle.stepper.specs.declared.resume.After.{After}
use Rattle.stepper.specs.declared.resume.After.TheVariants.{More, Done}
use Rattle.helping.specs.Looks.{found_no_node}
use Rattle.helping.specs.declared.op.Op.{Op}
use Rattle.protocol.specs.Machine.{with_next}
use Rattle.protocol.specs.declared.UnderWay.{UnderWay}

-- what a step answers
abbrev pub answer_of : After Op Reply → Option Reply
answer_of (More op) = None
answer_of (Done reply) = Some reply

-- whether a client may start a call, where recovery is under way (`down`) or not
abbrev pub idle_result : Bool → Option (Option UnderWay) → Result Unit Refusal
idle_result down None = Err NoClient
idle_result true (Some call) = Err NotReady
idle_result false (Some None) = Ok tt
idle_result false (Some (Some u)) = Err Busy

-- the call that a client has under way
abbrev pub waiting_result : Bool → Option (Option UnderWay) → Result UnderWay Refusal
waiting_result down None = Err NoClient
waiting_result true (Some call) = Err NotReady
waiting_result false (Some None) = Err Idle
waiting_result false (Some (Some u)) = Ok u

-- what is so of the call that a client has under way
abbrev pub OfCall : List (Option UnderWay) → Client → (UnderWay → Type 0) → Type 0
OfCall calls client P = IfSome (slice_index_or calls client.0 None) P

-- the client's call, if it has one, has come to what follows its step
abbrev pub GoesOnTo : Client → After Op Reply → List (Option UnderWay) → List (Option UnderWay) → Type 0
GoesOnTo client after old new =
    (u : UnderWay) → slice_get old client.0 ≡ Some (Some u) → new ≡ slice_set old client.0 (with_next u after)

-- whether memory was refused
abbrev pub is_no_memory : {X : Type 0} → Result X Refusal → Bool
is_no_memory (Err NoMemory) = true
is_no_memory _ = false

-- whether a step went on with no node found
abbrev pub went_on_to_nothing : After Op Reply → Bool
went_on_to_nothing (More op) = found_no_node op
went_on_to_nothing (Done reply) = false
