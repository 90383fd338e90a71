-- Which answers a request may have.
use Rattle.std.specs.Prelude.{◌≤◌, ℕ, Bool, true, false, None, Some}
use Rattle.words.specs.declared.refusal.Refusal.TheVariants.{AlreadyReady, BadName, Busy, NoClient, NoMemory, NoQueue, NoRoom, NotReady}
use Rattle.wire.specs.declared.answer.Answer.{Answer}
use Rattle.wire.specs.declared.answer.Answer.TheVariants.{Crashed, Created, Interrupted, Queues, Ready, Refused, Reply, Stopping, Told as told_answer, Unfinished}
use Rattle.wire.specs.declared.request.Request.{Request}
use Rattle.wire.specs.declared.request.Request.TheVariants.{Create, Crash, List as list_request, Put, Recover, Stop, Take, Told}
use Rattle.workers.specs.Refusals.{is_call_refusal, is_creation_refusal, is_told_refusal}

-- whether a desk, which looks for the client's seat first, may answer so a put or a take in a queue of no name
abbrev pub is_nameless_call_answer : Answer → Bool
is_nameless_call_answer (Refused NoClient) = true
is_nameless_call_answer (Refused Busy) = true
is_nameless_call_answer (Refused NotReady) = true
is_nameless_call_answer (Refused NoQueue) = true
is_nameless_call_answer _ = false

-- whether what a client was last told in a queue of no name may be answered so
abbrev pub is_nameless_told_answer : Answer → Bool
is_nameless_told_answer (Refused refusal) = is_told_refusal refusal
is_nameless_told_answer _ = false

-- whether it was refused as no name
abbrev pub is_bad_name : Answer → Bool
is_bad_name (Refused BadName) = true
is_bad_name _ = false

-- whether a creation may be answered so
abbrev pub is_creation_answer : Answer → Bool
is_creation_answer (Created slot) = true
is_creation_answer Interrupted = true
is_creation_answer (Refused refusal) = is_creation_refusal refusal
is_creation_answer _ = false

-- whether a list of the queues may be answered so
abbrev pub is_list_answer : Answer → Bool
is_list_answer (Queues places) = true
is_list_answer (Refused NotReady) = true
is_list_answer _ = false

-- whether a put or a take may be answered so
abbrev pub is_call_answer : Answer → Bool
is_call_answer (Reply reply) = true
is_call_answer Interrupted = true
is_call_answer Unfinished = true
is_call_answer (Refused refusal) = is_call_refusal refusal
is_call_answer _ = false

-- whether a put or a take found no room
abbrev pub is_no_room : Answer → Bool
is_no_room (Refused NoRoom) = true
is_no_room _ = false

-- whether what a client was last told may be answered so
abbrev pub is_told_answer : Answer → Bool
is_told_answer (told_answer told) = true
is_told_answer (Refused refusal) = is_told_refusal refusal
is_told_answer _ = false

-- whether a crash may be answered so
abbrev pub is_crash_answer : Answer → Bool
is_crash_answer Crashed = true
is_crash_answer (Refused NoMemory) = true
is_crash_answer _ = false

-- whether a recovery may be answered so
abbrev pub is_recovery_answer : Answer → Bool
is_recovery_answer Ready = true
is_recovery_answer (Refused AlreadyReady) = true
is_recovery_answer (Refused NoMemory) = true
is_recovery_answer _ = false

-- whether a stop may be answered so
abbrev pub is_stop_answer : Answer → Bool
is_stop_answer Stopping = true
is_stop_answer _ = false

-- whether the request may be answered so; where a queue has no name, it is refused
abbrev pub is_answer_to : Request → Answer → Bool
is_answer_to (Create None kind) answer = is_bad_name answer
is_answer_to (Create (Some name) kind) answer = is_creation_answer answer
is_answer_to list_request answer = is_list_answer answer
is_answer_to (Put client None value number) answer = is_nameless_call_answer answer
is_answer_to (Put client (Some name) value number) answer = is_call_answer answer
is_answer_to (Take client None number) answer = is_nameless_call_answer answer
is_answer_to (Take client (Some name) number) answer = is_call_answer answer
is_answer_to (Told client None) answer = is_nameless_told_answer answer
is_answer_to (Told client (Some name)) answer = is_told_answer answer
is_answer_to Crash answer = is_crash_answer answer
is_answer_to Recover answer = is_recovery_answer answer
is_answer_to Stop answer = is_stop_answer answer

-- the request names a client that there is not, where there are so many clients
abbrev pub NamesNoClient : ℕ → Request → Type 0
NamesNoClient clients (Put client queue value number) = clients ≤ client
NamesNoClient clients (Take client queue number) = clients ≤ client
NamesNoClient clients (Told client queue) = clients ≤ client
NamesNoClient clients _ = ⊥
