-- What a step of a client's call answers, and what is kept of that.
use Rattle.std.specs.Prelude.{ℕ, IfOk, IfSome, List, Option, Some, Result}
use Rattle.words.specs.declared.call.Client.{Client}
use Rattle.words.specs.declared.call.Reply.{Reply}
use Rattle.words.specs.declared.refusal.Refusal.{Refusal}
use Rattle.words.specs.declared.told.Verdict.{Verdict}
use Rattle.interleave.specs.Verdicts.{taken_as}
use Rattle.named.specs.Brokers.{world_at}
use Rattle.session.specs.Keeping.{IsKeptNow}
use Rattle.session.specs.Promises.{IsReplyIfNumbered}
use Rattle.session.specs.Requests.{call_number, last_after}
use Rattle.session.specs.Sessions.{Sessioned, kept_in}

-- the number of the call that the client has under way in the queue of a slot, if it has one in a log queue
abbrev pub number_at : Sessioned → ℕ → Client → Option ℕ
number_at s slot client = call_number (world_at s.broker slot) client

-- where the call answered, and has a number, the answer is the reply of that number
abbrev pub IsReplyOfCall : Sessioned → Sessioned → ℕ → Client → Result (Option Reply) Refusal → Type 0
IsReplyOfCall old new slot client result =
    IfOk result (λ answer. IfSome answer (IsReplyIfNumbered new slot client (number_at old slot client)))

-- a call of this number may have answered: then that is kept in this place. All else that was kept stays
abbrev pub IsHeardNow
    : (old new : List (List (Option Verdict))) → ℕ → ℕ → Option ℕ → Result (Option Reply) Refusal → Type 0
IsHeardNow old new slot client number result =
    IsKeptNow old new slot client (last_after number result (kept_in old slot client))

-- so it is of the client's call
abbrev pub IsAnswerKept : Sessioned → Sessioned → ℕ → Client → Result (Option Reply) Refusal → Type 0
IsAnswerKept old new slot client result =
    IsHeardNow old.kept new.kept slot client.0 (number_at old slot client) result

-- the reply of the client's number is its last verdict, and elsewhere what was kept stays
abbrev pub IsReplyKept : Sessioned → Sessioned → ℕ → Client → ℕ → Reply → Type 0
IsReplyKept old new slot client number reply =
    IsKeptNow old.kept new.kept slot client.0 (Some (taken_as number reply))
