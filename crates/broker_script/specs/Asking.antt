-- What a client asks the session, and what it is answered.
use Rattle.std.specs.Prelude.{◌≡◌, ◌≢◌, ℕ, List, [], ◌∷◌, Option, Some, None, Result, Ok, Err, slice_get}
use Rattle.words.specs.declared.call.Call.{Call}
use Rattle.words.specs.declared.call.Client.{Client}
use Rattle.words.specs.declared.call.Reply.{Reply}
use Rattle.words.specs.declared.refusal.Refusal.{Refusal}
use Rattle.words.specs.declared.refusal.Refusal.TheVariants.{NoMemory}
use Rattle.arena.specs.declared.broker.SlotId.{SlotId}
use Rattle.named.specs.Finding.{IsPlaced}
use Rattle.named.specs.GoingOn.{BrokerGoesOn}
use Rattle.session.specs.Keeping.{SessionGoesOn}
use Rattle.session.specs.Requests.{IsBegunBy, IsServedBy, plain_answer, request_answer}
use Rattle.session.specs.Sessions.{IsRight, Sessioned}
use Rattle.playing.specs.Play.{steps_with}
use Rattle.playing.specs.declared.lines.Line.TheVariants.{Refused}
use Rattle.playing.specs.declared.steps.Steps.{Steps}
use Rattle.broker_lines.specs.declared.printed.Printed.{Printed}
use Rattle.broker_lines.specs.declared.printed.Printed.TheVariants.{Of, Replied, Begun}
use Rattle.broker_lines.specs.declared.statements.Ask.{Ask}
use Rattle.broker_lines.specs.declared.statements.Ask.TheVariants.{Request, Plain, Begin}
use Rattle.broker_script.specs.OnQueue.{IsRefusedOn}
use Rattle.broker_script.specs.Play.{Played, session_of, steps_at}

-- who asks, and for which number
abbrev pub asker : Ask → Client
asker (Request client number call) = client
asker (Plain client call) = client
asker (Begin client number call) = client

abbrev pub asked_number : Ask → Option ℕ
asked_number (Request client number call) = Some number
asked_number (Plain client call) = None
asked_number (Begin client number call) = Some number

-- the line of an answer: a call that began has none yet, and is shown as its line stands
abbrev pub begun_line : List ℕ → Ask → Printed
begun_line name (Request client number call) = Begun name client number call
begun_line name (Plain client call) = Begun name client 0 call
begun_line name (Begin client number call) = Begun name client number call

abbrev pub answer_line : List ℕ → Ask → Result (Option Reply) Refusal → Printed
answer_line name ask (Ok (Some reply)) = Replied name (asker ask) (asked_number ask) reply
answer_line name ask (Ok None) = begun_line name ask
answer_line name ask (Err refusal) = Of name (Refused refusal)

-- a call that runs to its end is answered, or refused
abbrev pub as_answered : Result Reply Refusal → Result (Option Reply) Refusal
as_answered (Ok reply) = Ok (Some reply)
as_answered (Err refusal) = Err refusal

pub record IsServedFor (old new : Sessioned) (slot : ℕ) (client : Client) (number : ℕ) (call : Call)
    (result : Result (Option Reply) Refusal) (comes_to : Result (Option Reply) Refusal) : Type 0 where
  pub answer : Result Reply Refusal
  pub is : result ≡ as_answered answer
  pub served : IsServedBy old new slot client number call answer comes_to

-- what a session makes of what it is asked
abbrev pub IsAnswered : Sessioned → Sessioned → ℕ → Ask → Result (Option Reply) Refusal → Type 0
IsAnswered old new slot (Request client number call) result =
    IsServedFor old new slot client number call result (request_answer old slot client number)
IsAnswered old new slot (Plain client call) result =
    IsServedFor old new slot client 0 call result (plain_answer old slot client)
IsAnswered old new slot (Begin client number call) result =
    IsBegunBy old new slot client number call result (request_answer old slot client number)

-- a call that began has made no step. One that runs to its end is not counted
abbrev pub steps_begun : Ask → Result (Option Reply) Refusal → Steps → Steps
steps_begun (Request client number call) result steps = steps
steps_begun (Plain client call) result steps = steps
steps_begun (Begin client number call) (Ok None) steps = steps_with client steps (Ok tt)
steps_begun (Begin client number call) _ steps = steps

-- a session was asked in which all that is kept is right, and its answer was not for want of memory
pub record IsAskedIn (old : Played) (slot : ℕ) (ask : Ask) (result : Result (Option Reply) Refusal) (new : Played)
    : Type 0 where
  pub right : IsRight (session_of old)
  pub answered : IsAnswered (session_of old) (session_of new) slot ask result
  pub memory : result ≢ Err NoMemory
  pub goes_on : BrokerGoesOn old.broker new.broker
  pub settled : SessionGoesOn (session_of old) (session_of new)
  pub steps : steps_at new slot ≡ steps_begun ask result (steps_at old slot)
  pub other_steps : (other : ℕ) → other ≢ slot → slice_get new.steps other ≡ slice_get old.steps other
  pub others : new ≡ record old { broker = new.broker; kept = new.kept; steps = new.steps }

-- a line that asks, once the queue of its name was looked for
pub record AsksPlaced (old : Played) (slot : ℕ) (name : List ℕ) (ask : Ask) (lines : List Printed) (new : Played)
    : Type 0 where
  pub result : Result (Option Reply) Refusal
  pub line : lines ≡ answer_line name ask result ∷ []
  pub asked : IsAskedIn old slot ask result new

abbrev pub FollowsAsked : Played → List ℕ → Ask → List Printed → Played → Result SlotId Refusal → Type 0
FollowsAsked old name ask lines new (Ok slot) = AsksPlaced old slot.0 name ask lines new
FollowsAsked old name ask lines new (Err refusal) = IsRefusedOn old name refusal lines new

pub record FollowsAsk (old : Played) (name : List ℕ) (ask : Ask) (lines : List Printed) (new : Played) : Type 0 where
  pub place : Result SlotId Refusal
  pub placed : IsPlaced old.broker name place
  pub followed : FollowsAsked old name ask lines new place
