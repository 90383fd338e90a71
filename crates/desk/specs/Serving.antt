-- What a desk has served: the requests that were made, with their answers.
use Rattle.std.specs.Prelude.{◌≡◌, ℕ, ◌-◌, Bool, true, false, length, IfSome, List, [], None, Option, Some, slice_get}
use Rattle.words.specs.declared.refusal.Refusal.TheVariants.{NoClient}
use Rattle.wire.specs.declared.answer.Answer.{Answer}
use Rattle.wire.specs.declared.answer.Answer.TheVariants.{Refused}
use Rattle.wire.specs.declared.request.Request.{Request}
use Rattle.chronicle.specs.Chronicled.{Chronicled, entries}
use Rattle.session.specs.Sessions.{Sessioned}
use Rattle.desk.specs.Requests.{is_answer_to, is_stop_answer, NamesNoClient}
use Rattle.desk.specs.Answering.{IsServedAtMark, IsServedInTurn}

abbrev pub is_stopping : Option (Request × Answer) → Bool
is_stopping (Some (request, answer)) = is_stop_answer answer
is_stopping None = false

-- whether the last answer is that the server stops
abbrev pub has_stopped : List (Request × Answer) → Bool
has_stopped served = is_stopping (slice_get served (length served - 1))

-- each request has an answer that it may have, where there are so many clients
pub record AreAnswered (clients : ℕ) (served : List (Request × Answer)) : Type 0 where
  pub fits : (k : ℕ) (request : Request) (answer : Answer) → slice_get served k ≡ Some (request, answer)
      → is_answer_to request answer ≡ true
  pub clients_are : (k : ℕ) (request : Request) (answer : Answer) → slice_get served k ≡ Some (request, answer)
      → NamesNoClient clients request → answer ≡ Refused NoClient

-- a desk without a journal: what it has served, the session as it was marked last, and whether it has stopped
pub record Served : Type 0 where
  pub served : Chronicled (Request × Answer)
  pub marked : Option Sessioned
  pub stopped : Bool

-- each request was answered in turn, up to that session
pub record IsServed (clients : ℕ) (first : Sessioned) (d : Served) : Type 0 where
  pub turn : IsServedAtMark clients first (entries d.served) d.marked
  pub stops : d.stopped ≡ has_stopped (entries d.served)

-- a desk that marks: what it has served, and of that what is settled; the session as it was marked last, and the one of
-- the last token
pub record Desked : Type 0 where
  pub served : Chronicled (Request × Answer)
  pub marked : Option Sessioned
  pub assured : Option Sessioned

-- Each request was answered in turn, up to the session as it was marked last; and of these what is settled, up to the
-- one of the last token. Without a token nothing is settled.
pub record IsDesked (clients : ℕ) (first : Sessioned) (d : Desked) : Type 0 where
  pub turn : IsServedAtMark clients first (entries d.served) d.marked
  pub lasting : IfSome d.assured (IsServedInTurn clients first d.served.settled)
  pub known : d.assured ≡ None → d.served.settled ≡ []
