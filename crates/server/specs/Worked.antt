-- What workers have served over connections, and what is left of their broker.
use Rattle.std.specs.Prelude.{◌≡◌, ℕ, List, [], length, All, None, Option, Result, Some}
use Rattle.chronicle.specs.Chronicled.{Chronicled, entries}
use Rattle.desk.specs.Answering.{IsServedInTurn}
use Rattle.devices.specs.declared.device.Reader.{Ghosts as Reader}
use Rattle.devices.specs.declared.device.Writer.{Ghosts as Writer}
use Rattle.engine.specs.declared.failure.Failure.{Failure}
use Rattle.journal_file.specs.OnDevice.{OnDevice}
use Rattle.named.specs.Brokers.{Brokered}
use Rattle.session.specs.Sessions.{Sessioned}
use Rattle.wire.specs.declared.answer.Answer.{Answer}
use Rattle.wire.specs.declared.request.Request.{Request}
use Rattle.workers.specs.Moments.{GoesOnLater}
use Rattle.serving.specs.Connections.{TellsBy}
use Rattle.serving.specs.Image.{IsImageAfter, IsOpenedOver}
use Rattle.serving.specs.Journaled.{IsLeftAfter}

-- a socket, of whose bytes nothing is known
abbrev pub socket_reader : Reader Unit
socket_reader = record { left = λ socket. None; failures = λ socket. 0 }

abbrev pub socket_writer : Writer Unit
socket_writer = record { written = λ socket. None; flushed = λ socket. None; failures = λ socket. 0 }

-- Connections had their turns at one desk, and nothing was served there before. A turn serves the lines that came in
-- over one of them since its turn before.
pub data AreTurns : Chronicled (Request × Answer) → Type 0 where
  nothing : {served : Chronicled (Request × Answer)} (is : entries served ≡ []) → AreTurns served
  one_more : {old new : Chronicled (Request × Answer)} (before : AreTurns old) (ended : Result Unit Failure)
      (tells : TellsBy socket_reader socket_writer old new ended tt tt tt tt) → AreTurns new

-- A worker served these turns. What this gives of them was answered in turn, each request up to a session, from which
-- the last one goes on.
pub record HasWorked (told : Chronicled (Request × Answer) → List (Request × Answer)) (clients : ℕ)
    (first last : Sessioned) (served : Chronicled (Request × Answer)) : Type 0 where
  pub turns : AreTurns served
  pub up_to : Sessioned
  pub turn : IsServedInTurn clients first (told served) up_to
  pub later : GoesOnLater up_to last

-- So many workers served so, each these turns: there are as many such lists.
pub record HaveWorked (told : Chronicled (Request × Answer) → List (Request × Answer)) (clients : ℕ)
    (first last : Sessioned) (workers : ℕ) : Type 0 where
  pub served : List (Chronicled (Request × Answer))
  pub counted : length served ≡ workers
  pub each : All (HasWorked told clients first last) served

-- So many workers have. What goes on from the first session, and from each of these, goes on from what they answered.
abbrev pub AreKnown : (Chronicled (Request × Answer) → List (Request × Answer)) → ℕ → Sessioned → ℕ → List Sessioned
    → Type 0
AreKnown told clients first workers known =
    (last : Sessioned) → GoesOnLater first last → All (λ s. GoesOnLater s last) known
    → HaveWorked told clients first last workers

-- of all requests
abbrev pub all_told : Chronicled (Request × Answer) → List (Request × Answer)
all_told served = entries served

-- of those that are settled
abbrev pub settled_told : Chronicled (Request × Answer) → List (Request × Answer)
settled_told served = served.settled

-- What is settled was answered in turn, up to the session of a token. Without one nothing is.
abbrev pub IsSettledBy : ℕ → Sessioned → Option Sessioned → List (Request × Answer) → Type 0
IsSettledBy clients first (Some sure) settled = IsServedInTurn clients first settled sure
IsSettledBy clients first None settled = settled ≡ []

-- The image of the last session, which goes on from what so many workers answered.
pub record IsImageServed (broker : Brokered) (workers : ℕ) (bytes : List ℕ) : Type 0 where
  pub first : Sessioned
  pub opened : IsOpenedOver broker first
  pub left : IsImageAfter first bytes
  pub worked : HaveWorked all_told broker.counts.clients first left.last workers

-- The same, and its journal. It goes on from what they settled, which each did before it wrote what tells of it.
pub record IsLeftServed (broker : Brokered) (workers : ℕ) (bytes : List ℕ) (j : OnDevice) : Type 0 where
  pub first : Sessioned
  pub opened : IsOpenedOver broker first
  pub left : IsLeftAfter first bytes j
  pub worked : HaveWorked settled_told broker.counts.clients first left.image.last workers
